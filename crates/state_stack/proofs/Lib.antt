pub mod SettledLaws
pub mod EnderLaws
pub mod KindLaws
pub mod StackLaws
pub mod StateLaws
