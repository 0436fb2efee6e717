pub mod BegunLaws
mod KnownFolds
pub mod RowLaws
pub mod RunLaws
pub mod StretchLaws
