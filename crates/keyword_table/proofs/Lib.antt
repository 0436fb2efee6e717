pub mod ChainLaws
pub mod ItemLaws
pub mod KeyLaws
mod KnownWords
pub mod WordLaws
