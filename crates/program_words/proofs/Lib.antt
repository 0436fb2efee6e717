pub mod OptionLaws
pub mod WordLaws
mod KnownWords
