pub mod CodeLaws
mod KnownCharacters
mod KnownValues
pub mod ReadingLaws
pub mod SetLaws
pub mod UsualValues
pub mod ValueLaws
