pub mod OnwardLaws
pub mod CountLaws
pub mod PlainLaws
pub mod TextLaws
pub mod KnownDraws
