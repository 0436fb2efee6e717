pub mod NumberLaws
pub mod PieceLaws
pub mod StandingLaws
pub mod ReaderLaws
pub mod TextLaws
pub mod FeedLaws
mod KnownEdits
mod KnownScripts
pub mod WithinLaws
