pub mod GroupLaws
mod KnownGroups
pub mod Passing
pub mod NumberLaws
pub mod ListAt
pub mod ReachedLaws
pub mod ColumnLaws
pub mod PlaceLaws
pub mod KeptLaws
mod KnownLists
pub mod EntryLaws
pub mod ListedLaws
pub mod SoundLaws
pub mod NamedLaws
