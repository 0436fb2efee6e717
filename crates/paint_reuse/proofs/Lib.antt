pub mod Places
pub mod Numbers
pub mod SameStates
pub mod ReportIs
pub mod NothingLaws
pub mod NoteLaws
pub mod ReusableIs
pub mod ReuseLaw
pub mod Walks
pub mod Works
pub mod Steps
pub mod Patches
pub mod Skips
pub mod Whole
mod Rows
