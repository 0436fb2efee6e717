mod Rows
pub mod Runs
pub mod Fetches
pub mod NameLaws
pub mod TreeLaws
pub mod AbbreviationLaws
pub mod ListLaws
pub mod MatchingLaws
pub mod ClusterLaws
pub mod ItemLaws
pub mod CommandRuns
pub mod SyntaxRuns
pub mod IncludeLaws
mod IncludeRows
pub mod Behind
pub mod SoundContents
pub mod SoundItems
pub mod SoundRuns
pub mod NoMarkNames
pub mod NoMarkLists
pub mod NoMarkItems
pub mod NoMarkRuns
