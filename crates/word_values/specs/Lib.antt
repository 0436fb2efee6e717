-- what a reader must believe
pub mod GroupNames
pub mod Parts
pub mod Paths
pub mod StyleWords
pub mod CommandNames
