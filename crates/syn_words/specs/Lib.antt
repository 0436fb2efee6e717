-- what a reader must believe
pub use Rattle.word_values.specs.GroupNames
pub mod Answers
pub mod Arguments
pub mod Names
pub mod Lists
pub mod Quoted
pub mod Options
pub mod Pieces
pub mod Styles
pub mod FileNames
pub mod Clusters
pub mod Alone
pub mod Highlight
pub mod Commands
pub mod FileCommands
-- laws above it
pub mod Spelled
pub mod Laws
pub mod Turns
