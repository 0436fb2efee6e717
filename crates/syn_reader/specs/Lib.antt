-- what a reader must believe: the rules
pub mod Answers
pub mod Names
pub mod Patterns
pub mod UsualSets
pub mod PatternsOfNames
pub mod NamedLists
pub mod Abbreviations
pub mod Contents
pub mod Items
pub mod Clusters
pub mod Highlight
pub mod Includes
pub mod Commands
pub mod SyntaxOf
pub mod Soundness
pub mod Follows
pub mod Laws
-- what the code and proofs alone cite
pub mod SyntaxCode
pub mod SoundReading
