-- what a reader must believe: links, styles, the usual groups
pub mod FinalGroup
pub mod Highlights
pub mod UsualGroups
-- what the code and proofs alone cite
pub mod UsualRows
