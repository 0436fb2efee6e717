-- what a reader must believe: the rules
pub mod Groups
pub mod Numbers
pub mod ClusterTable
pub mod ClusterLists
pub mod Items
pub mod Membership
pub mod Allowed
pub mod Soundness
pub mod NoMarks
-- what the code and proofs alone cite
pub mod GroupEntries
pub mod Reached
pub mod NamedLists
