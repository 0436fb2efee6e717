-- what a reader must believe
pub mod Change
pub mod Report
pub mod SameState
pub mod Reuse
pub mod Reusable
pub mod Kept
-- what code and proofs alone cite
pub mod Local
pub mod Work
