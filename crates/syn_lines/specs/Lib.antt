-- what a reader must believe: logical lines
pub mod Continuation
pub mod LogicalLines
-- what the code and proofs alone cite
pub mod Joining
