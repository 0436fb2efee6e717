-- what a pattern's tree and its fault are
pub mod Shape
pub mod Tree
pub mod Grammar
pub mod Fault
pub mod Pattern
pub mod Answer
pub mod GroupNumbers
-- the fold that rules of the reader cite, which the laws lead to the grammar
pub mod Read
pub mod TreeOf
-- below here, what only code and proofs cite
pub mod ShapeCode
pub mod Parted
pub mod Built
pub mod Copied
pub mod Summary
