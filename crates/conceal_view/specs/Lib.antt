-- what a reader must believe: characters and their groups, views
pub mod Cells
pub mod View
-- a marked syntax
pub mod Marks
pub mod Marking
-- what the laws say
pub mod Laws
-- what the code and proofs alone cite
pub mod Seeing
pub mod MarkTables
pub mod MarkedPaintings
