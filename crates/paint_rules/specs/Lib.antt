-- what a reader must believe: the rules, lowest first
pub mod Painted
pub mod Rules
pub mod Frames
pub mod States
pub mod Offsets
pub mod Lists
pub mod ItemMatch
pub mod EndInLine
pub mod KeptEnd
pub mod Close
pub mod Pick
pub mod Line
pub mod Syntax
-- what stands where there is no item
pub mod NoItem
