pub mod Elsewhere
pub mod AboutLine
pub mod Change
