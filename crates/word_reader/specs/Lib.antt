-- what a reader must believe
pub mod Words
pub mod Delimited
pub mod Offsets
-- what only code and proofs cite
pub mod Vain
