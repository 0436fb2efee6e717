-- what a reader must believe
pub mod Replaced
-- what code and proofs alone cite
pub mod Flat
pub mod Stands
