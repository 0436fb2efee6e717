-- what a reader must believe: the rules, and what the laws of attempts say
pub mod Ways
pub mod Collections
pub mod Atoms
pub mod Marks
pub mod Counts
pub mod Looks
pub mod Visits
pub mod Attempt
pub mod Locality
pub mod OnText
-- what only code and proofs cite
pub mod CountLaw
