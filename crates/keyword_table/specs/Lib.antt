-- what a reader must believe: the rules
pub mod Abbreviation
pub mod Candidates
pub mod Words
pub mod ItemNumbers
-- what the code and proofs alone cite
pub mod Chains
