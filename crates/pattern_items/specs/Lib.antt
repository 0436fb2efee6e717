-- what items are: how they are spelled, and what they are in their places
pub mod Characters
pub mod Numbers
pub mod Codes
pub mod Letters
pub mod Multis
pub mod ClassNames
pub mod Collection
pub mod Spelling
pub mod Place
pub mod GroupNumbers
pub mod CauseText
-- the same in other words, to which laws lead
pub mod Counts
pub mod LineNumbers
pub mod LevelTable
pub mod ClosingBracket
-- below here, what only code and proofs cite
pub mod Vain
