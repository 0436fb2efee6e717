-- what a reader must believe: sets by option values, classes, folds
pub mod Bits
pub mod CharSet
pub mod Classes
pub mod Folds
pub mod OptionValue
-- what the code and proofs alone cite
pub mod SoFar
