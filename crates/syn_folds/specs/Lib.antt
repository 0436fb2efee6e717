-- what a reader must believe: levels, folds, views
pub mod Levels
pub mod Folds
pub mod View
-- what the laws say
pub mod Laws
-- what the code and proofs alone cite
pub mod Begun
pub mod Runs
