-- what a reader must believe: a syntax by its parts, and what is picked
pub mod PartsSeen
pub mod Starts
pub mod Picks
pub mod QuietUntil
-- what the code and proofs alone cite
pub mod Attempts
pub mod Firsts
pub mod Columns
pub mod Screens
pub mod Marks
pub mod Standing
pub mod Started
pub mod Told
pub mod Tries
pub mod Wordless
pub mod Tables
pub mod Quiet
pub mod Runs
pub mod Settled
pub mod QuietPlaces
pub mod Valid
pub mod Common
