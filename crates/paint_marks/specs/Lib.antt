-- what a reader must believe: old groups, a syntax and its marked form
pub mod OldGroups
pub mod Marked
pub mod Naming
-- what the laws say
pub mod Alike
pub mod Named
pub mod Runs
pub mod Besides
