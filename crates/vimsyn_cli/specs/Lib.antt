-- what a reader must believe
pub mod Answers
pub mod Changes
pub mod Check
pub mod Concealing
pub mod Editing
pub mod EditRun
pub mod Folds
pub mod Large
pub mod LargeRun
pub mod Laws
pub mod Painting
pub mod Plans
pub mod Printing
pub mod Reading
pub mod Renewal
pub mod Report
pub mod Runs
pub mod Session
pub mod Statuses
pub mod Substitutions
pub mod TextFault
pub mod Written
-- what only code and proofs cite
pub mod FileStop
pub mod FoldRows
pub mod Reads
pub mod Refusal
