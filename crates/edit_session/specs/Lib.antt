-- what a reader must believe
pub mod Causes
pub mod Painter
pub mod Session
pub mod Ends
pub mod Laws
-- what code and proofs alone cite
pub mod Steps
