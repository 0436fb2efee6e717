-- what a reader must believe
pub mod Draws
pub mod GeneratedText
pub mod DrawnEdits
pub mod LargeSession
pub mod MiniSyntax
pub mod Laws
-- what code and proofs alone cite
pub mod Steps
