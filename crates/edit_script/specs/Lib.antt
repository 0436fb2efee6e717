-- what a reader must believe: addresses, the lines of commands, what stands in a script, and what a
-- command does to a text
pub mod Kept
pub mod Addresses
pub mod CommandLine
pub mod Entries
pub mod Edits
-- what the code and proofs alone cite
pub mod Resolving
pub mod Reading
