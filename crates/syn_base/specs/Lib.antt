-- what a reader must believe: texts and their spans, lines looked at, the outside and its counts
pub mod Agreement
pub mod Causes
pub mod Externals
pub mod Looked
pub mod Outside
pub mod SpansFit
-- what the forms in memory tell besides
pub mod InMemory
