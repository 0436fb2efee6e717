-- what a reader must believe: a line of a text by the parts of a syntax, and how the answers of its
-- painting are read
pub mod Painting
pub mod Line
-- what the code and proofs alone cite
pub mod Answers
pub mod Standing
pub mod Frames
pub mod Closing
pub mod Kinds
pub mod Leads
pub mod Starting
pub mod Turns
pub mod Spans
pub mod Quiet
pub mod Stretches
pub mod Common
