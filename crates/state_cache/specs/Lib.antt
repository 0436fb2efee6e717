-- what a reader must believe
pub mod Spans
pub mod PaintedText
pub mod Notes
pub mod Shown
-- what code and proofs alone cite
pub mod Brushes
pub mod Refusals
pub mod Reach
pub mod Walk
pub mod Repeats
pub mod Edits
