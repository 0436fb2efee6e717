pub mod PaintedLaws
pub mod Sample
mod Rows
