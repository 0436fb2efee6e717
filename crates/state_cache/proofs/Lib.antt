pub mod KeptLaws
pub mod NewLaws
pub mod PaintedNotes
pub mod PatchLaws
pub mod ReachLaws
pub mod RefusalLaws
pub mod RepeatLaws
pub mod SameLaws
pub mod ShownLaws
mod ShownRows
pub mod StretchLaws
