-- what a reader must believe
pub mod TopFirst
pub mod Enders
pub mod Kinds
-- what only code and proofs cite
pub mod Frames
pub mod KindLists
pub mod Settled
pub mod SameFrames
