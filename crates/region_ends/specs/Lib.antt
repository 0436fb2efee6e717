-- what a reader must believe
pub mod Attempts
pub mod Searches
pub mod KeptEnd
pub mod EndMemo
pub mod KeyAnswers
-- what only code and proofs cite
pub mod Steps
pub mod Stretches
pub mod Opening
pub mod Passing
pub mod Common
