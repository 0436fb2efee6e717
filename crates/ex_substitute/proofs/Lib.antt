pub mod Rows
pub mod ApplyRows
pub mod AnswerLaws
pub mod TryLaws
pub mod CandidateLaws
mod SecondLaws
pub mod DeleteLaws
pub mod SearchLaws
pub mod OrderLaws
pub mod PenLaws
pub mod WholeLaws
pub mod CountLaws
pub mod ChangeLaws
pub mod FitLaws
pub mod RisingLaws
pub mod OthersLaws
pub mod TreeLaws
