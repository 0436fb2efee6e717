pub mod LastPartLaws
pub mod EntryLaws
pub mod PendingLaws
pub mod SeenWays
pub mod TakenNotes
pub mod WayLaws
pub mod Leading
pub mod Counting
pub mod Stepping
pub mod Ticking
pub mod SpendingLaws
pub mod RunLaws
pub mod StartLaws
pub mod Looping
pub mod LookingBehind
pub mod Visiting
pub mod WalkLaws
pub mod TextLaws
mod ToldLaws
pub mod TriedLaws
pub mod FirstAtomLaws
pub mod NoteLaws
pub mod LastNoteLaws
mod KnownWays
pub mod CodeLaws
pub mod TableLaws
pub mod CaseLaws
pub mod BoundLaws
pub mod AnswerLaws
pub mod ScreenLaws
pub mod StandsLaws
pub mod FateLaws
pub mod TakesLaws
pub mod AlikeLaws
pub mod Choosing
mod VainLaws
mod RestLaws
mod GlanceLaws
mod GlanceRuns
pub mod ToEndLaws
