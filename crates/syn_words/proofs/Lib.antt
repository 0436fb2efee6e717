mod Rows
pub mod WordLaws
pub mod SpelledWords
pub mod SpelledPieces
pub mod SpelledItems
pub mod SpelledCommands
pub mod SpelledFiles
pub mod LeftLaws
pub mod TurnLaws
pub mod StyleTurns
pub mod ListTurns
pub mod ClusterTurns
pub mod ClearTurns
pub mod QuotedTurns
pub mod PieceTurns
pub mod CommandLeft
pub mod LineTurns
