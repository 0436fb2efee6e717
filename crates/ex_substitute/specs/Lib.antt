-- what a reader must believe: the text of a command, and what it says
pub mod Answers
pub mod Strings
pub mod Flags
pub mod Commands
pub mod Counting
-- what it makes of a text
pub mod UsualSets
pub mod Trying
pub mod Searching
pub mod Glyphs
pub mod Casings
pub mod Putting
pub mod Changes
pub mod Deleting
pub mod Applying
pub mod Fitting
pub mod Laws
-- what only code and proofs cite
pub mod CommandCode
pub mod CommandsRead
pub mod StringsRead
pub mod Begins
pub mod Trials
pub mod Pens
pub mod Ruling
pub mod LineCount
