-- the words of the laws, and the laws
pub mod Outcomes
pub mod Starts
pub mod Picks
pub mod RegionEnds
pub mod Reached
pub mod Closings
pub mod Shown
pub mod NothingStarts
pub mod LineByLine
pub mod Refusals
pub mod Accepted
