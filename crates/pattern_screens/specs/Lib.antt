-- what a reader must believe: what a screen sees, what it says, and what that means
pub mod Keys
pub mod PlainAtoms
pub mod MayTake
pub mod Lined
pub mod Screens
pub mod Bounds
pub mod ScreenLaw
pub mod FirstAtoms
pub mod FirstLaw
pub mod Failing
pub mod TwoLines
pub mod Rooms
pub mod Rest
pub mod Behind
pub mod Following
pub mod FailingLaw
pub mod Common
