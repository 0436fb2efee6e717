pub mod Common
pub mod Bounded
pub mod Stands
pub mod Taking
pub mod StillAtoms
pub mod LinedParts
pub mod InVain
pub mod Screened
pub mod FirstScreens
pub mod FailingLaws
pub mod RoomParts
pub mod BehindLaws
pub mod FollowingLaws
pub mod StillLaws
pub mod BoundLaws
pub mod KeyLaws
mod Rows
