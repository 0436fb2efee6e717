pub mod FollowLaws
mod KnownLinks
pub mod UsualLaws
