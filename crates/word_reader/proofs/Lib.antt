pub mod LengthLaws
pub mod RunLaws
pub mod VainLaws
