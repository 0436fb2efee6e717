pub mod ExternalLaws
pub mod OutsideLaws
pub mod ListLaws
pub mod HullLaws
