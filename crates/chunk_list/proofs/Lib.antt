pub mod CutLaws
pub mod EndLaws
pub mod EvenLaws
pub mod FillLaws
pub mod FlatLaws
pub mod PushLaws
pub mod ReplacedLaws
pub mod SetLaws
