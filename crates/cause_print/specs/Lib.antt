-- what a reader must believe
pub mod CauseText
pub mod CountText
pub mod FaultText
pub mod PlaceWords
pub mod ExCauseText
