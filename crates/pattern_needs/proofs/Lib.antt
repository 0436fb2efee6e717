pub mod Forwards
pub mod LineParts
pub mod Lacking
pub mod HeldLaws
pub mod NeedsLaws
pub mod AskingLaws
pub mod CostLaws
pub mod CostWays
pub mod GrowthLaws
pub mod LeadLaws
pub mod EndingLaws
pub mod SpreadLaws
pub mod FrontLaws
pub mod FrontWays
pub mod LineNeedLaws
mod Rows
