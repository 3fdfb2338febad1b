pub mod Plays
pub mod Outcomes
pub mod Updates
pub mod Boots
pub mod Migrations
pub mod CompletenessLaws
