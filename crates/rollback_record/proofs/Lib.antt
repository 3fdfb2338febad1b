pub mod Answered
pub mod Widths
pub mod SettledLaws
pub mod Fields
pub mod ConfigSlots
pub mod SlotCounts
mod FieldPlaces
pub mod Pages
pub mod Loads
pub mod FrameLoads
pub mod Commits
pub mod OneAnswers
pub mod SomeAnswers
pub mod SoundBy
pub mod Sounds
mod SoundSince
mod Installed
pub mod StillSound
pub mod HeadPlaces
pub mod HeadSince
pub mod MovedSlots
pub mod MovedFirst
pub mod MovedSecond
pub mod Rooting
pub mod MovingFlash
pub mod Filling
pub mod Migrations
pub mod AlikeSound
