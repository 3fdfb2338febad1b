mod Allowing
mod BlankKept
mod FieldPlaces
mod FormatFrames
mod Found
mod Gating
mod Judged
mod Kept
mod Laws
mod Loading
mod MovedLayout
mod OneAnswers
pub mod OneLayout
mod Overlapping
pub mod PageFields
mod Sharing
mod SpelledPlaces
mod Spellings
mod Steps
mod Wholes
mod Zeros
