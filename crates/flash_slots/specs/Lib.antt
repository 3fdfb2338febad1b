pub mod Contents
pub mod RamContents
pub mod RamLaws
pub mod WritingLaws
