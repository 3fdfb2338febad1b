pub mod BlockLoop
pub mod Chains
pub mod MemberTexts
pub mod Bytes
pub mod Opened
pub mod OneCause
pub mod OneStage
pub mod Running
pub mod StagesKeep
pub mod RunClauses
pub mod SameFiles
pub mod Leaving
pub mod Initing
pub mod KeyReading
pub mod KeyBytes
pub mod StatusLines
pub mod StatusNumbers
pub mod Describing
pub mod Diagnosing
pub mod TaskAnswers
pub mod DescriptionTexts
pub mod Authoring
pub mod StagesLet
pub mod Sounding
pub mod Settling
pub mod BootAnswers
pub mod BootKeeping
pub mod Migrating
pub mod Turns
pub mod Refused
pub mod AcceptedFacts
pub mod UpdateAnswers
pub mod UpdateEnds
pub mod UpdateSound
pub mod Starving
pub mod BootHosts
pub mod FilesAsked
pub mod RunEnds
mod DrillDevices
mod DrillWords
mod DrillCounts
mod DrillCuts
mod DrillUpdates
mod DrillTurns
mod DrillLoop
mod DrillRun
pub mod AskedFirst
pub mod CommandLawProofs
pub mod OneFlaw
pub mod OneAnswers
pub mod FlashLawProofs
pub mod MigrateLawProofs
pub mod DescribingLawProofs
pub mod DiagLawProofs
pub mod MakeAsks
pub mod MakeLawProofs
pub mod UpdateLawProofs
pub mod LifeLawProofs
pub mod LaunchedLawProofs
pub mod LaunchedUpdateLawProofs
pub mod RunLawProofs
pub mod BootLawProofs
pub mod UpdateEndLawProofs
pub mod DrillLawProofs
