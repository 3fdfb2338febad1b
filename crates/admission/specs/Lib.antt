pub mod Opening
pub mod Judging
pub mod Refusals
pub mod Admission
pub mod Starting
pub mod AdmissionLaws
