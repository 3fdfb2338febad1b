mod ActiveSlots
mod BankBytes
mod Numbering
mod Installs
mod SlotsApart
mod MomentProofs
mod WholeUpdate
mod InUseSlots
mod Started
pub mod Finished
pub mod Reread
