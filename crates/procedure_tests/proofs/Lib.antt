mod FirstSlots
mod Slots
