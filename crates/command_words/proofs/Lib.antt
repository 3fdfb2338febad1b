mod Cuts
mod Handed
mod NumberTexts
mod OtherNames
mod TableReads
mod Taken
mod TextLists
mod UpdateWords
