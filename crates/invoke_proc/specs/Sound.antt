-- Ends of a boot that a sound flash never has.
use Rattle.invoke_proc.specs.declared.boot_end.BootEnd.{BootEnd}
use Rattle.invoke_proc.specs.declared.boot_end.BootEnd.TheVariants as ends

-- the envelope in the record's bank was not refused
abbrev pub IsUnrefused : BootEnd → Type 0
IsUnrefused (ends.BadBank refusal) = ⊥
IsUnrefused (ends.NotAuthentic lacking) = ⊥
IsUnrefused (ends.UnknownComponent component) = ⊥
IsUnrefused _ = Unit {0}
