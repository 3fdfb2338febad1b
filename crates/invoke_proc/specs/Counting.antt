-- The counts of faults after a boot.
use Rattle.std.specs.Prelude.{◌≡◌}
use Rattle.step_machine.specs.PlanRuns.{Counts, CountsFor, FlashFailed}
use Rattle.invoke_proc.specs.declared.boot_end.BootEnd.{BootEnd}
use Rattle.invoke_proc.specs.declared.boot_end.BootEnd.TheVariants as ends

-- the count of faults rose of the object that failed
abbrev pub BootCounts : BootEnd → Counts → Counts → Type 0
BootCounts (ends.Stopped place cause) before now = CountsFor cause before now
BootCounts ends.FlashFault before now = FlashFailed before now
BootCounts _ before now = now ≡ before
