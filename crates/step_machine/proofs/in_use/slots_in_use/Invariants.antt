use Rattle.std.proofs.Common.{◌≡◌, ◌<◌, ◌≤◌, ℕ, length, get_or}
use Rattle.flash_layout.specs.declared.layout.Entry.{Entry}
use Rattle.step_machine.specs.InUse.{slot_in_use}
use Rattle.step_machine.proofs.in_use.slots_in_use.Given as goal

-- those before are active, and none is set behind them
abbrev pub invariant-loop-i : goal.invariant-loop-i
invariant-loop-i l = record {
  size : length l.numbers ≡ 32;
  each : (j : ℕ) (d : Entry) → j < l.i → get_or l.numbers j 0 ≡ slot_in_use (get_or l.entries j d) (get_or l.active j 0);
  rest : (j : ℕ) → l.i ≤ j → get_or l.numbers j 0 ≡ 0;
}
