use Rattle.std.proofs.Common.{◌≡◌, ◌⊎◌, ◌<◌, ◌-◌, ℕ, get_or, length}
use Rattle.flash_layout.specs.declared.layout.Entry.{Entry}
use Rattle.suit_commands.specs.Plans.{plan_tree}
use Rattle.update_proc.specs.Choices.{HasOther, IsWritten}
use Rattle.update_proc.proofs.choosing.choose.Given as goal

-- each component before has its number, and each behind the one in use
abbrev pub invariant-loop-i : goal.invariant-loop-i
invariant-loop-i l = record {
  size : length l.numbers ≡ 32;
  other : (j : ℕ) → j < l.i → IsWritten (plan_tree l.plan) l.places j × ((e : Entry) → (get_or l.layout j e).slots ≡ 2) → get_or l.numbers j 0 ≡ 1 - get_or l.active j 0;
  same : (j : ℕ) → (j < l.i → IsWritten (plan_tree l.plan) l.places j × ((e : Entry) → (get_or l.layout j e).slots ≡ 2) → ⊥) → get_or l.numbers j 0 ≡ get_or l.active j 0;
  either : (j : ℕ) → (get_or l.numbers j 0 ≡ get_or l.active j 0) ⊎ (HasOther l.layout j × (get_or l.numbers j 0 ≡ 1 - get_or l.active j 0));
}
