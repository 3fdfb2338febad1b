-- Each component of a layout has a first slot.
use Rattle.std.proofs.Common.{◌≡◌, ◌<◌, ℕ, List, get_or, replicate, sym, subst, arith}
use Rattle.flash_layout.specs.declared.frame.Frame.{Frame}
use Rattle.flash_layout.specs.declared.layout.Entry.{Entry}
use Rattle.flash_layout.specs.Layouts.{IsLayout}
use Rattle.step_machine.specs.Worlds.{IsChoice}
use Rattle.step_machine.proofs.Fitting.{few_entries, few_slots, zero_at}

module _ (frame : Frame) (size : ℕ) (layout : List Entry) (is : IsLayout frame size layout) where
  pub first_slots : IsChoice layout (record { number = replicate 32 0 })
  first_slots = record {
    few = few_entries frame size layout is;
    one = λ i e inside. subst (λ (n : ℕ). n < (get_or layout i e).slots) (sym (zero_at 32 i)) (few_slots frame size layout is i e inside).0;
    two = λ i e inside. (few_slots frame size layout is i e inside).1;
    rest = λ i past. zero_at 32 i;
  }
