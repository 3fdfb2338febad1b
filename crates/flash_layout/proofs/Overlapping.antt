-- Components that share no byte, in terms of their slots.
use Rattle.std.proofs.Common.{◌≡◌, ◌<◌, ◌↔◌, ℕ, Bool, List, length, get_or, IsTrue, sym, subst₂, ◌∙◌}
use Rattle.flash_layout.specs.declared.layout.Entry.{Entry}
use Rattle.flash_layout.specs.Layouts.{slot_starts, slot_size, AreAllClear}
use Rattle.flash_layout.specs.Overlaps.{AreClearSlots, ShareNone}
use Rattle.flash_layout.proofs.Found.{other_default}

pub others_told : (entries : List Entry) (i j : ℕ) (a b : Entry) (ps qs : List ℕ) (r : Bool) → i < length entries → j < length entries → (i ≡ j → ⊥) → a ≡ get_or entries i a → b ≡ get_or entries j b
    → ps ≡ slot_starts a → qs ≡ slot_starts b → (IsTrue r ↔ AreAllClear ps (slot_size a) qs (slot_size b)) → IsTrue r ↔ ShareNone entries i j
others_told entries i j a b ps qs r in_i in_j other is_a is_b is_ps is_qs told = (
  λ yes. record {
    itself = λ d same. absurd (other same);
    others = λ d _.
        subst₂ AreClearSlots (is_a ∙ other_default entries i a d in_i) (is_b ∙ other_default entries j b d in_j)
        (subst₂ (λ xs ys. AreAllClear xs (slot_size a) ys (slot_size b)) is_ps is_qs (told.0 yes));
  },
  λ so. told.1
      (subst₂ (λ xs ys. AreAllClear xs (slot_size a) ys (slot_size b)) (sym is_ps) (sym is_qs)
      (subst₂ AreClearSlots (sym is_a) (sym (is_b ∙ other_default entries j b a in_j)) (so.others a other))),
)
