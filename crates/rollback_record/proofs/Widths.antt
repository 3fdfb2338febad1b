-- How many active bytes a record page bears. Those that it does not bear are 0.
use Rattle.std.proofs.Common.{◌≡◌, ⊎_elim, ◌<◌, ◌≤◌, ℕ, ◌+◌, ◌-◌, Bool, true, false, List, ◌++◌, length, get_or, take, drop, replicate, sym, ◌∙◌, ap, arith}
use Rattle.std.specs.Prelude.{◌==◌, if◌then◌else◌}
use Rattle.std.proofs.lemmas.Bool.{cases_lt}
use Rattle.std.proofs.lemmas.List.{ext_get_or, length-drop, length-replicate, length-take-le, get_or-drop, get_or-replicate, get_or_past, take-append-drop}
use Rattle.flash_layout.specs.declared.frame.Frame.{Frame}
use Rattle.flash_layout.specs.Frames.{most}
use Rattle.flash_layout.specs.ConfigPage.{padded}
use Rattle.rollback_record.specs.RecordPage.{FitsSlots, HasSlot, IsActiveSlot, IsInRange}
use Rattle.flash_layout.specs.declared.slot.Record.{Record}

pub most_few : (frame : Frame) → most frame ≤ 32
most_few frame = pick (frame.version == 1)
  where
    pick : (first : Bool) → (if first then 8 else 32) ≤ 32
    pick true = omega arith
    pick false = omega arith

-- the bytes of a record's slots that its page bears
module _ (frame : Frame) (active : List ℕ) (long : length active ≡ 32) where
  pub borne_long : length (take (most frame) active) ≡ most frame
  borne_long = length-take-le (most frame) active (omega (arith, long, most_few frame))

  module _ (rest : (i : ℕ) → most frame ≤ i → get_or active i 0 ≡ 0) where
    pub unborne : drop (most frame) active ≡ replicate (32 - most frame) 0
    unborne =
        ext_get_or 0 (drop (most frame) active) (replicate (32 - most frame) 0)
        (length-drop (most frame) active ∙ ap (λ (n : ℕ). n - most frame) long ∙ sym (length-replicate {A = ℕ} (32 - most frame) 0))
        (λ i low. get_or-drop (most frame) active i 0 ∙ rest (most frame + i) (omega arith) ∙ sym (get_or-replicate (32 - most frame) i 0 0 (few i low)))
      where
        few : (i : ℕ) → i < length (drop (most frame) active) → i < 32 - most frame
        few i low = omega (arith, low, long, length-drop (most frame) active)

    -- with zeros behind them they are all
    pub padded_back : padded 32 (take (most frame) active) ≡ active
    padded_back =
        ap (λ (n : ℕ). take (most frame) active ++ replicate (32 - n) 0) borne_long ∙ ap (λ (l : List ℕ). take (most frame) active ++ l) (sym unborne)
        ∙ take-append-drop (most frame) active

-- a slot that no page bears is 0
module _ (frame : Frame) (slots : List ℕ) (i slot : ℕ) (behind : most frame ≤ i) where
  unborne_slot : HasSlot frame slots i slot → slot ≡ 0
  unborne_slot is = ⊎_elim (λ first. first) (λ second. absurd (omega (arith, second.1, behind))) is

  unborne_active : IsActiveSlot frame slots i slot → slot ≡ 0
  unborne_active is = ⊎_elim (λ first. first) (λ second. absurd (omega (arith, second.1, behind))) is

module _ (frame : Frame) (r : Record) (long : length r.active ≡ 32) where
  past : (i : ℕ) → 32 ≤ i → get_or r.active i 0 ≡ 0
  past i far = get_or_past r.active i 0 (omega (arith, long, far))

  pub rest_beside : (slots : List ℕ) → FitsSlots frame slots r → (i : ℕ) → most frame ≤ i → get_or r.active i 0 ≡ 0
  rest_beside slots is i behind = ⊎_elim (λ near. unborne_slot frame slots i (get_or r.active i 0) behind (is.active i near)) (λ far. past i far) (cases_lt i 32)

  pub rest_in_range : (config : List ℕ) → IsInRange frame config r → (i : ℕ) → most frame ≤ i → get_or r.active i 0 ≡ 0
  rest_in_range config is i behind = ⊎_elim (λ near. unborne_active frame config i (get_or r.active i 0) behind (is.active i near)) (λ far. past i far) (cases_lt i 32)
