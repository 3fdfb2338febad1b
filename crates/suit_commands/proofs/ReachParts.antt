-- The parts of a reach, and which components are selected after a command.
use Rattle.std.proofs.Common.{◌≡◌, ◌↔◌, ℕ, zero, suc, ◌≤◌, Bool, true, false, ◌||◌, ◌⊎◌, inl, inr, List, [], ◌∷◌, refl, sym, subst, arith}
use Rattle.suit_commands.specs.declared.reach.Reach.{Reach}
use Rattle.suit_commands.specs.declared.selection.Selection.{Selection}
use Rattle.suit_commands.specs.declared.selection.Selection.TheVariants.{One, All, Listed}
use Rattle.suit_commands.specs.Tree.{CommandTree, Test, Act, Index, Override, TryEach, RunSequence}
use Rattle.suit_commands.specs.Allowed.{IsSelectionOf}
use Rattle.suit_commands.specs.Bits.{selection_bits}
use Rattle.suit_commands.specs.Indexed.{IsIndexed}
use Rattle.suit_commands.specs.Reaches.{no_reach, start_reach, reach_or, reach_through, reach_after, Reaches}
use Rattle.suit_commands.specs.Selections.{Among, selected_by, selected_after}
use Rattle.suit_commands.proofs.BitLaws.{no_bit, or_left, or_right, or_cases, selection_to, selection_from}

-- the list has an element
abbrev pub HasOne : List ℕ → Type 0
HasOne xs = (i : ℕ) × Among i xs

-- which components are selected, given those selected at the beginning
abbrev pub Tells : Reach → List ℕ → List ℕ → Type 0
Tells selected first now = (c : ℕ) → Among c now ↔ Reaches selected first c

-- ---- the parts of a reach

pub none_reached : (first : List ℕ) (c : ℕ) → Reaches no_reach first c → ⊥
none_reached first c (inl h) = no_bit c h
none_reached first c (inr h) = absurd cc

or_true_left : (a b : Bool) → a ≡ true → a || b ≡ true
or_true_left true b h = refl
or_true_left false b h = absurd cc

or_true_right : (a b : Bool) → b ≡ true → a || b ≡ true
or_true_right true b h = refl
or_true_right false b h = h

or_true_cases : (a b : Bool) → a || b ≡ true → (a ≡ true) ⊎ (b ≡ true)
or_true_cases true b h = inl refl
or_true_cases false b h = inr h

pub or_to : (a b : Reach) (first : List ℕ) (c : ℕ) → Reaches a first c ⊎ Reaches b first c → Reaches (reach_or a b) first c
or_to a b first c (inl (inl h)) = inl (or_left a.fixed b.fixed c h)
or_to a b first c (inl (inr h)) = inr (or_true_left a.start b.start h.0, h.1)
or_to a b first c (inr (inl h)) = inl (or_right a.fixed b.fixed c h)
or_to a b first c (inr (inr h)) = inr (or_true_right a.start b.start h.0, h.1)

pub or_from : (a b : Reach) (first : List ℕ) (c : ℕ) → Reaches (reach_or a b) first c → Reaches a first c ⊎ Reaches b first c
or_from a b first c (inl h) = elim (or_cases a.fixed b.fixed c h) [ inl w ↦ inl (inl w) | inr w ↦ inr (inl w) ]
or_from a b first c (inr h) = elim (or_true_cases a.start b.start h.0) [ inl w ↦ inl (inr (w, h.1)) | inr w ↦ inr (inr (w, h.1)) ]

-- a part before which other components are selected than at the beginning
pub through_to : (fixed : ℕ) (start : Bool) (selected : Reach) (first now : List ℕ) (c : ℕ) → Tells selected first now
    → Reaches (record { fixed = fixed; start = start }) now c → Reaches (reach_through (record { fixed = fixed; start = start }) selected) first c
through_to fixed true selected first now c tells (inl h) = inl (or_left fixed selected.fixed c h)
through_to fixed true selected first now c tells (inr h) = elim ((tells c).0 h.1) [ inl w ↦ inl (or_right fixed selected.fixed c w) | inr w ↦ inr w ]
through_to fixed false selected first now c tells (inl h) = inl h
through_to fixed false selected first now c tells (inr h) = absurd cc

pub through_from : (fixed : ℕ) (start : Bool) (selected : Reach) (first now : List ℕ) (c : ℕ) → Tells selected first now
    → Reaches (reach_through (record { fixed = fixed; start = start }) selected) first c → Reaches (record { fixed = fixed; start = start }) now c
through_from fixed true selected first now c tells (inl h) = elim (or_cases fixed selected.fixed c h) [ inl w ↦ inl w | inr w ↦ inr (refl, (tells c).1 (inl w)) ]
through_from fixed true selected first now c tells (inr h) = inr (refl, (tells c).1 (inr h))
through_from fixed false selected first now c tells (inl h) = inl h
through_from fixed false selected first now c tells (inr h) = absurd cc

-- ---- after a command

pub start_tells : (first : List ℕ) → Tells start_reach first first
start_tells first c = (λ h. inr (refl, h), λ h. elim h [ inl w ↦ absurd (no_bit c w) | inr w ↦ w.1 ])

index_tells : (selection : Selection) (count : ℕ) (first : List ℕ) → Tells (record { fixed = selection_bits selection count; start = false }) first (selected_by selection count)
index_tells selection count first c = (λ h. inl (selection_to selection count c h), λ h. elim h [ inl w ↦ selection_from selection count c w | inr w ↦ absurd cc ])

pub after_tells : (command : CommandTree) (count : ℕ) (selected : Reach) (first now : List ℕ) → Tells selected first now → Tells (reach_after command count selected) first (selected_after command count now)
after_tells (Test kind report) count selected first now tells = tells
after_tells (Act kind report) count selected first now tells = tells
after_tells (Index selection) count selected first now tells = index_tells selection count first
after_tells (Override list) count selected first now tells = tells
after_tells (TryEach branches) count selected first now tells = tells
after_tells (RunSequence inner) count selected first now tells = tells

selection_one : (selection : Selection) (count : ℕ) → 1 ≤ count → IsSelectionOf count selection → HasOne (selected_by selection count)
selection_one (One component) count some h = (component, inl refl)
selection_one All zero some h = absurd (omega arith)
selection_one All (suc count) some h = (0, inl refl)
selection_one (Listed []) count some h = absurd (h.0 refl)
selection_one (Listed (i ∷ is)) count some h = (i, inl refl)

pub after_one : (command : CommandTree) (count : ℕ) (now : List ℕ) → 1 ≤ count → IsIndexed count command → HasOne now → HasOne (selected_after command count now)
after_one (Test kind report) count now some h one = one
after_one (Act kind report) count now some h one = one
after_one (Index selection) count now some h one = selection_one selection count some h
after_one (Override list) count now some h one = one
after_one (TryEach branches) count now some h one = one
after_one (RunSequence inner) count now some h one = one

-- ---- an inner sequence for each selected component

pub each_to : (r : Reach) (now : List ℕ) (c : ℕ) (W : ℕ → Type 0) → ((outer : ℕ) → W outer → Reaches r (outer ∷ []) c) → (outer : ℕ) × Among outer now × W outer → Reaches r now c
each_to r now c W reached h = elim (reached h.0 h.2) [ inl w ↦ inl w | inr w ↦ inr (w.0, elim w.1 [ inl e ↦ subst (λ (x : ℕ). Among x now) (sym e) h.1 | inr n ↦ absurd n ]) ]

pub each_from : (r : Reach) (now : List ℕ) (c : ℕ) (W : ℕ → Type 0) → ((outer : ℕ) → Reaches r (outer ∷ []) c → W outer) → HasOne now → Reaches r now c → (outer : ℕ) × Among outer now × W outer
each_from r now c W writes one (inl h) = (one.0, one.1, writes one.0 (inl h))
each_from r now c W writes one (inr h) = (c, h.1, writes c (inr (h.0, inl refl)))
