-- The numbers, the targets and the touched components of known procedures.
use Rattle.std.proofs.Common.{◌≡◌, ◌≢◌, ◌↔◌, ℕ, inl, inr, [], ◌∷◌, refl, sym, subst, ◌∙◌, arith}
use Rattle.std.specs.Int.{bit_at}
use Rattle.suit_commands.specs.declared.kinds.ActKind.{ActKind}
use Rattle.suit_commands.specs.declared.kinds.ActKind.TheVariants as acts
use Rattle.suit_commands.specs.Tree.{SequenceTree}
use Rattle.suit_commands.specs.KnownPlan.{known_plan, known_shared, known_first, known_second, known_third, passing_plan, KnownNumbers, KnownTargets, KnownTouched}
use Rattle.suit_commands.specs.Reaches.{no_reach, start_reach, reach_of}
use Rattle.suit_commands.specs.Selections.{Among}
use Rattle.suit_commands.specs.Targets.{Writes, Swaps, InSome, IsTarget}
use Rattle.suit_commands.specs.Touches.{IsTouched, HasAct}
use Rattle.suit_commands.proofs.ReachLaws.{reach_writes}

pub known_numbers : KnownNumbers
known_numbers = record { work = λ kind. refl; spread = λ kind. refl; width = λ kind. refl }

-- ---- targets

written : (kind : ActKind) (c : ℕ) → Among c (0 ∷ 2 ∷ 3 ∷ 4 ∷ []) → IsTarget (known_plan kind) c
written kind c (inl e) = inl (inr (inl (inr (inl (tt, inl e)))))
written kind c (inr (inl e)) = inl (inr (inl (inr (inr (inr (inl (2, inl refl, inl (inr (inr (inl (tt, inl e)))))))))))
written kind c (inr (inr (inl e))) = inl (inr (inr (inl (inr (inr (inl (1, inl refl, inr (inr (inr (inl (tt, inl e)))))))))))
written kind c (inr (inr (inr (inl e)))) = inl (inr (inl (inr (inr (inr (inl (4, inr (inl refl), inl (inr (inr (inl (tt, inl e)))))))))))
written kind c (inr (inr (inr (inr h)))) = absurd h

swapped : (c : ℕ) → Among c (1 ∷ 5 ∷ []) → IsTarget (known_plan acts.Swap) c
swapped c (inl e) = inr (inr (inr (inr (inr (inr (inl refl))))), inl (inr (inl (inl e))))
swapped c (inr (inl e)) = inl (inr (inr (inr (inr (inr (inl (tt, inl e)))))))
swapped c (inr (inr h)) = absurd h

-- the bit of what a sequence writes is set
unwritten : (s : SequenceTree) (c : ℕ) → c ≢ 0 → bit_at (reach_of s 6 start_reach no_reach).fixed c ≡ 0 → Writes s 6 (0 ∷ []) c → ⊥
unwritten s c positive clear h = elim (reach_writes s 6 0 c h) [
  | inl w ↦ absurd (let e : 0 ≡ 1 = sym clear ∙ w in cc)
  | inr w ↦ elim w.1 [ inl e ↦ positive e | inr n ↦ n ]
]

none_written : (c : ℕ) → c ≢ 0 → bit_at 20 c ≡ 0 → bit_at 8 c ≡ 0 → bit_at 0 c ≡ 0 → InSome (known_plan acts.Invoke) (λ s. Writes s 6 (0 ∷ []) c) → ⊥
none_written c positive p q r (inl h) = unwritten known_shared c positive r h
none_written c positive p q r (inr (inl h)) = unwritten known_first c positive p h
none_written c positive p q r (inr (inr (inl h))) = unwritten known_second c positive q h
none_written c positive p q r (inr (inr (inr h))) = unwritten (known_third acts.Invoke) c positive r h

no_swap : InSome (known_plan acts.Invoke) Swaps → ⊥
no_swap h = grind (arith, h)

at_invoke : (c : ℕ) → c ≢ 0 → bit_at 20 c ≡ 0 → bit_at 8 c ≡ 0 → bit_at 0 c ≡ 0 → IsTarget (known_plan acts.Invoke) c → ⊥
at_invoke c positive p q r (inl h) = none_written c positive p q r h
at_invoke c positive p q r (inr h) = no_swap h.0

invoked : (c : ℕ) → Among c (1 ∷ 5 ∷ []) → IsTarget (known_plan acts.Invoke) c → ⊥
invoked c (inl e) h = at_invoke 1 (λ z. absurd cc) refl refl refl (subst (IsTarget (known_plan acts.Invoke)) e h)
invoked c (inr (inl e)) h = at_invoke 5 (λ z. absurd cc) refl refl refl (subst (IsTarget (known_plan acts.Invoke)) e h)
invoked c (inr (inr n)) h = n

pub known_targets : KnownTargets
known_targets = record { written = written; swapped = swapped; invoked = invoked }

-- ---- touched components, and invokes

passed_to : (c : ℕ) → IsTouched passing_plan c → Among c (2 ∷ 3 ∷ 4 ∷ 5 ∷ 6 ∷ 7 ∷ [])
passed_to c h = grind (arith, h)

passed_from : (c : ℕ) → Among c (2 ∷ 3 ∷ 4 ∷ 5 ∷ 6 ∷ 7 ∷ []) → IsTouched passing_plan c
passed_from c (inl e) = inl (inr (inl (inr (inr (inl (inl e))))))
passed_from c (inr (inl e)) = inl (inr (inl (inr (inr (inr (inr (inl (inl e))))))))
passed_from c (inr (inr (inl e))) = inl (inr (inr (inl (inr (inl (inl (inl e)))))))
passed_from c (inr (inr (inr (inl e)))) = inl (inr (inr (inl (inr (inl (inr (4, inl refl, inl (inr (inl (inl e))))))))))
passed_from c (inr (inr (inr (inr (inl e))))) = inl (inr (inr (inr (inr (inl (inl (inl e)))))))
passed_from c (inr (inr (inr (inr (inr (inl e)))))) = inl (inr (inr (inr (inr (inl (inr (6, inl refl, inr (inl (inl e)))))))))
passed_from c (inr (inr (inr (inr (inr (inr n)))))) = absurd n

invokes : (kind : ActKind) → InSome (known_plan kind) (HasAct acts.Invoke) ↔ (kind ≡ acts.Invoke)
invokes kind = (λ h. grind (arith, h), λ e. inr (inr (inr (inr (inr (inl e))))))

pub known_touched : KnownTouched
known_touched = record { passed = λ c. (passed_to c, passed_from c); named = λ kind. inr (inl (inr (inl (inl refl)))); invokes = invokes }
