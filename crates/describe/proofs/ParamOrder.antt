-- Parameters that are put in place one after another, in whatever order, ascend by their numbers.
use Rattle.std.proofs.Common.{◌≡◌, ◌≢◌, ℕ, ◌<◌, ◌≤◌, List, [], ◌∷◌, ◌++◌, refl, sym, ap, ◌∙◌, inl, inr, append_assoc, arith}
use Rattle.std.proofs.lemmas.Bool.{cases_lt}
use Rattle.std.proofs.lemmas.List.{append-nil}
use Rattle.std.proofs.lemmas.Bool.Decides.{nat_tests}
use Rattle.std.specs.List.{AllByRecursion}
use Rattle.suit_params.specs.declared.param.Param.{Param}
use Rattle.suit_params.specs.ParamKeys.{key_of, key_number}
use Rattle.suit_params.specs.ParamLaws.{AreAbove}
use Rattle.author.specs.ParamValues.{placed_among}

abbrev pub number_of : Param → ℕ
number_of p = key_number (key_of p)

before : (p q : Param) (qs : List Param) → number_of p < number_of q → placed_among p (q ∷ qs) ≡ p ∷ q ∷ qs
before p q qs lt = grind (arith, nat_tests)

after : (p q : Param) (qs : List Param) → number_of q < number_of p → placed_among p (q ∷ qs) ≡ q ∷ placed_among p qs
after p q qs gt = grind (arith, nat_tests)

instead : (p q : Param) (qs : List Param) → number_of p ≡ number_of q → placed_among p (q ∷ qs) ≡ p ∷ qs
instead p q qs same = grind (arith, nat_tests)

-- ---- the order does not matter

lower_first : (p q : Param) (rs : List Param) → number_of p < number_of q → placed_among p (placed_among q rs) ≡ placed_among q (placed_among p rs)
lower_first p q [] lt = before p q [] lt ∙ sym (after q p [] lt)
lower_first p q (r ∷ rs) lt =
    elim (cases_lt (number_of q) (number_of r)) [
      | inl q_first ↦
          ap (placed_among p) (before q r rs q_first) ∙ before p q (r ∷ rs) lt
          ∙ sym (ap (placed_among q) (before p r rs (omega arith)) ∙ after q p (r ∷ rs) lt ∙ ap (λ ps. p ∷ ps) (before q r rs q_first))
      | inr r_within ↦ elim (cases_lt (number_of r) (number_of q)) [
        | inl r_before_q ↦ elim (cases_lt (number_of p) (number_of r)) [
          | inl p_first ↦
              ap (placed_among p) (after q r rs r_before_q) ∙ before p r (placed_among q rs) p_first
              ∙ sym (ap (placed_among q) (before p r rs p_first) ∙ after q p (r ∷ rs) lt ∙ ap (λ ps. p ∷ ps) (after q r rs r_before_q))
          | inr r_not_after_p ↦ elim (cases_lt (number_of r) (number_of p)) [
            | inl r_before_p ↦
                ap (placed_among p) (after q r rs r_before_q) ∙ after p r (placed_among q rs) r_before_p ∙ ap (λ ps. r ∷ ps) (lower_first p q rs lt)
                ∙ sym (ap (placed_among q) (after p r rs r_before_p) ∙ after q r (placed_among p rs) r_before_q)
            | inr p_within ↦
                ap (placed_among p) (after q r rs r_before_q) ∙ instead p r (placed_among q rs) (omega arith)
                ∙ sym (ap (placed_among q) (instead p r rs (omega arith)) ∙ after q p rs lt)
          ]
        ]
        | inr q_within ↦
            ap (placed_among p) (instead q r rs (omega arith)) ∙ before p q rs lt
            ∙ sym (ap (placed_among q) (before p r rs (omega arith)) ∙ after q p (r ∷ rs) lt ∙ ap (λ ps. p ∷ ps) (instead q r rs (omega arith)))
      ]
    ]

pub either_first : (p q : Param) (rs : List Param) → number_of p ≢ number_of q → placed_among p (placed_among q rs) ≡ placed_among q (placed_among p rs)
either_first p q rs other =
    elim (cases_lt (number_of p) (number_of q)) [
      | inl lt ↦ lower_first p q rs lt
      | inr le ↦ elim (cases_lt (number_of q) (number_of p)) [
        | inl gt ↦ sym (lower_first q p rs gt)
        | inr ge ↦ absurd (other (omega arith))
      ]
    ]

-- ---- one after another

abbrev pub all_placed : List Param → List Param → List Param
all_placed [] ps = ps
all_placed (q ∷ qs) ps = all_placed qs (placed_among q ps)

-- none of them has this number
abbrev pub HaveOther : ℕ → List Param → Type 0
HaveOther n qs = AllByRecursion (λ q. n ≢ number_of q) qs

pub placed_before : (p : Param) (qs ps : List Param) → HaveOther (number_of p) qs → all_placed qs (placed_among p ps) ≡ placed_among p (all_placed qs ps)
placed_before p [] ps other = refl
placed_before p (q ∷ qs) ps other = ap (all_placed qs) (sym (either_first p q ps other.0)) ∙ placed_before p qs (placed_among q ps) other.1

-- ---- those that ascend

abbrev pub AreBelow : ℕ → List Param → Type 0
AreBelow n ps = AllByRecursion (λ p. number_of p ≤ n) ps

last_placed : (p : Param) (ps : List Param) (n : ℕ) → n < number_of p → AreBelow n ps → placed_among p ps ≡ ps ++ p ∷ []
last_placed p [] n lt h = refl
last_placed p (q ∷ ps) n lt h = after p q ps (omega (arith, h.0)) ∙ ap (λ rs. q ∷ rs) (last_placed p ps n lt h.1)

below_later : (n m : ℕ) (ps : List Param) (p : Param) → n < m → number_of p ≡ m → AreBelow n ps → AreBelow m (ps ++ p ∷ [])
below_later n m [] p lt is h = (omega (arith, is), tt)
below_later n m (q ∷ ps) p lt is h = (omega (arith, lt, h.0), below_later n m ps p lt is h.1)

pub ascending_placed : (n : ℕ) (ps qs : List Param) → AreBelow n ps → AreAbove n qs → all_placed qs ps ≡ ps ++ qs
ascending_placed n ps [] below above = sym (append-nil ps)
ascending_placed n ps (q ∷ qs) below above =
    ap (all_placed qs) (last_placed q ps n above.0 below)
    ∙ ascending_placed (number_of q) (ps ++ q ∷ []) qs (below_later n (number_of q) ps q above.0 refl below) above.1
    ∙ simp append_assoc
