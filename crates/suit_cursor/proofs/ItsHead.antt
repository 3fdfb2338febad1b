-- Entering a sequence in bytes that were judged, by reading only its array's head.
use Rattle.std.proofs.Common.{◌≡◌, ◌∙◌, ℕ, zero, suc, ◌+◌, ◌-◌, ◌/◌, ◌%◌, ◌≤◌, ◌==◌, Bool, true, false, List, [], ◌∷◌, ◌++◌, length, Result, Ok, Err, refl, sym, ap, subst, arith, inl, inr}
use Rattle.std.specs.Prelude.{IsOk, if◌then◌else◌}
use Rattle.std.proofs.lemmas.List.{append-nil}
use Rattle.det_cbor.specs.declared.head.HeadKind.TheVariants as kinds
use Rattle.det_cbor.specs.DataItem.{DataItem, spell}
use Rattle.det_cbor.specs.HeadReading.{◌>>=◌, map_ok}
use Rattle.det_cbor.specs.Position.{Position}
use Rattle.det_cbor.specs.ResultLaws.{bind_ok, same_ok, ok_pair, not_both, chosen}
use Rattle.det_cbor.specs.ArgumentLaws.{IsBytes}
use Rattle.suit_params.specs.declared.refusal.Refusal.{Refusal}
use Rattle.suit_params.specs.declared.refusal.Why.TheVariants.{Shape, BadArgument, Trailing}
use Rattle.suit_params.specs.Refusing.{refused}
use Rattle.suit_params.specs.Reading.{item_from, inner_from, inside, only_from, kind_from}
use Rattle.suit_params.specs.JudgingLaws.{item_ok}
use Rattle.suit_params.specs.ParamReading.{next_params}
use Rattle.suit_commands.specs.SequenceReading.{InnerReader, nested_from, override_from, paired_from, sequence_at, steps_from, whole_sequence}
use Rattle.suit_commands.specs.Tree.{SequenceTree}
use Rattle.suit_cursor.proofs.Known.{ok_is, first_ok, then_ok, skipped, not_refused, allowed}

-- if bytes must hold one item, it is all of them
pub all_of_it : (p q : Position) → IsBytes p.left → only_from p ≡ Ok q → q ≡ p
all_of_it p q bytes e =
    bind_ok (inner_from p) _ q e (λ x x-is f.
    bind_ok (item_from p) _ x x-is (λ y y-is g.
    let taken = item_ok p y.0 y.1 bytes y-is in
    let same = ok_pair (inside p y.0) x.0 y.1 x.1 (g) in
    elim (chosen (length x.1.left == 0) (Ok x.0) (Err (refused x.1.place Trailing)) (Ok q) f) [
      | inl (none, is) ↦
          let rest : y.1.left ≡ [] = empty y.1.left (subst (λ (r : Position). (length r.left == 0) ≡ true) (sym same.1) none) in
          let whole : spell y.0 ≡ p.left = sym (append-nil (spell y.0)) ∙ ap (λ l. spell y.0 ++ l) (sym rest) ∙ sym taken.taken.parts in
          sym (same_ok x.0 q is) ∙ sym same.0 ∙ ap (λ l. record { left = l; place = p.place }) whole
      | inr (some, is) ↦ absurd (not_both (Err (refused x.1.place Trailing)) q (refused x.1.place Trailing) is refl)
    ]))
  where
    empty : (l : List ℕ) → (length l == 0) ≡ true → l ≡ []
    empty [] e = refl
    empty (a ∷ l) e = grind (arith, e)

-- so a sequence that was judged is what its array reads as
pub entered : (shared : Bool) (count levels : ℕ) (p : Position) → IsBytes p.left → IsOk (whole_sequence shared count levels p)
    → whole_sequence shared count levels p ≡ sequence_at (nested_from shared count levels) shared count p
entered shared count levels p bytes ok =
    let at : Position → Result SequenceTree Refusal = sequence_at (nested_from shared count levels) shared count in
    let item = ok_is (only_from p) (first_ok (only_from p) at ok) in
    ap (λ (r : Result Position Refusal). r >>= at) item.1 ∙ ap at (all_of_it p item.0 bytes item.1)

-- the number of its steps is half that of its elements
pub paired : (inner : InnerReader) (shared : Bool) (count place n : ℕ) (p : Position) → IsOk (paired_from inner shared count place n p)
    → paired_from inner shared count place n p ≡ steps_from inner shared count (n / 2) p
paired inner shared count place n p ok =
    let some = not_refused (n == 0) (refused place Shape) (if n % 2 == 0 then steps_from inner shared count (n / 2) p else Err (refused place Shape)) ok in
    some ∙ allowed (n % 2 == 0) (refused place Shape) (steps_from inner shared count (n / 2) p) (subst IsOk some ok)

pub at_head : (inner : InnerReader) (shared : Bool) (count : ℕ) (p : Position) → IsOk (sequence_at inner shared count p) → IsOk (kind_from kinds.Array Shape p)
unfolding sequence_at
at_head inner shared count p ok = first_ok (kind_from kinds.Array Shape p) _ ok

pub at_steps : (inner : InnerReader) (shared : Bool) (count : ℕ) (p : Position) (n : ℕ) (q : Position) → IsOk (sequence_at inner shared count p) → kind_from kinds.Array Shape p ≡ Ok (n, q)
    → sequence_at inner shared count p ≡ steps_from inner shared count (n / 2) q
unfolding sequence_at
at_steps inner shared count p n q ok e =
    let read = ap (λ (r : Result (ℕ × Position) Refusal). r >>= λ m. paired_from inner shared count p.place m.0 m.1) e in
    read ∙ paired inner shared count p.place n q (then_ok (kind_from kinds.Array Shape p) (λ m. paired_from inner shared count p.place m.0 m.1) (n, q) e ok)

-- ---- the whole, as the code does it: with a second cursor at the same place

module _ (shared : Bool) (count levels : ℕ) (p item : Position) (copied : item ≡ p) (bytes : IsBytes p.left) (ok : IsOk (whole_sequence shared count levels p)) where
  whole_is : whole_sequence shared count levels p ≡ sequence_at (nested_from shared count levels) shared count item
  whole_is = entered shared count levels p bytes ok ∙ ap (sequence_at (nested_from shared count levels) shared count) (sym copied)

  item_goes : IsOk (sequence_at (nested_from shared count levels) shared count item)
  item_goes = subst IsOk whole_is ok

  pub head_ok : IsOk (kind_from kinds.Array Shape item)
  head_ok = at_head (nested_from shared count levels) shared count item item_goes

  pub steps_behind : (n : ℕ) (q : Position) → kind_from kinds.Array Shape item ≡ Ok (n, q) → whole_sequence shared count levels p ≡ steps_from (nested_from shared count levels) shared count (n / 2) q
  steps_behind n q e = whole_is ∙ at_steps (nested_from shared count levels) shared count item n q item_goes e

-- ---- with a number of levels allowed inside

pub below : (shared : Bool) (count levels place : ℕ) (p : Position) → IsOk (nested_from shared count levels place p) → 1 ≤ levels
unfolding nested_from
below shared count zero place p ok = absurd cc
below shared count (suc levels) place p ok = omega arith

pub nested_is : (shared : Bool) (count levels place : ℕ) (p : Position) → IsOk (nested_from shared count levels place p)
    → nested_from shared count levels place p ≡ whole_sequence shared count (levels - 1) p
unfolding nested_from
nested_is shared count zero place p ok = absurd cc
nested_is shared count (suc levels) place p ok = let e : suc levels - 1 ≡ levels = omega arith in rw e refl

-- ---- the map of an override, whose head is read first when it is judged

pub override_is : (count : ℕ) (p : Position) → IsOk (override_from count p) → override_from count p ≡ next_params count p
unfolding override_from
override_is count p ok = skipped (kind_from kinds.Map BadArgument p) (next_params count p) ok
