-- The laws of inner sequences, paths and identities.
use Rattle.std.proofs.Common.{◌≡◌, ◌<◌, ℕ, zero, suc, true, false, List, [], ◌∷◌, ◌++◌, get_or, Option, Some, None, refl, sym, subst, ◌∙◌, append_assoc, arith, inl, inr}
use Rattle.std.specs.Prelude.{◌↔◌, IfSome, slice_get}
use Rattle.std.specs.List.{AllByRecursion}
use Rattle.path_model.specs.declared.identity.Identity.{Identity}
use Rattle.path_model.specs.declared.event.Event.{Event}
use Rattle.suit_commands.specs.Tree.{BranchesTree, NoBranches, BranchThen, NullThen, Test, Act, Index, Override, TryEach, RunSequence}
use Rattle.path_model.specs.Behaviour.{State, Ending, Done, Condition, Directive, Behaviour, Each}
use Rattle.path_model.specs.Runs.{after_run, after_branch, RunsInner, Runs, Tries}
use Rattle.path_model.specs.Path.{IsIdentifier, IsIdentity, RunsPlan, first_state}
use Rattle.path_model.specs.PathLaws.{IsOuter, InnerGoesBack, PathsBegin, IsSixteenBytes, IsBounded, IdentitiesBounded}

-- ---- try each and run sequence

record IsSameOuter (outer state : State) : Type 0 where
  selection : state.selection ≡ outer.selection
  soft : state.soft_failure ≡ outer.soft_failure

outer_of : (outer state : State) → IsSameOuter outer state → (ending : Ending) → IsOuter state ending → IsOuter outer ending
outer_of outer state same (Done next) is = (is.0 ∙ same.selection, is.1 ∙ same.soft)
outer_of outer state same (Condition place soft) is = is ∙ same.soft
outer_of outer state same (Directive place) is = tt

GoesBack : (ℕ → Behaviour) → Type 0
GoesBack at = (c : ℕ) (s : State) (es : List Event) (e : Ending) → at c s es e → IsOuter s e

each_goes_back : (at : ℕ → Behaviour) → GoesBack at → (cs : List ℕ) (s : State) (es : List Event) (e : Ending) → Each at cs s es e → IsOuter s e
unfolding GoesBack
each_goes_back at back [] s es e (none, done) = subst (IsOuter s) (sym done) (refl, refl)
each_goes_back at back (c ∷ cs) s es e run =
    elim run [
      | inl (failed, one) ↦ back c s es e one
      | inr (middle, before, after, is, one, others) ↦
          let there = back c s before (Done middle) one in
          outer_of s middle (record { selection = there.0; soft = there.1 }) e (each_goes_back at back cs middle after e others)
    ]

after_run_is : (s : State) (end : Ending) → IsOuter s (after_run s end)
after_run_is s (Done inner) = (refl, refl)
after_run_is s (Condition place true) = (refl, refl)
after_run_is s (Condition place false) = refl
after_run_is s (Directive place) = tt

run_goes_back : (inner : Behaviour) → GoesBack (RunsInner inner)
unfolding GoesBack
run_goes_back inner c s es e (end, run, is) = subst (IsOuter s) (sym is) (after_run_is s end)

after_branch_is : (s : State) (end : Ending) → IsOuter s (after_branch s end)
after_branch_is s (Done inner) = (refl, refl)
after_branch_is s (Condition place soft) = refl
after_branch_is s (Directive place) = tt

try_goes_back : (branches : BranchesTree) (ids : List Identity) (count place : ℕ) → GoesBack (Tries branches ids count place)
unfolding GoesBack
try_goes_back NoBranches ids count place c s es e (none, failed) = subst (IsOuter s) (sym failed) refl
try_goes_back (NullThen rest) ids count place c s es e (none, done) = subst (IsOuter s) (sym done) (refl, refl)
try_goes_back (BranchThen inner rest) ids count place c s es e run =
    elim run [
      | inl (end, one, stays, is) ↦ subst (IsOuter s) (sym is) (after_branch_is s end)
      | inr (end, before, after, is, one, soft, others) ↦ try_goes_back rest ids count place c s after e others
    ]

pub inner_goes_back : InnerGoesBack
inner_goes_back (TryEach branches) ids count place s es e has run = each_goes_back (Tries branches ids count place) (try_goes_back branches ids count place) s.selection s es e run
inner_goes_back (RunSequence inner) ids count place s es e has run = each_goes_back (RunsInner (Runs inner ids count)) (run_goes_back (Runs inner ids count)) s.selection s es e run
inner_goes_back (Test kind report) ids count place s es e has run = absurd has
inner_goes_back (Act kind report) ids count place s es e has run = absurd has
inner_goes_back (Index selection) ids count place s es e has run = absurd has
inner_goes_back (Override list) ids count place s es e has run = absurd has

-- ---- paths

pub paths_begin : PathsBegin
paths_begin plan ids front rest path = record {
  rest = rest ++ path.rest;
  ending = path.ending;
  run = subst (λ (es : List Event). RunsPlan plan ids first_state es path.ending) (append_assoc front rest path.rest) path.run;
}

-- ---- identities

same_some : {A : Type 0} (a b : A) → ◌≡◌ {A = Option A} (Some a) (Some b) → a ≡ b
same_some a b same = cc

holds_at : (P : Identity → Type 0) (ids : List Identity) (c : ℕ) (identity : Identity) → AllByRecursion P ids → slice_get ids c ≡ Some identity → P identity
holds_at P [] c identity all is = absurd cc
holds_at P (first ∷ ids) zero identity all is = subst P (same_some first identity is) all.0
holds_at P (first ∷ ids) (suc c) identity all is = holds_at P ids c identity all.1 is

holds_for_all : (P : Identity → Type 0) (ids : List Identity) → ((c : ℕ) (identity : Identity) → slice_get ids c ≡ Some identity → P identity) → AllByRecursion P ids
holds_for_all P [] each = tt
holds_for_all P (first ∷ ids) each = (each 0 first refl, holds_for_all P ids (λ c identity is. each (suc c) identity is))

below_at : (bytes : List ℕ) → AllByRecursion (λ b. b < 256) bytes → (i : ℕ) → get_or bytes i 0 < 256
below_at [] all i = omega arith
below_at (b ∷ bytes) all zero = all.0
below_at (b ∷ bytes) all (suc i) = below_at bytes all.1 i

all_below : (bytes : List ℕ) → ((i : ℕ) → get_or bytes i 0 < 256) → AllByRecursion (λ b. b < 256) bytes
all_below [] below = tt
all_below (b ∷ bytes) below = (below 0, all_below bytes (λ i. below (suc i)))

identifier_bounds : (held : Option (List ℕ)) → IfSome held IsIdentifier ↔ ((id : List ℕ) → held ≡ Some id → IsSixteenBytes id)
identifier_bounds None = (λ has id is. absurd cc, λ each. tt)
identifier_bounds (Some id) = (
  λ has other is. subst IsSixteenBytes (same_some id other is) (has.0, below_at id has.1),
  λ each. let known = each id refl in (known.0, all_below id known.1),
)

bounds : (identity : Identity) → IsIdentity identity ↔ IsBounded identity
bounds identity =
    let vendor = identifier_bounds identity.vendor in
    let class = identifier_bounds identity.class in
    let device = identifier_bounds identity.device in (
      λ is. record { slot = is.slot; vendor = vendor.0 is.vendor; class = class.0 is.class; device = device.0 is.device },
      λ is. record { slot = is.slot; vendor = vendor.1 is.vendor; class = class.1 is.class; device = device.1 is.device },
    )

pub identities_bounded : IdentitiesBounded
identities_bounded plan ids = (
  λ are. record { count = are.count; each = λ c identity is. (bounds identity).0 (holds_at IsIdentity ids c identity are.each is) },
  λ are. record { count = are.count; each = holds_for_all IsIdentity ids (λ c identity is. (bounds identity).1 (are.each c identity is)) },
)
