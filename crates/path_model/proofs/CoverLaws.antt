-- The laws of matches that stand.
use Rattle.std.proofs.Common.{◌≡◌, ◌≢◌, ℕ, List, [], ◌∷◌, ◌++◌, Option, refl, sym, ap, subst, ◌∙◌, inl, inr}
use Rattle.std.specs.Prelude.{◌⊎◌}
use Rattle.std.specs.List.{AllByRecursion}
use Rattle.suit_params.specs.declared.digest.Digest.{Digest}
use Rattle.path_model.specs.declared.event.Event.{Event}
use Rattle.path_model.specs.declared.event.Event.TheVariants.{Set, Tried, Matched, Missed, Wrote, Invoked, Failed}
use Rattle.path_model.specs.Safe.{WritesTo, HasMatched}
use Rattle.path_model.specs.CoverLaws.{NothingMatched, MatchStands, WriteEnds, OthersLeave, InvokeCovered, AbsentUncovered}
use Rattle.path_model.proofs.Covering.{HasMatched-append}

-- ---- the last event, and those before it

last_after : Event → List Event → Event
last_after event [] = event
last_after event (next ∷ events) = last_after next events

front_after : Event → List Event → List Event
front_after event [] = []
front_after event (next ∷ events) = event ∷ front_after next events

last-append : (first : Event) (events : List Event) (event : Event) → last_after first (events ++ event ∷ []) ≡ event
unfolding last_after
last-append first [] event = refl
last-append first (next ∷ events) event = last-append next events event

last-middle : (first : Event) (before : List Event) (middle : Event) (since : List Event) → last_after first (before ++ middle ∷ since) ≡ last_after middle since
unfolding last_after
last-middle first [] middle since = refl
last-middle first (next ∷ before) middle since = last-middle next before middle since

front-append : (first : Event) (events : List Event) (event : Event) → front_after first (events ++ event ∷ []) ≡ first ∷ events
unfolding front_after
front-append first [] event = refl
front-append first (next ∷ events) event = ap (λ (es : List Event). first ∷ es) (front-append next events event)

front-middle : (first : Event) (before : List Event) (middle next : Event) (since : List Event) → front_after first (before ++ middle ∷ next ∷ since) ≡ first ∷ (before ++ middle ∷ front_after next since)
unfolding front_after
front-middle first [] middle next since = refl
front-middle first (second ∷ before) middle next since = ap (λ (es : List Event). first ∷ es) (front-middle second before middle next since)

all_last : (P : Event → Type 0) (event : Event) (events : List Event) → P event → AllByRecursion P events → P (last_after event events)
unfolding last_after
all_last P event [] here all = here
all_last P event (next ∷ events) here all = all_last P next events all.0 all.1

all_front : (P : Event → Type 0) (event : Event) (events : List Event) → P event → AllByRecursion P events → AllByRecursion P (front_after event events)
unfolding front_after
all_front P event [] here all = tt
all_front P event (next ∷ events) here all = (here, all_front P next events all.0 all.1)

-- where one list ends in an event and the other has one in its middle; any first event stands before both
same_last : (events before since : List Event) (event middle : Event) → events ++ event ∷ [] ≡ before ++ middle ∷ since → event ≡ last_after middle since
same_last events before since event middle is =
    sym (last-append event events event) ∙ ap (last_after event) is ∙ last-middle event before middle since

rest_of : List Event → List Event
rest_of [] = []
rest_of (event ∷ events) = events

same_front : (events before since : List Event) (event middle next : Event) → events ++ event ∷ [] ≡ before ++ middle ∷ next ∷ since → events ≡ before ++ middle ∷ front_after next since
unfolding rest_of
same_front events before since event middle next is =
    ap rest_of (sym (front-append event events event) ∙ ap (front_after event) is ∙ front-middle event before middle next since)

-- ---- the laws

abbrev Unwritten : ℕ → Event → Type 0
Unwritten component event = WritesTo component event → ⊥

pub nothing_matched : NothingMatched
nothing_matched c d s h = no_middle h.before h.since (Matched c d s) h.is
  where
    no_middle : (before since : List Event) (event : Event) → [] ≡ before ++ event ∷ since → ⊥
    no_middle [] since event is = absurd cc
    no_middle (first ∷ before) since event is = absurd cc

pub match_stands : MatchStands
match_stands events c d s = record { before = events; since = []; is = refl; unwritten = tt }

pub write_ends : WriteEnds
write_ends events c d s h =
    let last : Wrote c ≡ last_after (Matched c d s) h.since = same_last events h.before h.since (Wrote c) (Matched c d s) h.is in
    let quiet : Unwritten c (last_after (Matched c d s) h.since) = all_last (Unwritten c) (Matched c d s) h.since (λ x. x) h.unwritten in
    subst (Unwritten c) (sym last) quiet refl

pub unwritten : (c : ℕ) (event : Event) → event ≢ Wrote c → Unwritten c event
unwritten c (Wrote other) differs same = differs (ap Wrote same)
unwritten c (Set component param) differs same = same
unwritten c (Tried component kind passed) differs same = same
unwritten c (Matched component digest size) differs same = same
unwritten c (Missed component) differs same = same
unwritten c (Invoked component digest size passed) differs same = same
unwritten c (Failed place) differs same = same

stood_before : (events before since : List Event) (event : Event) (c : ℕ) (d : Digest) (s : Option ℕ) → event ≢ Matched c d s
    → events ++ event ∷ [] ≡ before ++ Matched c d s ∷ since → AllByRecursion (Unwritten c) since → HasMatched events c d s
unfolding last_after
stood_before events before [] event c d s other is quiet = absurd (other (same_last events before [] event (Matched c d s) is))
stood_before events before (next ∷ since) event c d s other is quiet = record {
  before = before;
  since = front_after next since;
  is = same_front events before since event (Matched c d s) next is;
  unwritten = all_front (Unwritten c) next since quiet.0 quiet.1;
}

pub others_leave : OthersLeave
others_leave events event c d s other differs = (
  λ h. stood_before events h.before h.since event c d s other h.is h.unwritten,
  λ h. HasMatched-append events (event ∷ []) c d s (unwritten c event differs, tt) h,
)

-- a match that stands after one more event is that event, or stood before and was not ended
after_split : (events before since : List Event) (event : Event) (c : ℕ) (d : Digest) (s : Option ℕ) → events ++ event ∷ [] ≡ before ++ Matched c d s ∷ since
    → AllByRecursion (Unwritten c) since → (event ≡ Matched c d s) ⊎ (HasMatched events c d s × Unwritten c event)
unfolding last_after
after_split events before [] event c d s is quiet = inl (same_last events before [] event (Matched c d s) is)
after_split events before (next ∷ since) event c d s is quiet =
    let last : event ≡ last_after next since = same_last events before (next ∷ since) event (Matched c d s) is in
    inr (
      record {
        before = before;
        since = front_after next since;
        is = same_front events before since event (Matched c d s) next is;
        unwritten = all_front (Unwritten c) next since quiet.0 quiet.1;
      },
      subst (Unwritten c) (sym last) (all_last (Unwritten c) next since quiet.0 quiet.1),
    )

pub matched_after : (events : List Event) (event : Event) (c : ℕ) (d : Digest) (s : Option ℕ) → HasMatched (events ++ event ∷ []) c d s
    → (event ≡ Matched c d s) ⊎ (HasMatched events c d s × (WritesTo c event → ⊥))
matched_after events event c d s h = after_split events h.before h.since event c d s h.is h.unwritten

pub invoke_covered : InvokeCovered
invoke_covered events c d s passed = (λ h. h, λ h. h)

pub absent_uncovered : AbsentUncovered
absent_uncovered events c s passed h = h
