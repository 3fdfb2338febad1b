-- The matches that stand after one more event.
use Rattle.std.proofs.Common.{◌≡◌, ℕ, false, List, [], ◌∷◌, ◌++◌, Option, refl, sym, subst, append_assoc, inl, inr}
use Rattle.std.proofs.lemmas.List.{append-nil}
use Rattle.suit_params.specs.declared.param.Param.{Param}
use Rattle.suit_params.specs.declared.digest.Digest.{Digest}
use Rattle.path_model.specs.declared.event.Event.{Event}
use Rattle.path_model.specs.declared.event.Event.TheVariants.{Set, Tried, Matched, Missed, Wrote, Failed}
use Rattle.path_model.specs.Directives.{set_events}
use Rattle.path_model.specs.Safe.{WritesTo, HasMatched}
use Rattle.path_model.specs.Following.{SameMatches}
use Rattle.path_model.proofs.Covering.{HasMatched-append}
use Rattle.path_model.proofs.Following.{same_matches, same_trans}
use Rattle.path_model.proofs.CoverLaws.{match_stands, matched_after}
use Rattle.std.specs.Borrow.{Bor}
use Rattle.path_checker.specs.declared.judge_plan.matches.Match.{Match as LentMatch}
use Rattle.path_checker.specs.declared.judge_plan.happened.Happened.{Happened}
use Rattle.path_checker.specs.declared.judge_plan.happened.Happened.TheVariants as lent
use Rattle.path_checker.specs.declared.judge_plan.happened.Ended.{Ended}
use Rattle.path_checker.specs.declared.judge_plan.happened.Ended.TheVariants as ends
use Rattle.suit_commands.specs.Tree.{CommandTree, Test, Act, Index, Override, TryEach, RunSequence, SequenceTree, NoSteps, StepThen}
use Rattle.path_checker.specs.Happening.{event_of, after_end, sets_at, command_sets, sequence_sets}
use Rattle.std.specs.Prelude.{◌↔◌, slice_get}
use Rattle.path_checker.specs.Exploring.{In}
use Rattle.path_checker.specs.Matches.{Match, match_of, matches_from}
use Rattle.path_checker.specs.declared.judge_plan.standing.StandingMatches.{StandingMatches}
use Rattle.path_checker.specs.Standing.{held_of, Gains, Loses, SameHeld, Stands, StandsAfter}

-- ---- a match stands after one more event that does not end it

stays : (events : List Event) (e : Event) (c : ℕ) (d : Digest) (s : Option ℕ) → (WritesTo c e → ⊥) → HasMatched events c d s → HasMatched (events ++ e ∷ []) c d s
stays events e c d s quiet h = HasMatched-append events (e ∷ []) c d s (quiet, tt) h

-- ---- what a list of them becomes

pub stands_none : (standing : StandingMatches) → ((component : ℕ) → held_of standing component ≡ []) → Stands standing []
stands_none standing none c d s = (λ h. absurd (subst (λ (xs : List Match). In (d, s) xs) (none c) h), λ h. absurd (never h.before h.since h.is))
  where
    never : (before since : List Event) → [] ≡ before ++ Matched c d s ∷ since → ⊥
    never [] since is = absurd cc
    never (x ∷ before) since is = absurd cc

-- where an event is a match, it is this one
abbrev IsOne : ℕ → Match → Event → Type 0
IsOne component one (Matched c d s) = (c ≡ component) × ((d, s) ≡ one)
IsOne component one _ = Unit {0}

pub after_match : (standing after : StandingMatches) (c : ℕ) (d : Digest) (s : Option ℕ) → Gains standing c (d, s) after → StandsAfter standing (Matched c d s) after
after_match standing after c d s gains events stand c' d' s' = (
  λ h. elim ((gains c' (d', s')).0 h) [
    | inl p ↦ subst (λ (k : ℕ). HasMatched (events ++ Matched c d s ∷ []) k d' s') (sym p.0)
        (subst (λ (m : Match). HasMatched (events ++ Matched c d s ∷ []) c m.0 m.1) (sym p.1) (match_stands events c d s))
    | inr b ↦ stays events (Matched c d s) c' d' s' (λ n. n) ((stand c' d' s').0 b)
  ],
  λ h. elim (matched_after events (Matched c d s) c' d' s' h) [
    | inl is ↦ (gains c' (d', s')).1 (inl (subst (IsOne c (d, s)) is (refl, refl)))
    | inr b ↦ (gains c' (d', s')).1 (inr ((stand c' d' s').1 b.0))
  ],
)

pub after_write : (standing after : StandingMatches) (c : ℕ) → Loses standing c after → StandsAfter standing (Wrote c) after
after_write standing after c loses events stand c' d' s' = (
  λ h. let x = (loses c' (d', s')).0 h in stays events (Wrote c) c' d' s' (λ w. x.0 (sym w)) ((stand c' d' s').0 x.1),
  λ h. elim (matched_after events (Wrote c) c' d' s' h) [
    | inl is ↦ absurd cc
    | inr b ↦ (loses c' (d', s')).1 (λ e. b.1 (sym e), (stand c' d' s').1 b.0)
  ],
)

-- the matches that stand after a swap
pub stands_swap : (standing between after : StandingMatches) (events : List Event) (c s : ℕ) → Loses standing c between → Loses between s after → Stands standing events → Stands after (events ++ Wrote c ∷ Wrote s ∷ [])
stands_swap standing between after events c s one two stand =
    subst (Stands after) (append_assoc events (Wrote c ∷ []) (Wrote s ∷ []))
    (after_write between after s two (events ++ Wrote c ∷ []) (after_write standing between c one events stand))

-- an event that neither matches nor writes
abbrev IsPlain : Event → Type 0
IsPlain e = (c : ℕ) (d : Digest) (s : Option ℕ) → (e ≡ Matched c d s → ⊥) × (WritesTo c e → ⊥)

after_plain : (matches : StandingMatches) (e : Event) → IsPlain e → StandsAfter matches e matches
after_plain matches e plain events stand c d s = (
  λ h. stays events e c d s (plain c d s).1 ((stand c d s).0 h),
  λ h. elim (matched_after events e c d s h) [
    | inl is ↦ absurd ((plain c d s).0 is)
    | inr h ↦ (stand c d s).1 h.0
  ],
)

-- ---- the matches that stand after what happened

pub stands_matched : (standing after : StandingMatches) (happened : Happened) (c : ℕ) (own : Bor LentMatch) → happened ≡ lent.Matched c own → Gains standing c (match_of own.now) after → StandsAfter standing (event_of happened) after
stands_matched standing after happened c own is gains =
    subst (λ (h : Happened). StandsAfter standing (event_of h) after) (sym is) (after_match standing after c (match_of own.now).0 (match_of own.now).1 gains)

pub stands_wrote : (standing after : StandingMatches) (happened : Happened) (c : ℕ) → happened ≡ lent.Wrote c → Loses standing c after → StandsAfter standing (event_of happened) after
stands_wrote standing after happened c is loses =
    subst (λ (h : Happened). StandsAfter standing (event_of h) after) (sym is) (after_write standing after c loses)

pub stands_other : (standing : StandingMatches) (happened : Happened) → ((c : ℕ) (own : Bor LentMatch) → happened ≡ lent.Matched c own → ⊥) → ((c : ℕ) → happened ≡ lent.Wrote c → ⊥) → StandsAfter standing (event_of happened) standing
stands_other standing (lent.Tried c kind passed) no_match no_write = after_plain standing (event_of (lent.Tried c kind passed)) (λ c' d' s'. (λ is. absurd cc, λ w. w))
stands_other standing (lent.Matched c own) no_match no_write = absurd (no_match c own refl)
stands_other standing (lent.Missed c) no_match no_write = after_plain standing (event_of (lent.Missed c)) (λ c' d' s'. (λ is. absurd cc, λ w. w))
stands_other standing (lent.Wrote c) no_match no_write = absurd (no_write c refl)
stands_other standing (lent.Covered c own) no_match no_write = after_plain standing (event_of (lent.Covered c own)) (λ c' d' s'. (λ is. absurd cc, λ w. w))
stands_other standing (lent.Uncovered c digest size) no_match no_write = after_plain standing (event_of (lent.Uncovered c digest size)) (λ c' d' s'. (λ is. absurd cc, λ w. w))
stands_other standing (lent.Failed place) no_match no_write = after_plain standing (event_of (lent.Failed place)) (λ c' d' s'. (λ is. absurd cc, λ w. w))

-- ---- overrides

-- the matches that stand after an override at one component
pub stands_set : (matches : StandingMatches) (events : List Event) (c : ℕ) (list : List Param) → Stands matches events → Stands matches (events ++ set_events c list)
stands_set matches events c [] stand = subst (Stands matches) (sym (append-nil events)) stand
stands_set matches events c (param ∷ list) stand =
    let one : Stands matches (events ++ Set c param ∷ []) = after_plain matches (Set c param) (λ c' d' s'. (λ is. absurd cc, λ w. w)) events stand in
    subst (Stands matches) (append_assoc events (Set c param ∷ []) (set_events c list)) (stands_set matches (events ++ Set c param ∷ []) c list one)

-- the matches that stand after an override at some components
pub stands_sets : (matches : StandingMatches) (events : List Event) (cs : List ℕ) (list : List Param) → Stands matches events → Stands matches (events ++ sets_at cs list)
stands_sets matches events [] list stand = subst (Stands matches) (sym (append-nil events)) stand
stands_sets matches events (c ∷ cs) list stand =
    subst (Stands matches) (append_assoc events (set_events c list) (sets_at cs list)) (stands_sets matches (events ++ set_events c list) cs list (stands_set matches events c list stand))

-- the matches that stand after several overrides in a row
stands_command : (matches : StandingMatches) (events : List Event) (command : CommandTree) (cs : List ℕ) → Stands matches events → Stands matches (events ++ command_sets command cs)
stands_command matches events (Override list) cs stand = stands_sets matches events cs list stand
stands_command matches events (Test kind report) cs stand = subst (Stands matches) (sym (append-nil events)) stand
stands_command matches events (Act kind report) cs stand = subst (Stands matches) (sym (append-nil events)) stand
stands_command matches events (Index selection) cs stand = subst (Stands matches) (sym (append-nil events)) stand
stands_command matches events (TryEach _) cs stand = subst (Stands matches) (sym (append-nil events)) stand
stands_command matches events (RunSequence inner) cs stand = subst (Stands matches) (sym (append-nil events)) stand

pub stands_sequence : (matches : StandingMatches) (events : List Event) (s : SequenceTree) (cs : List ℕ) → Stands matches events → Stands matches (events ++ sequence_sets s cs)
stands_sequence matches events NoSteps cs stand = subst (Stands matches) (sym (append-nil events)) stand
stands_sequence matches events (StepThen place command rest) cs stand =
    subst (Stands matches) (append_assoc events (command_sets command cs) (sequence_sets rest cs)) (stands_sequence matches (events ++ command_sets command cs) rest cs (stands_command matches events command cs stand))

-- ---- where the same matches are held

pub stands_same : (one other : StandingMatches) (events : List Event) → other.of.items ≡ one.of.items → Stands one events → Stands other events
stands_same one other events same stand c d s = subst (λ (of : List (List Match)). In (d, s) (matches_from (slice_get of c)) ↔ HasMatched events c d s) (sym same) (stand c d s)

pub same_standing : (one other : StandingMatches) (events more : List Event) → Stands one events → Stands other more → ((component : ℕ) → SameHeld one other component) → SameMatches events more
same_standing one other events more a b same c d s =
    (λ h. (b c d s).0 ((same c (d, s)).0 ((a c d s).1 h)), λ h. (a c d s).0 ((same c (d, s)).1 ((b c d s).1 h)))

-- ---- an end by a failed condition ends no match

same_plain : (events : List Event) (e : Event) → IsPlain e → SameMatches (events ++ e ∷ []) events
same_plain events e plain c d s = (
  λ h. elim (matched_after events e c d s h) [
    | inl is ↦ absurd ((plain c d s).0 is)
    | inr x ↦ x.0
  ],
  λ h. stays events e c d s (plain c d s).1 h,
)

same_two : (events : List Event) (e f : Event) → IsPlain e → IsPlain f → SameMatches (events ++ e ∷ f ∷ []) events
same_two events e f one two =
    subst (λ (es : List Event). SameMatches es events) (append_assoc events (e ∷ []) (f ∷ []))
    (same_trans ((events ++ e ∷ []) ++ f ∷ []) (events ++ e ∷ []) events (same_plain (events ++ e ∷ []) f two) (same_plain events e one))

same_end : (events : List Event) (ended : Ended) (place : ℕ) → SameMatches (after_end events ended place) events
same_end events (ends.Tried c kind) place = same_two events (Tried c kind false) (Failed place) (λ c' d' s'. (λ is. absurd cc, λ w. w)) (λ c' d' s'. (λ is. absurd cc, λ w. w))
same_end events (ends.Missed c) place = same_two events (Missed c) (Failed place) (λ c' d' s'. (λ is. absurd cc, λ w. w)) (λ c' d' s'. (λ is. absurd cc, λ w. w))
same_end events ends.Exhausted place = same_matches events

pub same_ends : (events others : List Event) (ended other : Ended) (place away : ℕ) → SameMatches events others → SameMatches (after_end events ended place) (after_end others other away)
same_ends events others ended other place away same =
    same_trans (after_end events ended place) events (after_end others other away) (same_end events ended place)
    (same_trans events others (after_end others other away) same (λ c d s. let x = same_end others other away c d s in (x.1, x.0)))
