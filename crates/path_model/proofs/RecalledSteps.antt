-- Matches among events, and what free steps tell.
use Rattle.std.proofs.Common.{◌≡◌, ℕ, Bool, true, false, List, [], ◌∷◌, ◌++◌, Option, Some, None, refl, sym, ap, subst, ◌∙◌, append_assoc, inl, inr}
use Rattle.std.specs.Prelude.{option_map, IsSome}
use Rattle.std.specs.List.{AllByRecursion}
use Rattle.std.proofs.lemmas.Bool.{true≢false}
use Rattle.std.proofs.lemmas.List.{append-nil}
use Rattle.suit_params.specs.declared.digest.Digest.{Digest}
use Rattle.suit_params.specs.declared.param.Param.{Param}
use Rattle.suit_params.specs.declared.param.ParamKey.TheVariants as keys
use Rattle.suit_params.specs.InForce.{in_force, number_of, bytes_of, digest_in, size_in}
use Rattle.suit_commands.specs.declared.kinds.TestKind.{TestKind}
use Rattle.suit_commands.specs.declared.kinds.TestKind.TheVariants as tests
use Rattle.suit_commands.specs.declared.kinds.ActKind.{ActKind}
use Rattle.suit_commands.specs.declared.kinds.ActKind.TheVariants as acts
use Rattle.path_model.specs.declared.event.Event.{Event}
use Rattle.path_model.specs.declared.event.Event.TheVariants.{Set, Tried, Matched, Missed, Wrote, Invoked, Failed}
use Rattle.path_model.specs.declared.cause.Cause.{Cause}
use Rattle.path_model.specs.Behaviour.{State}
use Rattle.path_model.specs.Directives.{set_events}
use Rattle.path_model.specs.Safe.{HasMatched, IsCovered}
use Rattle.path_model.specs.Following.{CoveredFrom}
use Rattle.path_model.specs.OneRun.{FreeStep, MatchStep, ContentStep, WriteStep, SwapStep, InvokeStep, passed_told, failed_told}
use Rattle.path_model.specs.Settings.{Setting}
use Rattle.path_model.specs.Plays.{Outcome}
use Rattle.path_model.specs.DevicePlays.{Device, content_at, first_device, comparing, tested, unread, matched, is_content, condition_play, Change, Made, Refused, concluded, filled, fetching, copied, swapped, acted, ActIsCut, WriteLeaves, FetchLeaves, SwapLeaves, directive_play}
use Rattle.path_model.specs.RecalledPlays.{free_test, free_act}
use Rattle.path_model.specs.KeepingPlays.{IsDone}
use Rattle.path_model.specs.RecalledSafety.{StepWrites, AreAsMatched}
use Rattle.path_model.proofs.Coverage.{parts_covered}
use Rattle.path_model.proofs.CoverLaws.{matched_after, match_stands}
use Rattle.path_model.proofs.Covering.{HasMatched-append, IsQuiet}
use Rattle.path_model.proofs.DeviceLaws.{conditions_leave}
use Rattle.path_model.proofs.DeviceLeads.{tested_world}
use Rattle.path_model.proofs.Vouching.{Vouches, IsNoMatch, no_set, no_tried, no_missed, no_wrote, no_invoked, no_failed}

-- ---- matches among events

-- each match that stands after these events stands after the others
abbrev pub Within : List Event → List Event → Type 0
Within p q = (c : ℕ) (d : Digest) (s : Option ℕ) → HasMatched p c d s → HasMatched q c d s

one_more : (p q : List Event) (e : Event) → Within p q → Within (p ++ e ∷ []) (q ++ e ∷ [])
one_more p q e f c d s h = elim (matched_after p e c d s h) [
  | inl is ↦ subst (λ (x : Event). HasMatched (q ++ x ∷ []) c d s) (sym is) (match_stands q c d s)
  | inr stood ↦ HasMatched-append q (e ∷ []) c d s (stood.1, tt) (f c d s stood.0)
]

pub carried : (es p q : List Event) → Within p q → Within (p ++ es) (q ++ es)
carried [] p q f c d s h = subst (λ (xs : List Event). HasMatched xs c d s) (sym (append-nil q)) (f c d s (subst (λ (xs : List Event). HasMatched xs c d s) (append-nil p) h))
carried (e ∷ es) p q f c d s h =
    subst (λ (xs : List Event). HasMatched xs c d s) (append_assoc q (e ∷ []) es)
    (carried es (p ++ e ∷ []) (q ++ e ∷ []) (one_more p q e f) c d s (subst (λ (xs : List Event). HasMatched xs c d s) (sym (append_assoc p (e ∷ []) es)) h))

abbrev pub NoMatches : List Event → Type 0
NoMatches es = AllByRecursion IsNoMatch es

pub standing : (es past : List Event) → NoMatches es → (c : ℕ) (d : Digest) (s : Option ℕ) → HasMatched (past ++ es) c d s → HasMatched past c d s × IsQuiet c es
unfolding IsNoMatch
standing [] past none c d s h = (subst (λ (xs : List Event). HasMatched xs c d s) (append-nil past) h, tt)
standing (e ∷ es) past none c d s h =
    let r = standing es (past ++ e ∷ []) none.1 c d s (subst (λ (xs : List Event). HasMatched xs c d s) (sym (append_assoc past (e ∷ []) es)) h) in
    elim (matched_after past e c d s r.0) [ inl is ↦ absurd (none.0 c d s is) | inr stood ↦ (stood.0, (stood.1, r.1)) ]

pub sets_match_nothing : (c : ℕ) (list : List Param) → NoMatches (set_events c list)
sets_match_nothing c [] = tt
sets_match_nothing c (p ∷ list) = (no_set c p, sets_match_nothing c list)

one_covered : (e : Event) (p q : List Event) → Within p q → IsCovered p e → IsCovered q e
one_covered (Set c x) p q f h = tt
one_covered (Tried c kind passed) p q f h = tt
one_covered (Matched c d s) p q f h = tt
one_covered (Missed c) p q f h = tt
one_covered (Wrote c) p q f h = tt
one_covered (Invoked c None s passed) p q f h = h
one_covered (Invoked c (Some d) s passed) p q f h = f c d s h
one_covered (Failed place) p q f h = tt

covered_within : (es p q : List Event) → Within p q → CoveredFrom p es → CoveredFrom q es
covered_within [] p q f h = tt
covered_within (e ∷ es) p q f h = (one_covered e p q f h.0, covered_within es (p ++ e ∷ []) (q ++ e ∷ []) (one_more p q e f) h.1)

pub fewer : (p q : List Event) (d : Device) → Within p q → Vouches q d → Vouches p d
fewer p q d f v = record { matches = λ c digest s h. v.matches c digest s (f c digest s h); launches = v.launches }

-- ---- what a free step tells begins with its writes

abbrev pub writes_of : FreeStep → List Event
writes_of (MatchStep c p digest size) = []
writes_of (ContentStep c p) = []
writes_of (WriteStep c p) = Wrote c ∷ []
writes_of (SwapStep c source p) = Wrote c ∷ Wrote source ∷ []
writes_of (InvokeStep c p digest size) = []

abbrev pub Tells : FreeStep → List Event → Type 0
Tells step es = (rest : List Event) × (es ≡ writes_of step ++ rest)

writes_match_nothing : (step : FreeStep) → NoMatches (writes_of step)
writes_match_nothing (MatchStep c p digest size) = tt
writes_match_nothing (ContentStep c p) = tt
writes_match_nothing (WriteStep c p) = (no_wrote c, tt)
writes_match_nothing (SwapStep c source p) = (no_wrote c, (no_wrote source, tt))
writes_match_nothing (InvokeStep c p digest size) = tt

writes_covered : (step : FreeStep) (q : List Event) → CoveredFrom q (writes_of step)
writes_covered (MatchStep c p digest size) q = tt
writes_covered (ContentStep c p) q = tt
writes_covered (WriteStep c p) q = (tt, tt)
writes_covered (SwapStep c source p) q = (tt, (tt, tt))
writes_covered (InvokeStep c p digest size) q = tt

-- a component that these do not write is not written by the step
unwritten : (step : FreeStep) (c : ℕ) → IsQuiet c (writes_of step) → StepWrites step c → ⊥
unwritten (MatchStep k p digest size) c quiet writes = writes
unwritten (ContentStep k p) c quiet writes = writes
unwritten (WriteStep k p) c quiet writes = quiet.0 (sym writes)
unwritten (SwapStep k source p) c quiet writes = elim writes [ inl is ↦ quiet.0 (sym is) | inr is ↦ quiet.1.0 (sym is) ]
unwritten (InvokeStep k p digest size) c quiet writes = writes

passed_tells : (step : FreeStep) → Tells step (passed_told step)
passed_tells (MatchStep c p digest size) = (Matched c digest size ∷ [], refl)
passed_tells (ContentStep c p) = (Tried c tests.CheckContent true ∷ [], refl)
passed_tells (WriteStep c p) = ([], refl)
passed_tells (SwapStep c source p) = ([], refl)
passed_tells (InvokeStep c p digest size) = (Invoked c digest size true ∷ [], refl)

pub failed_tells : (step : FreeStep) → Tells step (failed_told step)
failed_tells (MatchStep c p digest size) = (Missed c ∷ Failed p ∷ [], refl)
failed_tells (ContentStep c p) = (Tried c tests.CheckContent false ∷ Failed p ∷ [], refl)
failed_tells (WriteStep c p) = (Failed p ∷ [], refl)
failed_tells (SwapStep c source p) = (Failed p ∷ [], refl)
failed_tells (InvokeStep c p digest size) = (Invoked c digest size false ∷ Failed p ∷ [], refl)

tells_as : (step : FreeStep) (es others : List Event) → es ≡ others → Tells step others → Tells step es
tells_as step es others is (rest, tells) = (rest, is ∙ tells)

-- ---- the first step that is not recalled

module _ (past : List Event) (step : FreeStep) where
  twice : Within (past ++ writes_of step) ((past ++ writes_of step) ++ writes_of step)
  twice c d s h = HasMatched-append (past ++ writes_of step) (writes_of step) c d s (standing (writes_of step) past (writes_match_nothing step) c d s h).1 h

  repeated : (es : List Event) → Tells step es → Within (past ++ es) ((past ++ writes_of step) ++ es)
  repeated es (rest, is) =
      let ws : List Event = writes_of step in
      subst (λ (xs : List Event). Within (past ++ xs) ((past ++ ws) ++ xs)) (sym is)
      (subst (λ (xs : List Event). Within xs ((past ++ ws) ++ (ws ++ rest))) (append_assoc past ws rest)
      (subst (λ (xs : List Event). Within ((past ++ ws) ++ rest) xs) (append_assoc (past ++ ws) ws rest) (carried rest (past ++ ws) ((past ++ ws) ++ ws) twice)))

  covered_again : (es : List Event) → Tells step es → CoveredFrom past es → CoveredFrom (past ++ writes_of step) es
  covered_again es (rest, is) covered =
      let ws : List Event = writes_of step in
      let behind = ((parts_covered past ws rest).0 (subst (λ (xs : List Event). CoveredFrom past xs) is covered)).1 in
      subst (λ (xs : List Event). CoveredFrom (past ++ ws) xs) (sym is)
      ((parts_covered (past ++ ws) ws rest).1 (writes_covered step (past ++ ws), covered_within rest (past ++ ws) ((past ++ ws) ++ ws) twice behind))

  module _ (contents : List (List ℕ)) (told : List Event) (within : Within past told) where
    vouches_written : AreAsMatched told (Some step) contents → Vouches (past ++ writes_of step) (first_device contents)
    vouches_written right = record {
      matches = λ c d s h. let stood = standing (writes_of step) past (writes_match_nothing step) c d s h in right c d s (within c d s stood.0) (unwritten step c stood.1);
      launches = tt;
    }

    -- a content that the step writes need not be as it was matched
    pub vouches_behind : (es : List Event) (e : Device) → Tells step es → CoveredFrom past es
        → ((q : List Event) → Vouches q (first_device contents) → CoveredFrom q es → Vouches (q ++ es) e)
        → AreAsMatched told (Some step) contents → Vouches (past ++ es) e
    vouches_behind es e tells covered done right =
        fewer (past ++ es) ((past ++ writes_of step) ++ es) e (repeated es tells)
        (done (past ++ writes_of step) (vouches_written right) (covered_again es tells covered))

-- ---- a directive that was done, and told what a failure does

failed_match_nothing : (step : FreeStep) → NoMatches (failed_told step)
failed_match_nothing (MatchStep c p digest size) = (no_missed c, (no_failed p, tt))
failed_match_nothing (ContentStep c p) = (no_tried c tests.CheckContent false, (no_failed p, tt))
failed_match_nothing (WriteStep c p) = (no_wrote c, (no_failed p, tt))
failed_match_nothing (SwapStep c source p) = (no_wrote c, (no_wrote source, (no_failed p, tt)))
failed_match_nothing (InvokeStep c p digest size) = (no_invoked c digest size false, (no_failed p, tt))

passed_quiet : (step : FreeStep) (c : ℕ) → IsQuiet c (failed_told step) → IsQuiet c (passed_told step)
passed_quiet (MatchStep k p digest size) c quiet = (λ writes. writes, tt)
passed_quiet (ContentStep k p) c quiet = (λ writes. writes, tt)
passed_quiet (WriteStep k p) c quiet = (quiet.0, tt)
passed_quiet (SwapStep k source p) c quiet = (quiet.0, (quiet.1.0, tt))
passed_quiet (InvokeStep k p digest size) c quiet = (λ writes. writes, tt)

either_covered : (q : List Event) (c : ℕ) (digest : Option Digest) (size : Option ℕ) → IsCovered q (Invoked c digest size false) → IsCovered q (Invoked c digest size true)
either_covered q c None size h = h
either_covered q c (Some d) size h = h

passed_covered : (step : FreeStep) (q : List Event) → CoveredFrom q (failed_told step) → CoveredFrom q (passed_told step)
passed_covered (MatchStep c p digest size) q h = (tt, tt)
passed_covered (ContentStep c p) q h = (tt, tt)
passed_covered (WriteStep c p) q h = (tt, tt)
passed_covered (SwapStep c source p) q h = (tt, (tt, tt))
passed_covered (InvokeStep c p digest size) q h = (either_covered q c digest size h.0, tt)

late_within : (step : FreeStep) (q : List Event) → Within (q ++ failed_told step) (q ++ passed_told step)
late_within step q c d s h =
    let stood = standing (failed_told step) q (failed_match_nothing step) c d s h in
    HasMatched-append q (passed_told step) c d s (passed_quiet step c stood.1) stood.0

pub vouches_late : (step : FreeStep) (q : List Event) (e : Device) → CoveredFrom q (failed_told step) → (CoveredFrom q (passed_told step) → Vouches (q ++ passed_told step) e) → Vouches (q ++ failed_told step) e
vouches_late step q e covered done = fewer (q ++ failed_told step) (q ++ passed_told step) e (late_within step q) (done (passed_covered step q covered))

-- ---- each step on the device

-- one that is not free matches nothing and leaves the device, and no fault falls in it
abbrev pub DoneTells : Device → Outcome Device → Option FreeStep → Type 0
DoneTells d o None = NoMatches o.events × (o.world ≡ d)
DoneTells d o (Some step) = Tells step o.events

abbrev pub CutTells : Type 0 → Outcome Device → Option FreeStep → Type 0
CutTells IsCut o None = IsCut → ⊥
CutTells IsCut o (Some step) = IsCut → Tells step o.events

tested_match_nothing : (p : ℕ) (passed failed : Event) (s : State) (d : Device) (b : Bool) → IsNoMatch passed → IsNoMatch failed → NoMatches (tested p passed failed s d b).events
tested_match_nothing p passed failed s d true one other = (one, tt)
tested_match_nothing p passed failed s d false one other = (other, (no_failed p, tt))

compared_tells : (p : ℕ) (kind : TestKind) (c : ℕ) (holds : State → Bool) (s : State) (d : Device) → DoneTells d ((comparing p kind c holds).comes s d) None
compared_tells p kind c holds s d = (
  tested_match_nothing p (Tried c kind true) (Tried c kind false) s d (holds s) (no_tried c kind true) (no_tried c kind false),
  tested_world p (Tried c kind true) (Tried c kind false) s d (holds s),
)

matched_tells : (p c : ℕ) (size : Option ℕ) (s : State) (d : Device) (o : Option Digest) → (matched p c size s d o).world ≡ d → DoneTells d (matched p c size s d o) (option_map (λ digest. MatchStep c p digest size) o)
matched_tells p c size s d None same = ((no_missed c, (no_failed p, tt)), same)
matched_tells p c size s d (Some digest) same = ((matched p c size s d (Some digest)).events, refl)

checked_tells : (p c : ℕ) (s : State) (d : Device) (o : Option (List ℕ)) → let done = tested p (Tried c tests.CheckContent true) (Tried c tests.CheckContent false) s d (is_content o (content_at d c)) in
    done.world ≡ d → DoneTells d done (option_map (λ content. ContentStep c p) o)
checked_tells p c s d None same = (tested_match_nothing p (Tried c tests.CheckContent true) (Tried c tests.CheckContent false) s d false (no_tried c tests.CheckContent true) (no_tried c tests.CheckContent false), same)
checked_tells p c s d (Some content) same = ((tested p (Tried c tests.CheckContent true) (Tried c tests.CheckContent false) s d (is_content (Some content) (content_at d c))).events, refl)

pub test_tells : (setting : Setting) (kind : TestKind) (p c : ℕ) (s : State) (d : Device) → DoneTells d ((condition_play setting kind p c).comes s d) (free_test kind p c s)
test_tells setting tests.Vendor p c = compared_tells p tests.Vendor c _
test_tells setting tests.Class p c = compared_tells p tests.Class c _
test_tells setting tests.Device p c = compared_tells p tests.Device c _
test_tells setting tests.Slot p c = compared_tells p tests.Slot c _
test_tells setting tests.ImageMatch p c = λ s d. matched_tells p c (size_in s.parameters c) s d (digest_in s.parameters c) (conditions_leave setting tests.ImageMatch p c s d)
test_tells setting tests.CheckContent p c = λ s d. checked_tells p c s d (bytes_of (in_force s.parameters c keys.Content)) (conditions_leave setting tests.CheckContent p c s d)
test_tells setting tests.Abort p c = compared_tells p tests.Abort c (λ s. false)

match_cut : (p c : ℕ) (size : Option ℕ) (d : Device) (o : Outcome Device) (digest : Option Digest) → CutTells (IsSome digest × (o ≡ unread p d)) o (option_map (λ x. MatchStep c p x size) digest)
match_cut p c size d o None = λ cut. true≢false (sym cut.0)
match_cut p c size d o (Some x) = λ cut. (o.events, refl)

content_cut : (p c : ℕ) (d : Device) (o : Outcome Device) (content : Option (List ℕ)) → CutTells (IsSome content × (o ≡ unread p d)) o (option_map (λ x. ContentStep c p) content)
content_cut p c d o None = λ cut. true≢false (sym cut.0)
content_cut p c d o (Some x) = λ cut. (o.events, refl)

pub test_cut : (setting : Setting) (kind : TestKind) (p c : ℕ) (s : State) (d : Device) (o : Outcome Device) → CutTells ((condition_play setting kind p c).IsCut s d o) o (free_test kind p c s)
test_cut setting tests.Vendor p c s d o = λ cut. cut
test_cut setting tests.Class p c s d o = λ cut. cut
test_cut setting tests.Device p c s d o = λ cut. cut
test_cut setting tests.Slot p c s d o = λ cut. cut
test_cut setting tests.ImageMatch p c s d o = match_cut p c (size_in s.parameters c) d o (digest_in s.parameters c)
test_cut setting tests.CheckContent p c s d o = content_cut p c d o (bytes_of (in_force s.parameters c keys.Content))
test_cut setting tests.Abort p c s d o = λ cut. cut

-- a condition writes nothing
abbrev Silent : Option FreeStep → Type 0
Silent None = Unit {0}
Silent (Some step) = Tells step []

match_silent : (p c : ℕ) (size : Option ℕ) (o : Option Digest) → Silent (option_map (λ digest. MatchStep c p digest size) o)
match_silent p c size None = tt
match_silent p c size (Some digest) = ([], refl)

content_silent : (p c : ℕ) (o : Option (List ℕ)) → Silent (option_map (λ content. ContentStep c p) o)
content_silent p c None = tt
content_silent p c (Some content) = ([], refl)

any_silent : (kind : TestKind) (p c : ℕ) (s : State) → Silent (free_test kind p c s)
any_silent tests.Vendor p c s = tt
any_silent tests.Class p c s = tt
any_silent tests.Device p c s = tt
any_silent tests.Slot p c s = tt
any_silent tests.ImageMatch p c s = match_silent p c (size_in s.parameters c) (digest_in s.parameters c)
any_silent tests.CheckContent p c s = content_silent p c (bytes_of (in_force s.parameters c keys.Content))
any_silent tests.Abort p c s = tt

pub test_silent : (kind : TestKind) (p c : ℕ) (s : State) (step : FreeStep) → free_test kind p c s ≡ Some step → Tells step []
test_silent kind p c s step is = subst Silent is (any_silent kind p c s)

-- where it was done it told so
abbrev pub LateTells : Outcome Device → Option FreeStep → Type 0
LateTells o None = Unit {0}
LateTells o (Some step) = IsDone o.ending → o.events ≡ passed_told step

module _ {A : Type 0} (p : ℕ) (told : A → List Event) (makes : A → Device → Change) (Leaves : A → Cause → Device → Device → Type 0) (step : A → FreeStep)
    (passes : (a : A) → told a ≡ passed_told (step a)) (fails : (a : A) → told a ++ Failed p ∷ [] ≡ failed_told (step a)) (s : State) (d : Device) where
  concluded_tells : (a : A) (change : Change) → Tells (step a) (concluded p (told a) s change).events
  concluded_tells a (Made e) = tells_as (step a) (told a) (passed_told (step a)) (passes a) (passed_tells (step a))
  concluded_tells a (Refused cause e) = tells_as (step a) (told a ++ Failed p ∷ []) (failed_told (step a)) (fails a) (failed_tells (step a))

  acted_tells : (o : Option A) → DoneTells d (acted p told makes s d o) (option_map step o)
  acted_tells None = ((no_failed p, tt), refl)
  acted_tells (Some a) = concluded_tells a (makes a d)

  acted_cut : (o : Outcome Device) (wanted : Option A) → CutTells (ActIsCut p told Leaves s d o wanted) o (option_map step wanted)
  acted_cut o None = λ cut. cut
  acted_cut o (Some a) = λ (cause, e, leaves, is).
      tells_as (step a) o.events (failed_told (step a)) (ap (λ (x : Outcome Device). x.events) is ∙ fails a) (failed_tells (step a))

  concluded_late : (a : A) (change : Change) → IsDone (concluded p (told a) s change).ending → (concluded p (told a) s change).events ≡ passed_told (step a)
  concluded_late a (Made e) done = passes a
  concluded_late a (Refused cause e) done = absurd done

  acted_late : (o : Option A) → LateTells (acted p told makes s d o) (option_map step o)
  acted_late None = tt
  acted_late (Some a) = concluded_late a (makes a d)

module _ (setting : Setting) (p c : ℕ) (s : State) (d : Device) where
  pub act_tells : (kind : ActKind) → DoneTells d ((directive_play setting kind p c).comes s d) (free_act kind p c s)
  act_tells acts.Write = acted_tells p (λ (content : List ℕ). Wrote c ∷ []) (filled setting c) (λ content. WriteLeaves setting c) (λ content. WriteStep c p) (λ content. refl) (λ content. refl) s d (bytes_of (in_force s.parameters c keys.Content))
  act_tells acts.Fetch = acted_tells p (λ (uri : List ℕ). Wrote c ∷ []) (fetching setting c) (λ uri. FetchLeaves setting uri c) (λ uri. WriteStep c p) (λ uri. refl) (λ uri. refl) s d (bytes_of (in_force s.parameters c keys.Uri))
  act_tells acts.Copy = acted_tells p (λ (source : ℕ). Wrote c ∷ []) (copied setting c) (λ source. WriteLeaves setting c) (λ source. WriteStep c p) (λ source. refl) (λ source. refl) s d (number_of (in_force s.parameters c keys.Source))
  act_tells acts.Swap = acted_tells p (λ (source : ℕ). Wrote c ∷ Wrote source ∷ []) (swapped setting c) (λ source. SwapLeaves setting c source) (λ source. SwapStep c source p) (λ source. refl) (λ source. refl) s d (number_of (in_force s.parameters c keys.Source))
  act_tells acts.Invoke = (Invoked c (digest_in s.parameters c) (size_in s.parameters c) true ∷ [], refl)

  pub act_cut : (kind : ActKind) (o : Outcome Device) → CutTells ((directive_play setting kind p c).IsCut s d o) o (free_act kind p c s)
  act_cut acts.Write o = acted_cut p (λ (content : List ℕ). Wrote c ∷ []) (filled setting c) (λ content. WriteLeaves setting c) (λ content. WriteStep c p) (λ content. refl) (λ content. refl) s d o (bytes_of (in_force s.parameters c keys.Content))
  act_cut acts.Fetch o = acted_cut p (λ (uri : List ℕ). Wrote c ∷ []) (fetching setting c) (λ uri. FetchLeaves setting uri c) (λ uri. WriteStep c p) (λ uri. refl) (λ uri. refl) s d o (bytes_of (in_force s.parameters c keys.Uri))
  act_cut acts.Copy o = acted_cut p (λ (source : ℕ). Wrote c ∷ []) (copied setting c) (λ source. WriteLeaves setting c) (λ source. WriteStep c p) (λ source. refl) (λ source. refl) s d o (number_of (in_force s.parameters c keys.Source))
  act_cut acts.Swap o = acted_cut p (λ (source : ℕ). Wrote c ∷ Wrote source ∷ []) (swapped setting c) (λ source. SwapLeaves setting c source) (λ source. SwapStep c source p) (λ source. refl) (λ source. refl) s d o (number_of (in_force s.parameters c keys.Source))
  act_cut acts.Invoke o = λ cut. (o.events, refl)

  pub act_late : (kind : ActKind) → LateTells ((directive_play setting kind p c).comes s d) (free_act kind p c s)
  act_late acts.Write = acted_late p (λ (content : List ℕ). Wrote c ∷ []) (filled setting c) (λ content. WriteLeaves setting c) (λ content. WriteStep c p) (λ content. refl) (λ content. refl) s d (bytes_of (in_force s.parameters c keys.Content))
  act_late acts.Fetch = acted_late p (λ (uri : List ℕ). Wrote c ∷ []) (fetching setting c) (λ uri. FetchLeaves setting uri c) (λ uri. WriteStep c p) (λ uri. refl) (λ uri. refl) s d (bytes_of (in_force s.parameters c keys.Uri))
  act_late acts.Copy = acted_late p (λ (source : ℕ). Wrote c ∷ []) (copied setting c) (λ source. WriteLeaves setting c) (λ source. WriteStep c p) (λ source. refl) (λ source. refl) s d (number_of (in_force s.parameters c keys.Source))
  act_late acts.Swap = acted_late p (λ (source : ℕ). Wrote c ∷ Wrote source ∷ []) (swapped setting c) (λ source. SwapLeaves setting c source) (λ source. SwapStep c source p) (λ source. refl) (λ source. refl) s d (number_of (in_force s.parameters c keys.Source))
  act_late acts.Invoke = λ done. refl
