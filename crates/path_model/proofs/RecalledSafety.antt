-- What a recalled play launches has its digest, where the contents from which it goes on are as its recalled steps
-- matched them.
use Rattle.std.proofs.Common.{◌≡◌, ℕ, Bool, true, false, List, [], ◌∷◌, ◌++◌, Option, Some, None, refl, sym, ap, subst, ◌∙◌, append_assoc, inl, inr, ◌⊎◌}
use Rattle.std.proofs.lemmas.List.{append-nil}
use Rattle.std.specs.List.{AllByRecursion}
use Rattle.suit_params.specs.declared.param.Param.{Param}
use Rattle.suit_commands.specs.declared.kinds.TestKind.{TestKind}
use Rattle.suit_commands.specs.declared.kinds.ActKind.{ActKind}
use Rattle.suit_commands.specs.Tree.{PlanTree}
use Rattle.path_model.specs.declared.event.Event.{Event}
use Rattle.path_model.specs.declared.event.Event.TheVariants.{Set}
use Rattle.path_model.specs.declared.cause.Cause.{Cause}
use Rattle.path_model.specs.Behaviour.{State, Ending, Done, Condition, Directive}
use Rattle.path_model.specs.Following.{CoveredFrom}
use Rattle.path_model.specs.OneRun.{FreeStep, passed_told}
use Rattle.path_model.specs.Path.{AreIdentities, Path, RunsPlan, first_state}
use Rattle.path_model.specs.PlayLaws.{HasItsDigest}
use Rattle.path_model.specs.Runs.{entry_state, after_run}
use Rattle.path_model.specs.Safe.{HasMatched, Safe}
use Rattle.path_model.specs.Settings.{Setting}
use Rattle.path_model.specs.Plays.{Outcome, Play, becoming, behind, going_on, NextIsCut, in_turn, overriding, exhausted, after_trying, OtherIsCut, trying_branch}
use Rattle.path_model.specs.DevicePlays.{Device, condition_play, directive_play, first_device}
use Rattle.path_model.specs.RecalledPlays.{Recalling, recalling, free_test, free_act, free_comes, recalled_test, recalled_act, step_comes}
use Rattle.path_model.specs.KeepingPlays.{CutInStep, IsLateAct, IsLateTest, StepIsCut, first_recalling, keeping_condition, keeping_directive, keeping_play}
use Rattle.path_model.specs.RecalledSafety.{AreAsMatched, GoesOnAsMatched, RecalledSafety, Remembering, free_remembered, reaching, recalled_part, remembering, remembering_condition, remembering_directive, remembering_play, step_remembered}
use Rattle.path_model.proofs.Coverage.{covered_by_standing, parts_covered}
use Rattle.path_model.proofs.CoverLaws.{nothing_matched}
use Rattle.path_model.proofs.DeviceLaws.{conditions_leave}
use Rattle.path_model.proofs.Keeping.{keeping_laws}
use Rattle.path_model.proofs.Members.{OfParts, procedure_of as procedure_of_parts}
use Rattle.path_model.proofs.MembersOfTwo.{OfBoth, procedure_of}
use Rattle.path_model.proofs.PlaysKeep.{Keeps, parts_keep}
use Rattle.path_model.proofs.RecalledSteps.{CutTells, DoneTells, LateTells, NoMatches, Tells, Within, act_cut, act_late, act_tells, carried, failed_tells, sets_match_nothing, standing, test_cut, test_silent, test_tells, vouches_behind, vouches_late}
use Rattle.path_model.proofs.Vouching.{KeepsIt, Vouches, acts_keep, no_set, quiet, tests_keep}

-- ---- behind the first step that is not recalled, all is as on a device

record Gone (past : List Event) (w : Recalling) : Type 0 where
  left : w.left ≡ []
  vouches : Vouches past w.device

gone_set : (past : List Event) (w : Recalling) (c : ℕ) (p : Param) → Gone past w → Gone (past ++ Set c p ∷ []) w
gone_set past w c p h = record { left = h.left; vouches = quiet past w.device (Set c p) (no_set c p) h.vouches }

abbrev KeepsGone : Play Recalling → Type 0
KeepsGone play = Keeps Recalling Gone gone_set play

module _ (contents : List (List ℕ)) where
  -- so far each free step was recalled
  record Ahead (past : List Event) (w : Remembering) : Type 0 where
    next : w.next ≡ None
    device : w.play.device ≡ first_device contents
    within : Within past w.told

  abbrev plainly : Outcome Remembering → Outcome Recalling
  plainly x = record { events = x.events; ending = x.ending; cause = x.cause; world = x.world.play }

  record StillAhead (past : List Event) (x : Outcome Remembering) (y : Outcome Recalling) : Type 0 where
    same : y ≡ plainly x
    ahead : Ahead (past ++ x.events) x.world

  -- the part that is recalled came to its end, and the play told this and left this
  record Reached (past : List Event) (x : Outcome Remembering) (es : List Event) (w : Recalling) : Type 0 where
    step : FreeStep
    next : x.world.next ≡ Some step
    place : ℕ
    stops : x.ending ≡ Directive place
    rest : List Event
    begins : es ≡ x.events ++ rest
    gone : CoveredFrom past es → AreAsMatched x.world.told (Some step) contents → Gone (past ++ es) w

  abbrev Went : List Event → Outcome Remembering → Outcome Recalling → Type 0
  Went past x y = StillAhead past x y ⊎ Reached past x y.events y.world

  record Remembers (a : Play Remembering) (b : Play Recalling) : Type 0 where
    whole : (past : List Event) (s : State) (w : Remembering) → Ahead past w → Went past (a.comes s w) (b.comes s w.play)
    cut : (past : List Event) (s : State) (w : Remembering) (o : Outcome Recalling) → Ahead past w → b.IsCut s w.play o → Reached past (a.comes s w) o.events o.world
    keeps : KeepsGone b

  -- ---- behind what was told before

  abbrev later_than : List Event → Outcome Remembering → Outcome Remembering
  later_than es x = behind Remembering es x

  ahead_behind : (past es : List Event) (x : Outcome Remembering) (y : Outcome Recalling) → StillAhead (past ++ es) x y → StillAhead past (later_than es x) (behind Recalling es y)
  ahead_behind past es x y h = record {
    same = ap (behind Recalling es) h.same;
    ahead = subst (λ (xs : List Event). Ahead xs x.world) (append_assoc past es x.events) h.ahead;
  }

  reached_behind : (past es fs : List Event) (x : Outcome Remembering) (w : Recalling) → Reached (past ++ es) x fs w → Reached past (later_than es x) (es ++ fs) w
  reached_behind past es fs x w h = record {
    step = h.step;
    next = h.next;
    place = h.place;
    stops = h.stops;
    rest = h.rest;
    begins = ap (λ (xs : List Event). es ++ xs) h.begins ∙ sym (append_assoc es x.events h.rest);
    gone = λ covered right. subst (λ (xs : List Event). Gone xs w) (append_assoc past es fs) (h.gone ((parts_covered past es fs).0 covered).1 right);
  }

  went_behind : (past es : List Event) (x : Outcome Remembering) (y : Outcome Recalling) → Went (past ++ es) x y → Went past (later_than es x) (behind Recalling es y)
  went_behind past es x y h = elim h [
    | inl still ↦ inl (ahead_behind past es x y still)
    | inr reached ↦ inr (reached_behind past es y.events x y.world reached)
  ]

  -- a cut of what comes later
  cut_behind : (past es : List Event) (x : Outcome Remembering) (o later : Outcome Recalling) → o ≡ behind Recalling es later → Reached (past ++ es) x later.events later.world → Reached past (later_than es x) o.events o.world
  cut_behind past es x o later is h = subst (λ (y : Outcome Recalling). Reached past (later_than es x) y.events y.world) (sym is) (reached_behind past es later.events x later.world h)

  -- behind what was reached, the play tells more
  reached_more : (past es fs : List Event) (x : Outcome Remembering) (w v : Recalling) → Reached past x es w → (CoveredFrom (past ++ es) fs → Gone (past ++ es) w → Gone ((past ++ es) ++ fs) v) → Reached past x (es ++ fs) v
  reached_more past es fs x w v h goes = record {
    step = h.step;
    next = h.next;
    place = h.place;
    stops = h.stops;
    rest = h.rest ++ fs;
    begins = ap (λ (xs : List Event). xs ++ fs) h.begins ∙ append_assoc x.events h.rest fs;
    gone = λ covered right. let both = (parts_covered past es fs).0 covered in subst (λ (xs : List Event). Gone xs v) (append_assoc past es fs) (goes both.1 (h.gone both.0 right));
  }

  more_cut : (past es : List Event) (x : Outcome Remembering) (w : Recalling) (o later : Outcome Recalling) → o ≡ behind Recalling es later → Reached past x es w → (CoveredFrom (past ++ es) later.events → Gone (past ++ es) w → Gone ((past ++ es) ++ later.events) later.world)
      → Reached past x o.events o.world
  more_cut past es x w o later is h goes = subst (λ (y : Outcome Recalling). Reached past x y.events y.world) (sym is) (reached_more past es later.events x w later.world h goes)

  -- the part that is recalled ended at a directive, and nothing follows it
  reached_as : (past es : List Event) (x z : Outcome Remembering) (w : Recalling) → z ≡ x → Reached past x es w → Reached past z es w
  reached_as past es x z w is h = subst (λ (y : Outcome Remembering). Reached past y es w) (sym is) h

  ended : (next : State → Remembering → Outcome Remembering) (es : List Event) (cause : Option Cause) (w : Remembering) (e : Ending) (p : ℕ) → e ≡ Directive p
      → going_on Remembering next es cause w e ≡ record { events = es; ending = e; cause = cause; world = w }
  ended next es cause w (Done t) p is = absurd cc
  ended next es cause w (Condition q soft) p is = absurd cc
  ended next es cause w (Directive q) p is = refl

  not_tried : (s : State) (next : State → Remembering → Outcome Remembering) (es : List Event) (cause : Option Cause) (w : Remembering) (e : Ending) (p : ℕ) → e ≡ Directive p
      → after_trying Remembering s next es cause w e ≡ record { events = es; ending = e; cause = cause; world = w }
  not_tried s next es cause w (Done t) p is = absurd cc
  not_tried s next es cause w (Condition q soft) p is = absurd cc
  not_tried s next es cause w (Directive q) p is = refl

  -- ---- parts together

  module _ (b : Play Remembering) (y : Play Recalling) (g : Remembers b y) (past : List Event) where
    goes : (es : List Event) (c : Option Cause) (w : Remembering) (e : Ending) → Ahead (past ++ es) w → Went past (going_on Remembering b.comes es c w e) (going_on Recalling y.comes es c w.play e)
    goes es c w (Done t) h = went_behind past es (b.comes t w) (y.comes t w.play) (g.whole (past ++ es) t w h)
    goes es c w (Condition p soft) h = inl (record { same = refl; ahead = h })
    goes es c w (Directive p) h = inl (record { same = refl; ahead = h })

    goes_cut : (es : List Event) (c : Option Cause) (w : Remembering) (e : Ending) (o : Outcome Recalling) → Ahead (past ++ es) w → NextIsCut Recalling y.IsCut es w.play e o
        → Reached past (going_on Remembering b.comes es c w e) o.events o.world
    goes_cut es c w (Done t) o h (later, cut, is) = cut_behind past es (b.comes t w) o later is (g.cut (past ++ es) t w later h cut)
    goes_cut es c w (Condition p soft) o h cut = absurd cut
    goes_cut es c w (Directive p) o h cut = absurd cut

    goes_on : (x : Outcome Remembering) (es : List Event) (c : Option Cause) (w : Recalling) (e : Ending) → Reached past x es w → let o = going_on Recalling y.comes es c w e in Reached past x o.events o.world
    goes_on x es c w (Done t) h = let later = y.comes t w in
        reached_more past es later.events x w later.world h (λ covered gone. g.keeps.whole (past ++ es) t w gone covered)
    goes_on x es c w (Condition p soft) h = h
    goes_on x es c w (Directive p) h = h

    goes_on_cut : (x : Outcome Remembering) (es : List Event) (w : Recalling) (e : Ending) (o : Outcome Recalling) → Reached past x es w → NextIsCut Recalling y.IsCut es w e o → Reached past x o.events o.world
    goes_on_cut x es w (Done t) o h (later, cut, is) = more_cut past es x w o later is h (λ covered gone. g.keeps.cut (past ++ es) t w later cut gone covered)
    goes_on_cut x es w (Condition p soft) o h cut = absurd cut
    goes_on_cut x es w (Directive p) o h cut = absurd cut

    tries : (s : State) (es : List Event) (c : Option Cause) (w : Remembering) (e : Ending) → Ahead (past ++ es) w → Went past (after_trying Remembering s b.comes es c w e) (after_trying Recalling s y.comes es c w.play e)
    tries s es c w (Condition p true) h = went_behind past es (b.comes s w) (y.comes s w.play) (g.whole (past ++ es) s w h)
    tries s es c w (Condition p false) h = inl (record { same = refl; ahead = h })
    tries s es c w (Done t) h = inl (record { same = refl; ahead = h })
    tries s es c w (Directive p) h = inl (record { same = refl; ahead = h })

    tries_cut : (s : State) (es : List Event) (c : Option Cause) (w : Remembering) (e : Ending) (o : Outcome Recalling) → Ahead (past ++ es) w → OtherIsCut Recalling s y.IsCut es w.play e o
        → Reached past (after_trying Remembering s b.comes es c w e) o.events o.world
    tries_cut s es c w (Condition p true) o h (later, cut, is) = cut_behind past es (b.comes s w) o later is (g.cut (past ++ es) s w later h cut)
    tries_cut s es c w (Condition p false) o h cut = absurd cut
    tries_cut s es c w (Done t) o h cut = absurd cut
    tries_cut s es c w (Directive p) o h cut = absurd cut

    tries_on : (x : Outcome Remembering) (s : State) (es : List Event) (c : Option Cause) (w : Recalling) (e : Ending) → Reached past x es w → let o = after_trying Recalling s y.comes es c w e in Reached past x o.events o.world
    tries_on x s es c w (Condition p true) h = let later = y.comes s w in
        reached_more past es later.events x w later.world h (λ covered gone. g.keeps.whole (past ++ es) s w gone covered)
    tries_on x s es c w (Condition p false) h = h
    tries_on x s es c w (Done t) h = h
    tries_on x s es c w (Directive p) h = h

    tries_on_cut : (x : Outcome Remembering) (s : State) (es : List Event) (w : Recalling) (e : Ending) (o : Outcome Recalling) → Reached past x es w → OtherIsCut Recalling s y.IsCut es w e o → Reached past x o.events o.world
    tries_on_cut x s es w (Condition p true) o h (later, cut, is) = more_cut past es x w o later is h (λ covered gone. g.keeps.cut (past ++ es) s w later cut gone covered)
    tries_on_cut x s es w (Condition p false) o h cut = absurd cut
    tries_on_cut x s es w (Done t) o h cut = absurd cut
    tries_on_cut x s es w (Directive p) o h cut = absurd cut

  -- one play behind another
  module _ (a b : Play Remembering) (x y : Play Recalling) (f : Remembers a x) (g : Remembers b y) (past : List Event) (s : State) (w : Remembering) (h : Ahead past w) where
    turn_stopped : (es : List Event) (v : Recalling) → let p = a.comes s w in Reached past p es v → Reached past (going_on Remembering b.comes p.events p.cause p.world p.ending) es v
    turn_stopped es v reached = let p = a.comes s w in
        reached_as past es p (going_on Remembering b.comes p.events p.cause p.world p.ending) v (ended b.comes p.events p.cause p.world p.ending reached.place reached.stops) reached

    turn_whole : Went past ((in_turn Remembering a b).comes s w) ((in_turn Recalling x y).comes s w.play)
    turn_whole = let p = a.comes s w in let q = x.comes s w.play in elim (f.whole past s w h) [
      | inl still ↦ subst (λ (o : Outcome Recalling). Went past (going_on Remembering b.comes p.events p.cause p.world p.ending) (going_on Recalling y.comes o.events o.cause o.world o.ending)) (sym still.same)
          (goes b y g past p.events p.cause p.world p.ending still.ahead)
      | inr reached ↦ let o = going_on Recalling y.comes q.events q.cause q.world q.ending in
          inr (turn_stopped o.events o.world (goes_on b y g past p q.events q.cause q.world q.ending reached))
    ]

    turn_cut : (o : Outcome Recalling) → (in_turn Recalling x y).IsCut s w.play o → Reached past ((in_turn Remembering a b).comes s w) o.events o.world
    turn_cut o cut = let p = a.comes s w in let q = x.comes s w.play in elim cut [
      | inl now ↦ turn_stopped o.events o.world (f.cut past s w o h now)
      | inr later ↦ elim (f.whole past s w h) [
        | inl still ↦ goes_cut b y g past p.events p.cause p.world p.ending o still.ahead (subst (λ (r : Outcome Recalling). NextIsCut Recalling y.IsCut r.events r.world r.ending o) still.same later)
        | inr reached ↦ turn_stopped o.events o.world (goes_on_cut b y g past p q.events q.world q.ending o reached later)
      ]
    ]

  -- a branch before others
  module _ (a b : Play Remembering) (x y : Play Recalling) (f : Remembers a x) (g : Remembers b y) (c : ℕ) (past : List Event) (s : State) (w : Remembering) (h : Ahead past w) where
    branch_stopped : (es : List Event) (v : Recalling) → let p = a.comes (entry_state s c true) w in Reached past p es v → Reached past (after_trying Remembering s b.comes p.events p.cause p.world p.ending) es v
    branch_stopped es v reached = let p = a.comes (entry_state s c true) w in
        reached_as past es p (after_trying Remembering s b.comes p.events p.cause p.world p.ending) v (not_tried s b.comes p.events p.cause p.world p.ending reached.place reached.stops) reached

    branch_whole : Went past ((trying_branch Remembering a b c).comes s w) ((trying_branch Recalling x y c).comes s w.play)
    branch_whole = let t = entry_state s c true in let p = a.comes t w in let q = x.comes t w.play in elim (f.whole past t w h) [
      | inl still ↦ subst (λ (o : Outcome Recalling). Went past (after_trying Remembering s b.comes p.events p.cause p.world p.ending) (after_trying Recalling s y.comes o.events o.cause o.world o.ending)) (sym still.same)
          (tries b y g past s p.events p.cause p.world p.ending still.ahead)
      | inr reached ↦ let o = after_trying Recalling s y.comes q.events q.cause q.world q.ending in
          inr (branch_stopped o.events o.world (tries_on b y g past p s q.events q.cause q.world q.ending reached))
    ]

    branch_cut : (o : Outcome Recalling) → (trying_branch Recalling x y c).IsCut s w.play o → Reached past ((trying_branch Remembering a b c).comes s w) o.events o.world
    branch_cut o cut = let t = entry_state s c true in let p = a.comes t w in let q = x.comes t w.play in elim cut [
      | inl now ↦ branch_stopped o.events o.world (f.cut past t w o h now)
      | inr later ↦ elim (f.whole past t w h) [
        | inl still ↦ tries_cut b y g past s p.events p.cause p.world p.ending o still.ahead (subst (λ (r : Outcome Recalling). OtherIsCut Recalling s y.IsCut r.events r.world r.ending o) still.same later)
        | inr reached ↦ branch_stopped o.events o.world (tries_on_cut b y g past p s q.events q.world q.ending o reached later)
      ]
    ]

  -- an inner sequence that was run
  module _ (s : State) (past : List Event) (x : Outcome Remembering) where
    abbrev run_after : Outcome Remembering
    run_after = record { events = x.events; ending = after_run s x.ending; cause = x.cause; world = x.world }

    run_reached : (es : List Event) (w : Recalling) → Reached past x es w → Reached past run_after es w
    run_reached es w h = record { step = h.step; next = h.next; place = h.place; stops = ap (after_run s) h.stops; rest = h.rest; begins = h.begins; gone = h.gone }

    run_went : (y : Outcome Recalling) → Went past x y → Went past run_after (record { events = y.events; ending = after_run s y.ending; cause = y.cause; world = y.world })
    run_went y h = elim h [
      | inl still ↦ inl (record { same = ap (λ (o : Outcome Recalling). record { events = o.events; ending = after_run s o.ending; cause = o.cause; world = o.world }) still.same; ahead = still.ahead })
      | inr reached ↦ inr (run_reached y.events y.world reached)
    ]

  -- events that match nothing
  ahead_still : (past es : List Event) (w : Remembering) → NoMatches es → Ahead past w → Ahead (past ++ es) w
  ahead_still past es w none h = record { next = h.next; device = h.device; within = λ c d s stood. h.within c d s (standing es past none c d s stood).0 }

  quietly : (a : Play Remembering) (b : Play Recalling) → ((s : State) (w : Remembering) → b.comes s w.play ≡ plainly (a.comes s w)) → ((s : State) (w : Remembering) → (a.comes s w).world ≡ w)
      → ((s : State) (w : Remembering) → NoMatches (a.comes s w).events) → ((s : State) (w : Recalling) (o : Outcome Recalling) → b.IsCut s w o → ⊥) → KeepsGone b → Remembers a b
  quietly a b same stays none uncut keeps = record {
    whole = λ past s w h. inl (record {
      same = same s w;
      ahead = subst (λ (v : Remembering). Ahead (past ++ (a.comes s w).events) v) (sym (stays s w)) (ahead_still past (a.comes s w).events w (none s w) h);
    });
    cut = λ past s w o h cut. absurd (uncut s w.play o cut);
    keeps = keeps;
  }

  parts : OfBoth Remembering Recalling Remembers
  parts = let kept = parts_keep Recalling Gone gone_set in record {
    silent = λ next. quietly (becoming Remembering (λ s. []) next) (becoming Recalling (λ s. []) next) (λ s w. refl) (λ s w. refl) (λ s w. tt) (λ s w o cut. cut) (kept.silent next);
    override = λ list c. quietly (overriding Remembering list c) (overriding Recalling list c) (λ s w. refl) (λ s w. refl) (λ s w. sets_match_nothing c list) (λ s w o cut. cut) (kept.override list c);
    none_left = λ p. quietly (exhausted Remembering p) (exhausted Recalling p) (λ s w. refl) (λ s w. refl) (λ s w. tt) (λ s w o cut. cut) (kept.none_left p);
    turn = λ a b x y f g. record { whole = turn_whole a b x y f g; cut = λ past s w o h. turn_cut a b x y f g past s w h o; keeps = kept.turn x y f.keeps g.keeps };
    moved = λ a x from f. record {
      whole = λ past s w. (f s).whole past (from s) w;
      cut = λ past s w o. (f s).cut past (from s) w o;
      keeps = kept.moved x from (λ s. (f s).keeps);
    };
    inner = λ a x f c. record {
      whole = λ past s w h. let t = entry_state s c false in run_went s past (a.comes t w) (x.comes t w.play) (f.whole past t w h);
      cut = λ past s w o h cut. let t = entry_state s c false in run_reached s past (a.comes t w) o.events o.world (f.cut past t w o h cut);
      keeps = kept.inner x f.keeps c;
    };
    branch = λ a b x y f g c. record { whole = branch_whole a b x y f g c; cut = λ past s w o h. branch_cut a b x y f g c past s w h o; keeps = kept.branch x y f.keeps g.keeps c };
  }

  -- ---- one step

  -- the outcome of a step that was done could not be kept
  record KeptLate (step : FreeStep) (d : Device) (o : Outcome Recalling) : Type 0 where
    tells : Tells step o.events
    left : o.world.left ≡ []
    vouches : (q : List Event) → Vouches q d → CoveredFrom q o.events → Vouches (q ++ o.events) o.world.device

  module _ (plain : Play Device) (keep : KeepsIt plain) (p : ℕ) (recalled : State → FreeStep → Bool → Recalling → Outcome Recalling) (free : State → Option FreeStep)
      (IsLate : Recalling → Outcome Device → FreeStep → Outcome Recalling → Type 0)
      (stays : (s : State) (step : FreeStep) (b : Bool) (after : Recalling) → (recalled s step b after).world ≡ after)
      (done_tells : (s : State) (d : Device) → DoneTells d (plain.comes s d) (free s))
      (cut_tells : (s : State) (d : Device) (o : Outcome Device) → CutTells (plain.IsCut s d o) o (free s))
      (late_keeps : (s : State) (w : Recalling) (step : FreeStep) (o : Outcome Recalling) → free s ≡ Some step → IsLate w (plain.comes s w.device) step o → KeptLate step w.device o) where
    abbrev kept_step : Play Recalling
    kept_step = record {
      comes = λ s w. step_comes (recalled s) (plain.comes s w.device) w (free s);
      IsCut = λ s w o. StepIsCut (plain.IsCut s w.device) (IsLate w (plain.comes s w.device)) w o (free s);
    }

    abbrev remembered_step : Play Remembering
    remembered_step = record {
      comes = λ s w. step_remembered p w (kept_step.comes s w.play) (free s);
      IsCut = λ s w o. ⊥;
    }

    module _ (past : List Event) (s : State) where
      abbrev done : Device → Outcome Device
      done d = plain.comes s d

      abbrev Kept : Outcome Recalling → Type 0
      Kept o = CoveredFrom past o.events → Gone (past ++ o.events) o.world

      left_gone : (step : FreeStep) (left kept : List Bool) (d : Device) → Gone past (recalling left kept d) → Kept (free_comes (recalled s) (done d) step left kept d)
      left_gone step [] kept d h covered = record { left = refl; vouches = keep.whole past s d h.vouches covered }
      left_gone step (b ∷ left) kept d h covered = absurd (some h.left)
        where
          some : b ∷ left ≡ [] → ⊥
          some is = absurd cc

      step_gone : (f : Option FreeStep) (w : Recalling) → Gone past w → Kept (step_comes (recalled s) (done w.device) w f)
      step_gone None w h covered = record { left = h.left; vouches = keep.whole past s w.device h.vouches covered }
      step_gone (Some step) w h covered = left_gone step w.left w.kept w.device h covered

      in_step_gone : (w : Recalling) (o : Outcome Recalling) → CutInStep (plain.IsCut s w.device) w o → Gone past w → Kept o
      in_step_gone w o (cut, now, is) h =
          subst Kept (sym is) (λ covered. record { left = h.left; vouches = keep.cut past s w.device cut now h.vouches covered })

      cut_gone : (f : Option FreeStep) (w : Recalling) (o : Outcome Recalling) → ((step : FreeStep) → f ≡ Some step → IsLate w (done w.device) step o → KeptLate step w.device o)
          → StepIsCut (plain.IsCut s w.device) (IsLate w (done w.device)) w o f → Gone past w → Kept o
      cut_gone None w o late cut h = in_step_gone w o cut h
      cut_gone (Some step) w o late (none, cut) h = elim cut [
        | inl now ↦ in_step_gone w o now h
        | inr is_late ↦ let k = late step refl is_late in λ covered. record { left = k.left; vouches = k.vouches past h.vouches covered }
      ]

      abbrev at : List Bool → List Bool → Device → List Event → Option FreeStep → Remembering
      at left kept d told next = remembering (recalling left kept d) told next

      -- all was recalled: the part that is recalled ends here
      reached_here : (step : FreeStep) (kept : List Bool) (d : Device) (told : List Event) (next : Option FreeStep) (es : List Event) (v : Recalling) → Ahead past (at [] kept d told next)
          → Tells step es → v.left ≡ [] → ((q : List Event) → Vouches q d → CoveredFrom q es → Vouches (q ++ es) v.device)
          → Reached past (reaching p (at [] kept d told next) step) es v
      reached_here step kept d told next es v h tells left goes = record {
        step = step;
        next = refl;
        place = p;
        stops = refl;
        rest = es;
        begins = refl;
        gone = λ covered right. record {
          left = left;
          vouches = vouches_behind past step contents told h.within es v.device tells covered (λ q u. goes q (subst (Vouches q) (sym h.device) u)) right;
        };
      }

      free_went : (step : FreeStep) (left kept : List Bool) (d : Device) (told : List Event) (next : Option FreeStep) → Tells step (done d).events → Ahead past (at left kept d told next)
          → let o = free_comes (recalled s) (done d) step left kept d in
          Went past (free_remembered p (at left kept d told next) o step left) o
      free_went step [] kept d told next tells h = let o = free_comes (recalled s) (done d) step [] kept d in
          inr (reached_here step kept d told next o.events o.world h tells refl (λ q v k. keep.whole q s d v k))
      free_went step (b ∷ left) kept d told next tells h =
          let after = recalling left (kept ++ b ∷ []) d in
          let o = recalled s step b after in
          inl (record {
            same = refl;
            ahead = record {
              next = h.next;
              device = ap (λ (w : Recalling). w.device) (stays s step b after) ∙ h.device;
              within = carried o.events past told h.within;
            };
          })

      step_went : (f : Option FreeStep) (w : Remembering) → DoneTells w.play.device (done w.play.device) f → Ahead past w → let o = step_comes (recalled s) (done w.play.device) w.play f in
          Went past (step_remembered p w o f) o
      step_went None w tells h =
          let es = (done w.play.device).events in
          inl (record {
            same = refl;
            ahead = record { next = h.next; device = tells.1 ∙ h.device; within = λ c d k stood. h.within c d k (standing es past tells.0 c d k stood).0 };
          })
      step_went (Some step) w tells h = free_went step w.play.left w.play.kept w.play.device w.told w.next tells h

      free_cut : (step : FreeStep) (left kept : List Bool) (d : Device) (told : List Event) (next : Option FreeStep) (o x : Outcome Recalling) → Ahead past (at left kept d told next) → left ≡ []
          → (CutInStep (plain.IsCut s d) (recalling left kept d) o ⊎ IsLate (recalling left kept d) (done d) step o)
          → ((c : Outcome Device) → plain.IsCut s d c → Tells step c.events) → (IsLate (recalling left kept d) (done d) step o → KeptLate step d o)
          → Reached past (free_remembered p (at left kept d told next) x step left) o.events o.world
      free_cut step [] kept d told next o x h none cut tells late = elim cut [
        | inl (c, now, is) ↦ subst (λ (y : Outcome Recalling). Reached past (reaching p (at [] kept d told next) step) y.events y.world) (sym is)
            (reached_here step kept d told next c.events (recalling [] kept c.world) h (tells c now) refl (λ q v k. keep.cut q s d c now v k))
        | inr is_late ↦ let k = late is_late in reached_here step kept d told next o.events o.world h k.tells k.left k.vouches
      ]
      free_cut step (b ∷ left) kept d told next o x h none cut tells late = absurd (some none)
        where
          some : b ∷ left ≡ [] → ⊥
          some is = absurd cc

      step_cut : (f : Option FreeStep) (w : Remembering) (o : Outcome Recalling) → ((c : Outcome Device) → CutTells (plain.IsCut s w.play.device c) c f)
          → ((step : FreeStep) → f ≡ Some step → IsLate w.play (done w.play.device) step o → KeptLate step w.play.device o)
          → Ahead past w → StepIsCut (plain.IsCut s w.play.device) (IsLate w.play (done w.play.device)) w.play o f
          → Reached past (step_remembered p w (step_comes (recalled s) (done w.play.device) w.play f) f) o.events o.world
      step_cut None w o tells late h (c, now, is) = absurd (tells c now)
      step_cut (Some step) w o tells late h (none, cut) =
          free_cut step w.play.left w.play.kept w.play.device w.told w.next o (step_comes (recalled s) (done w.play.device) w.play (Some step)) h none cut tells (late step refl)

    step_remembers : Remembers remembered_step kept_step
    step_remembers = record {
      whole = λ past s w h. step_went past s (free s) w (done_tells s w.play.device) h;
      cut = λ past s w o h cut. step_cut past s (free s) w o (cut_tells s w.play.device) (λ step. late_keeps s w.play step o) h cut;
      keeps = record {
        whole = λ past s w h covered. step_gone past s (free s) w h covered;
        cut = λ past s w o cut h covered. cut_gone past s (free s) w o (λ step. late_keeps s w step o) cut h covered;
      };
    }

  module _ (may_fail : Bool) (setting : Setting) where
    test_stays : (p : ℕ) (s : State) (step : FreeStep) (b : Bool) (after : Recalling) → (recalled_test p step s b after).world ≡ after
    test_stays p s step true after = refl
    test_stays p s step false after = refl

    late_test : (kind : TestKind) (p c : ℕ) (s : State) (w : Recalling) (step : FreeStep) (o : Outcome Recalling) → free_test kind p c s ≡ Some step
        → IsLateTest may_fail p w ((condition_play setting kind p c).comes s w.device) step o → KeptLate step w.device o
    late_test kind p c s w step o is late =
        let same = conditions_leave setting kind p c s w.device in
        let v = (condition_play setting kind p c).comes s w.device in
        subst (KeptLate step w.device) (sym late.1) (record {
          tells = test_silent kind p c s step is;
          left = refl;
          vouches = λ q u covered. subst (λ (e : Device). Vouches (q ++ []) e) (sym same) (subst (λ (xs : List Event). Vouches xs w.device) (sym (append-nil q)) u);
        })

    conditions_remember : (kind : TestKind) (p c : ℕ) → Remembers (remembering_condition setting kind p c) (keeping_condition may_fail setting kind p c)
    conditions_remember kind p c =
        step_remembers (condition_play setting kind p c) (tests_keep setting kind p c) p (λ s step. recalled_test p step s) (free_test kind p c) (IsLateTest may_fail p) (test_stays p)
        (test_tells setting kind p c) (test_cut setting kind p c) (late_test kind p c)

    late_act : (kind : ActKind) (p c : ℕ) (s : State) (w : Recalling) (step : FreeStep) (o : Outcome Recalling) → free_act kind p c s ≡ Some step
        → IsLateAct may_fail p w ((directive_play setting kind p c).comes s w.device) step o → KeptLate step w.device o
    late_act kind p c s w step o is late =
        let v = (directive_play setting kind p c).comes s w.device in
        let told : v.events ≡ passed_told step = subst (LateTells v) is (act_late setting p c s w.device kind) late.1 in
        subst (KeptLate step w.device) (sym late.2) (record {
          tells = failed_tells step;
          left = refl;
          vouches = λ q u covered. vouches_late step q v.world covered (λ k.
              subst (λ (xs : List Event). Vouches (q ++ xs) v.world) told ((acts_keep setting kind p c).whole q s w.device u (subst (λ (xs : List Event). CoveredFrom q xs) (sym told) k)));
        })

    directives_remember : (kind : ActKind) (p c : ℕ) → Remembers (remembering_directive setting kind p c) (keeping_directive may_fail setting kind p c)
    directives_remember kind p c =
        step_remembers (directive_play setting kind p c) (acts_keep setting kind p c) p (λ s step. recalled_act p step s) (free_act kind p c) (IsLateAct may_fail p) (λ s step b after. refl)
        (λ s d. act_tells setting p c s d kind) (λ s d. act_cut setting p c s d kind) (late_act kind p c)

    plan_remembers : (plan : PlanTree) → Remembers (remembering_play plan setting) (keeping_play may_fail plan setting)
    plan_remembers plan =
        procedure_of Remembering Recalling Remembers parts (remembering_condition setting) (remembering_directive setting) (keeping_condition may_fail setting) (keeping_directive may_fail setting) plan.count
        conditions_remember directives_remember plan

-- ---- whole procedures

first_ahead : (contents : List (List ℕ)) (outcomes : List Bool) → Ahead contents [] (remembering (first_recalling outcomes contents) [] None)
first_ahead contents outcomes = record { next = refl; device = refl; within = λ c d s h. h }

-- nothing was launched before the recalled part came to its end
reached_launches : (contents : List (List ℕ)) (x : Outcome Remembering) (es : List Event) (w : Recalling) → CoveredFrom [] es → AreAsMatched x.world.told x.world.next contents → Reached contents [] x es w → AllByRecursion HasItsDigest w.device.launches
reached_launches contents x es w covered right h = (h.gone covered (subst (λ (next : Option FreeStep). AreAsMatched x.world.told next contents) h.next right)).vouches.launches

ahead_launches : (contents : List (List ℕ)) (x : Outcome Remembering) (y : Outcome Recalling) → StillAhead contents [] x y → AllByRecursion HasItsDigest y.world.device.launches
ahead_launches contents x y h =
    subst (λ (o : Outcome Recalling). AllByRecursion HasItsDigest o.world.device.launches) (sym h.same)
    (subst (λ (d : Device). AllByRecursion HasItsDigest d.launches) (sym h.ahead.device) tt)

module _ (may_fail : Bool) (plan : PlanTree) (setting : Setting) (outcomes : List Bool) (contents : List (List ℕ)) where
  abbrev start : Recalling
  start = first_recalling outcomes contents

  abbrev part : Outcome Remembering
  part = recalled_part plan setting outcomes contents

  path_covered : (events : List Event) → Safe plan → AreIdentities plan setting.identities → Path plan setting.identities events → CoveredFrom [] events
  path_covered events safe are path = (covered_by_standing events).0 (safe.covered setting.identities events are path)

  safely : Safe plan → AreIdentities plan setting.identities → GoesOnAsMatched plan setting outcomes contents → AllByRecursion HasItsDigest ((keeping_play may_fail plan setting).comes first_state start).world.device.launches
  safely safe are right =
      let o = (keeping_play may_fail plan setting).comes first_state start in
      let path : Path plan setting.identities o.events = record {
        rest = [];
        ending = o.ending;
        run = subst (λ (xs : List Event). RunsPlan plan setting.identities first_state xs o.ending) (sym (append-nil o.events)) (keeping_laws.runs may_fail plan setting start);
      } in
      elim ((plan_remembers contents may_fail setting plan).whole [] first_state (remembering start [] None) (first_ahead contents outcomes)) [
        | inl still ↦ ahead_launches contents part o still
        | inr reached ↦ reached_launches contents part o.events o.world (path_covered o.events safe are path) right reached
      ]

  faulted_safely : (o : Outcome Recalling) → (keeping_play may_fail plan setting).IsCut first_state start o → Safe plan → AreIdentities plan setting.identities → GoesOnAsMatched plan setting outcomes contents
      → AllByRecursion HasItsDigest o.world.device.launches
  faulted_safely o cut safe are right =
      reached_launches contents part o.events o.world (path_covered o.events safe are (keeping_laws.paths may_fail plan setting start o cut)) right
      ((plan_remembers contents may_fail setting plan).cut [] first_state (remembering start [] None) o (first_ahead contents outcomes) cut)

  begins_so : let o = (keeping_play may_fail plan setting).comes first_state start in (rest : List Event) × (o.events ≡ part.events ++ rest)
  begins_so = elim ((plan_remembers contents may_fail setting plan).whole [] first_state (remembering start [] None) (first_ahead contents outcomes)) [
    | inl still ↦ ([], ap (λ (o : Outcome Recalling). o.events) still.same ∙ sym (append-nil part.events))
    | inr reached ↦ (reached.rest, reached.begins)
  ]

-- ---- nothing to recall, and nothing told of recalled steps

record Empty (w : Remembering) : Type 0 where
  left : w.play.left ≡ []
  told : w.told ≡ []

record StaysEmpty (play : Play Remembering) : Type 0 where
  whole : (s : State) (w : Remembering) → Empty w → Empty (play.comes s w).world

module _ (b : Play Remembering) (g : StaysEmpty b) where
  empty_goes : (es : List Event) (c : Option Cause) (w : Remembering) (e : Ending) → Empty w → Empty (going_on Remembering b.comes es c w e).world
  empty_goes es c w (Done t) h = g.whole t w h
  empty_goes es c w (Condition p soft) h = h
  empty_goes es c w (Directive p) h = h

  empty_tries : (s : State) (es : List Event) (c : Option Cause) (w : Remembering) (e : Ending) → Empty w → Empty (after_trying Remembering s b.comes es c w e).world
  empty_tries s es c w (Condition p true) h = g.whole s w h
  empty_tries s es c w (Condition p false) h = h
  empty_tries s es c w (Done t) h = h
  empty_tries s es c w (Directive p) h = h

empty_parts : OfParts Remembering StaysEmpty
empty_parts = record {
  silent = λ next. record { whole = λ s w h. h };
  override = λ list c. record { whole = λ s w h. h };
  none_left = λ p. record { whole = λ s w h. h };
  turn = λ one after f g. record { whole = λ s w h. let o = one.comes s w in empty_goes after g o.events o.cause o.world o.ending (f.whole s w h) };
  moved = λ at from f. record { whole = λ s w. (f s).whole (from s) w };
  inner = λ body f c. record { whole = λ s w. f.whole (entry_state s c false) w };
  branch = λ body others f g c. record { whole = λ s w h. let o = body.comes (entry_state s c true) w in empty_tries others g s o.events o.cause o.world o.ending (f.whole (entry_state s c true) w h) };
}

empty_free : (p : ℕ) (w : Remembering) (o : Outcome Recalling) (step : FreeStep) (left : List Bool) → left ≡ [] → Empty w → Empty (free_remembered p w o step left).world
empty_free p w o step [] none h = record { left = h.left; told = h.told }
empty_free p w o step (b ∷ left) none h = absurd (some none)
  where
    some : b ∷ left ≡ [] → ⊥
    some is = absurd cc

empty_step : (p : ℕ) (w : Remembering) (recalled : FreeStep → Bool → Recalling → Outcome Recalling) (done : Outcome Device) (f : Option FreeStep) → Empty w → Empty (step_remembered p w (step_comes recalled done w.play f) f).world
empty_step p w recalled done None h = record { left = h.left; told = h.told }
empty_step p w recalled done (Some step) h = empty_free p w (step_comes recalled done w.play (Some step)) step w.play.left h.left h

empty_plan : (plan : PlanTree) (setting : Setting) → StaysEmpty (remembering_play plan setting)
empty_plan plan setting = procedure_of_parts Remembering StaysEmpty empty_parts (remembering_condition setting) (remembering_directive setting) plan.count
    (λ kind p c. record { whole = λ s w. empty_step p w (λ step. recalled_test p step s) ((condition_play setting kind p c).comes s w.play.device) (free_test kind p c s) })
    (λ kind p c. record { whole = λ s w. empty_step p w (λ step. recalled_act p step s) ((directive_play setting kind p c).comes s w.play.device) (free_act kind p c s) }) plan

nothing_recalled : (plan : PlanTree) (setting : Setting) (contents : List (List ℕ)) → GoesOnAsMatched plan setting [] contents
nothing_recalled plan setting contents c d s h unwritten =
    let none = ((empty_plan plan setting).whole first_state (remembering (first_recalling [] contents) [] None) (record { left = refl; told = refl })).told in
    absurd (nothing_matched c d s (subst (λ (xs : List Event). HasMatched xs c d s) none h))

pub recalled_safety : RecalledSafety
recalled_safety = record { begins = begins_so; fresh = nothing_recalled; safe = safely; faulted = faulted_safely }
