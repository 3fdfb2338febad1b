-- One path, from where it is.
use Rattle.std.proofs.Common.{◌≡◌, ℕ, ◌+◌, ◌<◌, Bool, true, false, List, [], ◌∷◌, ◌++◌, Option, Some, None, length, get_or, drop, refl, sym, ap, ◌∙◌, subst, inl, inr}
use Rattle.std.proofs.lemmas.List.{drop_more}
use Rattle.suit_params.specs.declared.digest.Digest.{Digest}
use Rattle.suit_params.specs.declared.param.ParamKey.TheVariants as keys
use Rattle.suit_params.specs.InForce.{Parameters, in_force, bytes_of, digest_in, size_in}
use Rattle.suit_commands.specs.declared.command.Step.{Step}
use Rattle.suit_commands.specs.declared.kinds.TestKind.{TestKind}
use Rattle.suit_commands.specs.declared.kinds.TestKind.TheVariants as tests
use Rattle.suit_commands.specs.Tree.{CommandTree, SequenceTree}
use Rattle.suit_commands.specs.View.{sequence_tree, command_tree}
use Rattle.path_model.specs.declared.identity.Identity.{Identity}
use Rattle.path_model.specs.declared.event.Event.{Event}
use Rattle.path_model.specs.declared.event.Event.TheVariants.{Tried, Missed, Failed}
use Rattle.path_model.specs.Behaviour.{State, Ending, Done, Condition, Directive, IsFailure}
use Rattle.path_model.specs.CommandLaws.{IsOnIdentity}
use Rattle.path_model.specs.Conditions.{Matches, ChecksContent}
use Rattle.path_model.specs.Runs.{entry_state, after_run, after_branch, FailsSoftly}
use Rattle.path_model.specs.Following.{CoveredFrom}
use Rattle.path_model.proofs.Following.{joined, CoveredFrom-joined}
use Rattle.path_checker.specs.declared.judge_plan.facts.Knowledge.{Knowledge}
use Rattle.path_checker.specs.declared.judge_plan.facts.Own.{Own}
use Rattle.path_checker.specs.declared.judge_plan.facts.Fork.TheVariants as forks
use Rattle.path_checker.specs.declared.judge_plan.halt.Halt.{Halt}
use Rattle.path_checker.specs.declared.judge_plan.turn.Turn.{Turn}
use Rattle.path_checker.specs.declared.judge_plan.turn.Turn.TheVariants as turns
use Rattle.path_checker.specs.Exploring.{Course, In, Kept, Stopped, Failures, after_stops, Reaches, Leads, Adds, Uncovered, Uncovers}
use Rattle.path_checker.specs.Forking.{Forks}
use Rattle.path_checker.specs.Halting.{Halts}
use Rattle.path_checker.specs.Inner.{entered, all_entered, left, resumed, exhausted_at, restarted}
use Rattle.path_checker.specs.Rests.{Later, OfPart, RunsRest, RunsThen}
use Rattle.path_checker.specs.Spelling.{Fails, Comes, IsAfter}
use Rattle.path_checker.specs.Steps.{At, knowing, stopped_by, AtEach, TestsAt, RunsAll}
use Rattle.path_checker.specs.Wanting.{wanted_by, TestsOwn}
use Rattle.path_checker.proofs.Branching.{at-one, failing_course, Explores-exhausted}
use Rattle.path_checker.proofs.Carrying.{nothing_course, Explores-nothing}
use Rattle.path_checker.proofs.ConditionLeaves.{missed_by, tests_own, Adds-has_not, Adds-either}
use Rattle.path_checker.proofs.Exploring.{then_course}
use Rattle.path_checker.proofs.Going.{GoesOn-halts}
use Rattle.path_checker.proofs.InnerSequences.{inner_course, Leads-outer}
use Rattle.path_checker.proofs.Keeping.{all_kept-all}
use Rattle.path_checker.proofs.Leaves.{Same}
use Rattle.path_checker.proofs.OneBranch.{branch_course}
use Rattle.path_checker.proofs.Passing.{none_yet}
use Rattle.path_checker.proofs.Trying.{GoesOn-part}
use Rattle.path_checker.proofs.Uncovering.{Uncovered-then, Uncovers-first, Uncovers-branch}
use Rattle.path_checker.proofs.Walking.{Halts-lift, does_course, rest-is}

-- ---- one behaviour, and then another

leads-first : (first second : Course) (from : List Kept) (facts : List Knowledge) (events : List Event) (e : Ending) → IsFailure e → Leads first from facts events e → Leads (then_course first second) from facts events e
leads-first first second from facts events e over (k, i, l) = (k, i, record { since = l.since; parts = l.parts; covered = l.covered; count = l.count; path = λ ids al. let x = l.path ids al in (x.0, inl (over, x.1)) })

leads-then : (first second : Course) (from : List Kept) (to : Kept) (facts : List Knowledge) (events : List Event) (e : Ending) → Leads first from to.facts to.events (Done to.state) → Leads second (to ∷ []) facts events e → Leads (then_course first second) from facts events e
leads-then first second from to facts events e l (k, inr n, r) = absurd n
leads-then first second from to facts events e (m, i, l) (k, inl p, r) =
    let x : Reaches second to facts events e = subst (λ (y : Kept). Reaches second y facts events e) (sym p) r in (
      m,
      i,
      record {
        since = l.since ++ x.since;
        parts = joined m.events to.events l.since x.since events l.parts x.parts;
        covered = CoveredFrom-joined m.events to.events l.since x.since l.parts l.covered x.covered;
        count = x.count ∙ l.count;
        path = λ ids al. let y = x.path ids al in let z = l.path ids y.0 in (z.0, inr (to.state, l.since, x.since, refl, z.1, y.1));
      },
    )

uncovers-then : (first second : Course) (from : List Kept) (to : Kept) (facts : List Knowledge) (events : List Event) → Leads first from to.facts to.events (Done to.state) → Uncovers second (to ∷ []) facts events → Uncovers (then_course first second) from facts events
uncovers-then first second from to facts events l (k, inr n, u) = absurd n
uncovers-then first second from to facts events (m, i, l) (k, inl p, u) =
    let x : Uncovered second to facts events = subst (λ (y : Kept). Uncovered second y facts events) (sym p) u in
    (m, i, Uncovered-then first second (then_course first second) m to (Done to.state) facts events (λ ids es fs place q r. inr (to.state, es, fs, refl, q, r)) l x)

-- ---- the rest, from where the path is

pub record Follows (whole : Course) (from : List Kept) (rest : Course) (now : Kept) : Type 0 where
  pub leads : (facts : List Knowledge) (events : List Event) (e : Ending) → Leads rest (now ∷ []) facts events e → Leads whole from facts events e
  pub uncovers : (facts : List Knowledge) (events : List Event) → Uncovers rest (now ∷ []) facts events → Uncovers whole from facts events

pub Follows-end : (whole : Course) (from : List Kept) (now : Kept) → Follows whole from nothing_course now → Comes whole from (turns.On now)
Follows-end whole from now f = f.leads now.facts now.events (Done now.state) ((Explores-nothing (now ∷ [])).reached now (inl refl))

module _ (whole first second : Course) (from : List Kept) (now : Kept) (f : Follows whole from (then_course first second) now) where
  pub Follows-on : (to : Kept) → Comes first (now ∷ []) (turns.On to) → Follows whole from second to
  Follows-on to l = record {
    leads = λ facts events e x. f.leads facts events e (leads-then first second (now ∷ []) to facts events e l x);
    uncovers = λ facts events u. f.uncovers facts events (uncovers-then first second (now ∷ []) to facts events l u);
  }

  pub Follows-over : (stop : Stopped) → Fails first (now ∷ []) stop → Fails whole from stop
  Follows-over stop l = f.leads stop.facts stop.events (Condition stop.place stop.soft_failure) (leads-first first second (now ∷ []) stop.facts stop.events (Condition stop.place stop.soft_failure) tt l)

  pub Follows-halts : (h : Halt) → Halts first (now ∷ []) h → Halts whole from h
  Follows-halts h u = Halts-lift first whole (now ∷ []) from (λ facts events x. f.uncovers facts events (Uncovers-first first second (now ∷ []) facts events x)) h u

-- ---- one step after another

module _ (steps : List Step) (i count : ℕ) (step : Step) (lt : i < length steps) (is : step ≡ get_or steps i step) (whole : Course) (from : List Kept) (now : Kept) (f : Follows whole from (RunsAll (sequence_tree (drop i steps)) count) now) where
  abbrev step_first : Course
  step_first = does_course (command_tree step.command) count step.place

  abbrev step_rest : Course
  step_rest = RunsAll (sequence_tree (drop (i + 1) steps)) count

  parted : Follows whole from (then_course step_first step_rest) now
  parted =
      subst (λ (s : Step). Follows whole from (then_course (does_course (command_tree s.command) count s.place) step_rest) now) (sym is) (subst (λ (r : Course). Follows whole from r now) (rest-is steps i count step lt) f)

  pub Step-on : (to : Kept) → Comes step_first (now ∷ []) (turns.On to) → Follows whole from step_rest to
  Step-on = Follows-on whole step_first step_rest from now parted

  pub Step-over : (stop : Stopped) → Fails step_first (now ∷ []) stop → Fails whole from stop
  Step-over = Follows-over whole step_first step_rest from now parted

  pub Step-halts : (h : Halt) → Halts step_first (now ∷ []) h → Halts whole from h
  Step-halts = Follows-halts whole step_first step_rest from now parted

-- ---- one component after another

module _ (cmd : CommandTree) (count p : ℕ) (cs : List ℕ) (i c : ℕ) (lt : i < length cs) (is : c ≡ get_or cs i c) (whole : Course) (from : List Kept) (now : Kept) (f : Follows whole from (AtEach cmd count p (drop i cs)) now) where
  abbrev at_first : Course
  at_first = At cmd count p c

  abbrev at_rest : Course
  at_rest = AtEach cmd count p (drop (i + 1) cs)

  parted_at : Follows whole from (then_course at_first at_rest) now
  parted_at =
      subst (λ (d : ℕ). Follows whole from (then_course (At cmd count p d) at_rest) now) (sym is) (subst (λ (xs : List ℕ). Follows whole from (AtEach cmd count p xs) now) (drop_more cs i c lt) f)

  pub At-on : (to : Kept) → Comes at_first (now ∷ []) (turns.On to) → Follows whole from at_rest to
  At-on = Follows-on whole at_first at_rest from now parted_at

  pub At-over : (stop : Stopped) → Fails at_first (now ∷ []) stop → Fails whole from stop
  At-over = Follows-over whole at_first at_rest from now parted_at

  pub At-halts : (h : Halt) → Halts at_first (now ∷ []) h → Halts whole from h
  At-halts = Follows-halts whole at_first at_rest from now parted_at

-- ---- the same by another course

Leads-same : (k : Kept) (a b : Course) → Same k a b → (facts : List Knowledge) (events : List Event) (e : Ending) → Leads a (k ∷ []) facts events e → Leads b (k ∷ []) facts events e
Leads-same k a b same facts events e (k', inr n, r) = absurd n
Leads-same k a b same facts events e (k', inl p, r) =
    let x : Reaches a k facts events e = subst (λ (y : Kept). Reaches a y facts events e) (sym p) r in
    (k, inl refl, record { since = x.since; parts = x.parts; covered = x.covered; count = x.count; path = λ ids al. let y = x.path ids al in (y.0, same.there ids y.0 x.since e y.1) })

pub Fails-same : (k : Kept) (a b : Course) (stop : Stopped) → Same k a b → Fails a (k ∷ []) stop → Fails b (k ∷ []) stop
Fails-same k a b stop same = Leads-same k a b same stop.facts stop.events (Condition stop.place stop.soft_failure)

pub Comes-same : (k : Kept) (a b : Course) (turn : Turn) → Same k a b → Comes a (k ∷ []) turn → Comes b (k ∷ []) turn
Comes-same k a b (turns.On to) same = Leads-same k a b same to.facts to.events (Done to.state)
Comes-same k a b (turns.Over stop) same = Fails-same k a b stop same

-- ---- conditions that fail

Fails-added : (course : Course) (from n n' : List Kept) (stop : Stopped) → Adds course from n n' none_yet (after_stops none_yet (stop ∷ [])) → Fails course from stop
Fails-added course from n n' stop a =
    let one : stop ∷ [] ≡ a.failed = sym (all_kept-all (stop ∷ [])) ∙ ap (λ (f : Failures). f.items) a.failed_is ∙ all_kept-all a.failed in
    a.explores.stopped stop (subst (In stop) one (inl refl))

pub Fails-own : (kind : TestKind) (p c : ℕ) (own : Own) (k : Kept) (stop : Stopped) → Forks k.facts c own forks.HasNot → stop ≡ missed_by kind c p k → Fails (TestsOwn kind p c (Some own)) (k ∷ []) stop
Fails-own kind p c own k stop has_not is =
    subst (Fails (TestsOwn kind p c (Some own)) (k ∷ [])) (sym is)
    (Fails-added (TestsOwn kind p c (Some own)) (k ∷ []) [] [] (missed_by kind c p k) (Adds-has_not kind p c own k [] none_yet (after_stops none_yet (missed_by kind c p k ∷ [])) has_not refl))

pub Fails-either : (kind : TestKind) (p c : ℕ) (own : Own) (k : Kept) (has has_not : List Knowledge) (stop : Stopped) → Forks k.facts c own (forks.Either has has_not) → stop ≡ missed_by kind c p (knowing k has_not) → Fails (TestsOwn kind p c (Some own)) (k ∷ []) stop
Fails-either kind p c own k has has_not stop both is =
    subst (Fails (TestsOwn kind p c (Some own)) (k ∷ [])) (sym is)
    (Fails-added (TestsOwn kind p c (Some own)) (k ∷ []) [] _ (missed_by kind c p (knowing k has_not)) (Adds-either kind p c own k has has_not [] _ none_yet (after_stops none_yet (missed_by kind c p (knowing k has_not) ∷ [])) both.0 both.1 refl refl))

-- a run from this state may have these events and fail, and none of them is an invoke
Fails-by : (course : Course) (k : Kept) (es : List Event) (p : ℕ) (stop : Stopped) → CoveredFrom k.events es → ((ids : List Identity) → course ids k.state es (Condition p k.state.soft_failure)) → stop ≡ stopped_by k es p → Fails course (k ∷ []) stop
Fails-by course k es p stop covered run is =
    subst (Fails course (k ∷ [])) (sym is) (k, inl refl, record { since = es; parts = refl; covered = covered; count = refl; path = λ ids al. (al, run ids) })

pub Fails-no_own : (kind : TestKind) (p c : ℕ) (k : Kept) (stop : Stopped) → stop ≡ missed_by kind c p k → Fails (TestsOwn kind p c None) (k ∷ []) stop
Fails-no_own kind p c k stop is = Fails-by (TestsOwn kind p c None) k (Tried c kind false ∷ Failed p ∷ []) p stop (tt, (tt, tt)) (λ ids. (refl, refl)) is

pub Fails-identity : (kind : TestKind) (p c : ℕ) (k : Kept) (ps : Parameters) (own : Option Own) (stop : Stopped) → IsOnIdentity kind → ps ≡ k.state.parameters → own ≡ wanted_by kind ps c → Fails (TestsOwn kind p c own) (k ∷ []) stop → Fails (TestsAt kind p c) (k ∷ []) stop
Fails-identity kind p c k ps own stop on same is x =
    Fails-same k (TestsOwn kind p c (wanted_by kind k.state.parameters c)) (TestsAt kind p c) stop (tests_own kind p c k on)
    (subst (λ (w : Option Own). Fails (TestsOwn kind p c w) (k ∷ []) stop) (is ∙ ap (λ (q : Parameters). wanted_by kind q c) same) x)

pub Fails-abort : (p c : ℕ) (k : Kept) (stop : Stopped) → stop ≡ missed_by tests.Abort c p k → Fails (TestsAt tests.Abort p c) (k ∷ []) stop
Fails-abort p c k stop is = Fails-by (TestsAt tests.Abort p c) k (Tried c tests.Abort false ∷ Failed p ∷ []) p stop (tt, (tt, tt)) (λ ids. (refl, refl)) is

misses : (p c : ℕ) (o : Option Digest) (s : Option ℕ) (state : State) → Matches p c o s state (Missed c ∷ Failed p ∷ []) (Condition p state.soft_failure)
misses p c None s state = (refl, refl)
misses p c (Some d) s state = inr (refl, refl)

pub Fails-match : (p c : ℕ) (k : Kept) (stop : Stopped) → stop ≡ stopped_by k (Missed c ∷ Failed p ∷ []) p → Fails (TestsAt tests.ImageMatch p c) (k ∷ []) stop
Fails-match p c k stop is =
    Fails-by (TestsAt tests.ImageMatch p c) k (Missed c ∷ Failed p ∷ []) p stop (tt, (tt, tt)) (λ ids. misses p c (digest_in k.state.parameters c) (size_in k.state.parameters c) k.state) is

differs : (p c : ℕ) (o : Option (List ℕ)) (state : State) → ChecksContent p c o state (Tried c tests.CheckContent false ∷ Failed p ∷ []) (Condition p state.soft_failure)
differs p c None state = (refl, refl)
differs p c (Some content) state = inr (refl, refl)

pub Fails-content : (p c : ℕ) (k : Kept) (stop : Stopped) → stop ≡ missed_by tests.CheckContent c p k → Fails (TestsAt tests.CheckContent p c) (k ∷ []) stop
Fails-content p c k stop is =
    Fails-by (TestsAt tests.CheckContent p c) k (Tried c tests.CheckContent false ∷ Failed p ∷ []) p stop (tt, (tt, tt)) (λ ids. differs p c (bytes_of (in_force k.state.parameters c keys.Content)) k.state) is

-- ---- run sequence

module _ (body : Course) (c : ℕ) (s : State) (k inside : Kept) (same : s ≡ k.state) (begun : inside ≡ entered k.state c false k) where
  run-begun : inside ∷ [] ≡ all_entered s c false (k ∷ [])
  run-begun = ap (λ (x : Kept). x ∷ []) begun ∙ ap (λ (t : State). entered t c false k ∷ []) (sym same)

  run-leads : (facts : List Knowledge) (events : List Event) (e : Ending) → Leads body (inside ∷ []) facts events e → Leads (inner_course body c) (k ∷ []) facts events (after_run s e)
  run-leads facts events e l = Leads-outer body (inner_course body c) s c false (k ∷ []) facts events e (after_run s e) (at-one k s same) (λ ids es r. (e, r, refl)) (subst (λ (ks : List Kept). Leads body ks facts events e) run-begun l)

  pub Run-done : (done to : Kept) → Comes body (inside ∷ []) (turns.On done) → to ≡ left s done → Comes (inner_course body c) (k ∷ []) (turns.On to)
  Run-done done to l is = subst (λ (x : Kept). Leads (inner_course body c) (k ∷ []) x.facts x.events (Done x.state)) (sym is) (run-leads done.facts done.events (Done done.state) l)

  run-failed : (stop : Stopped) (b : Bool) → stop.soft_failure ≡ b → Fails body (inside ∷ []) stop → Leads (inner_course body c) (k ∷ []) stop.facts stop.events (after_run s (Condition stop.place b))
  run-failed stop b soft l = run-leads stop.facts stop.events (Condition stop.place b) (subst (λ (x : Bool). Leads body (inside ∷ []) stop.facts stop.events (Condition stop.place x)) soft l)

  pub Run-after : (stop : Stopped) (turn : Turn) → Fails body (inside ∷ []) stop → IsAfter s stop turn → Comes (inner_course body c) (k ∷ []) turn
  Run-after stop (turns.On to) l is = subst (λ (x : Kept). Leads (inner_course body c) (k ∷ []) x.facts x.events (Done x.state)) (sym is.1) (run-failed stop true is.0 l)
  Run-after stop (turns.Over over) l is = subst (Fails (inner_course body c) (k ∷ [])) (sym is.1) (run-failed stop false is.0 l)

-- ---- try each

module _ (whole body : Course) (others : ℕ → Course) (c : ℕ) (s : State) (from : List Kept) (now inside : Kept) (same : s ≡ now.state) (begun : inside ≡ entered s c true now) (f : Follows whole from (branch_course body others c) now) where
  abbrev branch : Course
  branch = branch_course body others c

  branch-begun : inside ∷ [] ≡ all_entered s c true (now ∷ [])
  branch-begun = ap (λ (x : Kept). x ∷ []) begun

  branch-leads : (facts : List Knowledge) (events : List Event) (e : Ending) → (FailsSoftly e → ⊥) → Leads body (inside ∷ []) facts events e → Leads whole from facts events (after_branch s e)
  branch-leads facts events e stay l =
      f.leads facts events (after_branch s e)
      (Leads-outer body branch s c true (now ∷ []) facts events e (after_branch s e) (at-one now s same) (λ ids es r. inl (e, r, stay, refl)) (subst (λ (ks : List Kept). Leads body ks facts events e) branch-begun l))

  pub Branch-done : (done to : Kept) → Comes body (inside ∷ []) (turns.On done) → to ≡ left s done → Comes whole from (turns.On to)
  Branch-done done to l is = subst (λ (x : Kept). Leads whole from x.facts x.events (Done x.state)) (sym is) (branch-leads done.facts done.events (Done done.state) (λ n. n) l)

  failed-as : (stop : Stopped) (b : Bool) → stop.soft_failure ≡ b → Fails body (inside ∷ []) stop → Leads body (inside ∷ []) stop.facts stop.events (Condition stop.place b)
  failed-as stop b soft l = subst (λ (x : Bool). Leads body (inside ∷ []) stop.facts stop.events (Condition stop.place x)) soft l

  pub Branch-over : (stop over : Stopped) → Fails body (inside ∷ []) stop → IsAfter s stop (turns.Over over) → Fails whole from over
  Branch-over stop over l is = subst (Fails whole from) (sym is.1) (branch-leads stop.facts stop.events (Condition stop.place false) (λ n. n) (failed-as stop false is.0 l))

  branch-first : (stop : Stopped) → stop.soft_failure ≡ true → Fails body (inside ∷ []) stop → Reaches (λ ids t. body ids (entry_state s c true)) now stop.facts stop.events (Condition stop.place true)
  branch-first stop soft l = at (failed-as stop true soft l)
    where
      at : Leads body (inside ∷ []) stop.facts stop.events (Condition stop.place true) → Reaches (λ ids t. body ids (entry_state s c true)) now stop.facts stop.events (Condition stop.place true)
      at (k', inr n, r) = absurd n
      at (k', inl p, r) =
          let x : Reaches body (entered s c true now) stop.facts stop.events (Condition stop.place true) = subst (λ (y : Kept). Reaches body y stop.facts stop.events (Condition stop.place true)) (sym p ∙ begun) r in
          record { since = x.since; parts = x.parts; covered = x.covered; count = x.count; path = x.path }

  pub Branch-on : (stop : Stopped) (to : Kept) → Fails body (inside ∷ []) stop → IsAfter s stop (turns.On to) → Follows whole from (others c) to
  Branch-on stop to l is = record { leads = leads; uncovers = uncovers }
    where
      first : Reaches (λ ids t. body ids (entry_state s c true)) now stop.facts stop.events (Condition stop.place true)
      first = branch-first stop is.0 l

      joins : (ids : List Identity) (es fs : List Event) (e : Ending) → body ids (entry_state s c true) es (Condition stop.place true) → others c ids s fs e → branch ids now.state (es ++ fs) e
      joins ids es fs e p q = subst (λ (t : State). branch ids t (es ++ fs) e) same (inr (Condition stop.place true, es, fs, refl, p, tt, q))

      leads : (facts : List Knowledge) (events : List Event) (e : Ending) → Leads (others c) (to ∷ []) facts events e → Leads whole from facts events e
      leads facts events e (k', inr n, r) = absurd n
      leads facts events e (k', inl p, r) =
          let at : Reaches (others c) (resumed s stop) facts events e = subst (λ (y : Kept). Reaches (others c) y facts events e) (sym p ∙ is.1) r in
          f.leads facts events e (
            now,
            inl refl,
            record {
              since = first.since ++ at.since;
              parts = joined now.events stop.events first.since at.since events first.parts at.parts;
              covered = CoveredFrom-joined now.events stop.events first.since at.since first.parts first.covered at.covered;
              count = at.count ∙ first.count;
              path = λ ids al. let x = at.path ids al in let w = first.path ids x.0 in (w.0, joins ids first.since at.since e w.1 x.1);
            },
          )

      uncovers : (facts : List Knowledge) (events : List Event) → Uncovers (others c) (to ∷ []) facts events → Uncovers whole from facts events
      uncovers facts events (k', inr n, u) = absurd n
      uncovers facts events (k', inl p, u) =
          let at : Uncovered (others c) (resumed s stop) facts events = subst (λ (y : Kept). Uncovered (others c) y facts events) (sym p ∙ is.1) u in
          f.uncovers facts events (now, inl refl, Uncovered-then (λ ids t. body ids (entry_state s c true)) (others c) branch now (resumed s stop) (Condition stop.place true) facts events (λ ids es fs place q r. joins ids es fs (Directive place) q r) first at)

  pub Branch-halts : (h : Halt) → Halts body (inside ∷ []) h → Halts whole from h
  Branch-halts h u = Halts-lift body whole (inside ∷ []) from (λ facts events x. f.uncovers facts events (Uncovers-branch body others s c (now ∷ []) facts events (at-one now s same) (subst (λ (ks : List Kept). Uncovers body ks facts events) branch-begun x))) h u

-- no branch completed
pub Fails-exhausted : (whole : Course) (from : List Kept) (now : Kept) (s : State) (p : ℕ) (stop : Stopped) → s ≡ now.state → Follows whole from (failing_course p) now → stop ≡ exhausted_at s p now → Fails whole from stop
Fails-exhausted whole from now s p stop same f is =
    subst (Fails whole from) (sym is) (f.leads now.facts now.events (Condition p s.soft_failure) ((Explores-exhausted s p (now ∷ []) (at-one now s same)).stopped (exhausted_at s p now) (inl refl)))

-- ---- the parts of a procedure

module _ (sequence : SequenceTree) (behind : List Later) (count : ℕ) (k begun : Kept) (is : begun ≡ restarted k) where
  abbrev part_rest : Course
  part_rest = RunsRest (OfPart sequence ∷ behind) count

  pub Part-halts : (h : Halt) → Halts (RunsAll sequence count) (begun ∷ []) h → Halts part_rest (k ∷ []) h
  Part-halts h u =
      GoesOn-halts part_rest (RunsThen sequence behind count) (k ∷ []) (begun ∷ []) (GoesOn-part (OfPart sequence ∷ behind) behind count k sequence begun refl is) h
      (Halts-lift (RunsAll sequence count) (RunsThen sequence behind count) (begun ∷ []) (begun ∷ []) (λ facts events x. Uncovers-first (RunsAll sequence count) (RunsRest behind count) (begun ∷ []) facts events x) h u)

  pub Part-on : (to : Kept) → Comes (RunsAll sequence count) (begun ∷ []) (turns.On to) → (h : Halt) → Halts (RunsRest behind count) (to ∷ []) h → Halts part_rest (k ∷ []) h
  Part-on to l h u =
      GoesOn-halts part_rest (RunsThen sequence behind count) (k ∷ []) (begun ∷ []) (GoesOn-part (OfPart sequence ∷ behind) behind count k sequence begun refl is) h
      (Halts-lift (RunsRest behind count) (RunsThen sequence behind count) (to ∷ []) (begun ∷ []) (λ facts events x. uncovers-then (RunsAll sequence count) (RunsRest behind count) (begun ∷ []) to facts events l x) h u)
