-- Every play is a run, and what is told of one that a fault cut short is what a run begins with.
use Rattle.std.proofs.Common.{◌≡◌, ℕ, true, false, List, [], ◌∷◌, ◌++◌, Option, refl, sym, ap, ◌∙◌, append_assoc, inl, inr}
use Rattle.suit_commands.specs.declared.kinds.TestKind.{TestKind}
use Rattle.suit_commands.specs.declared.kinds.ActKind.{ActKind}
use Rattle.suit_commands.specs.Tree.{CommandTree, Test, Act, Index, Override, TryEach, RunSequence, SequenceTree, NoSteps, StepThen, BranchesTree, NoBranches, BranchThen, NullThen, PlanTree}
use Rattle.path_model.specs.declared.identity.Identity.{Identity}
use Rattle.path_model.specs.declared.event.Event.{Event}
use Rattle.path_model.specs.declared.cause.Cause.{Cause}
use Rattle.path_model.specs.Behaviour.{State, Ending, Done, Condition, Directive, Behaviour, Then, Each, EachSelected}
use Rattle.path_model.specs.Conditions.{Tests}
use Rattle.path_model.specs.Directives.{Overrides, Acts}
use Rattle.path_model.specs.Runs.{entry_state, after_run, RunsInner, after_branch, TriesBranch, Runs, Does, Tries}
use Rattle.path_model.specs.Path.{start_state, Starts, RunsPlan}
use Rattle.path_model.specs.Plays.{Outcome, Play, going_on, NextIsCut, in_turn, each, each_selected, overriding, running_inner, after_trying, OtherIsCut, trying_branch, sequence_play, command_play, branches_play, starting, procedure}

-- a run begins with these events
pub record Begins (run : Behaviour) (s : State) (es : List Event) : Type 0 where
  pub rest : List Event
  pub ending : Ending
  pub is : run s (es ++ rest) ending

begins_as : (run other : Behaviour) (s t : State) (es : List Event) → ((fs : List Event) (e : Ending) → run s fs e → other t fs e) → Begins run s es → Begins other t es
begins_as run other s t es to b = record { rest = b.rest; ending = b.ending; is = to (es ++ b.rest) b.ending b.is }

module _ (World : Type 0) where
  pub record Follows (run : Behaviour) (play : Play World) : Type 0 where
    pub whole : (s : State) (w : World) → run s (play.comes s w).events (play.comes s w).ending
    pub cut : (s : State) (w : World) (o : Outcome World) → play.IsCut s w o → Begins run s o.events

  -- the same of a behaviour that holds where another does
  pub other_run : (run other : Behaviour) (play : Play World) → ((s : State) (es : List Event) (e : Ending) → run s es e → other s es e) → Follows run play → Follows other play
  other_run run other play to f = record {
    whole = λ s w. to s (play.comes s w).events (play.comes s w).ending (f.whole s w);
    cut = λ s w o cut. begins_as run other s s o.events (to s) (f.cut s w o cut);
  }

  -- ---- one after another

  module _ (first second : Behaviour) (next : Play World) (g : Follows second next) (s : State) where
    on_done : (es : List Event) (c : Option Cause) (w : World) (e : Ending) → first s es e
        → Then first second s (going_on World next.comes es c w e).events (going_on World next.comes es c w e).ending
    on_done es c w (Done t) one = inr (t, es, (next.comes t w).events, refl, one, g.whole t w)
    on_done es c w (Condition p soft) one = inl (tt, one)
    on_done es c w (Directive p) one = inl (tt, one)

    first_begins : (es rest : List Event) (w : World) (e : Ending) → first s (es ++ rest) e → Begins (Then first second) s es
    first_begins es rest w (Done t) one =
        let more : List Event = (next.comes t w).events in
        record { rest = rest ++ more; ending = (next.comes t w).ending; is = inr (t, es ++ rest, more, sym (append_assoc es rest more), one, g.whole t w) }
    first_begins es rest w (Condition p soft) one = record { rest = rest; ending = Condition p soft; is = inl (tt, one) }
    first_begins es rest w (Directive p) one = record { rest = rest; ending = Directive p; is = inl (tt, one) }

    next_begins : (es : List Event) (w : World) (e : Ending) (o : Outcome World) → first s es e → NextIsCut World next.IsCut es w e o → Begins (Then first second) s o.events
    next_begins es w (Done t) o one (later, cut, is) =
        let b = g.cut t w later cut in
        let told : o.events ++ b.rest ≡ es ++ (later.events ++ b.rest) = ap (λ (x : Outcome World). x.events ++ b.rest) is ∙ append_assoc es later.events b.rest in
        record { rest = b.rest; ending = b.ending; is = inr (t, es, later.events ++ b.rest, told, one, b.is) }
    next_begins es w (Condition p soft) o one cut = absurd cut
    next_begins es w (Directive p) o one cut = absurd cut

  pub turn_follows : (first second : Behaviour) (one next : Play World) → Follows first one → Follows second next → Follows (Then first second) (in_turn World one next)
  turn_follows first second one next f g = record {
    whole = λ s w. let o = one.comes s w in on_done first second next g s o.events o.cause o.world o.ending (f.whole s w);
    cut = λ s w o cut. elim cut [
      | inl now ↦ let b = f.cut s w o now in first_begins first second next g s o.events b.rest w b.ending b.is
      | inr later ↦ let a = one.comes s w in next_begins first second next g s a.events a.world a.ending o (f.whole s w) later
    ];
  }

  pub each_follows : (run : ℕ → Behaviour) (at : ℕ → Play World) → ((c : ℕ) → Follows (run c) (at c)) → (cs : List ℕ) → Follows (Each run cs) (each World at cs)
  each_follows run at f [] = record { whole = λ s w. (refl, refl); cut = λ s w o cut. absurd cut }
  each_follows run at f (c ∷ cs) = turn_follows (run c) (Each run cs) (at c) (each World at cs) (f c) (each_follows run at f cs)

  pub selected_follows : (run : ℕ → Behaviour) (at : ℕ → Play World) → ((c : ℕ) → Follows (run c) (at c)) → Follows (EachSelected run) (each_selected World at)
  selected_follows run at f = record {
    whole = λ s w. (each_follows run at f s.selection).whole s w;
    cut = λ s w o cut. begins_as (Each run s.selection) (EachSelected run) s s o.events (λ fs e r. r) ((each_follows run at f s.selection).cut s w o cut);
  }

  -- ---- inner sequences

  pub inner_follows : (run : Behaviour) (inner : Play World) → Follows run inner → (c : ℕ) → Follows (RunsInner run c) (running_inner World inner c)
  inner_follows run inner f c = record {
    whole = λ s w. let t = entry_state s c false in ((inner.comes t w).ending, f.whole t w, refl);
    cut = λ s w o cut. let b = f.cut (entry_state s c false) w o cut in
        record { rest = b.rest; ending = after_run s b.ending; is = (b.ending, b.is, refl) };
  }

  module _ (run : Behaviour) (others : ℕ → Behaviour) (c : ℕ) (rest : Play World) (g : Follows (others c) rest) (s : State) where
    tried : (es : List Event) (cause : Option Cause) (w : World) (e : Ending) → run (entry_state s c true) es e
        → TriesBranch run others c s (after_trying World s rest.comes es cause w e).events (after_trying World s rest.comes es cause w e).ending
    tried es cause w (Condition p true) one = inr (Condition p true, es, (rest.comes s w).events, refl, one, tt, g.whole s w)
    tried es cause w (Condition p false) one = inl (Condition p false, one, (λ x. x), refl)
    tried es cause w (Done t) one = inl (Done t, one, (λ x. x), refl)
    tried es cause w (Directive p) one = inl (Directive p, one, (λ x. x), refl)

    branch_begins : (es more : List Event) (w : World) (e : Ending) → run (entry_state s c true) (es ++ more) e → Begins (TriesBranch run others c) s es
    branch_begins es more w (Condition p true) one =
        let after : List Event = (rest.comes s w).events in
        record { rest = more ++ after; ending = (rest.comes s w).ending; is = inr (Condition p true, es ++ more, after, sym (append_assoc es more after), one, tt, g.whole s w) }
    branch_begins es more w (Condition p false) one = record { rest = more; ending = after_branch s (Condition p false); is = inl (Condition p false, one, (λ x. x), refl) }
    branch_begins es more w (Done t) one = record { rest = more; ending = after_branch s (Done t); is = inl (Done t, one, (λ x. x), refl) }
    branch_begins es more w (Directive p) one = record { rest = more; ending = after_branch s (Directive p); is = inl (Directive p, one, (λ x. x), refl) }

    other_begins : (es : List Event) (w : World) (e : Ending) (o : Outcome World) → run (entry_state s c true) es e → OtherIsCut World s rest.IsCut es w e o → Begins (TriesBranch run others c) s o.events
    other_begins es w (Condition p true) o one (later, cut, is) =
        let b = g.cut s w later cut in
        let told : o.events ++ b.rest ≡ es ++ (later.events ++ b.rest) = ap (λ (x : Outcome World). x.events ++ b.rest) is ∙ append_assoc es later.events b.rest in
        record { rest = b.rest; ending = b.ending; is = inr (Condition p true, es, later.events ++ b.rest, told, one, tt, b.is) }
    other_begins es w (Condition p false) o one cut = absurd cut
    other_begins es w (Done t) o one cut = absurd cut
    other_begins es w (Directive p) o one cut = absurd cut

  pub branch_follows : (run : Behaviour) (others : ℕ → Behaviour) (c : ℕ) (inner rest : Play World) → Follows run inner → Follows (others c) rest → Follows (TriesBranch run others c) (trying_branch World inner rest c)
  branch_follows run others c inner rest f g = record {
    whole = λ s w. let t = entry_state s c true in let o = inner.comes t w in
        tried run others c rest g s o.events o.cause o.world o.ending (f.whole t w);
    cut = λ s w o cut. let t = entry_state s c true in elim cut [
      | inl now ↦ let b = f.cut t w o now in branch_begins run others c rest g s o.events b.rest w b.ending b.is
      | inr later ↦ let a = inner.comes t w in other_begins run others c rest g s a.events a.world a.ending o (f.whole t w) later
    ];
  }

  -- ---- whole sequences

  module _ (ids : List Identity) (count : ℕ) (tests : TestKind → ℕ → ℕ → Play World) (acts : ActKind → ℕ → ℕ → Play World)
      (tests_follow : (kind : TestKind) (p c : ℕ) → Follows (Tests kind ids p c) (tests kind p c))
      (acts_follow : (kind : ActKind) (p c : ℕ) → Follows (Acts kind p c) (acts kind p c)) where
    mutual
      pub sequence_follows : (q : SequenceTree) → Follows (Runs q ids count) (sequence_play World tests acts count q)
      sequence_follows NoSteps = record { whole = λ s w. (refl, refl); cut = λ s w o cut. absurd cut }
      sequence_follows (StepThen p command rest) =
          let one : Play World = command_play World tests acts count command p in
          let next : Play World = sequence_play World tests acts count rest in
          other_run (Then (Does command ids count p) (Runs rest ids count)) (Runs (StepThen p command rest) ids count) (in_turn World one next) (λ s es e r. r)
          (turn_follows (Does command ids count p) (Runs rest ids count) one next (command_follows command p) (sequence_follows rest))

      pub command_follows : (command : CommandTree) (p : ℕ) → Follows (Does command ids count p) (command_play World tests acts count command p)
      command_follows (Test kind report) p =
          other_run (EachSelected (Tests kind ids p)) (Does (Test kind report) ids count p) (each_selected World (tests kind p)) (λ s es e r. r)
          (selected_follows (Tests kind ids p) (tests kind p) (tests_follow kind p))
      command_follows (Act kind report) p =
          other_run (EachSelected (Acts kind p)) (Does (Act kind report) ids count p) (each_selected World (acts kind p)) (λ s es e r. r)
          (selected_follows (Acts kind p) (acts kind p) (acts_follow kind p))
      command_follows (Index selection) p = record { whole = λ s w. (refl, refl); cut = λ s w o cut. absurd cut }
      command_follows (Override list) p =
          other_run (EachSelected (Overrides list)) (Does (Override list) ids count p) (each_selected World (overriding World list)) (λ s es e r. r)
          (selected_follows (Overrides list) (overriding World list) (λ c. record { whole = λ s w. (refl, refl); cut = λ s w o cut. absurd cut }))
      command_follows (TryEach branches) p =
          other_run (EachSelected (Tries branches ids count p)) (Does (TryEach branches) ids count p) (each_selected World (branches_play World tests acts count branches p)) (λ s es e r. r)
          (selected_follows (Tries branches ids count p) (branches_play World tests acts count branches p) (branches_follow branches p))
      command_follows (RunSequence inner) p =
          let body : Play World = sequence_play World tests acts count inner in
          other_run (EachSelected (RunsInner (Runs inner ids count))) (Does (RunSequence inner) ids count p) (each_selected World (running_inner World body)) (λ s es e r. r)
          (selected_follows (RunsInner (Runs inner ids count)) (running_inner World body) (inner_follows (Runs inner ids count) body (sequence_follows inner)))

      branches_follow : (branches : BranchesTree) (p c : ℕ) → Follows (Tries branches ids count p c) (branches_play World tests acts count branches p c)
      branches_follow NoBranches p c = record { whole = λ s w. (refl, refl); cut = λ s w o cut. absurd cut }
      branches_follow (NullThen rest) p c = record { whole = λ s w. (refl, refl); cut = λ s w o cut. absurd cut }
      branches_follow (BranchThen inner rest) p c =
          let body : Play World = sequence_play World tests acts count inner in
          let others : Play World = branches_play World tests acts count rest p c in
          other_run (TriesBranch (Runs inner ids count) (Tries rest ids count p) c) (Tries (BranchThen inner rest) ids count p c) (trying_branch World body others c) (λ s es e r. r)
          (branch_follows (Runs inner ids count) (Tries rest ids count p) c body others (sequence_follows inner) (branches_follow rest p c))

  -- ---- procedures

  module _ (plan : PlanTree) (ids : List Identity) (tests : TestKind → ℕ → ℕ → Play World) (acts : ActKind → ℕ → ℕ → Play World)
      (tests_follow : (kind : TestKind) (p c : ℕ) → Follows (Tests kind ids p c) (tests kind p c))
      (acts_follow : (kind : ActKind) (p c : ℕ) → Follows (Acts kind p c) (acts kind p c)) where
    starting_follows : (q : SequenceTree) → Follows (Starts q plan ids) (starting World tests acts plan.count q)
    starting_follows q =
        let f = sequence_follows ids plan.count tests acts tests_follow acts_follow q in
        record {
          whole = λ s w. f.whole (start_state s) w;
          cut = λ s w o cut. begins_as (Runs q ids plan.count) (Starts q plan ids) (start_state s) s o.events (λ fs e r. r) (f.cut (start_state s) w o cut);
        }

    pub procedure_follows : Follows (RunsPlan plan ids) (procedure World tests acts plan.count plan)
    procedure_follows =
        let run : SequenceTree → Behaviour = λ q. Starts q plan ids in
        let play : SequenceTree → Play World = λ q. starting World tests acts plan.count q in
        let f : (q : SequenceTree) → Follows (run q) (play q) = starting_follows in
        let r5 : Behaviour = Then (run plan.shared) (run plan.third) in
        let p5 : Play World = in_turn World (play plan.shared) (play plan.third) in
        let r4 : Behaviour = Then (run plan.second) r5 in
        let p4 : Play World = in_turn World (play plan.second) p5 in
        let r3 : Behaviour = Then (run plan.shared) r4 in
        let p3 : Play World = in_turn World (play plan.shared) p4 in
        let r2 : Behaviour = Then (run plan.first) r3 in
        let p2 : Play World = in_turn World (play plan.first) p3 in
        turn_follows (run plan.shared) r2 (play plan.shared) p2 (f plan.shared)
        (turn_follows (run plan.first) r3 (play plan.first) p3 (f plan.first)
        (turn_follows (run plan.shared) r4 (play plan.shared) p4 (f plan.shared)
        (turn_follows (run plan.second) r5 (play plan.second) p5 (f plan.second)
        (turn_follows (run plan.shared) (run plan.third) (play plan.shared) (play plan.third) (f plan.shared) (f plan.third)))))
