-- Sequences in which no invoke stands: no event of their runs is an invoke, and each invoke of them is covered.
use Rattle.std.proofs.Common.{◌≡◌, ℕ, true, false, List, [], ◌∷◌, ◌++◌, Option, Some, None, refl, sym, subst, inl, inr}
use Rattle.suit_params.specs.declared.param.Param.{Param}
use Rattle.suit_params.specs.declared.param.ParamKey.TheVariants as keys
use Rattle.suit_params.specs.InForce.{in_force, number_of, bytes_of}
use Rattle.suit_commands.specs.declared.kinds.TestKind.{TestKind}
use Rattle.suit_commands.specs.declared.kinds.TestKind.TheVariants as tests
use Rattle.suit_commands.specs.declared.kinds.ActKind.{ActKind}
use Rattle.suit_commands.specs.declared.kinds.ActKind.TheVariants as acts
use Rattle.suit_commands.specs.Tree.{CommandTree, Test, Act, Index, Override, TryEach, RunSequence, SequenceTree, NoSteps, StepThen, BranchesTree, NoBranches, BranchThen, NullThen}
use Rattle.path_model.specs.declared.identity.Identity.{Identity}
use Rattle.path_model.specs.declared.event.Event.{Event}
use Rattle.path_model.specs.declared.event.Event.TheVariants.{Set, Tried, Matched, Missed, Wrote, Invoked, Failed}
use Rattle.path_model.specs.Behaviour.{State, Ending, Done, Behaviour, Then, Each}
use Rattle.path_model.specs.CommandLaws.{TellsPassed, MatchTold, PassTold, failure_event}
use Rattle.path_model.specs.Conditions.{Tests}
use Rattle.path_model.specs.Directives.{set_events, Overrides, Writes, Acts}
use Rattle.path_model.specs.Following.{CoveredFrom}
use Rattle.path_model.specs.Runs.{entry_state, RunsInner, Runs, Does, Tries}
use Rattle.path_model.proofs.CommandLaws.{conditions_end}
use Rattle.path_checker.specs.Exploring.{Course, Kept}
use Rattle.path_checker.specs.Invoking.{Invokes, CommandInvokes, BranchesInvoke, IsInvoke, AreQuiet, Covers}
use Rattle.path_checker.proofs.Exploring.{then_course}

quiet-append : (a b : List Event) → AreQuiet a → AreQuiet b → AreQuiet (a ++ b)
quiet-append [] b qa qb = qb
quiet-append (e ∷ a) b qa qb = (qa.0, quiet-append a b qa.1 qb)

quiet_as : (es known : List Event) → es ≡ known → AreQuiet known → AreQuiet es
quiet_as es known is q = subst AreQuiet (sym is) q

abbrev IsQuiet : Behaviour → Type 0
IsQuiet run = (s : State) (es : List Event) (e : Ending) → run s es e → AreQuiet es

quiet-then : (first second : Behaviour) → IsQuiet first → IsQuiet second → IsQuiet (Then first second)
quiet-then first second one two s es e run =
    elim run [
      | inl (failed, alone) ↦ one s es e alone
      | inr (m, b, a, is, done, others) ↦ quiet_as es (b ++ a) is (quiet-append b a (one s b (Done m) done) (two m a e others))
    ]

-- ---- one condition or directive

passed_quiet : (kind : TestKind) (c : ℕ) (event : Event) → TellsPassed kind c event → IsInvoke event → ⊥
passed_quiet _ _ _ (MatchTold c d size) = λ n. n
passed_quiet _ _ _ (PassTold kind c other) = λ n. n

failed_quiet : (kind : TestKind) (c : ℕ) → IsInvoke (failure_event kind c) → ⊥
failed_quiet tests.Vendor c = λ n. n
failed_quiet tests.Class c = λ n. n
failed_quiet tests.Device c = λ n. n
failed_quiet tests.Slot c = λ n. n
failed_quiet tests.ImageMatch c = λ n. n
failed_quiet tests.CheckContent c = λ n. n
failed_quiet tests.Abort c = λ n. n

tests_quiet : (kind : TestKind) (ids : List Identity) (p c : ℕ) → IsQuiet (Tests kind ids p c)
tests_quiet kind ids p c s es e run =
    elim (conditions_end kind ids p c s es e run) [
      | inl end ↦ quiet_as es (end.event ∷ []) end.passed.0 (passed_quiet kind c end.event end.tells, tt)
      | inr (is, failed) ↦ quiet_as es (failure_event kind c ∷ Failed p ∷ []) is (failed_quiet kind c, (λ n. n, tt))
    ]

writes_quiet : {A : Type 0} (p : ℕ) (held : Option A) (w : A → List Event) → ((value : A) → AreQuiet (w value)) → IsQuiet (Writes p held w)
writes_quiet p None w quiet s es e (is, ended) = quiet_as es (Failed p ∷ []) is (λ n. n, tt)
writes_quiet p (Some value) w quiet s es e run =
    elim run [
      | inl (is, done) ↦ quiet_as es (w value) is (quiet value)
      | inr (is, ended) ↦ quiet_as es (w value ++ Failed p ∷ []) is (quiet-append (w value) (Failed p ∷ []) (quiet value) (λ n. n, tt))
    ]

acts_quiet : (kind : ActKind) (p c : ℕ) → (kind ≡ acts.Invoke → ⊥) → IsQuiet (Acts kind p c)
acts_quiet acts.Write p c other s es e run = writes_quiet p (bytes_of (in_force s.parameters c keys.Content)) (λ content. Wrote c ∷ []) (λ content. (λ n. n, tt)) s es e run
acts_quiet acts.Fetch p c other s es e run = writes_quiet p (bytes_of (in_force s.parameters c keys.Uri)) (λ uri. Wrote c ∷ []) (λ uri. (λ n. n, tt)) s es e run
acts_quiet acts.Copy p c other s es e run = writes_quiet p (number_of (in_force s.parameters c keys.Source)) (λ source. Wrote c ∷ []) (λ source. (λ n. n, tt)) s es e run
acts_quiet acts.Swap p c other s es e run = writes_quiet p (number_of (in_force s.parameters c keys.Source)) (λ source. Wrote c ∷ Wrote source ∷ []) (λ source. (λ n. n, (λ n. n, tt))) s es e run
acts_quiet acts.Invoke p c other s es e run = absurd (other refl)

sets_quiet : (c : ℕ) (list : List Param) → AreQuiet (set_events c list)
sets_quiet c [] = tt
sets_quiet c (param ∷ list) = (λ n. n, sets_quiet c list)

each_quiet : (at : ℕ → Behaviour) → ((c : ℕ) → IsQuiet (at c)) → (cs : List ℕ) → IsQuiet (Each at cs)
each_quiet at quiet [] s es e (none, done) = quiet_as es [] none tt
each_quiet at quiet (c ∷ cs) s es e run = quiet-then (at c) (Each at cs) (quiet c) (each_quiet at quiet cs) s es e run

-- ---- whole sequences

mutual
  pub runs_quiet : (sequence : SequenceTree) (ids : List Identity) (count : ℕ) → (Invokes sequence → ⊥) → IsQuiet (Runs sequence ids count)
  runs_quiet NoSteps ids count never s es e (none, done) = quiet_as es [] none tt
  runs_quiet (StepThen p command rest) ids count never s es e run =
      quiet-then (Does command ids count p) (Runs rest ids count) (does_quiet command ids count p (λ i. never (inl i))) (runs_quiet rest ids count (λ i. never (inr i))) s es e run

  does_quiet : (command : CommandTree) (ids : List Identity) (count p : ℕ) → (CommandInvokes command → ⊥) → IsQuiet (Does command ids count p)
  does_quiet (Test kind report) ids count p never s es e run = each_quiet (Tests kind ids p) (λ c. tests_quiet kind ids p c) s.selection s es e run
  does_quiet (Act kind report) ids count p never s es e run = each_quiet (Acts kind p) (λ c. acts_quiet kind p c never) s.selection s es e run
  does_quiet (Index selection) ids count p never s es e (none, done) = quiet_as es [] none tt
  does_quiet (Override list) ids count p never s es e run = each_quiet (Overrides list) (λ c s es e one. quiet_as es (set_events c list) one.0 (sets_quiet c list)) s.selection s es e run
  does_quiet (TryEach branches) ids count p never s es e run = each_quiet (Tries branches ids count p) (λ c. tries_quiet branches ids count p c never) s.selection s es e run
  does_quiet (RunSequence inner) ids count p never s es e run =
      each_quiet (RunsInner (Runs inner ids count)) (λ c s es e one. runs_quiet inner ids count never (entry_state s c false) es one.0 one.1) s.selection s es e run

  tries_quiet : (branches : BranchesTree) (ids : List Identity) (count p c : ℕ) → (BranchesInvoke branches → ⊥) → IsQuiet (Tries branches ids count p c)
  tries_quiet NoBranches ids count p c never s es e (none, failed) = quiet_as es [] none tt
  tries_quiet (NullThen rest) ids count p c never s es e (none, done) = quiet_as es [] none tt
  tries_quiet (BranchThen inner rest) ids count p c never s es e run =
      elim run [
        | inl (end, one, stays, is) ↦ runs_quiet inner ids count (λ i. never (inl i)) (entry_state s c true) es end one
        | inr (end, b, a, is, one, soft, others) ↦
            quiet_as es (b ++ a) is (quiet-append b a (runs_quiet inner ids count (λ i. never (inl i)) (entry_state s c true) b end one) (tries_quiet rest ids count p c (λ i. never (inr i)) s a e others))
      ]

-- ---- what is covered

is_covered : (past : List Event) (e : Event) → (IsInvoke e → ⊥) → CoveredFrom past (e ∷ [])
is_covered past (Set c param) quiet = (tt, tt)
is_covered past (Tried c kind passed) quiet = (tt, tt)
is_covered past (Matched c d size) quiet = (tt, tt)
is_covered past (Missed c) quiet = (tt, tt)
is_covered past (Wrote c) quiet = (tt, tt)
is_covered past (Invoked c d size passed) quiet = absurd (quiet tt)
is_covered past (Failed p) quiet = (tt, tt)

pub quiet_covered : (past es : List Event) → AreQuiet es → CoveredFrom past es
quiet_covered past [] quiet = tt
quiet_covered past (e ∷ es) quiet = ((is_covered past e quiet.0).0, quiet_covered (past ++ e ∷ []) es quiet.1)

-- a course that invokes nothing
abbrev pub IsSilent : Course → Type 0
IsSilent course = (ids : List Identity) (s : State) (es : List Event) (e : Ending) → course ids s es e → AreQuiet es

pub silent-then : (first second : Course) → IsSilent first → IsSilent second → IsSilent (then_course first second)
silent-then first second one two ids = quiet-then (first ids) (second ids) (one ids) (two ids)

pub Covers-silent : (course : Course) (from : List Kept) → IsSilent course → Covers course from
Covers-silent course from silent k i ids al es e run = quiet_covered k.events es (silent ids k.state es e run)
