-- Sequences that are the same but for places run alike.
use Rattle.std.proofs.Common.{ℕ, true, false, List, [], ◌∷◌, ◌++◌, refl, subst, inl, inr}
use Rattle.path_model.specs.declared.identity.Identity.{Identity}
use Rattle.path_model.specs.Behaviour.{State, Ending, Done, Condition, Behaviour, Then, Each}
use Rattle.path_model.specs.Conditions.{Tests}
use Rattle.path_model.specs.Directives.{Acts}
use Rattle.path_model.specs.Runs.{FailsSoftly, RunsInner, TriesBranch, Runs, Does, Tries, after_branch, after_run, entry_state}
use Rattle.suit_commands.specs.Tree.{CommandTree, Index, Override, SequenceTree, NoSteps, BranchesTree, NoBranches, NullThen}
use Rattle.place_laws.proofs.Alike.{SequencesAlike, AlikeEnds, AlikeSteps, CommandsAlike, AlikeTest, AlikeAct, AlikeIndex, AlikeOverride, AlikeTries, AlikeRun, BranchesAlike, AlikeLast, AlikeNull, AlikeBranch, NoEvents, EndsAlike, AlikeDone, AlikeCondition, AlikeDirective, done_alike, events_append, failure_alike}
use Rattle.place_laws.proofs.LeavesAlike.{RunsLike, acts_alike, like_known, likewise, tests_alike}

-- ---- one after another

pub then_alike : (a b c d : Behaviour) → RunsLike a c → RunsLike b d → RunsLike (Then a b) (Then c d)
then_alike a b c d first second s es e run =
    elim run [
      | inl (failed, one) ↦
          let r = first s es e one in
          record { told = r.told; end = r.end; happens = inl (failure_alike e r.end r.ends_alike failed, r.happens); events_alike = r.events_alike; ends_alike = r.ends_alike }
      | inr (middle, before, after, is, one, two) ↦
          let r = first s before (Done middle) one in
          let q = second middle after e two in
          let done : c s r.told (Done middle) = subst (λ (x : Ending). c s r.told x) (done_alike middle r.end r.ends_alike) r.happens in
          like_known (Then c d s) es (before ++ after) (r.told ++ q.told) e e q.end is refl (inr (middle, r.told, q.told, refl, done, q.happens)) (events_append before r.told after q.told r.events_alike q.events_alike) q.ends_alike
    ]

each_alike : (a b : ℕ → Behaviour) → ((c : ℕ) → RunsLike (a c) (b c)) → (cs : List ℕ) → RunsLike (Each a cs) (Each b cs)
each_alike a b alike [] s es e run = likewise (Each b [] s) es e run
each_alike a b alike (c ∷ cs) s es e run = then_alike (a c) (Each a cs) (b c) (Each b cs) (alike c) (each_alike a b alike cs) s es e run

-- ---- inner sequences

run_ends : (s : State) (e f : Ending) → EndsAlike e f → EndsAlike (after_run s e) (after_run s f)
run_ends s e f (AlikeDone t) = AlikeDone _
run_ends s e f (AlikeCondition p q true) = AlikeDone s
run_ends s e f (AlikeCondition p q false) = AlikeCondition p q s.soft_failure
run_ends s e f (AlikeDirective p q) = AlikeDirective p q

inner_alike : (a b : Behaviour) → RunsLike a b → (c : ℕ) → RunsLike (RunsInner a c) (RunsInner b c)
inner_alike a b alike c s es e (end, one, is) =
    let r = alike (entry_state s c false) es end one in
    like_known (RunsInner b c s) es es r.told e (after_run s end) (after_run s r.end) refl is (r.end, r.happens, refl) r.events_alike (run_ends s end r.end r.ends_alike)

branch_ends : (s : State) (e f : Ending) → EndsAlike e f → EndsAlike (after_branch s e) (after_branch s f)
branch_ends s e f (AlikeDone t) = AlikeDone _
branch_ends s e f (AlikeCondition p q soft) = AlikeCondition p q s.soft_failure
branch_ends s e f (AlikeDirective p q) = AlikeDirective p q

soft_alike : (e f : Ending) → EndsAlike e f → FailsSoftly e → FailsSoftly f
soft_alike e f (AlikeDone t) soft = soft
soft_alike e f (AlikeCondition p q true) soft = tt
soft_alike e f (AlikeCondition p q false) soft = soft
soft_alike e f (AlikeDirective p q) soft = soft

ends_up : (e f : Ending) → EndsAlike e f → EndsAlike f e
ends_up e f (AlikeDone t) = AlikeDone t
ends_up e f (AlikeCondition p q soft) = AlikeCondition q p soft
ends_up e f (AlikeDirective p q) = AlikeDirective q p

branch_alike : (a b : Behaviour) (hs bs : ℕ → Behaviour) → RunsLike a b → (c : ℕ) → RunsLike (hs c) (bs c) → RunsLike (TriesBranch a hs c) (TriesBranch b bs c)
branch_alike a b hs bs alike c others s es e run =
    elim run [
      | inl (end, one, stays, is) ↦
          let r = alike (entry_state s c true) es end one in
          like_known (TriesBranch b bs c s) es es r.told e (after_branch s end) (after_branch s r.end) refl is
          (inl (r.end, r.happens, λ soft. stays (soft_alike r.end end (ends_up end r.end r.ends_alike) soft), refl)) r.events_alike (branch_ends s end r.end r.ends_alike)
      | inr (end, before, after, is, one, soft, two) ↦
          let r = alike (entry_state s c true) before end one in
          let q = others s after e two in
          like_known (TriesBranch b bs c s) es (before ++ after) (r.told ++ q.told) e e q.end is refl
          (inr (r.end, r.told, q.told, refl, r.happens, soft_alike end r.end r.ends_alike soft, q.happens)) (events_append before r.told after q.told r.events_alike q.events_alike) q.ends_alike
    ]

-- ---- whole sequences

mutual
  pub runs_alike : (s t : SequenceTree) → SequencesAlike s t → (ids : List Identity) (count : ℕ) → RunsLike (Runs s ids count) (Runs t ids count)
  runs_alike s t AlikeEnds ids count now es e run = likewise (Runs NoSteps ids count now) es e run
  runs_alike s t (AlikeSteps p q c d r u one more) ids count now es e run =
      then_alike (Does c ids count p) (Runs r ids count) (Does d ids count q) (Runs u ids count) (does_alike c d one ids count p q) (runs_alike r u more ids count) now es e run

  does_alike : (c d : CommandTree) → CommandsAlike c d → (ids : List Identity) (count p q : ℕ) → RunsLike (Does c ids count p) (Does d ids count q)
  does_alike c d (AlikeTest kind report) ids count p q now es e run = each_alike (Tests kind ids p) (Tests kind ids q) (tests_alike kind ids p q) now.selection now es e run
  does_alike c d (AlikeAct kind report) ids count p q now es e run = each_alike (Acts kind p) (Acts kind q) (acts_alike kind p q) now.selection now es e run
  does_alike c d (AlikeIndex selection) ids count p q now es e run = likewise (Does (Index selection) ids count q now) es e run
  does_alike c d (AlikeOverride list) ids count p q now es e run = likewise (Does (Override list) ids count q now) es e run
  does_alike c d (AlikeTries bs cs more) ids count p q now es e run =
      each_alike (Tries bs ids count p) (Tries cs ids count q) (tries_alike bs cs more ids count p q) now.selection now es e run
  does_alike c d (AlikeRun s t more) ids count p q now es e run =
      each_alike (RunsInner (Runs s ids count)) (RunsInner (Runs t ids count)) (inner_alike (Runs s ids count) (Runs t ids count) (runs_alike s t more ids count)) now.selection now es e run

  tries_alike : (bs cs : BranchesTree) → BranchesAlike bs cs → (ids : List Identity) (count p q c : ℕ) → RunsLike (Tries bs ids count p c) (Tries cs ids count q c)
  tries_alike bs cs AlikeLast ids count p q c now es e (is, end) =
      like_known (Tries NoBranches ids count q c now) es [] [] e (Condition p now.soft_failure) (Condition q now.soft_failure) is end (refl, refl) NoEvents (AlikeCondition p q now.soft_failure)
  tries_alike bs cs (AlikeNull ds fs more) ids count p q c now es e run = likewise (Tries (NullThen fs) ids count q c now) es e run
  tries_alike bs cs (AlikeBranch s t ds fs one more) ids count p q c now es e run =
      branch_alike (Runs s ids count) (Runs t ids count) (Tries ds ids count p) (Tries fs ids count q) (runs_alike s t one ids count) c (tries_alike ds fs more ids count p q c) now es e run
