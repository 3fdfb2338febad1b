-- Procedures that are the same but for places have the same paths but for places, and both are safe or neither.
use Rattle.std.proofs.Common.{◌≡◌, ℕ, List, ◌++◌, length, Option, Some, None, refl, sym, ap, subst, ◌∙◌}
use Rattle.path_model.specs.declared.identity.Identity.{Identity}
use Rattle.path_model.specs.declared.bad_path.BadPath.{BadPath}
use Rattle.path_model.specs.declared.event.Event.{Event}
use Rattle.path_model.specs.Behaviour.{Behaviour, Then}
use Rattle.path_model.specs.BadPaths.{IsBadPath}
use Rattle.path_model.specs.Path.{AreIdentities, Path, RunsPlan, Starts, first_state, start_state}
use Rattle.path_model.specs.Runs.{Runs}
use Rattle.path_model.specs.Safe.{Safe}
use Rattle.suit_commands.specs.SequenceMaking.{unplaced}
use Rattle.suit_commands.specs.Tree.{PlanTree, SequenceTree}
use Rattle.suit_manifest.specs.declared.manifest.Manifest.{Manifest}
use Rattle.suit_manifest.specs.ManifestMaking.{unplaced_held, unplaced_manifest}
use Rattle.suit_manifest.specs.Procedures.{invocation_tree, tree_or_empty}
use Rattle.place_laws.specs.Judging.{BadPathMoves, ProcedureMoves, SafeMoves}
use Rattle.place_laws.specs.PlacesApart.{SameEvents, unplaced_plan}
use Rattle.place_laws.proofs.Alike.{EventsAlike, SequencesAlike, events_same, events_split, events_up, sequence_down, sequence_up}
use Rattle.place_laws.proofs.CoverAlike.{all_covered_alike, uncovered_alike}
use Rattle.place_laws.proofs.LeavesAlike.{RunsLike}
use Rattle.place_laws.proofs.RunsAlike.{runs_alike, then_alike}

-- ---- procedures, case by case

pub record PlansAlike (a b : PlanTree) : Type 0 where
  pub shared : SequencesAlike a.shared b.shared
  pub first : SequencesAlike a.first b.first
  pub second : SequencesAlike a.second b.second
  pub third : SequencesAlike a.third b.third
  pub count : a.count ≡ b.count

pub plan_down : (a : PlanTree) → PlansAlike a (unplaced_plan a)
plan_down a = record { shared = sequence_down a.shared; first = sequence_down a.first; second = sequence_down a.second; third = sequence_down a.third; count = refl }

pub plan_up : (a b : PlanTree) → PlansAlike a b → PlansAlike b a
plan_up a b alike = record {
  shared = sequence_up a.shared b.shared alike.shared;
  first = sequence_up a.first b.first alike.first;
  second = sequence_up a.second b.second alike.second;
  third = sequence_up a.third b.third alike.third;
  count = sym alike.count;
}

-- ---- paths

starts_alike : (a b : PlanTree) → PlansAlike a b → (s t : SequenceTree) → SequencesAlike s t → (ids : List Identity) → RunsLike (Starts s a ids) (Starts t b ids)
starts_alike a b alike s t one ids now es e run =
    runs_alike s t one ids b.count (start_state now) es e (subst (λ (n : ℕ). Runs s ids n (start_state now) es e) alike.count run)

plan_runs : (a b : PlanTree) → PlansAlike a b → (ids : List Identity) → RunsLike (RunsPlan a ids) (RunsPlan b ids)
plan_runs a b alike ids =
    let shared = starts_alike a b alike a.shared b.shared alike.shared ids in
    let first = starts_alike a b alike a.first b.first alike.first ids in
    let second = starts_alike a b alike a.second b.second alike.second ids in
    let third = starts_alike a b alike a.third b.third alike.third ids in
    let at : SequenceTree → Behaviour = λ s. Starts s a ids in
    let to : SequenceTree → Behaviour = λ s. Starts s b ids in
    let at5 : Behaviour = Then (at a.shared) (at a.third) in
    let to5 : Behaviour = Then (to b.shared) (to b.third) in
    let at4 : Behaviour = Then (at a.second) at5 in
    let to4 : Behaviour = Then (to b.second) to5 in
    let at3 : Behaviour = Then (at a.shared) at4 in
    let to3 : Behaviour = Then (to b.shared) to4 in
    let at2 : Behaviour = Then (at a.first) at3 in
    let to2 : Behaviour = Then (to b.first) to3 in
    then_alike (at a.shared) at2 (to b.shared) to2 shared
    (then_alike (at a.first) at3 (to b.first) to3 first
    (then_alike (at a.shared) at4 (to b.shared) to4 shared
    (then_alike (at a.second) at5 (to b.second) to5 second
    (then_alike (at a.shared) (at a.third) (to b.shared) (to b.third) shared third))))

path_alike : (a b : PlanTree) → PlansAlike a b → (ids : List Identity) (es : List Event) → Path a ids es → (fs : List Event) × Path b ids fs × EventsAlike es fs
path_alike a b alike ids es path =
    let r = plan_runs a b alike ids first_state (es ++ path.rest) path.ending path.run in
    let parts = events_split es path.rest r.told r.events_alike in
    (parts.front, record { rest = parts.back; ending = r.end; run = subst (λ (xs : List Event). RunsPlan b ids first_state xs r.end) parts.is r.happens }, parts.front_alike)

identities_alike : (a b : PlanTree) → PlansAlike a b → (ids : List Identity) → AreIdentities a ids → AreIdentities b ids
identities_alike a b alike ids are = record { count = are.count ∙ alike.count; each = are.each }

-- ---- safety

safe_alike : (a b : PlanTree) → PlansAlike a b → Safe a → Safe b
safe_alike a b alike safe = record {
  covered = λ ids es are path.
      let back = plan_up a b alike in
      let fs = path_alike b a back ids es path in
      all_covered_alike fs.0 es (events_up es fs.0 fs.2) (safe.covered ids fs.0 (identities_alike b a back ids are) fs.1);
}

pub safe_moves : SafeMoves
safe_moves a b same safe =
    safe_alike (unplaced_plan b) b (plan_up b (unplaced_plan b) (plan_down b)) (subst Safe same (safe_alike a (unplaced_plan a) (plan_down a) safe))

-- a bad path, with other places
abbrev BadLike : PlanTree → BadPath → Type 0
BadLike plan bad = (other : BadPath) × IsBadPath plan other × (other.identities ≡ bad.identities) × SameEvents bad.events other.events

bad_alike : (a b : PlanTree) → PlansAlike a b → (bad : BadPath) → IsBadPath a bad → BadLike b bad
bad_alike a b alike bad is =
    let fs = path_alike a b alike bad.identities bad.events is.path in
    let other : BadPath = record { identities = bad.identities; events = fs.0 } in
    (other, record { identities = identities_alike a b alike bad.identities is.identities; path = fs.1; ends = uncovered_alike bad.events fs.0 fs.2 is.ends }, refl, events_same bad.events fs.0 fs.2)

pub bad_path_moves : BadPathMoves
bad_path_moves a b bad same is =
    let down = bad_alike a (unplaced_plan a) (plan_down a) bad is in
    let up = bad_alike (unplaced_plan b) b (plan_up b (unplaced_plan b) (plan_down b)) down.0 (subst (λ (plan : PlanTree). IsBadPath plan down.0) same down.1) in
    (up.0, up.1, up.2 ∙ down.2, down.3 ∙ up.3)

-- ---- the invocation procedure of a manifest

held_unplaced : (o : Option SequenceTree) → unplaced (tree_or_empty o) ≡ tree_or_empty (unplaced_held o)
held_unplaced None = refl
held_unplaced (Some s) = refl

tree_unplaced : (m : Manifest) → unplaced_plan (invocation_tree m) ≡ invocation_tree (unplaced_manifest m)
tree_unplaced m = λ i. record {
  shared = held_unplaced m.shared i;
  first = held_unplaced m.validate i;
  second = held_unplaced m.load i;
  third = held_unplaced m.invoke i;
  count = length m.components;
}

pub procedure_moves : ProcedureMoves
procedure_moves m n same = tree_unplaced m ∙ ap invocation_tree same ∙ sym (tree_unplaced n)
