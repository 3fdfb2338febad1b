-- Manifests, procedures and events that are the same but for places. Places are those of commands in the envelope.
use Rattle.std.specs.Prelude.{◌≡◌, List, [], ◌∷◌}
use Rattle.suit_commands.specs.Tree.{PlanTree}
use Rattle.suit_commands.specs.SequenceMaking.{unplaced}
use Rattle.suit_manifest.specs.declared.manifest.Manifest.{Manifest}
use Rattle.suit_manifest.specs.ManifestMaking.{unplaced_manifest}
use Rattle.path_model.specs.declared.event.Event.{Event}
use Rattle.path_model.specs.declared.event.Event.TheVariants.{Failed}

abbrev pub SameManifest : Manifest → Manifest → Type 0
SameManifest m n = unplaced_manifest m ≡ unplaced_manifest n

-- ---- procedures

-- the procedure with 0 for each place
abbrev pub unplaced_plan : PlanTree → PlanTree
unplaced_plan plan = record {
  shared = unplaced plan.shared;
  first = unplaced plan.first;
  second = unplaced plan.second;
  third = unplaced plan.third;
  count = plan.count;
}

abbrev pub SamePlan : PlanTree → PlanTree → Type 0
SamePlan a b = unplaced_plan a ≡ unplaced_plan b

-- ---- events, of which only a failure has a place

abbrev pub unplaced_event : Event → Event
unplaced_event (Failed place) = Failed 0
unplaced_event event = event

abbrev pub unplaced_events : List Event → List Event
unplaced_events [] = []
unplaced_events (event ∷ events) = unplaced_event event ∷ unplaced_events events

abbrev pub SameEvents : List Event → List Event → Type 0
SameEvents a b = unplaced_events a ≡ unplaced_events b
