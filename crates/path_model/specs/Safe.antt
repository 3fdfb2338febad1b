-- When each invoke of each path is covered. These definitions are this project's own.
use Rattle.std.specs.Prelude.{◌≡◌, ℕ, List, [], ◌∷◌, ◌++◌, Option, Some, None, IfSome, take, slice_get}
use Rattle.std.specs.List.{AllByRecursion}
use Rattle.suit_params.specs.declared.digest.Digest.{Digest}
use Rattle.path_model.specs.declared.identity.Identity.{Identity}
use Rattle.path_model.specs.declared.event.Event.{Event}
use Rattle.path_model.specs.declared.event.Event.TheVariants.{Matched, Wrote, Invoked}
use Rattle.suit_commands.specs.Tree.{PlanTree}
use Rattle.path_model.specs.Path.{AreIdentities, Path}

-- the event is a write of the component
abbrev pub WritesTo : ℕ → Event → Type 0
WritesTo component (Wrote written) = written ≡ component
WritesTo component _ = ⊥

-- among these events is this match of the component, and no write of it since
pub record HasMatched (events : List Event) (component : ℕ) (digest : Digest) (size : Option ℕ)
    : Type 0 where
  pub before : List Event
  pub since : List Event
  pub is : events ≡ before ++ Matched component digest size ∷ since
  pub unwritten : AllByRecursion (λ event. WritesTo component event → ⊥) since

-- the event that follows these is covered; an invoke without a digest in force is not
abbrev pub IsCovered : List Event → Event → Type 0
IsCovered before (Invoked component None size passed) = ⊥
IsCovered before (Invoked component (Some digest) size passed) =
    HasMatched before component digest size
IsCovered before _ = Unit {0}

-- the event at this index is covered by those before it
abbrev pub Covered : List Event → ℕ → Type 0
Covered events i = IfSome (slice_get events i) (IsCovered (take i events))

-- each event is covered by those before it
abbrev pub AllCovered : List Event → Type 0
AllCovered events = (i : ℕ) → Covered events i

-- on each path, for all identities, each invoke is covered
pub record Safe (plan : PlanTree) : Type 0 where
  pub covered : (identities : List Identity) (events : List Event)
      → AreIdentities plan identities → Path plan identities events → AllCovered events

-- the last event is the first invoke that is not covered
pub record EndsUncovered (events : List Event) : Type 0 where
  pub before : List Event
  pub last : Event
  pub is : events ≡ before ++ last ∷ []
  pub covered : AllCovered before
  pub uncovered : IsCovered before last → ⊥
