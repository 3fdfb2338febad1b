-- Whether a component has a given identifier or slot, as far as the facts decide it.
use Rattle.std.specs.Prelude.{◌≡◌, ◌≢◌, ◌↔◌, ◌⊎◌, ◌++◌, ℕ, Bool, true, false, List, [], ◌∷◌, Option, Some, None, get_or, slice_get, slice_set}
use Rattle.path_model.specs.declared.identity.Identity.{Identity}
use Rattle.path_checker.specs.declared.judge_plan.facts.Own.{Own}
use Rattle.path_checker.specs.declared.judge_plan.facts.Own.TheVariants as owns
use Rattle.path_checker.specs.declared.judge_plan.facts.Knowledge.{Knowledge}
use Rattle.path_checker.specs.declared.judge_plan.facts.Fork.{Fork}
use Rattle.path_checker.specs.declared.judge_plan.facts.Fork.TheVariants as forks
use Rattle.path_checker.specs.Exploring.{In}
use Rattle.path_checker.specs.Knowing.{nothing, Known, Agrees, AllowsOne, Allows, HasOwn, Learns}

-- what is narrowed allows just those values of which the fact is true
abbrev pub Narrows : {A : Type 0} → Known A → Known A → (Option A → Type 0) → Type 0
Narrows {A} known narrowed fact =
    (own : Option A) → Agrees narrowed own ↔ (Agrees known own × fact own)

-- the knowledge alone tells that the fact is true
abbrev pub Decides : {A : Type 0} → Known A → (Option A → Type 0) → Type 0
Decides {A} known fact = (own : Option A) → Agrees known own → fact own

-- the value is not known, and this one is not ruled out
abbrev pub IsOpen : {A : Type 0} → Known A → A → Type 0
IsOpen known value = (known.0 ≡ None) × (In value known.1 → ⊥)

-- whether the value is the wanted one, if the knowledge decides that
abbrev pub Tells : {A : Type 0} → Known A → A → Option Bool → Type 0
Tells known wanted (Some true) = Decides known (λ own. own ≡ Some wanted)
Tells known wanted (Some false) = Decides known (λ own. own ≢ Some wanted)
Tells known wanted None = IsOpen known wanted

-- ---- the identity of one component

abbrev pub DecidesOne : Knowledge → (Option Identity → Type 0) → Type 0
DecidesOne known fact = (identity : Identity) → AllowsOne known identity → fact (Some identity)

abbrev pub NarrowsOne : Knowledge → Knowledge → (Option Identity → Type 0) → Type 0
NarrowsOne known narrowed fact =
    (identity : Identity)
    → AllowsOne narrowed identity ↔ (AllowsOne known identity × fact (Some identity))

abbrev pub HasOne : Own → Option Identity → Type 0
HasOne own identity = HasOwn identity own

abbrev pub HasNoneOf : Own → Option Identity → Type 0
HasNoneOf own identity = HasOwn identity own → ⊥

-- whether the component has this value, if the knowledge decides that
abbrev pub TellsOne : Knowledge → Own → Option Bool → Type 0
TellsOne known (owns.Vendor id) told = Tells known.vendor id told
TellsOne known (owns.Class id) told = Tells known.class id told
TellsOne known (owns.Device id) told = Tells known.device id told
TellsOne known (owns.Slot number) told = Tells known.slot number told

-- the component is known to have this value
abbrev pub learnt : Knowledge → Own → Knowledge
learnt known (owns.Vendor id) = record known { vendor = (Some id, []) }
learnt known (owns.Class id) = record known { class = (Some id, []) }
learnt known (owns.Device id) = record known { device = (Some id, []) }
learnt known (owns.Slot number) = record known { slot = (Some number, []) }

-- this value is ruled out
abbrev pub leaving_out : {A : Type 0} → Known A → A → Known A
leaving_out known value = (known.0, known.1 ++ value ∷ [])

abbrev pub excluded : Knowledge → Own → Knowledge
excluded known (owns.Vendor id) = record known { vendor = leaving_out known.vendor id }
excluded known (owns.Class id) = record known { class = leaving_out known.class id }
excluded known (owns.Device id) = record known { device = leaving_out known.device id }
excluded known (owns.Slot number) = record known { slot = leaving_out known.slot number }

-- ---- the identities of all components

-- the component has this identifier or slot
abbrev pub Has : ℕ → Own → List Identity → Type 0
Has component own identities = HasOwn (slice_get identities component) own

-- the component does not have this identifier or slot
abbrev pub HasNo : ℕ → Own → List Identity → Type 0
HasNo component own identities = Has component own identities → ⊥

-- all allowed identities have this value, or none has it, or two lists of facts tell both cases apart
abbrev pub Forks : List Knowledge → ℕ → Own → Fork → Type 0
Forks facts component own forks.Has =
    (identities : List Identity) → Allows facts identities → Has component own identities
Forks facts component own forks.HasNot =
    (identities : List Identity) → Allows facts identities → HasNo component own identities
Forks facts component own (forks.Either has has_not) =
    Learns facts has (Has component own) × Learns facts has_not (HasNo component own)

-- one component is known to have this value
abbrev pub learnt_at : List Knowledge → ℕ → Own → List Knowledge
learnt_at facts component own =
    slice_set facts component (learnt (get_or facts component nothing) own)

abbrev pub some_if : Bool → List Knowledge → Option (List Knowledge)
some_if false facts = None
some_if true facts = Some facts

-- no allowed identities have this value, or all have it and the facts stay, or these are the facts of those that have
-- it
abbrev pub Learnt : List Knowledge → ℕ → Own → Option (List Knowledge) → Type 0
Learnt facts component own None = Forks facts component own forks.HasNot
Learnt facts component own (Some learned) =
    (Forks facts component own forks.Has × (learned ≡ facts))
    ⊎ ((others : List Knowledge) × Forks facts component own (forks.Either learned others))
