-- What is known of the identities of a procedure's components.
use Rattle.std.specs.Prelude.{◌≡◌, ◌≢◌, ◌↔◌, ℕ, zero, suc, List, [], ◌∷◌, Option, Some, None, length}
use Rattle.std.specs.List.{AllByRecursion}
use Rattle.path_model.specs.declared.identity.Identity.{Identity}
use Rattle.path_model.specs.Conditions.{vendor_of, class_of, device_of, slot_of}
use Rattle.path_checker.specs.declared.judge_plan.facts.Own.{Own}
use Rattle.path_checker.specs.declared.judge_plan.facts.Own.TheVariants as owns
use Rattle.path_checker.specs.declared.judge_plan.facts.Knowledge.{Knowledge}

-- ---- one value, which may be absent: the value itself if it is known, or else the values that are ruled out

abbrev pub Known : Type 0 → Type 0
Known A = Option A × List A

-- the value is not ruled out
abbrev pub IsNone : {A : Type 0} → Option A → List A → Type 0
IsNone own others = AllByRecursion (λ other. own ≢ Some other) others

-- the value is the known one if that is known, and is not ruled out otherwise
abbrev pub AgreesWith : {A : Type 0} → Option A → List A → Option A → Type 0
AgreesWith (Some value) others own = own ≡ Some value
AgreesWith None others own = IsNone own others

abbrev pub Agrees : {A : Type 0} → Known A → Option A → Type 0
Agrees known own = AgreesWith known.0 known.1 own

-- ---- the identities

-- nothing is known of the component
abbrev pub nothing : Knowledge
nothing = record { vendor = (None, []); class = (None, []); device = (None, []); slot = (None, []) }

abbrev pub nothing_known : ℕ → List Knowledge
nothing_known zero = []
nothing_known (suc count) = nothing ∷ nothing_known count

-- what is known of a component allows this identity
pub record AllowsOne (known : Knowledge) (identity : Identity) : Type 0 where
  pub vendor : Agrees known.vendor identity.vendor
  pub class : Agrees known.class identity.class
  pub device : Agrees known.device identity.device
  pub slot : Agrees known.slot (Some identity.slot)

-- the identities are as many as the components, and what is known of each component allows its identity
abbrev pub Allows : List Knowledge → List Identity → Type 0
Allows [] [] = Unit {0}
Allows [] (identity ∷ identities) = ⊥
Allows (known ∷ facts) [] = ⊥
Allows (known ∷ facts) (identity ∷ identities) = AllowsOne known identity × Allows facts identities

-- the component's identity has this identifier or slot
abbrev pub HasOwn : Option Identity → Own → Type 0
HasOwn identity (owns.Vendor id) = vendor_of identity ≡ Some id
HasOwn identity (owns.Class id) = class_of identity ≡ Some id
HasOwn identity (owns.Device id) = device_of identity ≡ Some id
HasOwn identity (owns.Slot number) = slot_of identity ≡ Some number

-- what is learned allows the same identities, except for those of which the fact is false
pub record Learns (facts learned : List Knowledge) (fact : List Identity → Type 0) : Type 0 where
  pub count : length learned ≡ length facts
  pub allows : (identities : List Identity)
      → Allows learned identities ↔ (Allows facts identities × fact identities)
