-- Laws of the parameters in force. They are for lists that have a place for each of eight components and twelve keys.
use Rattle.std.specs.Prelude.{◌≡◌, ◌<◌, ℕ, Some, None, length}
use Rattle.suit_params.specs.declared.param.Param.{Param}
use Rattle.suit_params.specs.declared.param.ParamKey.{ParamKey}
use Rattle.suit_params.specs.ParamKeys.{key_of}
use Rattle.suit_params.specs.InForce.{Parameters, none_in_force, with_param, in_force}

-- there is a place for each of eight components and twelve keys
abbrev pub IsWhole : Parameters → Type 0
IsWhole parameters = length parameters ≡ 96

-- an override keeps the list like this
pub record StaysWhole : Type 0 where
  pub first : IsWhole none_in_force
  pub next : (parameters : Parameters) (component : ℕ) (param : Param) → IsWhole parameters
      → IsWhole (with_param parameters component param)

-- nothing is in force at first
abbrev pub StartsEmpty : Type 0
StartsEmpty = (component : ℕ) (key : ParamKey) → in_force none_in_force component key ≡ None

-- an override puts the parameter in force for its component, under its key
abbrev pub OverrideReplaces : Type 0
OverrideReplaces =
    (parameters : Parameters) (component : ℕ) (param : Param) → IsWhole parameters → component < 8
    → in_force (with_param parameters component param) component (key_of param) ≡ Some param

-- an override leaves what is in force for another component, or under another key
abbrev pub OverrideKeeps : Type 0
OverrideKeeps =
    (parameters : Parameters) (component other : ℕ) (param : Param) (key : ParamKey) → IsWhole parameters → component < 8 → other < 8
    → ((other ≡ component) × (key ≡ key_of param) → ⊥)
    → in_force (with_param parameters component param) other key ≡ in_force parameters other key

-- if the same is in force in both, they are equal
abbrev pub IsCanonical : Type 0
IsCanonical =
    (a b : Parameters) → IsWhole a → IsWhole b
    → ((component : ℕ) (key : ParamKey) → component < 8 → in_force a component key ≡ in_force b component key) → a ≡ b
