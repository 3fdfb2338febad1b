-- Laws of the parameters in force (draft-ietf-suit-manifest-25, section 8.4.8).
use Rattle.std.specs.Prelude.{◌≡◌, ◌≢◌, ◌<◌, ◌⊎◌, ◌↔◌, ℕ, List, length, Option, Some, None}
use Rattle.suit_params.specs.declared.digest.Digest.{Digest}
use Rattle.suit_params.specs.declared.param.Param.{Param}
use Rattle.suit_params.specs.declared.param.Param.TheVariants as params
use Rattle.suit_params.specs.declared.param.ParamKey.{ParamKey}
use Rattle.suit_params.specs.declared.param.ParamKey.TheVariants as keys
use Rattle.suit_params.specs.InForce.{Parameters, rank, none_in_force, with_param, in_force, identifier_of, number_of, digest_of, bytes_of, digest_in, size_in}
use Rattle.suit_params.specs.ParamKeys.{key_of}

-- ---- the values of parameters

abbrev pub HasIdentifier : Param → List ℕ → Type 0
HasIdentifier p id = (p ≡ params.Vendor id) ⊎ (p ≡ params.Class id) ⊎ (p ≡ params.Device id)

abbrev pub HasNumber : Param → ℕ → Type 0
HasNumber p n = (p ≡ params.Slot n) ⊎ (p ≡ params.Size n) ⊎ (p ≡ params.Source n)

abbrev pub HasDigest : Param → Digest → Type 0
HasDigest p digest = p ≡ params.Digest digest

abbrev pub HasBytes : Param → List ℕ → Type 0
HasBytes p bytes = (p ≡ params.Content bytes) ⊎ (p ≡ params.Uri bytes) ⊎ (p ≡ params.Args bytes)

-- without a parameter there is no value, and a parameter has just the values that it holds
pub record IsValue {V : Type 0} (value : Option Param → Option V) (has : Param → V → Type 0)
    : Type 0 where
  pub none : value None ≡ None
  pub is : (p : Param) (v : V) → (value (Some p) ≡ Some v) ↔ has p v

-- a component has the value that its parameter in force under the key holds
pub record IsValueUnder {V : Type 0} (key : ParamKey) (param : V → Param)
    (value : Parameters → ℕ → Option V) : Type 0 where
  pub none : (ps : Parameters) (component : ℕ) → in_force ps component key ≡ None
      → value ps component ≡ None
  pub is : (ps : Parameters) (component : ℕ) (v : V) → in_force ps component key ≡ Some (param v)
      → value ps component ≡ Some v

-- ---- the laws

-- Each key has a cell of its own. At first nothing is in force. Overriding a parameter of one of the eight
-- components puts it in force under its key, and leaves the other keys.
pub record InForceLaws : Type 0 where
  pub own_cell : (j k : ParamKey) → rank j ≡ rank k → j ≡ k
  pub at_first : (component : ℕ) (key : ParamKey) → component < 8
      → in_force none_in_force component key ≡ None
  pub put : (ps : Parameters) (component : ℕ) (p : Param) → length ps ≡ 96 → component < 8
      → in_force (with_param ps component p) component (key_of p) ≡ Some p
  pub others : (ps : Parameters) (component : ℕ) (p : Param) (key : ParamKey) → length ps ≡ 96
      → component < 8 → key ≢ key_of p
      → in_force (with_param ps component p) component key ≡ in_force ps component key
  pub identifiers : IsValue identifier_of HasIdentifier
  pub numbers : IsValue number_of HasNumber
  pub digests : IsValue digest_of HasDigest
  pub bytes : IsValue bytes_of HasBytes
  pub digest : IsValueUnder keys.Digest params.Digest digest_in
  pub size : IsValueUnder keys.Size params.Size size_in
