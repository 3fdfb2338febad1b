-- The values of the shapes are descriptions.
use Rattle.std.proofs.Common.{◌≡◌, ◌<◌, ◌-◌, ◌^◌, ℕ, zero, suc, true, List, [], ◌∷◌, Option, Some, Ok, refl, sym, subst, ap, arith}
use Rattle.std.specs.Prelude.{◌≢◌, length, nat_le, slice_get}
use Rattle.hex.proofs.OnLiterals.{hex_on_literals}
use Rattle.det_cbor.specs.Heads.{head_bytes}
use Rattle.serde_json.specs.Data.{Data}
use Rattle.author.specs.Descriptions.{described}
use Rattle.author.specs.Faults.{AreFewAndApart, IsDescription}
use Rattle.conformance.specs.declared.shape.Shape.TheVariants.{Fetched, Integrated, Loaded, FetchedIfOther}
use Rattle.conformance.specs.ShapeLaws.{ShapeLaws}
use Rattle.conformance.proofs.ShapeValues.{fetched, fetched_is, integrated, integrated_is, loaded, loaded_is, fetched_if_other, fetched_if_other_is}

-- ---- the components

abbrev one_id : List (List (List ℕ))
one_id = ((0 ∷ []) ∷ []) ∷ []

abbrev two_ids : List (List (List ℕ))
two_ids = ((0 ∷ []) ∷ []) ∷ ((1 ∷ []) ∷ []) ∷ []

-- no two are equal
abbrev AreApart : List (List (List ℕ)) → Type 0
AreApart ids = (i j : ℕ) → i < j → j < length ids → slice_get ids i ≢ slice_get ids j

one_apart : AreApart one_id
one_apart i j below inside same = absurd (omega (arith, below, inside))

first_byte : Option (List (List ℕ)) → ℕ
first_byte (Some ((byte ∷ bytes) ∷ parts)) = byte
first_byte _ = 0

two_apart : AreApart two_ids
unfolding first_byte
two_apart zero (suc zero) below inside same = absurd (omega (arith, ap first_byte same))
two_apart zero zero below inside same = absurd (omega (arith, below))
two_apart zero (suc (suc j)) below inside same = absurd (omega (arith, inside))
two_apart (suc i) j below inside same = absurd (omega (arith, below, inside))

one_is_fit : AreFewAndApart one_id
one_is_fit = record { few = omega arith; apart = one_apart }

two_are_fit : AreFewAndApart two_ids
two_are_fit = record { few = omega arith; apart = two_apart }

-- ---- the readings

within : (n : ℕ) → n < 2 ^ 64 → nat_le n (2 ^ 64 - 1) ≡ true
within n lt = grind (arith, lt)

-- the value is read, with these components
abbrev Reads : (ℕ → Data) → List (List (List ℕ)) → Type 0
Reads value ids =
    (n : ℕ) → n < 2 ^ 64
    → (said : _) × (described [] (value n) ≡ Ok said) × (said.manifest.components ≡ ids)

fetched_reads : Reads fetched one_id
unfolding hex_on_literals head_bytes
fetched_reads n lt = rw (within n lt) (_, refl, refl)

integrated_reads : Reads integrated one_id
unfolding hex_on_literals head_bytes
integrated_reads n lt = rw (within n lt) (_, refl, refl)

loaded_reads : Reads loaded two_ids
unfolding hex_on_literals head_bytes
loaded_reads n lt = rw (within n lt) (_, refl, refl)

fetched_if_other_reads : Reads fetched_if_other one_id
unfolding hex_on_literals head_bytes
fetched_if_other_reads n lt = rw (within n lt) (_, refl, refl)

-- ---- the law

is_description : (value : ℕ → Data) (ids : List (List (List ℕ))) → Reads value ids → AreFewAndApart ids
    → (n : ℕ) → n < 2 ^ 64 → IsDescription (value n)
is_description value ids reads fit n lt =
    let read = reads n lt in
    record { said = read.0; reads = read.1; components = subst AreFewAndApart (sym read.2) fit }

pub laws : ShapeLaws
laws Fetched n lt = subst IsDescription (sym (fetched_is n)) (is_description fetched one_id fetched_reads one_is_fit n lt)
laws Integrated n lt = subst IsDescription (sym (integrated_is n)) (is_description integrated one_id integrated_reads one_is_fit n lt)
laws Loaded n lt = subst IsDescription (sym (loaded_is n)) (is_description loaded two_ids loaded_reads two_are_fit n lt)
laws FetchedIfOther n lt = subst IsDescription (sym (fetched_if_other_is n)) (is_description fetched_if_other one_id fetched_if_other_reads one_is_fit n lt)
