-- Reading elements and members one by one.
use Rattle.std.proofs.Common.{◌≡◌, ℕ, List, ◌++◌, Some, Result, Ok, Err, refl, ap, sym, arith}
use Rattle.det_cbor.specs.HeadReading.{◌>>=◌}
use Rattle.serde_json.specs.Data.{Data, Members, member}
use Rattle.serde_json.specs.Find.{as_object}
use Rattle.json_fields.specs.declared.flaw.Flaw.{Flaw}
use Rattle.json_fields.specs.declared.flaw.FlawKind.TheVariants.{Field}
use Rattle.json_fields.specs.declared.flaw.JsonFault.{JsonFault}
use Rattle.json_fields.specs.declared.flaw.JsonFault.TheVariants.{Flawed, NoMemory}
use Rattle.json_fields.specs.Answers.{Gives}
use Rattle.json_fields.specs.Flaws.{under, flawed}
use Rattle.json_fields.specs.Pointers.{key_token}
use Rattle.json_fields.specs.Objects.{Takes, members_of, object_of}

-- the elements that are read, after those read before
abbrev pub after : {A : Type 0} → List A → Result (List A) Flaw → Result (List A) Flaw
after xs read = read >>= λ ys. Ok (xs ++ ys)

-- a fault as that of a part of the whole
abbrev pub Moved : List ℕ → JsonFault → Result Unit JsonFault → Type 0
Moved token fault result = (said : Result Unit Flaw) → Gives (λ x. x) (Err fault) said → Gives (λ x. x) result (under token said)

pub members_of-taken : {D : Type 0} (takes : Takes D) (d e : D) (k : List ℕ) (x : Data) (others : Members)
    → takes d k x ≡ Ok e → members_of takes d (member k x others) ≡ members_of takes e others
members_of-taken takes d e k x others h = rw h

-- the flaw of something that was not read
abbrev flaw_or : Flaw → Result Unit Flaw → Flaw
flaw_or other (Ok x) = other
flaw_or other (Err f) = f

module _ {D : Type 0} (takes : Takes D) (d : D) (k : List ℕ) (x : Data) (others : Members) (v w : Unit {0} → D) where
  pub fault_told : (fault : JsonFault) (result : Result Unit JsonFault) → Moved (key_token k) fault result → Gives v (Err fault) (takes d k x)
      → Gives w result (members_of takes d (member k x others))
  fault_told (Flawed f) (Ok y) h g = let bad = h (Err f) refl in grind arith
  fault_told (Flawed f) (Err (Flawed j)) h g =
      let moved : Flaw = record { kind = f.kind; pointer = key_token k ++ f.pointer } in
      let same : moved ≡ j = ap (flaw_or moved) (h (Err f) refl) in
      rw g (ap (λ q. Err q) same)
  fault_told (Flawed f) (Err NoMemory) h g = tt
  fault_told NoMemory (Ok y) h g = let bad = h (flawed Field) tt in grind arith
  fault_told NoMemory (Err (Flawed j)) h g = let bad = h (Ok tt) tt in grind arith
  fault_told NoMemory (Err NoMemory) h g = tt

pub object_of-Some : {D : Type 0} (takes : Takes D) (draft : D) (d : Data) (ms : Members) → Some ms ≡ as_object d → object_of takes draft d ≡ members_of takes draft ms
object_of-Some takes draft d ms e = rw (sym e)
