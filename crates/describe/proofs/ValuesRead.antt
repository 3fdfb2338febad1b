-- Single values are read as they are written.
use Rattle.std.proofs.Common.{◌≡◌, ℕ, zero, suc, ◌<◌, ◌≤◌, List, [], ◌∷◌, map, All, Option, Result, Ok, refl, sym, ap, ◌∙◌, inl, arith}
use Rattle.std.proofs.lemmas.Bool.Decides.{nat_tests}
use Rattle.std.specs.List.{AllByRecursion}
use Rattle.std.specs.Result.{result_ok}
use Rattle.hex.specs.Hex.{IsBytes}
use Rattle.hex.proofs.HexLemmas.{decode_of-encode_lower}
use Rattle.uuid.specs.Text.{lower}
use Rattle.uuid.proofs.RoundTrips.{parses_hyphenated}
use Rattle.det_cbor.specs.DataItem.{IsByte}
use Rattle.det_cbor.specs.HeadReading.{◌>>=◌}
use Rattle.serde_json.specs.Data.{Data}
use Rattle.serde_json.specs.View.{items_of}
use Rattle.json_fields.specs.declared.flaw.Flaw.{Flaw}
use Rattle.json_fields.specs.declared.flaw.FlawKind.TheVariants.{Hex, Uuid}
use Rattle.json_fields.specs.Flaws.{found_or}
use Rattle.json_fields.specs.Values.{number_up_to, hex_of, uuid_of}
use Rattle.json_fields.specs.Arrays.{each_from, array_of}
use Rattle.suit_params.specs.declared.digest.Digest.{Digest}
use Rattle.suit_params.specs.DigestBytes.{digest_bytes, as_digest, IsDigestBytes}
use Rattle.suit_params.specs.DigestLaws.{digest_again}
use Rattle.suit_params.specs.ParamMaking.{IsId}
use Rattle.author.specs.DigestValues.{digest_spelled}
use Rattle.describe.specs.ValueData.{hex_data, uuid_data, number_data, array_data}

-- ---- bytes

small_at : (xs : List ℕ) → AllByRecursion IsByte xs → IsBytes xs
small_at [] h i = omega arith
small_at (x ∷ xs) h zero = h.0
small_at (x ∷ xs) h (suc i) = small_at xs h.1 i

all_at : (xs : List ℕ) → AllByRecursion IsByte xs → All (λ b. b < 256) xs
all_at [] h i d lt = absurd (omega arith)
all_at (x ∷ xs) h zero d lt = h.0
all_at (x ∷ xs) h (suc i) d lt = all_at xs h.1 i d (omega arith)

pub hex_read : (xs : List ℕ) → AllByRecursion IsByte xs → hex_of (hex_data xs) ≡ Ok xs
hex_read xs h = ap (λ d. found_or Hex (result_ok d)) (decode_of-encode_lower xs (small_at xs h))

pub digest_read : (digest : Digest) → IsDigestBytes digest → digest_spelled (hex_data (digest_bytes digest)) ≡ Ok digest
digest_read digest h =
    ap (λ (r : Result (List ℕ) Flaw). r >>= λ bytes. found_or Hex (as_digest bytes)) (hex_read (digest_bytes digest) h.1) ∙ ap (λ (o : Option Digest). found_or Hex o) (digest_again digest h.0)

pub uuid_read : (id : List ℕ) → IsId id → uuid_of (uuid_data id) ≡ Ok id
uuid_read id h = ap (λ o. found_or Uuid o) (sym (parses_hyphenated lower id (inl refl) h.0 (all_at id h.1)))

-- ---- numbers

pub number_read : (limit n : ℕ) → n ≤ limit → number_up_to limit (number_data n) ≡ Ok n
number_read limit n h = grind (arith, nat_tests)

-- ---- arrays

pub each_read : {A : Type 0} (reads : Data → Result A Flaw) (form : A → Data) (i : ℕ) (xs : List A) → AllByRecursion (λ x. reads (form x) ≡ Ok x) xs → each_from reads i (items_of (map form xs)) ≡ Ok xs
each_read reads form i [] h = refl
each_read reads form i (x ∷ xs) h = rw (h.0, each_read reads form (suc i) xs h.1) refl

pub array_read : {A : Type 0} (reads : Data → Result A Flaw) (form : A → Data) (xs : List A) → AllByRecursion (λ x. reads (form x) ≡ Ok x) xs → array_of reads (array_data form xs) ≡ Ok xs
array_read reads form xs h = each_read reads form 0 xs h

pub all_of : {A : Type 0} (P Q : A → Type 0) → ((x : A) → P x → Q x) → (xs : List A) → AllByRecursion P xs → AllByRecursion Q xs
all_of P Q f [] h = tt
all_of P Q f (x ∷ xs) h = (f x h.0, all_of P Q f xs h.1)
