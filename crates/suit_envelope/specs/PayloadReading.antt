-- How a payload is found, in bytes that were judged as an envelope before.
use Rattle.std.specs.Prelude.{ℕ, zero, suc, Bool, true, false, List, Option, Some, None, Result, Ok}
use Rattle.std.specs.Str.{bytes_eq}
use Rattle.det_cbor.specs.declared.head.HeadKind.{HeadKind}
use Rattle.det_cbor.specs.declared.head.HeadKind.TheVariants as kinds
use Rattle.det_cbor.specs.HeadReading.{◌>>=◌}
use Rattle.det_cbor.specs.Position.{Position}
use Rattle.suit_params.specs.declared.refusal.Refusal.{Refusal}
use Rattle.suit_params.specs.Reading.{head_from, bytes_from, content_from}
use Rattle.suit_envelope.specs.WrapperParts.{start_of}

-- the bytes of a key that is a text; any other key of an envelope is a number, which has no bytes after its
-- head
abbrev pub text_after : ℕ → Position → HeadKind → Result (Option (List ℕ) × Position) Refusal
text_after n p kinds.Text = bytes_from n p >>= λ b. Ok (Some b.0, b.1)
text_after n p _ = Ok (None, p)

unfoldable pub text_from : Position → Result (Option (List ℕ) × Position) Refusal
text_from p = head_from p >>= λ h. text_after h.0.value h.1 h.0.kind

-- ---- one pair

abbrev pub is_wanted : Option (List ℕ) → List ℕ → Bool
is_wanted (Some text) key = bytes_eq text key
is_wanted None key = false

abbrev pub content_where : Bool → List ℕ → Option (List ℕ)
content_where true content = Some content
content_where false content = None

-- the content of the next pair, if it has the key that is looked for
abbrev pub pair_from : List ℕ → Position → Result (Option (List ℕ) × Position) Refusal
pair_from key p =
    text_from p >>= λ t. content_from t.1
    >>= λ c. Ok (content_where (is_wanted t.0 key) c.0.left, c.1)

-- ---- the pairs

abbrev pub or_later : Option (List ℕ) → Result (Option (List ℕ)) Refusal
    → Result (Option (List ℕ)) Refusal
or_later (Some content) later = Ok (Some content)
or_later None later = later

-- the content of the first of the next n pairs with this key
abbrev pub found_from : List ℕ → ℕ → Position → Result (Option (List ℕ)) Refusal
found_from key zero p = Ok None
found_from key (suc n) p = pair_from key p >>= λ f. or_later f.0 (found_from key n f.1)

-- ---- the map

abbrev pub counted_after : ℕ → Position → HeadKind → Result (ℕ × Position) Refusal
counted_after n p kinds.Tag = head_from p >>= λ h. Ok (h.0.value, h.1)
counted_after n p _ = Ok (n, p)

-- the number of pairs of a map, which may be tagged, and the position of the first
unfoldable pub counted_from : Position → Result (ℕ × Position) Refusal
counted_from p = head_from p >>= λ h. counted_after h.0.value h.1 h.0.kind

-- the content of the payload with this key, if there is one
abbrev pub payload_from : List ℕ → List ℕ → Result (Option (List ℕ)) Refusal
payload_from key whole = counted_from (start_of whole) >>= λ m. found_from key m.0 m.1
