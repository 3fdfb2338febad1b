-- The integrated payloads in their order, in bytes that were judged as an envelope before.
use Rattle.std.specs.Prelude.{ℕ, zero, suc, List, [], ◌∷◌, Option, Some, None, option_map, Result, Ok, Err}
use Rattle.det_cbor.specs.HeadReading.{◌>>=◌}
use Rattle.det_cbor.specs.ItemReading.{utf8_text}
use Rattle.det_cbor.specs.Position.{Position}
use Rattle.suit_params.specs.declared.refusal.Refusal.{Refusal}
use Rattle.suit_params.specs.Reading.{content_from}
use Rattle.suit_envelope.specs.WrapperParts.{start_of}
use Rattle.suit_envelope.specs.PayloadReading.{text_from, counted_from}
use Rattle.suit_envelope.specs.declared.listing.KeyedPayload.{KeyedPayload}

-- a payload of the code: its key and its content
abbrev pub said_payload : KeyedPayload → List ℕ × List ℕ
said_payload p = (p.key.now, p.content.now)

-- the payload with this key, if the key is a text
abbrev pub keyed : Option (List ℕ) → List ℕ → Option (List ℕ × List ℕ)
keyed None content = None
keyed (Some key) content = option_map (λ text. (text, content)) (utf8_text key)

-- the payload in the next pair, if it is one
abbrev pub listed_pair : Position → Result (Option (List ℕ × List ℕ) × Position) Refusal
listed_pair p = text_from p >>= λ t. content_from t.1 >>= λ c. Ok (keyed t.0 c.0.left, c.1)

abbrev pub listed_then : Option (List ℕ × List ℕ) → List (List ℕ × List ℕ) → List (List ℕ × List ℕ)
listed_then (Some p) ps = p ∷ ps
listed_then None ps = ps

abbrev pub listed_after : (Position → List (List ℕ × List ℕ)) → Result (Option (List ℕ × List ℕ) × Position) Refusal → List (List ℕ × List ℕ)
listed_after later (Ok f) = listed_then f.0 (later f.1)
listed_after later (Err r) = []

-- the payloads among the next n pairs
abbrev pub listed_from : ℕ → Position → List (List ℕ × List ℕ)
listed_from zero p = []
listed_from (suc n) p = listed_after (λ q. listed_from n q) (listed_pair p)

abbrev pub listed_where : Result (ℕ × Position) Refusal → List (List ℕ × List ℕ)
listed_where (Ok m) = listed_from m.0 m.1
listed_where (Err r) = []

-- the payloads of an envelope
abbrev pub listed_payloads : List ℕ → List (List ℕ × List ℕ)
listed_payloads whole = listed_where (counted_from (start_of whole))
