-- How wrappers and envelopes are judged, case by case: what they say, or the first refusal.
use Rattle.std.specs.Prelude.{ℕ, if◌then◌else◌, List, [], ◌∷◌, Option, Some, None, Result, Ok, Err}
use Rattle.det_cbor.specs.DataItem.{DataItem, ArrayOf, ItemThen}
use Rattle.det_cbor.specs.HeadReading.{◌>>=◌}
use Rattle.suit_params.specs.declared.digest.Digest.{Digest}
use Rattle.suit_params.specs.declared.refusal.Refusal.{Refusal}
use Rattle.suit_params.specs.declared.refusal.Why.TheVariants.{Shape, UnknownKey, Missing}
use Rattle.suit_params.specs.Refusing.{refused}
use Rattle.suit_params.specs.Judging.{judge_string, judge_held, judge_each, judge_digest}
use Rattle.suit_envelope.specs.Wrapper.{elements_place, blocks_of}
use Rattle.suit_envelope.specs.Envelopes.{Entry, EnvelopeMap, EnvelopeSays, key_of, map_entries, untagged, envelope_map, has_key, says_nothing, put_all}
use Rattle.suit_envelope.specs.declared.key.Key.{Key}
use Rattle.suit_envelope.specs.declared.key.Key.TheVariants.{Wrapper, Unknown}

abbrev pub judge_block : ℕ × DataItem → Result Unit Refusal
judge_block b = judge_string b.0 b.1 >>= λ _. Ok tt

abbrev pub judge_wrapper : ℕ → DataItem → Result Digest Refusal
judge_wrapper place (ArrayOf (ItemThen first blocks)) =
    judge_held judge_digest (elements_place place blocks) first
    >>= λ digest. judge_each judge_block (blocks_of place first blocks) >>= λ _. Ok digest
judge_wrapper place _ = Err (refused place Shape)

abbrev pub known_key : ℕ → Key → Result Unit Refusal
known_key place Unknown = Err (refused place UnknownKey)
known_key place _ = Ok tt

abbrev pub judge_key : Entry → Result Unit Refusal
judge_key e = known_key e.key_place (key_of e.key)

abbrev pub judge_lack : ℕ → List Entry → ℕ → Result Unit Refusal
judge_lack place es n = if has_key n es then Ok tt else Err (refused place (Missing n))

abbrev pub judge_content : ℕ → DataItem → Key → Result Unit Refusal
judge_content place x Wrapper = judge_held judge_wrapper place x >>= λ _. Ok tt
judge_content place x _ = judge_string place x >>= λ _. Ok tt

abbrev pub judge_value : Entry → Result Unit Refusal
judge_value e = judge_content e.value_place e.value (key_of e.key)

abbrev pub judge_map : EnvelopeMap → Result EnvelopeSays Refusal
judge_map m =
    judge_each judge_key (map_entries m)
    >>= λ _. judge_each (judge_lack m.place (map_entries m)) (2 ∷ 3 ∷ [])
    >>= λ _. judge_each judge_value (map_entries m)
    >>= λ _. Ok (put_all (says_nothing m.tagged) (map_entries m))

abbrev pub judge_shape : ℕ → Option EnvelopeMap → Result EnvelopeSays Refusal
judge_shape place None = Err (refused place Shape)
judge_shape place (Some m) = judge_map m

abbrev pub judge_envelope : ℕ → DataItem → Result EnvelopeSays Refusal
judge_envelope place x = judge_shape (untagged place x).1 (envelope_map place x)
