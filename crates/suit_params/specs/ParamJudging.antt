-- How a map of parameters is judged, case by case: the parameters, or the first refusal.
use Rattle.std.specs.Prelude.{ℕ, ◌==◌, nat_lt, if◌then◌else◌, List, [], ◌∷◌, Bool, length, Option, Some, None, Result, Ok, Err}
use Rattle.det_cbor.specs.DataItem.{DataItem, UnsignedInteger, ByteString, TextString, MapOf, Boolean, DataPairs, NoPairs, PairThen}
use Rattle.det_cbor.specs.HeadReading.{◌>>=◌}
use Rattle.suit_params.specs.declared.digest.Digest.{Digest}
use Rattle.suit_params.specs.declared.param.Param.{Param}
use Rattle.suit_params.specs.declared.param.Param.TheVariants as params
use Rattle.suit_params.specs.declared.param.ParamKey.{ParamKey}
use Rattle.suit_params.specs.declared.param.ParamKey.TheVariants as keys
use Rattle.suit_params.specs.declared.refusal.Refusal.{Refusal}
use Rattle.suit_params.specs.declared.refusal.Why.TheVariants.{Shape, UnknownParam, BadParam, BadIndex}
use Rattle.suit_params.specs.Refusing.{refused, content_place}
use Rattle.suit_params.specs.Reading.{whole_judged}
use Rattle.suit_params.specs.Judging.{judge_digest}
use Rattle.suit_params.specs.ParamKeys.{numbered}
use Rattle.suit_params.specs.Params.{value_place, next_place, pairs_place}

-- ---- values, by kind

-- an identifier has 16 bytes
abbrev pub judge_id : ℕ → DataItem → Result (List ℕ) Refusal
judge_id place (ByteString id) = if length id == 16 then Ok id else Err (refused place BadParam)
judge_id place _ = Err (refused place BadParam)

abbrev pub judge_bytes : ℕ → DataItem → Result (List ℕ) Refusal
judge_bytes place (ByteString bytes) = Ok bytes
judge_bytes place _ = Err (refused place BadParam)

abbrev pub judge_text : ℕ → DataItem → Result (List ℕ) Refusal
judge_text place (TextString text) = Ok text
judge_text place _ = Err (refused place BadParam)

abbrev pub judge_number : ℕ → DataItem → Result ℕ Refusal
judge_number place (UnsignedInteger n) = Ok n
judge_number place _ = Err (refused place BadParam)

abbrev pub judge_flag : ℕ → DataItem → Result Bool Refusal
judge_flag place (Boolean b) = Ok b
judge_flag place _ = Err (refused place BadParam)

-- an index is below the number of components
abbrev pub judge_index : ℕ → ℕ → ℕ → Result ℕ Refusal
judge_index count place i = if nat_lt i count then Ok i else Err (refused place (BadIndex i count))

-- the digest that the content of a byte string must be
abbrev pub judge_content : ℕ → List ℕ → Result Digest Refusal
judge_content place content = whole_judged judge_digest (content_place place content) content

-- ---- values, by key

abbrev pub judge_value : ℕ → ParamKey → ℕ → DataItem → Result Param Refusal
judge_value count keys.Vendor place x = judge_id place x >>= λ id. Ok (params.Vendor id)
judge_value count keys.Class place x = judge_id place x >>= λ id. Ok (params.Class id)
judge_value count keys.Device place x = judge_id place x >>= λ id. Ok (params.Device id)
judge_value count keys.Digest place x =
    judge_bytes place x >>= λ content. judge_content place content
    >>= λ d. Ok (params.Digest d)
judge_value count keys.Slot place x = judge_number place x >>= λ n. Ok (params.Slot n)
judge_value count keys.Strict place x = judge_flag place x >>= λ b. Ok (params.Strict b)
judge_value count keys.Soft place x = judge_flag place x >>= λ b. Ok (params.Soft b)
judge_value count keys.Size place x = judge_number place x >>= λ n. Ok (params.Size n)
judge_value count keys.Content place x = judge_bytes place x >>= λ bytes. Ok (params.Content bytes)
judge_value count keys.Uri place x = judge_text place x >>= λ text. Ok (params.Uri text)
judge_value count keys.Source place x =
    judge_number place x >>= λ n. judge_index count place n >>= λ i. Ok (params.Source i)
judge_value count keys.Args place x = judge_bytes place x >>= λ bytes. Ok (params.Args bytes)

-- ---- keys and pairs

abbrev pub known_param : ℕ → Option ParamKey → Result ParamKey Refusal
known_param place (Some key) = Ok key
known_param place None = Err (refused place UnknownParam)

abbrev pub judge_key : ℕ → DataItem → Result ParamKey Refusal
judge_key place (UnsignedInteger n) = known_param place (numbered n)
judge_key place _ = Err (refused place UnknownParam)

-- each key is judged before its value, and each pair before the next
abbrev pub judge_pairs : ℕ → ℕ → DataPairs → Result (List Param) Refusal
judge_pairs count place NoPairs = Ok []
judge_pairs count place (PairThen key value others) =
    judge_key place key >>= λ k. judge_value count k (value_place place key) value
    >>= λ p. judge_pairs count (next_place place key value) others >>= λ ps. Ok (p ∷ ps)

abbrev pub judge_params : ℕ → ℕ → DataItem → Result (List Param) Refusal
judge_params count place (MapOf pairs) = judge_pairs count (pairs_place place pairs) pairs
judge_params count place _ = Err (refused place Shape)
