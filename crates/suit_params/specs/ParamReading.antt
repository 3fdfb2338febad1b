-- How a map of parameters is read, from an item that was judged before.
use Rattle.std.specs.Prelude.{ℕ, zero, suc, ◌==◌, if◌then◌else◌, List, [], ◌∷◌, Bool, Result, Ok, Err}
use Rattle.std.specs.Str.{is_utf8}
use Rattle.det_cbor.specs.declared.head.HeadKind.TheVariants as kinds
use Rattle.det_cbor.specs.declared.reason.Reason.TheVariants.{BadText}
use Rattle.det_cbor.specs.HeadReading.{◌>>=◌}
use Rattle.det_cbor.specs.Position.{Position}
use Rattle.suit_params.specs.declared.digest.Digest.{Digest}
use Rattle.suit_params.specs.declared.param.Param.{Param}
use Rattle.suit_params.specs.declared.param.Param.TheVariants as params
use Rattle.suit_params.specs.declared.param.ParamKey.{ParamKey}
use Rattle.suit_params.specs.declared.param.ParamKey.TheVariants as keys
use Rattle.suit_params.specs.declared.refusal.Refusal.{Refusal}
use Rattle.suit_params.specs.declared.refusal.Why.TheVariants.{Cbor, UnknownParam, BadParam}
use Rattle.suit_params.specs.Refusing.{refused}
use Rattle.suit_params.specs.Reading.{bytes_from, inner_from, only_from, kind_from, string_from, map_from}
use Rattle.suit_params.specs.DigestReading.{digest_at}
use Rattle.suit_params.specs.ParamKeys.{numbered}
use Rattle.suit_params.specs.ParamJudging.{known_param, judge_index}

-- ---- keys

unfoldable pub key_from : Position → Result (ParamKey × Position) Refusal
key_from p =
    kind_from kinds.Unsigned UnknownParam p
    >>= λ n. known_param p.place (numbered n.0) >>= λ key. Ok (key, n.1)

-- ---- values, by kind

unfoldable pub id_from : Position → Result (List ℕ × Position) Refusal
id_from p =
    kind_from kinds.Bytes BadParam p
    >>= λ n. if n.0 == 16 then bytes_from n.0 n.1 else Err (refused p.place BadParam)

-- the content of a byte string, at its place
unfoldable pub held_from : Position → Result (Position × Position) Refusal
held_from p = kind_from kinds.Bytes BadParam p >>= λ n. string_from n.0 n.1

abbrev pub text_bytes : ℕ → ℕ → Position → Result (List ℕ × Position) Refusal
text_bytes place n p =
    bytes_from n p >>= λ t. if is_utf8 t.0 then Ok t else Err (refused place (Cbor BadText))

unfoldable pub text_from : Position → Result (List ℕ × Position) Refusal
text_from p = kind_from kinds.Text BadParam p >>= λ n. text_bytes p.place n.0 n.1

unfoldable pub number_from : Position → Result (ℕ × Position) Refusal
number_from p = kind_from kinds.Unsigned BadParam p

unfoldable pub flag_from : Position → Result (Bool × Position) Refusal
flag_from p = kind_from kinds.Bool BadParam p >>= λ n. Ok (n.0 == 1, n.1)

abbrev pub index_from : ℕ → Position → Result (ℕ × Position) Refusal
index_from count p = number_from p >>= λ n. judge_index count p.place n.0 >>= λ i. Ok (i, n.1)

abbrev pub digest_from : Position → Result (Digest × Position) Refusal
digest_from p = held_from p >>= λ c. only_from c.0 >>= λ item. digest_at item >>= λ d. Ok (d, c.1)

abbrev pub bytes_value_from : Position → Result (List ℕ × Position) Refusal
bytes_value_from p = held_from p >>= λ c. Ok (c.0.left, c.1)

-- ---- values, by key

abbrev pub value_from : ℕ → ParamKey → Position → Result (Param × Position) Refusal
value_from count keys.Vendor p = id_from p >>= λ v. Ok (params.Vendor v.0, v.1)
value_from count keys.Class p = id_from p >>= λ v. Ok (params.Class v.0, v.1)
value_from count keys.Device p = id_from p >>= λ v. Ok (params.Device v.0, v.1)
value_from count keys.Digest p =
    digest_from p >>= λ v. Ok (params.Digest v.0, v.1)
value_from count keys.Slot p = number_from p >>= λ v. Ok (params.Slot v.0, v.1)
value_from count keys.Strict p = flag_from p >>= λ v. Ok (params.Strict v.0, v.1)
value_from count keys.Soft p = flag_from p >>= λ v. Ok (params.Soft v.0, v.1)
value_from count keys.Size p = number_from p >>= λ v. Ok (params.Size v.0, v.1)
value_from count keys.Content p = bytes_value_from p >>= λ v. Ok (params.Content v.0, v.1)
value_from count keys.Uri p = text_from p >>= λ v. Ok (params.Uri v.0, v.1)
value_from count keys.Source p = index_from count p >>= λ v. Ok (params.Source v.0, v.1)
value_from count keys.Args p = bytes_value_from p >>= λ v. Ok (params.Args v.0, v.1)

-- ---- the map

abbrev pub param_from : ℕ → Position → Result (Param × Position) Refusal
param_from count p = key_from p >>= λ k. value_from count k.0 k.1

-- the next n pairs
abbrev pub params_from : ℕ → ℕ → Position → Result (List Param) Refusal
params_from count zero p = Ok []
params_from count (suc n) p =
    param_from count p >>= λ v. params_from count n v.1 >>= λ ps. Ok (v.0 ∷ ps)

-- a whole item, read as a map of parameters
unfoldable pub params_at : ℕ → Position → Result (List Param) Refusal
params_at count p = map_from p >>= λ n. params_from count n.0 n.1

-- the next item, read as a map of parameters
abbrev pub next_params : ℕ → Position → Result (List Param × Position) Refusal
next_params count p = inner_from p >>= λ x. params_at count x.0 >>= λ ps. Ok (ps, x.1)
