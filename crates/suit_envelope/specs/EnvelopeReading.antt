-- How an envelope's map is read, from an item that was judged before.
use Rattle.std.specs.Prelude.{ℕ, zero, suc, ◌==◌, true, false, if◌then◌else◌, List, Option, Some, None, Result, Ok, Err}
use Rattle.det_cbor.specs.declared.head.HeadKind.{HeadKind}
use Rattle.det_cbor.specs.declared.head.HeadKind.TheVariants as kinds
use Rattle.det_cbor.specs.HeadReading.{◌>>=◌}
use Rattle.det_cbor.specs.Position.{Position}
use Rattle.suit_params.specs.declared.refusal.Refusal.{Refusal}
use Rattle.suit_params.specs.declared.refusal.Why.TheVariants.{Shape, Missing}
use Rattle.suit_params.specs.Refusing.{refused}
use Rattle.suit_params.specs.Reading.{head_from, kind_from, bytes_from, inner_from, only_from, content_from}
use Rattle.suit_envelope.specs.Envelopes.{EnvelopeSays, numbered_key, says_nothing, put}
use Rattle.suit_envelope.specs.Judging.{known_key}
use Rattle.suit_envelope.specs.WrapperReading.{wrapper_at}
use Rattle.suit_envelope.specs.declared.key.Key.{Key}
use Rattle.suit_envelope.specs.declared.key.Key.TheVariants.{Wrapper, Manifest, Payload, Unknown}
use Rattle.suit_envelope.specs.declared.key.Seen.{Seen}

-- a key, given its head, and the position after it; of an unknown key only the head is read
abbrev pub key_after : ℕ → Position → HeadKind → Result (Key × Position) Refusal
key_after n p kinds.Unsigned = Ok (numbered_key n, p)
key_after n p kinds.Text = bytes_from n p >>= λ b. Ok (Payload, b.1)
key_after n p _ = Ok (Unknown, p)

-- the next item, read as a key
unfoldable pub key_from : Position → Result (Key × Position) Refusal
key_from p = head_from p >>= λ h. key_after h.0.value h.1 h.0.kind

abbrev pub see : Seen → Key → Seen
see s Wrapper = record s { wrapper = true }
see s Manifest = record s { manifest = true }
see s _ = s

abbrev pub all_seen : ℕ → Seen → Result Unit Refusal
all_seen place s =
    if s.wrapper then (if s.manifest then Ok tt else Err (refused place (Missing 3)))
    else Err (refused place (Missing 2))

-- ---- values

-- the next item, read as a value: its content, if it is a byte string
abbrev pub value_by : Position → Result (Position × Position) Refusal
    → Result (Option Position × Position) Refusal
value_by p (Ok c) = Ok (Some c.0, c.1)
value_by p (Err r) = inner_from p >>= λ x. Ok (None, x.1)

abbrev pub value_from : Position → Result (Option Position × Position) Refusal
value_from p = value_by p (content_from p)

-- the first of two refusals, if there is one
abbrev pub first_refusal : Result Unit Refusal → Result Unit Refusal → Result Unit Refusal
first_refusal (Ok done) next = next
first_refusal (Err r) next = Err r

abbrev pub wrapper_held : Position → Result Unit Refusal
wrapper_held content = only_from content >>= λ item. wrapper_at item >>= λ _. Ok tt

-- the first refusal once this content is judged, which only the wrapper's is
abbrev pub content_judged : Result Unit Refusal → Key → Position → Result Unit Refusal
content_judged before Wrapper content = first_refusal before (wrapper_held content)
content_judged before _ content = before

abbrev pub value_judged : Result Unit Refusal → ℕ → Key → Option Position → Result Unit Refusal
value_judged before place key None = first_refusal before (Err (refused place Shape))
value_judged before place key (Some content) = content_judged before key content

abbrev pub put_content : EnvelopeSays → Key → Option Position → EnvelopeSays
put_content s key None = s
put_content s key (Some content) = put s key content.left content.place

-- ---- pairs

-- what the pairs say: which required keys are there, what the values put, and the first refusal of a value
pub record PairsSay : Type 0 where
  pub seen : Seen
  pub said : EnvelopeSays
  pub judged : Result Unit Refusal

-- the same after one more pair, whose value has this place
abbrev pub pair_more : PairsSay → Key → ℕ → Option Position → PairsSay
pair_more s key place value =
    record {
      seen = see s.seen key;
      said = put_content s.said key value;
      judged = value_judged s.judged place key value;
    }

-- the next pair, whose key must be known
abbrev pub pair_turn : Position → PairsSay → Result (PairsSay × Position) Refusal
pair_turn p s =
    key_from p >>= λ k. known_key p.place k.0 >>= λ _. value_from k.1
    >>= λ v. Ok (pair_more s k.0 k.1.place v.0, v.1)

-- the next n pairs
abbrev pub pairs_from : ℕ → Position → PairsSay → Result PairsSay Refusal
pairs_from zero p s = Ok s
pairs_from (suc n) p s = pair_turn p s >>= λ t. pairs_from n t.1 t.0

-- no pairs yet
abbrev pub no_pairs : EnvelopeSays → PairsSay
no_pairs s =
    record { seen = record { wrapper = false; manifest = false }; said = s; judged = Ok tt }

-- ---- the map

-- a map of n pairs at this place
abbrev pub map_from : ℕ → ℕ → Position → EnvelopeSays → Result EnvelopeSays Refusal
map_from n place p s =
    pairs_from n p (no_pairs s) >>= λ f. all_seen place f.seen >>= λ _. f.judged >>= λ _. Ok f.said

-- the content of tag 107
unfoldable pub behind_tag : Position → Result EnvelopeSays Refusal
behind_tag p =
    kind_from kinds.Map Shape p >>= λ n. map_from n.0 p.place n.1 (says_nothing true)

abbrev pub item_after : ℕ → ℕ → Position → HeadKind → Result EnvelopeSays Refusal
item_after place n p kinds.Map = map_from n place p (says_nothing false)
item_after place n p kinds.Tag = if n == 107 then behind_tag p else Err (refused place Shape)
item_after place n p _ = Err (refused place Shape)

-- a whole item, read as an envelope
unfoldable pub envelope_at : Position → Result EnvelopeSays Refusal
envelope_at p = head_from p >>= λ h. item_after p.place h.0.value h.1 h.0.kind

-- bytes as a whole, read as an envelope
abbrev pub envelope_from : List ℕ → Result EnvelopeSays Refusal
envelope_from bytes = only_from (record { left = bytes; place = 0 }) >>= λ item. envelope_at item
