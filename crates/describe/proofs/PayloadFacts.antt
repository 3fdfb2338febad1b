-- The payloads of a spelled envelope are byte strings.
use Rattle.std.proofs.Common.{◌≡◌, ℕ, ◌+◌, Bool, true, false, cond, eqb, List, length, Option, Some, None, sym, subst}
use Rattle.std.specs.List.{AllByRecursion}
use Rattle.det_cbor.specs.Heads.{head_bytes}
use Rattle.det_cbor.specs.DataItem.{DataItem, UnsignedInteger, NegativeInteger, ByteString, TextString, ArrayOf, MapOf, TaggedItem, Boolean, NullItem, DataPairs, NoPairs, PairThen, pair_count, spell, IsByte, IsValid, IsValidWithin, ArePairsWithin}
use Rattle.suit_envelope.specs.Envelopes.{EnvelopeMap, entries, as_map, envelope_map}
use Rattle.suit_envelope.specs.Payloads.{payload_then, integrated_payloads, HasPayloads}

abbrev pub HoldBytes : List (List ℕ × List ℕ) → Type 0
HoldBytes ps = AllByRecursion (λ p. AllByRecursion IsByte p.1) ps

-- ---- one pair

text_pair : (levels : ℕ) (text : List ℕ) (value : DataItem) (others : List (List ℕ × List ℕ)) → IsValidWithin levels value → HoldBytes others → HoldBytes (payload_then (TextString text) value others)
text_pair levels text (ByteString content) others valid h = (valid.1, h)
text_pair levels text (UnsignedInteger n) others valid h = h
text_pair levels text (NegativeInteger n) others valid h = h
text_pair levels text (TextString t) others valid h = h
text_pair levels text (ArrayOf xs) others valid h = h
text_pair levels text (MapOf ps) others valid h = h
text_pair levels text (TaggedItem tag x) others valid h = h
text_pair levels text (Boolean b) others valid h = h
text_pair levels text NullItem others valid h = h

one_pair : (levels : ℕ) (key value : DataItem) (others : List (List ℕ × List ℕ)) → IsValidWithin levels value → HoldBytes others → HoldBytes (payload_then key value others)
one_pair levels (TextString text) value others valid h = text_pair levels text value others valid h
one_pair levels (UnsignedInteger n) value others valid h = h
one_pair levels (NegativeInteger n) value others valid h = h
one_pair levels (ByteString b) value others valid h = h
one_pair levels (ArrayOf xs) value others valid h = h
one_pair levels (MapOf ps) value others valid h = h
one_pair levels (TaggedItem tag x) value others valid h = h
one_pair levels (Boolean b) value others valid h = h
one_pair levels NullItem value others valid h = h

all_pairs : (levels place : ℕ) (before : Option (List ℕ)) (ps : DataPairs) → ArePairsWithin levels before ps → HoldBytes (integrated_payloads (entries place ps))
all_pairs levels place before NoPairs valid = tt
all_pairs levels place before (PairThen key value ps) valid =
    one_pair levels key value _ valid.2 (all_pairs levels (place + length (spell key) + length (spell value)) (Some (spell key)) ps valid.3)

-- ---- the map

abbrev HasPairs : EnvelopeMap → Type 0
HasPairs m = (levels : ℕ) × ArePairsWithin levels None m.pairs

map_pairs : (levels place : ℕ) (tagged : Bool) (x : DataItem) (m : EnvelopeMap) → IsValidWithin levels x → as_map tagged place x ≡ Some m → HasPairs m
map_pairs levels place tagged (MapOf ps) m valid is =
    let same : ◌≡◌ {A = EnvelopeMap} (record { tagged = tagged; place = place; pairs = ps }) m = cc in
    subst HasPairs same (levels + 1, valid.2)
map_pairs levels place tagged (UnsignedInteger n) m valid is = absurd cc
map_pairs levels place tagged (NegativeInteger n) m valid is = absurd cc
map_pairs levels place tagged (ByteString b) m valid is = absurd cc
map_pairs levels place tagged (TextString b) m valid is = absurd cc
map_pairs levels place tagged (ArrayOf xs) m valid is = absurd cc
map_pairs levels place tagged (TaggedItem t y) m valid is = absurd cc
map_pairs levels place tagged (Boolean b) m valid is = absurd cc
map_pairs levels place tagged NullItem m valid is = absurd cc

behind : (b : Bool) (tag : ℕ) (y : DataItem) (m : EnvelopeMap) → IsValid (TaggedItem tag y)
    → (let u : Bool × ℕ × DataItem = cond b (true, 0 + length (head_bytes 6 tag), y) (false, 0, TaggedItem tag y) in as_map u.0 u.1 u.2 ≡ Some m) → HasPairs m
behind true tag y m valid is = map_pairs 1 (0 + length (head_bytes 6 tag)) true y m valid.2 is
behind false tag y m valid is = absurd cc

envelope_pairs : (x : DataItem) (m : EnvelopeMap) → IsValid x → envelope_map 0 x ≡ Some m → HasPairs m
envelope_pairs (MapOf ps) m valid is = map_pairs 0 0 false (MapOf ps) m valid is
envelope_pairs (TaggedItem tag y) m valid is = behind (eqb tag 107) tag y m valid is
envelope_pairs (UnsignedInteger n) m valid is = absurd cc
envelope_pairs (NegativeInteger n) m valid is = absurd cc
envelope_pairs (ByteString b) m valid is = absurd cc
envelope_pairs (TextString b) m valid is = absurd cc
envelope_pairs (ArrayOf xs) m valid is = absurd cc
envelope_pairs (Boolean b) m valid is = absurd cc
envelope_pairs NullItem m valid is = absurd cc

pub payloads_fit : (bytes : List ℕ) (payloads : List (List ℕ × List ℕ)) → HasPayloads bytes payloads → HoldBytes payloads
payloads_fit bytes payloads has =
    let is = has.envelope.says_so in
    let pairs = envelope_pairs has.envelope.item is.map has.envelope.spells.valid is.shape in
    subst HoldBytes (sym has.are) (all_pairs pairs.0 (is.map.place + length (head_bytes 5 (pair_count is.map.pairs))) None is.map.pairs pairs.1)
