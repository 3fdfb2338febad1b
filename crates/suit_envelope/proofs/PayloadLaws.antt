-- The payloads of an envelope are found by their keys.
use Rattle.std.proofs.Common.{◌≡◌, ◌≢◌, ℕ, suc, ◌+◌, ◌-◌, ◌<◌, Bool, true, false, cond, eqb, List, [], ◌++◌, length, Option, Some, None, Result, Ok, Err, refl, sym, ap, subst, ◌∙◌, arith}
use Rattle.std.specs.Prelude.{IfSome, option_map}
use Rattle.std.specs.List.{AllByRecursion, Contains}
use Rattle.std.specs.Str.{bytes_eq}
use Rattle.std.proofs.lemmas.List.{append-nil, length-append}
use Rattle.det_cbor.specs.Heads.{head_bytes}
use Rattle.det_cbor.specs.DataItem.{DataItem, UnsignedInteger, ByteString, TextString, MapOf, TaggedItem, DataPairs, PairThen, pair_count, spell, spell_pairs, IsValid, IsValidWithin, ArePairsWithin}
use Rattle.det_cbor.specs.Position.{Position}
use Rattle.det_cbor.specs.ResultLaws.{same_ok, not_both}
use Rattle.suit_params.specs.declared.refusal.Refusal.{Refusal}
use Rattle.suit_params.specs.Refusing.{IsByteString, content_place}
use Rattle.suit_params.specs.Reading.{content_from}
use Rattle.suit_params.specs.HeadLaws.{item_head_read, bytes_again, after}
use Rattle.suit_params.specs.HeldLaws.{by_string, content_read}
use Rattle.suit_envelope.specs.Envelopes.{EnvelopeMap, entries, map_entries, key_of, as_map, envelope_map, IsKnown, IsValue}
use Rattle.suit_envelope.specs.Payloads.{payload_then, integrated_payloads, HasPayloads, payload_under}
use Rattle.suit_envelope.specs.PayloadReading.{text_from, is_wanted, content_where, pair_from, or_later, found_from, counted_from, payload_from}
use Rattle.suit_envelope.specs.WrapperParts.{start_of}
use Rattle.suit_envelope.specs.declared.key.Key.TheVariants.{Unknown}
use Rattle.suit_envelope.proofs.EntryOrder.{entries_ascend}
use Rattle.suit_envelope.proofs.PairSteps.{after_pair, PairFirst, by_pairs}
use Rattle.suit_envelope.proofs.PayloadKeys.{Payloads, AreApart, payloads_apart, contained_under, under_contained}

-- ---- keys

abbrev pub text_of : DataItem → Option (List ℕ)
text_of (TextString text) = Some text
text_of _ = None

pub text_read : (levels : ℕ) (p : Position) (k : DataItem) (rest : List ℕ) → key_of k ≢ Unknown → IsValidWithin levels k → p.left ≡ spell k ++ rest → text_from p ≡ Ok (text_of k, after p (spell k) rest)
unfolding text_from
text_read levels p (UnsignedInteger n) rest known valid is = rw (item_head_read levels p (UnsignedInteger n) rest valid is) refl
text_read levels p (TextString text) rest known valid is =
    let head = head_bytes 3 (length text) in
    let q = after p head (text ++ rest) in
    let last : q.place + length text ≡ p.place + length (head ++ text) = omega (arith, length-append head text) in
    rw (item_head_read levels p (TextString text) rest valid is, bytes_again q text rest refl) (ap (λ (n : ℕ). Ok (Some text, record { left = rest; place = n })) last)
text_read levels p _ rest known valid is = absurd (known refl)

-- ---- pairs

-- a pair is read at a position: its key, if it is a text, and the content of its value; P holds of the pairs
-- after it, whose payloads are these
pub record PayloadFirst (P : ℕ → Position → Payloads → Type 0) (n : ℕ) (p : Position) (key : DataItem) (content : List ℕ) (others : Payloads) : Type 0 where
  pub levels : ℕ
  pub valid : IsValidWithin levels key
  pub known : key_of key ≢ Unknown
  pub behind : Position
  pub text : text_from p ≡ Ok (text_of key, behind)
  pub place : ℕ
  pub next : Position
  pub held : content_from behind ≡ Ok (record { left = content; place = place }, next)
  pub later : P n next others

-- P holds of no pairs, and of one more pair
pub record PayloadSteps (P : ℕ → Position → Payloads → Type 0) : Type 0 where
  pub none : (p : Position) → P 0 p []
  pub more : (n : ℕ) (p : Position) (key : DataItem) (content : List ℕ) (others : Payloads) → PayloadFirst P n p key content others → P (suc n) p (payload_then key (ByteString content) others)

-- P holds of the payloads among pairs that are good
abbrev AmongGood : (ℕ → Position → Payloads → Type 0) → ℕ → Position → DataPairs → Type 0
AmongGood P n p ps = AllByRecursion IsKnown (entries p.place ps) → AllByRecursion IsValue (entries p.place ps) → P n p (integrated_payloads (entries p.place ps))

first_good : (P : ℕ → Position → Payloads → Type 0) → PayloadSteps P
    → (levels : ℕ) (p : Position) (key value : DataItem) (ps : DataPairs) (rest : List ℕ) → PairFirst (AmongGood P) levels p key value ps rest → AmongGood P (suc (pair_count ps)) p (PairThen key value ps)
first_good P steps levels p key value ps rest first = λ known values.
    by_string (λ (y : DataItem). IsByteString y → PairFirst (AmongGood P) levels p key y ps rest → AmongGood P (suc (pair_count ps)) p (PairThen key y ps))
    (λ content b f k v.
    let q = after p (spell key) (spell (ByteString content) ++ rest) in
    steps.more (pair_count ps) p key content (integrated_payloads (entries (after_pair p key (ByteString content) rest).place ps)) (record {
      levels = levels;
      valid = f.key_valid;
      known = k.0;
      behind = q;
      text = text_read levels p key (spell (ByteString content) ++ rest) k.0 f.key_valid f.is;
      place = content_place q.place content;
      next = after_pair p key (ByteString content) rest;
      held = content_read levels q (ByteString content) rest f.value_valid refl;
      later = f.later k.1 v.1;
    }))
    (λ y other b. absurd (other.other b))
    value values.0.0 first known values

-- a pair with this byte string as its value is the first payload, or not a payload
first_or_later : (wanted : List ℕ) (k : DataItem) (content : List ℕ) (others : List (List ℕ × List ℕ)) → key_of k ≢ Unknown
    → or_later (content_where (is_wanted (text_of k) wanted) content) (Ok (payload_under others wanted)) ≡ Ok (payload_under (payload_then k (ByteString content) others) wanted)
first_or_later wanted (TextString text) content others known = by_test (bytes_eq text wanted)
  where
    by_test : (t : Bool) → or_later (content_where t content) (Ok (payload_under others wanted)) ≡ Ok (cond t (Some content) (payload_under others wanted))
    by_test true = refl
    by_test false = refl
first_or_later wanted (UnsignedInteger n) content others known = refl
first_or_later wanted _ content others known = absurd (known refl)

-- ---- the map

-- where the pairs of an envelope's map begin
pub record MapRead (x : DataItem) (m : EnvelopeMap) : Type 0 where
  pub levels : ℕ
  pub valid : ArePairsWithin levels None m.pairs
  pub start : Position
  pub read : counted_from (start_of (spell x)) ≡ Ok (pair_count m.pairs, start)
  pub left : start.left ≡ spell_pairs m.pairs ++ []
  pub place : start.place ≡ m.place + length (head_bytes 5 (pair_count m.pairs))

tagged_read : (tag : ℕ) (y : DataItem) (m : EnvelopeMap) → IsValid (TaggedItem tag y) → as_map true (0 + length (head_bytes 6 tag)) y ≡ Some m → MapRead (TaggedItem tag y) m
unfolding counted_from
tagged_read tag (MapOf ps) m valid is =
    let x = TaggedItem tag (MapOf ps) in
    let p = start_of (spell x) in
    let q = after p (head_bytes 6 tag) (spell (MapOf ps) ++ []) in
    let same : ◌≡◌ {A = EnvelopeMap} (record { tagged = true; place = 0 + length (head_bytes 6 tag); pairs = ps }) m = cc in
    subst (MapRead x) same (record {
      levels = 2;
      valid = valid.2.2;
      start = after q (head_bytes 5 (pair_count ps)) (spell_pairs ps ++ []);
      read = rw (item_head_read 0 p x [] valid (sym (append-nil (spell x))), item_head_read 1 q (MapOf ps) [] valid.2 refl) refl;
      left = refl;
      place = refl;
    })
tagged_read tag _ m valid is = absurd cc

behind_tag_read : (b : Bool) (tag : ℕ) (y : DataItem) (m : EnvelopeMap) → IsValid (TaggedItem tag y)
    → (let u : Bool × ℕ × DataItem = cond b (true, 0 + length (head_bytes 6 tag), y) (false, 0, TaggedItem tag y) in as_map u.0 u.1 u.2 ≡ Some m) → MapRead (TaggedItem tag y) m
behind_tag_read true tag y m valid is = tagged_read tag y m valid is
behind_tag_read false tag y m valid is = absurd cc

pub map_read : (x : DataItem) (m : EnvelopeMap) → IsValid x → envelope_map 0 x ≡ Some m → MapRead x m
unfolding counted_from
map_read (MapOf ps) m valid is =
    let x = MapOf ps in
    let p = start_of (spell x) in
    let same : ◌≡◌ {A = EnvelopeMap} (record { tagged = false; place = 0; pairs = ps }) m = cc in
    subst (MapRead x) same (record {
      levels = 1;
      valid = valid.2;
      start = after p (head_bytes 5 (pair_count ps)) (spell_pairs ps ++ []);
      read = rw (item_head_read 0 p x [] valid (sym (append-nil (spell x)))) refl;
      left = refl;
      place = refl;
    })
map_read (TaggedItem tag y) m valid is = behind_tag_read (eqb tag 107) tag y m valid is
map_read _ m valid is = absurd cc

-- ---- the envelope

-- P holds of the payloads of an envelope, given the pairs of its map
pub record PayloadsHeld (P : ℕ → Position → Payloads → Type 0) (bytes : List ℕ) (payloads : Payloads) : Type 0 where
  pub count : ℕ
  pub start : Position
  pub counted : counted_from (start_of bytes) ≡ Ok (count, start)
  pub holds : P count start payloads

pub payloads_held : (P : ℕ → Position → Payloads → Type 0) → PayloadSteps P → (bytes : List ℕ) (payloads : Payloads) → HasPayloads bytes payloads → PayloadsHeld P bytes payloads
payloads_held P steps bytes payloads has =
    let is = has.envelope.says_so in
    let m = is.map in
    let r = map_read has.envelope.item m has.envelope.spells.valid is.shape in
    let es : entries r.start.place m.pairs ≡ map_entries m = ap (λ (n : ℕ). entries n m.pairs) r.place in
    let all : AmongGood P (pair_count m.pairs) r.start m.pairs = by_pairs (AmongGood P) (λ p known values. steps.none p) (first_good P steps) r.levels r.start None m.pairs [] r.valid r.left in
    record {
      count = pair_count m.pairs;
      start = r.start;
      counted = ap (λ (l : List ℕ). counted_from (start_of l)) has.envelope.spells.is ∙ r.read;
      holds = subst (P (pair_count m.pairs) r.start) (ap integrated_payloads es ∙ sym has.are) (all (subst (AllByRecursion IsKnown) (sym es) is.known) (subst (AllByRecursion IsValue) (sym es) is.values));
    }

pub payload_read : (bytes : List ℕ) (payloads : Payloads) (key : List ℕ) → HasPayloads bytes payloads → payload_from key bytes ≡ Ok (payload_under payloads key)
payload_read bytes payloads key has =
    let found = payloads_held (λ n p ps. found_from key n p ≡ Ok (payload_under ps key)) (record {
      none = λ p. refl;
      more = λ n p k content others f. rw (f.text, f.held) (ap (or_later (content_where (is_wanted (text_of k) key) content)) f.later ∙ first_or_later key k content others f.known);
    }) bytes payloads has in
    rw found.counted found.holds

pub apart : (bytes : List ℕ) (payloads : List (List ℕ × List ℕ)) → HasPayloads bytes payloads → AreApart payloads
apart bytes payloads has =
    let is = has.envelope.says_so in
    let m = is.map in
    let r = map_read has.envelope.item m has.envelope.spells.valid is.shape in
    subst AreApart (sym has.are) (payloads_apart (map_entries m) (entries_ascend r.levels _ None m.pairs r.valid))

-- ---- the answer of a call

pub looked_up : (bytes : List ℕ) (found : Option (List ℕ)) (payloads : List (List ℕ × List ℕ)) (key : List ℕ) → Ok found ≡ payload_from key bytes → HasPayloads bytes payloads → found ≡ payload_under payloads key
looked_up bytes found payloads key e has = same_ok found (payload_under payloads key) (e ∙ payload_read bytes payloads key has)

pub never_refused : (bytes : List ℕ) (r : Refusal) (payloads : List (List ℕ × List ℕ)) (key : List ℕ) → Err r ≡ payload_from key bytes → HasPayloads bytes payloads → None ≡ payload_under payloads key
never_refused bytes r payloads key e has = not_both (payload_from key bytes) (payload_under payloads key) r (payload_read bytes payloads key has) (sym e)

pub every_found : (bytes : List ℕ) (payloads : List (List ℕ × List ℕ)) (key content : List ℕ) (found : Option (List ℕ)) → HasPayloads bytes payloads → found ≡ payload_under payloads key → Contains payloads (key, content) → found ≡ Some content
every_found bytes payloads key content found has is there = is ∙ contained_under payloads key content (apart bytes payloads has) there

pub found_there : {T : Type 0} (content : T → List ℕ) (bytes key : List ℕ) (found : Option T) → ((payloads : List (List ℕ × List ℕ)) → HasPayloads bytes payloads → option_map content found ≡ payload_under payloads key)
    → IfSome found (λ x. (payloads : List (List ℕ × List ℕ)) → HasPayloads bytes payloads → Contains payloads (key, content x))
found_there content bytes key None is = tt
found_there content bytes key (Some x) is = λ payloads has. under_contained payloads key (content x) (sym (is payloads has))

-- ---- one more turn of the loop

pub found_step : {T : Type 0} (content : T → List ℕ) (key : List ℕ) (count i : ℕ) (p q : Position) (found : Option T) (total : Result (Option (List ℕ)) Refusal) → i < count → found ≡ None → Ok (option_map content found, q) ≡ pair_from key p
    → found_from key (count - i) p ≡ total → found_from key (count - (i + 1)) q ≡ total
found_step {T} content key count i p q found total lt none e so_far =
    let one : count - i ≡ suc (count - (i + 1)) = omega arith in
    let pair : pair_from key p ≡ Ok (None, q) = sym e ∙ ap (λ (o : Option T). Ok (option_map content o, q)) none in
    let step : found_from key (count - i) p ≡ found_from key (count - (i + 1)) q = rw (one, pair) refl in
    sym step ∙ so_far
