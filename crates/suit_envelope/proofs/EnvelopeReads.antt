-- Reading an envelope agrees with judging it.
use Rattle.std.proofs.Common.{◌≡◌, ℕ, suc, ◌+◌, Bool, true, false, cond, eqb, List, [], ◌∷◌, ◌++◌, Option, None, Result, Ok, Err, refl, sym, ap, ◌∙◌}
use Rattle.std.specs.Result.{result_ok}
use Rattle.std.proofs.lemmas.List.{append-nil}
use Rattle.det_cbor.specs.Heads.{head_bytes}
use Rattle.det_cbor.specs.DataItem.{DataItem, ByteString, MapOf, TaggedItem, NullItem, DataPairs, NoPairs, PairThen, pair_count, spell, spell_pairs, IsValidWithin}
use Rattle.det_cbor.specs.declared.head.HeadKind.TheVariants as kinds
use Rattle.det_cbor.specs.HeadReading.{◌>>=◌}
use Rattle.det_cbor.specs.HeadSpelling.{spelled}
use Rattle.det_cbor.specs.ItemOrder.{spell_parts}
use Rattle.det_cbor.specs.Position.{Position}
use Rattle.suit_params.specs.declared.digest.Digest.{Digest}
use Rattle.suit_params.specs.declared.refusal.Refusal.{Refusal}
use Rattle.suit_params.specs.declared.refusal.Why.TheVariants.{Shape}
use Rattle.suit_params.specs.Refusing.{refused, content_place}
use Rattle.suit_params.specs.Judging.{judge_string, judge_each}
use Rattle.suit_params.specs.Reading.{kind_after, only_from}
use Rattle.det_cbor.specs.ItemHeads.{item_kind, item_value, item_head}
use Rattle.suit_params.specs.HeadLaws.{item_head_read, after}
use Rattle.suit_params.specs.HeldLaws.{ReadsAs, by_string, content_read, with_rest, content_is}
use Rattle.suit_envelope.specs.Envelopes.{Entry, EnvelopeSays, entries, key_of, as_map, says_nothing, put_value, put_all}
use Rattle.suit_envelope.specs.Judging.{known_key, judge_key, judge_content, judge_value, judge_wrapper, judge_map, judge_shape, judge_envelope}
use Rattle.suit_envelope.specs.WrapperReading.{wrapper_at}
use Rattle.suit_envelope.specs.EnvelopeReading.{PairsSay, see, all_seen, value_from, first_refusal, wrapper_held, content_judged, value_judged, put_content, pair_more, pairs_from, no_pairs, map_from, behind_tag, item_after, envelope_at}
use Rattle.suit_envelope.specs.declared.key.Key.{Key}
use Rattle.suit_envelope.specs.declared.key.Key.TheVariants.{Wrapper, Manifest, PayloadFetch, Install, Text, Payload, Unknown}
use Rattle.suit_envelope.proofs.KeyLaws.{inner_read, key_read, see_all, lacks_is}
use Rattle.suit_envelope.proofs.PairSteps.{after_pair, PairFirst, by_pairs}
use Rattle.suit_envelope.proofs.WrapperJudging.{wrapper_read}

-- ---- values

abbrev passed : Digest → Result Unit Refusal
passed digest = Ok tt

regroup : (r : Result Position Refusal) (f : Position → Result Digest Refusal) → (r >>= λ item. f item >>= passed) ≡ ((r >>= f) >>= passed)
regroup (Ok item) f = refl
regroup (Err e) f = refl

-- the wrapper's content is read as it is judged
wrapper_says : (levels place : ℕ) (bytes : List ℕ) → IsValidWithin levels (ByteString bytes) → wrapper_held (record { left = bytes; place = content_place place bytes }) ≡ judge_content place (ByteString bytes) Wrapper
wrapper_says levels place bytes valid =
    let c : Position = record { left = bytes; place = content_place place bytes } in
    regroup (only_from c) wrapper_at ∙ ap (λ (r : Result Digest Refusal). r >>= passed) (content_is wrapper_at judge_wrapper wrapper_read levels place bytes valid)

first_then : (a b c : Result Unit Refusal) → (first_refusal a b >>= λ _. c) ≡ (a >>= λ _. b >>= λ _. c)
first_then (Ok done) b c = refl
first_then (Err r) b c = refl

content_then : (levels place : ℕ) (bytes : List ℕ) (key : Key) (before rest : Result Unit Refusal) → IsValidWithin levels (ByteString bytes)
    → (content_judged before key (record { left = bytes; place = content_place place bytes }) >>= λ _. rest) ≡ (before >>= λ _. judge_content place (ByteString bytes) key >>= λ _. rest)
content_then levels place bytes Wrapper before rest valid = first_then before _ rest ∙ ap (λ (r : Result Unit Refusal). before >>= λ _. r >>= λ _. rest) (wrapper_says levels place bytes valid)
content_then levels place bytes Manifest before rest valid = refl
content_then levels place bytes PayloadFetch before rest valid = refl
content_then levels place bytes Install before rest valid = refl
content_then levels place bytes Text before rest valid = refl
content_then levels place bytes Payload before rest valid = refl
content_then levels place bytes Unknown before rest valid = refl

no_content : (place : ℕ) (x : DataItem) (r : Refusal) (key : Key) → judge_string place x ≡ Err r → judge_content place x key ≡ Err r
no_content place x r Wrapper e = rw e refl
no_content place x r Manifest e = rw e refl
no_content place x r PayloadFetch e = rw e refl
no_content place x r Install e = rw e refl
no_content place x r Text e = rw e refl
no_content place x r Payload e = rw e refl
no_content place x r Unknown e = rw e refl

-- the content of an item, if it is a byte string
abbrev value_is : ℕ → DataItem → Option Position
value_is place x = result_ok (judge_string place x)

value_read : (levels : ℕ) (p : Position) (x : DataItem) (rest : List ℕ) → IsValidWithin levels x → p.left ≡ spell x ++ rest → value_from p ≡ Ok (value_is p.place x, after p (spell x) rest)
value_read levels p x rest valid is =
    by_string (λ (y : DataItem). IsValidWithin levels y → p.left ≡ spell y ++ rest → value_from p ≡ Ok (value_is p.place y, after p (spell y) rest))
    (λ bytes v i. rw (content_read levels p (ByteString bytes) rest v i) refl)
    (λ y other v i. rw (content_read levels p y rest v i, other.judged p.place, inner_read levels p y rest v i) refl)
    x valid is

value_then : (levels place : ℕ) (x : DataItem) (key : Key) (before rest : Result Unit Refusal) → IsValidWithin levels x
    → (value_judged before place key (value_is place x) >>= λ _. rest) ≡ (before >>= λ _. judge_content place x key >>= λ _. rest)
value_then levels place x key before rest valid =
    by_string (λ (y : DataItem). IsValidWithin levels y → (value_judged before place key (value_is place y) >>= λ _. rest) ≡ (before >>= λ _. judge_content place y key >>= λ _. rest))
    (λ bytes v. content_then levels place bytes key before rest v)
    (λ y other v. rw (other.judged place, no_content place y (refused place Shape) key (other.judged place)) (first_then before (Err (refused place Shape)) rest))
    x valid

value_put : (s : EnvelopeSays) (key : Key) (place : ℕ) (x : DataItem) → put_content s key (value_is place x) ≡ put_value s key place x
value_put s key place NullItem = refl
value_put s key place _ = refl

-- ---- pairs

-- what the pairs say after more entries
abbrev more : PairsSay → List Entry → PairsSay
more s es = record { seen = see_all s.seen es; said = put_all s.said es; judged = s.judged >>= λ _. judge_each judge_value es }

then_nothing : (a : Result Unit Refusal) → a ≡ (a >>= λ _. Ok tt)
then_nothing (Ok done) = refl
then_nothing (Err r) = refl

one_more : (levels : ℕ) (s : PairsSay) (e : Entry) (es : List Entry) → IsValidWithin levels e.value → more (pair_more s (key_of e.key) e.value_place (value_is e.value_place e.value)) es ≡ more s (e ∷ es)
one_more levels s e es valid =
    let said : put_all (put_content s.said (key_of e.key) (value_is e.value_place e.value)) es ≡ put_all s.said (e ∷ es) = ap (λ (t : EnvelopeSays). put_all t es) (value_put s.said (key_of e.key) e.value_place e.value) in
    let judged = value_then levels e.value_place e.value (key_of e.key) s.judged (judge_each judge_value es) valid in
    λ i. record { seen = see_all (see s.seen (key_of e.key)) es; said = said i; judged = judged i }

step : (known : Result Unit Refusal) (t : PairsSay) (q : Position) (f : PairsSay × Position → Result PairsSay Refusal) (others : Result Unit Refusal) (z : PairsSay) → f (t, q) ≡ (others >>= λ _. Ok z)
    → ((known >>= λ _. with_rest q t) >>= f) ≡ ((known >>= λ _. others) >>= λ _. Ok z)
step (Ok done) t q f others z e = e
step (Err s) t q f others z e = refl

abbrev PairsRead : ℕ → Position → DataPairs → Type 0
PairsRead n p ps = (s : PairsSay) → pairs_from n p s ≡ (judge_each judge_key (entries p.place ps) >>= λ _. Ok (more s (entries p.place ps)))

first_read : (levels : ℕ) (p : Position) (key value : DataItem) (ps : DataPairs) (rest : List ℕ) → PairFirst PairsRead levels p key value ps rest → PairsRead (suc (pair_count ps)) p (PairThen key value ps)
first_read levels p key value ps rest first = λ s.
    let q = after p (spell key) (spell value ++ rest) in
    let r = after_pair p key value rest in
    let e : Entry = record { key = key; key_place = p.place; value = value; value_place = q.place } in
    let es = entries r.place ps in
    let t = pair_more s (key_of key) q.place (value_is q.place value) in
    let others : pairs_from (pair_count ps) r t ≡ (judge_each judge_key es >>= λ _. Ok (more s (e ∷ es))) =
    first.later t ∙ ap (λ (z : PairsSay). judge_each judge_key es >>= λ _. Ok z) (one_more levels s e es first.value_valid) in
    let value_of : Key × Position → Result (PairsSay × Position) Refusal = λ k. value_from k.1 >>= λ v. Ok (pair_more s k.0 k.1.place v.0, v.1) in
    let go_on : PairsSay × Position → Result PairsSay Refusal = λ u. pairs_from (pair_count ps) u.1 u.0 in
    rw (key_read levels p.place p key (spell value ++ rest) value_of first.key_valid first.is, value_read levels q value rest first.value_valid refl)
    (step (known_key p.place (key_of key)) t r go_on (judge_each judge_key es) (more s (e ∷ es)) others)

none_read : (p : Position) → PairsRead 0 p NoPairs
none_read p = λ s i. Ok (record { seen = s.seen; said = s.said; judged = then_nothing s.judged i })

-- ---- the map

pub map_read : (levels : ℕ) (p : Position) (ps : DataPairs) (tagged : Bool) (rest : List ℕ) → IsValidWithin levels (MapOf ps)
    → map_from (pair_count ps) p.place (after p (head_bytes 5 (pair_count ps)) (spell_pairs ps ++ rest)) (says_nothing tagged) ≡ judge_map (record { tagged = tagged; place = p.place; pairs = ps })
map_read levels p ps tagged rest valid =
    let q = after p (head_bytes 5 (pair_count ps)) (spell_pairs ps ++ rest) in
    let es = entries q.place ps in
    let nothing = says_nothing tagged in
    rw (by_pairs PairsRead none_read first_read (levels + 1) q None ps rest valid.2 refl (no_pairs nothing))
    (by_keys (judge_each judge_key es) (more (no_pairs nothing) es) (lacks_is p.place es))
  where
    by_keys : (r : Result Unit Refusal) (s : PairsSay) {lacks : Result Unit Refusal} → all_seen p.place s.seen ≡ lacks
        → ((r >>= λ _. Ok s) >>= λ t. all_seen p.place t.seen >>= λ _. t.judged >>= λ _. Ok t.said) ≡ (r >>= λ _. lacks >>= λ _. s.judged >>= λ _. Ok s.said)
    by_keys (Ok done) s e = rw e refl
    by_keys (Err r) s e = refl

-- ---- the whole item

record OtherThanMap (x : DataItem) : Type 0 where
  read : (place : ℕ) (p : Position) → kind_after kinds.Map Shape place (item_value x) p (item_kind x) ≡ Err (refused place Shape)
  no_map : (tagged : Bool) (place : ℕ) → as_map tagged place x ≡ None

by_map : (P : DataItem → Type 0) → ((ps : DataPairs) → P (MapOf ps)) → ((x : DataItem) → OtherThanMap x → P x) → (x : DataItem) → P x
by_map P map other (MapOf ps) = map ps
by_map P map other x = other x (record { read = λ place p. refl; no_map = λ t place. refl })

behind_read : (levels : ℕ) (p : Position) (x : DataItem) (rest : List ℕ) → IsValidWithin levels x → p.left ≡ spell x ++ rest → behind_tag p ≡ judge_shape p.place (as_map true p.place x)
unfolding behind_tag
behind_read levels p x rest valid is =
    by_map (λ (y : DataItem). IsValidWithin levels y → p.left ≡ spell y ++ rest → behind_tag p ≡ judge_shape p.place (as_map true p.place y))
    (λ ps v i. rw (item_head_read levels p (MapOf ps) rest v i) (map_read levels p ps true rest v))
    (λ y other v i. rw (item_head_read levels p y rest v i, other.read p.place (after p _ _), other.no_map true p.place) refl)
    x valid is

-- an item that is neither a map nor tagged
alone : (levels place : ℕ) (x : DataItem) → IsValidWithin levels x → ((p : Position) → item_after place (item_value x) p (item_kind x) ≡ judge_envelope place x) → envelope_at (record { left = spell x; place = place }) ≡ judge_envelope place x
unfolding envelope_at
alone levels place x valid e =
    let p : Position = record { left = spell x; place = place } in
    rw (item_head_read levels p x [] valid (sym (append-nil (spell x)))) (e (after p (spelled (item_head x)) (spell_parts x ++ [])))

pub envelope_read : ReadsAs envelope_at judge_envelope
unfolding envelope_at
envelope_read levels place (MapOf ps) valid =
    let p : Position = record { left = spell (MapOf ps); place = place } in
    rw (item_head_read levels p (MapOf ps) [] valid (sym (append-nil (spell (MapOf ps))))) (map_read levels p ps false [] valid)
envelope_read levels place (TaggedItem tag x) valid =
    let p : Position = record { left = spell (TaggedItem tag x); place = place } in
    let q = after p (head_bytes 6 tag) (spell x ++ []) in
    rw (item_head_read levels p (TaggedItem tag x) [] valid (sym (append-nil (spell (TaggedItem tag x))))) (by_test (eqb tag 107) q (behind_read (levels + 1) q x [] valid.2 refl))
  where
    by_test : (t : Bool) (q : Position) → behind_tag q ≡ judge_shape q.place (as_map true q.place x)
        → cond t (behind_tag q) (Err (refused place Shape)) ≡ (let u : Bool × ℕ × DataItem = cond t (true, q.place, x) (false, place, TaggedItem tag x) in judge_shape u.1 (as_map u.0 u.1 u.2))
    by_test true q e = e
    by_test false q e = refl
envelope_read levels place x valid = alone levels place x valid (λ p. refl)
