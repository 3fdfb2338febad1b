-- Judging an envelope agrees with the grammar and the refusals.
use Rattle.std.proofs.Common.{◌≡◌, ◌≢◌, ℕ, ◌+◌, Bool, true, false, cond, List, [], ◌∷◌, length, Option, Some, None, Result, Ok, Err, refl, sym, ap, subst, ◌∙◌, inl, inr, ◌⊎◌}
use Rattle.std.specs.Prelude.{◌==◌}
use Rattle.det_cbor.specs.Heads.{head_bytes}
use Rattle.std.specs.List.{AllByRecursion}
use Rattle.det_cbor.specs.DataItem.{DataItem, MapOf, TaggedItem, DataPairs, NoPairs, PairThen, spell, IsValidWithin, ArePairsWithin}
use Rattle.det_cbor.specs.ResultLaws.{bind_ok, bind_err, same_ok, same_err}
use Rattle.suit_params.specs.declared.digest.Digest.{Digest}
use Rattle.suit_params.specs.declared.refusal.Refusal.{Refusal}
use Rattle.suit_params.specs.declared.refusal.Why.TheVariants.{Shape, UnknownKey, Missing}
use Rattle.suit_params.specs.Refusing.{refused, IsByteString, RefusesHeld, SaysHeld}
use Rattle.suit_params.specs.Judging.{judge_held, judge_each}
use Rattle.suit_params.specs.JudgingLaws.{Judges}
use Rattle.suit_params.specs.HeldLaws.{by_string, held_judges, JudgesEach, Anything, all_anything, each_ok, each_again, each_err, each_refused}
use Rattle.suit_envelope.specs.Wrapper.{IsWrapper, RefusesWrapper}
use Rattle.suit_envelope.specs.Envelopes.{Entry, EnvelopeMap, EnvelopeSays, entries, map_entries, key_of, untagged, as_map, envelope_map, has_key, says_nothing, put_all, IsKnown, IsValue, IsEnvelope, RefusesKey, OtherKey, RefusesLack, LacksKey, RefusesValue, NoBytes, BadWrapper, RefusesEnvelope, NoMap, BadKey, Lacks, BadValue}
use Rattle.suit_envelope.specs.Judging.{known_key, judge_key, judge_lack, judge_content, judge_value, judge_wrapper, judge_map, judge_shape, judge_envelope}
use Rattle.suit_envelope.specs.declared.key.Key.{Key}
use Rattle.suit_envelope.specs.declared.key.Key.TheVariants.{Wrapper, Manifest, PayloadFetch, Install, Text, Payload, Unknown}
use Rattle.suit_envelope.proofs.WrapperJudging.{wrapper_judges}

-- ---- keys

key_ok : (place : ℕ) (key : Key) → known_key place key ≡ Ok tt → key ≢ Unknown
key_ok place Unknown e = absurd cc
key_ok place Wrapper e = λ f. absurd cc
key_ok place Manifest e = λ f. absurd cc
key_ok place PayloadFetch e = λ f. absurd cc
key_ok place Install e = λ f. absurd cc
key_ok place Text e = λ f. absurd cc
key_ok place Payload e = λ f. absurd cc

key_again : (place : ℕ) (key : Key) → key ≢ Unknown → known_key place key ≡ Ok tt
key_again place Unknown known = absurd (known refl)
key_again place Wrapper known = refl
key_again place Manifest known = refl
key_again place PayloadFetch known = refl
key_again place Install known = refl
key_again place Text known = refl
key_again place Payload known = refl

key_err : (place : ℕ) (key : Key) (r : Refusal) → known_key place key ≡ Err r → (key ≡ Unknown) × (refused place UnknownKey ≡ r)
key_err place Unknown r e = (refl, same_err _ r e)
key_err place Wrapper r e = absurd cc
key_err place Manifest r e = absurd cc
key_err place PayloadFetch r e = absurd cc
key_err place Install r e = absurd cc
key_err place Text r e = absurd cc
key_err place Payload r e = absurd cc

key_refused : (e : Entry) (r : Refusal) → RefusesKey e r → judge_key e ≡ Err r
key_refused e r (OtherKey is) = ap (known_key e.key_place) is

keys_judge : JudgesEach Anything judge_key IsKnown RefusesKey
keys_judge = record {
  ok = λ e fits f. key_ok e.key_place (key_of e.key) f;
  again = λ e known. key_again e.key_place (key_of e.key) known;
  err = λ e r fits f. let found = key_err e.key_place (key_of e.key) r f in subst (RefusesKey e) found.1 (OtherKey found.0);
  refuses = key_refused;
}

-- ---- missing keys

lack_ok : (b : Bool) (e : Refusal) → cond {A = Result Unit Refusal} b (Ok tt) (Err e) ≡ Ok tt → b ≡ true
lack_ok true e f = refl
lack_ok false e f = absurd cc

lack_err : (b : Bool) (e r : Refusal) → cond {A = Result Unit Refusal} b (Ok tt) (Err e) ≡ Err r → (b ≡ false) × (e ≡ r)
lack_err true e r f = absurd cc
lack_err false e r f = (refl, same_err e r f)

lacks_judge : (place : ℕ) (es : List Entry) → JudgesEach Anything (judge_lack place es) (λ n. has_key n es ≡ true) (RefusesLack place es)
lacks_judge place es = record {
  ok = λ n fits f. lack_ok (has_key n es) (refused place (Missing n)) f;
  again = λ n has. rw has refl;
  err = λ n r fits f. let found = lack_err (has_key n es) (refused place (Missing n)) r f in subst (RefusesLack place es n) found.1 (LacksKey found.0);
  refuses = λ n r lacks. lack_refused n r lacks;
}
  where
    lack_refused : (n : ℕ) (r : Refusal) → RefusesLack place es n r → judge_lack place es n ≡ Err r
    lack_refused n r (LacksKey has) = rw has refl

-- ---- values

held : Judges (judge_held judge_wrapper) (SaysHeld IsWrapper) (RefusesHeld RefusesWrapper)
held = held_judges judge_wrapper IsWrapper RefusesWrapper wrapper_judges

abbrev held_value : ℕ → DataItem → Result Digest Refusal
held_value place x = judge_held judge_wrapper place x

abbrev passed : Digest → Result Unit Refusal
passed digest = Ok tt

-- a key is the wrapper's or another one
wrapper_or_other : (P : Key → Type 0) → P Wrapper → ((key : Key) → key ≢ Wrapper → ((place : ℕ) (x : DataItem) → judge_content place x key ≡ judge_content place x Text) → P key) → (key : Key) → P key
wrapper_or_other P wrapper other Wrapper = wrapper
wrapper_or_other P wrapper other Manifest = other Manifest (λ e. absurd cc) (λ place x. refl)
wrapper_or_other P wrapper other PayloadFetch = other PayloadFetch (λ e. absurd cc) (λ place x. refl)
wrapper_or_other P wrapper other Install = other Install (λ e. absurd cc) (λ place x. refl)
wrapper_or_other P wrapper other Text = other Text (λ e. absurd cc) (λ place x. refl)
wrapper_or_other P wrapper other Payload = other Payload (λ e. absurd cc) (λ place x. refl)
wrapper_or_other P wrapper other Unknown = other Unknown (λ e. absurd cc) (λ place x. refl)

-- ---- values that are byte strings with any content

plain_ok : (place : ℕ) (x : DataItem) → judge_content place x Text ≡ Ok tt → IsByteString x
plain_ok place x e =
    by_string (λ (y : DataItem). judge_content place y Text ≡ Ok tt → IsByteString y)
    (λ bytes f. tt)
    (λ y o f. let is : judge_content place y Text ≡ Err (refused place Shape) = rw (o.judged place) refl in absurd cc)
    x e

plain_again : (place : ℕ) (x : DataItem) → IsByteString x → judge_content place x Text ≡ Ok tt
plain_again place x bytes = by_string (λ (y : DataItem). IsByteString y → judge_content place y Text ≡ Ok tt) (λ c f. refl) (λ y o f. absurd (o.other f)) x bytes

plain_err : (place : ℕ) (x : DataItem) (r : Refusal) → judge_content place x Text ≡ Err r → (IsByteString x → ⊥) × (refused place Shape ≡ r)
plain_err place x r e =
    by_string (λ (y : DataItem). judge_content place y Text ≡ Err r → (IsByteString y → ⊥) × (refused place Shape ≡ r))
    (λ bytes f. absurd cc)
    (λ y o f. let is : judge_content place y Text ≡ Err (refused place Shape) = rw (o.judged place) refl in (o.other, same_err _ r (sym is ∙ f)))
    x e

no_bytes : (place : ℕ) (x : DataItem) (key : Key) → (IsByteString x → ⊥) → judge_content place x key ≡ Err (refused place Shape)
no_bytes place x key none =
    by_string (λ (y : DataItem). (IsByteString y → ⊥) → judge_content place y key ≡ Err (refused place Shape))
    (λ bytes f. absurd (f tt))
    (λ y o f. wrapper_or_other (λ (k : Key). judge_content place y k ≡ Err (refused place Shape)) (rw (o.judged place) refl) (λ k other same. same place y ∙ rw (o.judged place) refl) key)
    x none

-- ---- values, by key

abbrev SaysValue : ℕ → DataItem → Key → Type 0
SaysValue place x key = IsByteString x × (key ≡ Wrapper → (digest : Digest) × SaysHeld IsWrapper place x digest)

value_ok : (levels place : ℕ) (x : DataItem) (key : Key) → IsValidWithin levels x → judge_content place x key ≡ Ok tt → SaysValue place x key
value_ok levels place x key valid e =
    wrapper_or_other (λ (k : Key). judge_content place x k ≡ Ok tt → SaysValue place x k)
    (λ f. bind_ok (held_value place x) passed tt f (λ digest is g.
    let says = held.ok levels place x digest valid is in
    (subst IsByteString (sym says.is) tt, λ wrapper. (digest, says))))
    (λ k other same f. (plain_ok place x (sym (same place x) ∙ f), λ is. absurd (other is)))
    key e

value_again : (place : ℕ) (x : DataItem) (key : Key) → SaysValue place x key → judge_content place x key ≡ Ok tt
value_again place x key so =
    wrapper_or_other (λ (k : Key). SaysValue place x k → judge_content place x k ≡ Ok tt)
    (λ s. let says = s.1 refl in rw (held.again place x says.0 says.1) refl)
    (λ k other same s. same place x ∙ plain_again place x s.0)
    key so

data BadContentOf (place : ℕ) (x : DataItem) (key : Key) (r : Refusal) : Type 0 where
  ItIsNoString : (IsByteString x → ⊥) → refused place Shape ≡ r → BadContentOf place x key r
  ItHoldsNoWrapper : key ≡ Wrapper → RefusesHeld RefusesWrapper place x r → BadContentOf place x key r

value_err : (levels place : ℕ) (x : DataItem) (key : Key) (r : Refusal) → IsValidWithin levels x → judge_content place x key ≡ Err r → BadContentOf place x key r
value_err levels place x key r valid e =
    wrapper_or_other (λ (k : Key). judge_content place x k ≡ Err r → BadContentOf place x k r)
    (λ f. bind_err (held_value place x) passed r f (λ g. ItHoldsNoWrapper refl (held.err levels place x r valid g)) (λ digest is g. absurd cc))
    (λ k other same f. let found = plain_err place x r (sym (same place x) ∙ f) in ItIsNoString found.0 found.1)
    key e

entry_bad : (e : Entry) (r : Refusal) → BadContentOf e.value_place e.value (key_of e.key) r → RefusesValue e r
entry_bad e r (ItIsNoString none is) = subst (RefusesValue e) is (NoBytes none)
entry_bad e r (ItHoldsNoWrapper wrapper bad) = BadWrapper r wrapper bad

value_refused : (e : Entry) (r : Refusal) → RefusesValue e r → judge_value e ≡ Err r
value_refused e r (NoBytes none) = no_bytes e.value_place e.value (key_of e.key) none
value_refused e r (BadWrapper s wrapper bad) = ap (judge_content e.value_place e.value) wrapper ∙ rw (held.refuses e.value_place e.value s bad) refl

abbrev FitsWithin : ℕ → Entry → Type 0
FitsWithin levels e = IsValidWithin levels e.value

values_judge : (levels : ℕ) → JudgesEach (FitsWithin levels) judge_value IsValue RefusesValue
values_judge levels = record {
  ok = λ e fits f. value_ok levels e.value_place e.value (key_of e.key) fits f;
  again = λ e so. value_again e.value_place e.value (key_of e.key) so;
  err = λ e r fits f. entry_bad e r (value_err levels e.value_place e.value (key_of e.key) r fits f);
  refuses = value_refused;
}

entries_fit : (levels place : ℕ) (before : Option (List ℕ)) (ps : DataPairs) → ArePairsWithin levels before ps → AllByRecursion (FitsWithin levels) (entries place ps)
entries_fit levels place before NoPairs valid = tt
entries_fit levels place before (PairThen key value ps) valid = (valid.2, entries_fit levels (place + length (spell key) + length (spell value)) (Some (spell key)) ps valid.3)

-- ---- envelopes

abbrev Required : EnvelopeMap → ℕ → Type 0
Required m n = has_key n (map_entries m) ≡ true

record MapSays (m : EnvelopeMap) (said : EnvelopeSays) : Type 0 where
  known : AllByRecursion IsKnown (map_entries m)
  required : AllByRecursion (Required m) (2 ∷ 3 ∷ [])
  values : AllByRecursion IsValue (map_entries m)
  says : said ≡ put_all (says_nothing m.tagged) (map_entries m)

map_ok : (levels : ℕ) (m : EnvelopeMap) (said : EnvelopeSays) → ArePairsWithin levels None m.pairs → judge_map m ≡ Ok said → MapSays m said
map_ok levels m said valid e =
    let es = map_entries m in
    bind_ok (judge_each judge_key es) _ said e (λ a a-is e. bind_ok (judge_each (judge_lack m.place es) (2 ∷ 3 ∷ [])) _ said e (λ b b-is e. bind_ok (judge_each judge_value es) _ said e (λ c c-is e. record {
      known = each_ok Anything judge_key IsKnown RefusesKey keys_judge es (all_anything es) a-is;
      required = each_ok Anything (judge_lack m.place es) (Required m) (RefusesLack m.place es) (lacks_judge m.place es) (2 ∷ 3 ∷ []) (all_anything {A = ℕ} (2 ∷ 3 ∷ [])) b-is;
      values = each_ok (FitsWithin levels) judge_value IsValue RefusesValue (values_judge levels) es (entries_fit levels _ None m.pairs valid) c-is;
      says = sym (same_ok _ said e);
    })))

map_again : (m : EnvelopeMap) (said : EnvelopeSays) → MapSays m said → judge_map m ≡ Ok said
map_again m said so =
    let es = map_entries m in
    rw (each_again Anything judge_key IsKnown RefusesKey keys_judge es so.known, each_again Anything (judge_lack m.place es) (Required m) (RefusesLack m.place es) (lacks_judge m.place es) (2 ∷ 3 ∷ []) so.required, each_again (FitsWithin 0) judge_value IsValue RefusesValue (values_judge 0) es so.values)
    (ap Ok (sym so.says))

map_err : (levels place : ℕ) (x : DataItem) (m : EnvelopeMap) (r : Refusal) → envelope_map place x ≡ Some m → ArePairsWithin levels None m.pairs → judge_map m ≡ Err r → RefusesEnvelope place x r
map_err levels place x m r is valid e =
    let es = map_entries m in
    let known = each_ok Anything judge_key IsKnown RefusesKey keys_judge es (all_anything es) in
    let required = each_ok Anything (judge_lack m.place es) (Required m) (RefusesLack m.place es) (lacks_judge m.place es) (2 ∷ 3 ∷ []) (all_anything {A = ℕ} (2 ∷ 3 ∷ [])) in
    bind_err (judge_each judge_key es) _ r e
    (λ f. BadKey m r is (each_err Anything judge_key IsKnown RefusesKey keys_judge es r (all_anything es) f))
    (λ a a-is e. bind_err (judge_each (judge_lack m.place es) (2 ∷ 3 ∷ [])) _ r e
    (λ f. Lacks m r is (known a-is) (each_err Anything (judge_lack m.place es) (Required m) (RefusesLack m.place es) (lacks_judge m.place es) (2 ∷ 3 ∷ []) r (all_anything {A = ℕ} (2 ∷ 3 ∷ [])) f))
    (λ b b-is e. bind_err (judge_each judge_value es) _ r e
    (λ f. BadValue m r is (known a-is) (required b-is) (each_err (FitsWithin levels) judge_value IsValue RefusesValue (values_judge levels) es r (entries_fit levels _ None m.pairs valid) f))
    (λ c c-is never. absurd cc)))

map_judged : (place : ℕ) (x : DataItem) (m : EnvelopeMap) → envelope_map place x ≡ Some m → judge_envelope place x ≡ judge_map m
map_judged place x m is = ap (judge_shape (untagged place x).1) is

envelope_refuses : (place : ℕ) (x : DataItem) (r : Refusal) → RefusesEnvelope place x r → judge_envelope place x ≡ Err r
envelope_refuses place x r (NoMap none) = ap (judge_shape (untagged place x).1) none
envelope_refuses place x r (BadKey m s is bad) = map_judged place x m is ∙ rw (each_refused Anything judge_key IsKnown RefusesKey keys_judge (map_entries m) s bad) refl
envelope_refuses place x r (Lacks m s is known lacks) =
    let es = map_entries m in
    map_judged place x m is ∙ rw (each_again Anything judge_key IsKnown RefusesKey keys_judge es known, each_refused Anything (judge_lack m.place es) (Required m) (RefusesLack m.place es) (lacks_judge m.place es) (2 ∷ 3 ∷ []) s lacks) refl
envelope_refuses place x r (BadValue m s is known required bad) =
    let es = map_entries m in
    map_judged place x m is ∙ rw (each_again Anything judge_key IsKnown RefusesKey keys_judge es known, each_again Anything (judge_lack m.place es) (Required m) (RefusesLack m.place es) (lacks_judge m.place es) (2 ∷ 3 ∷ []) required, each_refused (FitsWithin 0) judge_value IsValue RefusesValue (values_judge 0) es s bad) refl

-- the pairs of an envelope's map are valid one or two levels further in
pub record PairsFit (levels : ℕ) (m : EnvelopeMap) : Type 0 where
  pub within : ℕ
  pub valid : ArePairsWithin within None m.pairs

pub map_fits : (levels place : ℕ) (x : DataItem) (m : EnvelopeMap) → IsValidWithin levels x → envelope_map place x ≡ Some m → PairsFit levels m
map_fits levels place (MapOf ps) m valid e = let same : record { tagged = false; place = place; pairs = ps } ≡ m = cc in subst (PairsFit levels) same (record { within = levels + 1; valid = valid.2 })
map_fits levels place (TaggedItem tag x) m valid e = by_tag (◌==◌ tag 107) x m valid.2 e
  where
    by_tag : (t : Bool) (y : DataItem) (m : EnvelopeMap) → IsValidWithin (levels + 1) y → (let u : Bool × ℕ × DataItem = cond t (true, place + length (head_bytes 6 tag), y) (false, place, TaggedItem tag y) in as_map u.0 u.1 u.2) ≡ Some m → PairsFit levels m
    by_tag false y m v f = absurd cc
    by_tag true (MapOf ps) m v f = let same : record { tagged = true; place = place + length (head_bytes 6 tag); pairs = ps } ≡ m = cc in subst (PairsFit levels) same (record { within = levels + 1 + 1; valid = v.2 })
    by_tag true _ m v f = absurd cc
map_fits levels place _ m valid e = absurd cc

-- an item has the map of an envelope, or it has none
shape_of : (place : ℕ) (x : DataItem) → (envelope_map place x ≡ None) ⊎ ((m : EnvelopeMap) × (envelope_map place x ≡ Some m))
shape_of place x = by_map (envelope_map place x) refl
  where
    by_map : (o : Option EnvelopeMap) → envelope_map place x ≡ o → (envelope_map place x ≡ None) ⊎ ((m : EnvelopeMap) × (envelope_map place x ≡ Some m))
    by_map None e = inl e
    by_map (Some m) e = inr (m, e)

envelope_ok : (levels place : ℕ) (x : DataItem) (said : EnvelopeSays) → IsValidWithin levels x → judge_envelope place x ≡ Ok said → IsEnvelope place x said
envelope_ok levels place x said valid e =
    elim (shape_of place x) [
      | inl none ↦ let never = sym (ap (judge_shape (untagged place x).1) none) ∙ e in absurd cc
      | inr (m, is) ↦
          let fits = map_fits levels place x m valid is in
          let so = map_ok fits.within m said fits.valid (sym (map_judged place x m is) ∙ e) in
          record { map = m; shape = is; known = so.known; required = so.required; values = so.values; says = so.says }
    ]

envelope_again : (place : ℕ) (x : DataItem) (said : EnvelopeSays) → IsEnvelope place x said → judge_envelope place x ≡ Ok said
envelope_again place x said so = map_judged place x so.map so.shape ∙ map_again so.map said (record { known = so.known; required = so.required; values = so.values; says = so.says })

envelope_err : (levels place : ℕ) (x : DataItem) (r : Refusal) → IsValidWithin levels x → judge_envelope place x ≡ Err r → RefusesEnvelope place x r
envelope_err levels place x r valid e =
    elim (shape_of place x) [
      | inl none ↦ subst (RefusesEnvelope place x) (same_err _ r (sym (ap (judge_shape (untagged place x).1) none) ∙ e)) (NoMap none)
      | inr (m, is) ↦
          let fits = map_fits levels place x m valid is in
          map_err fits.within place x m r is fits.valid (sym (map_judged place x m is) ∙ e)
    ]

pub envelope_judges : Judges judge_envelope IsEnvelope RefusesEnvelope
envelope_judges = record { ok = envelope_ok; again = envelope_again; err = envelope_err; refuses = envelope_refuses }
