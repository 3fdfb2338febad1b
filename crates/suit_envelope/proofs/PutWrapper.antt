-- The wrapper that an envelope says is the one that was judged.
use Rattle.std.proofs.Common.{◌≡◌, ◌≢◌, ℕ, Bool, true, false, List, [], ◌∷◌, Result, Ok, Err, refl, sym, ap, subst, ◌∙◌, inl, inr, ◌⊎◌}
use Rattle.std.specs.Prelude.{◌||◌, IfOk}
use Rattle.std.specs.List.{AllByRecursion}
use Rattle.det_cbor.specs.DataItem.{DataItem, UnsignedInteger, ByteString}
use Rattle.suit_params.specs.declared.digest.Digest.{Digest}
use Rattle.suit_params.specs.declared.refusal.Refusal.{Refusal}
use Rattle.suit_params.specs.Refusing.{SaysWhole}
use Rattle.suit_envelope.specs.declared.envelope.Envelope.{Envelope}
use Rattle.suit_envelope.specs.declared.key.Key.{Key}
use Rattle.suit_envelope.specs.declared.key.Key.TheVariants.{Wrapper, Manifest, PayloadFetch, Install, Text, Payload, Unknown}
use Rattle.suit_envelope.specs.Wrapper.{IsWrapper}
use Rattle.suit_envelope.specs.Envelopes.{Entry, EnvelopeSays, key_of, is_number, has_key, put, put_value, put_all, IsValue, IsEnvelope}
use Rattle.suit_envelope.specs.Said.{said_by, EnvelopeOf}
use Rattle.suit_envelope.specs.WrapperParts.{HasWrapper}
use Rattle.suit_envelope.proofs.WrapperLaws.{has_wrapper}

abbrev Good : EnvelopeSays → Type 0
Good s = (digest : Digest) × SaysWhole IsWrapper s.wrapper_place s.wrapper digest

-- a key other than the wrapper's leaves the wrapper
put_other : (s : EnvelopeSays) (key : Key) (content : List ℕ) (place : ℕ) → key ≢ Wrapper → Good s → Good (put s key content place)
put_other s Wrapper content place other good = absurd (other refl)
put_other s Manifest content place other good = good
put_other s PayloadFetch content place other good = good
put_other s Install content place other good = good
put_other s Text content place other good = good
put_other s Payload content place other good = good
put_other s Unknown content place other good = good

put_wrapper : (s : EnvelopeSays) (e : Entry) → IsValue e → key_of e.key ≡ Wrapper → Good (put_value s (key_of e.key) e.value_place e.value)
put_wrapper s e value is =
    let found = value.1 is in
    let held = found.1 in
    let same : put_value s (key_of e.key) e.value_place e.value ≡ put_value s Wrapper e.value_place (ByteString held.content) =
    ap (λ (k : Key). put_value s k e.value_place e.value) is ∙ ap (put_value s Wrapper e.value_place) held.is in
    subst Good (sym same) (found.0, held.holds)

wrapper_or : (key : Key) → (key ≡ Wrapper) ⊎ (key ≢ Wrapper)
wrapper_or Wrapper = inl refl
wrapper_or Manifest = inr (λ e. absurd cc)
wrapper_or PayloadFetch = inr (λ e. absurd cc)
wrapper_or Install = inr (λ e. absurd cc)
wrapper_or Text = inr (λ e. absurd cc)
wrapper_or Payload = inr (λ e. absurd cc)
wrapper_or Unknown = inr (λ e. absurd cc)

put_good : (s : EnvelopeSays) (e : Entry) → IsValue e → Good s → Good (put_value s (key_of e.key) e.value_place e.value)
put_good s e value good =
    elim (wrapper_or (key_of e.key)) [
      | inl is ↦ put_wrapper s e value is
      | inr other ↦ put_plain e.value other
    ]
  where
    put_plain : (x : DataItem) → key_of e.key ≢ Wrapper → Good (put_value s (key_of e.key) e.value_place x)
    put_plain (ByteString content) other = put_other s (key_of e.key) content _ other good
    put_plain _ other = good

is_wrapper_key : (k : DataItem) → is_number 2 k ≡ true → key_of k ≡ Wrapper
is_wrapper_key (UnsignedInteger n) is = rw is refl
is_wrapper_key _ is = absurd cc

either_true : (a b : Bool) → (a || b) ≡ true → (a ≡ true) ⊎ (b ≡ true)
either_true true b e = inl refl
either_true false b e = inr e

all_good : (s : EnvelopeSays) (es : List Entry) → AllByRecursion IsValue es → Good s → Good (put_all s es)
all_good s [] values good = good
all_good s (e ∷ es) values good = all_good (put_value s (key_of e.key) e.value_place e.value) es values.1 (put_good s e values.0 good)

some_good : (s : EnvelopeSays) (es : List Entry) → AllByRecursion IsValue es → has_key 2 es ≡ true → Good (put_all s es)
some_good s [] values has = absurd cc
some_good s (e ∷ es) values has =
    elim (either_true (is_number 2 e.key) (has_key 2 es) has) [
      | inl here ↦ all_good (put_value s (key_of e.key) e.value_place e.value) es values.1 (put_wrapper s e values.0 (is_wrapper_key e.key here))
      | inr later ↦ some_good (put_value s (key_of e.key) e.value_place e.value) es values.1 later
    ]

envelope_wrapper : (place : ℕ) (x : DataItem) (said : EnvelopeSays) → IsEnvelope place x said → HasWrapper said.wrapper
envelope_wrapper place x said so =
    let good = subst Good (sym so.says) (some_good _ _ so.values so.required.0) in
    has_wrapper said.wrapper_place said.wrapper good.0 good.1

pub says_wrapper : (bytes : List ℕ) (said : EnvelopeSays) → EnvelopeOf bytes said → HasWrapper said.wrapper
says_wrapper bytes said so = envelope_wrapper 0 so.item said so.says_so

pub ok_wrapper : (bytes : List ℕ) (r : Result Envelope Refusal) → IfOk r (λ e. EnvelopeOf bytes (said_by e)) → IfOk r (λ e. HasWrapper e.wrapper.now)
ok_wrapper bytes (Ok e) so = envelope_wrapper 0 so.item (said_by e) so.says_so
ok_wrapper bytes (Err r) so = tt

-- ---- the answer of a call, for a wrapper

pub digest_is : (r : Result Digest Refusal) (digest : Digest) → r ≡ Ok digest → (found : Digest) → r ≡ Ok found → found ≡ digest
digest_is r digest e found f = cc
