-- Keys: how they are read, which have been seen, and which are missing.
use Rattle.std.proofs.Common.{◌≡◌, ℕ, ◌+◌, Bool, true, false, cond, eqb, List, [], ◌∷◌, ◌++◌, length, Result, Ok, Err, refl, sym, ap, subst, ◌∙◌, inl, inr, ◌⊎◌, arith}
use Rattle.std.specs.Prelude.{◌||◌}
use Rattle.std.proofs.lemmas.Bool.{eqb-true}
use Rattle.std.proofs.lemmas.List.{length-append}
use Rattle.det_cbor.specs.Heads.{head_bytes}
use Rattle.det_cbor.specs.DataItem.{DataItem, UnsignedInteger, TextString, spell, IsValidWithin}
use Rattle.det_cbor.specs.HeadReading.{◌>>=◌}
use Rattle.det_cbor.specs.Position.{Position}
use Rattle.det_cbor.specs.LevelLaws.{valid_alone}
use Rattle.suit_params.specs.declared.refusal.Refusal.{Refusal}
use Rattle.suit_params.specs.declared.refusal.Why.TheVariants.{Missing}
use Rattle.suit_params.specs.Refusing.{refused}
use Rattle.suit_params.specs.Judging.{judge_each}
use Rattle.suit_params.specs.Reading.{inside, inner_from}
use Rattle.suit_params.specs.HeadLaws.{item_head_read, bytes_again, after}
use Rattle.suit_params.specs.JudgingLaws.{item_read}
use Rattle.suit_envelope.specs.Envelopes.{Entry, key_of, numbered_key, is_number, has_key}
use Rattle.suit_envelope.specs.Judging.{known_key, judge_lack}
use Rattle.suit_envelope.specs.EnvelopeReading.{key_from, see, all_seen}
use Rattle.suit_envelope.specs.declared.key.Key.{Key}
use Rattle.suit_envelope.specs.declared.key.Key.TheVariants.{PayloadFetch, Install, Text, Payload, Unknown}
use Rattle.suit_envelope.specs.declared.key.Seen.{Seen}

-- ---- one key

pub inner_read : (levels : ℕ) (p : Position) (x : DataItem) (rest : List ℕ) → IsValidWithin levels x → p.left ≡ spell x ++ rest → inner_from p ≡ Ok (inside p x, after p (spell x) rest)
inner_read levels p x rest valid is = rw (item_read p x rest (valid_alone levels x valid) is) refl

-- a known key is read completely; of any other one, the head shows that it is unknown
pub key_read : {A : Type 0} (levels place : ℕ) (p : Position) (k : DataItem) (rest : List ℕ) (f : Key × Position → Result A Refusal) → IsValidWithin levels k → p.left ≡ spell k ++ rest
    → (key_from p >>= λ found. known_key place found.0 >>= λ _. f found) ≡ (known_key place (key_of k) >>= λ _. f (key_of k, after p (spell k) rest))
unfolding key_from
key_read levels place p (TextString text) rest f valid is =
    let head = head_bytes 3 (length text) in
    let q = after p head (text ++ rest) in
    let last : q.place + length text ≡ p.place + length (head ++ text) = omega (arith, length-append head text) in
    rw (item_head_read levels p (TextString text) rest valid is, bytes_again q text rest refl) (ap (λ (n : ℕ). f (Payload, record { left = rest; place = n })) last)
key_read levels place p x rest f valid is = rw (item_head_read levels p x rest valid is) refl

-- ---- which keys are seen

or_false : (b : Bool) → (b || false) ≡ b
or_false true = refl
or_false false = refl

or_true : (b : Bool) → true ≡ (b || true)
or_true true = refl
or_true false = refl

either : (b : Bool) → (b ≡ true) ⊎ (b ≡ false)
either true = inl refl
either false = inr refl

-- a number other than the two required ones changes nothing
others_unseen : (s : Seen) (fetch install text : Bool) → see s (cond fetch PayloadFetch (cond install Install (cond text Text Unknown))) ≡ s
others_unseen s true install text = refl
others_unseen s false true text = refl
others_unseen s false false true = refl
others_unseen s false false false = refl

-- what has been seen, given whether there are keys of the wrapper and of the manifest
abbrev seen_with : Seen → Bool → Bool → Seen
seen_with s wrapper manifest = record { wrapper = s.wrapper || wrapper; manifest = s.manifest || manifest }

sees_nothing : (s : Seen) → s ≡ seen_with s false false
sees_nothing s = λ i. record { wrapper = sym (or_false s.wrapper) i; manifest = sym (or_false s.manifest) i }

number_seen : (s : Seen) (n : ℕ) → see s (numbered_key n) ≡ seen_with s (eqb n 2) (eqb n 3)
number_seen s n =
    elim (either (eqb n 2)) [
      | inl a ↦
          let is : n ≡ 2 = eqb-true n 2 a in
          subst (λ (k : ℕ). see s (numbered_key k) ≡ seen_with s (eqb k 2) (eqb k 3)) (sym is) (λ i. record { wrapper = or_true s.wrapper i; manifest = sym (or_false s.manifest) i })
      | inr a ↦ rw a (elim (either (eqb n 3)) [
        | inl b ↦ rw b (λ i. record { wrapper = sym (or_false s.wrapper) i; manifest = or_true s.manifest i })
        | inr b ↦ rw b (others_unseen s (eqb n 16) (eqb n 20) (eqb n 23) ∙ sees_nothing s)
      ])
    ]

key_seen : (s : Seen) (k : DataItem) → see s (key_of k) ≡ seen_with s (is_number 2 k) (is_number 3 k)
key_seen s (UnsignedInteger n) = number_seen s n
key_seen s _ = sees_nothing s

abbrev pub see_all : Seen → List Entry → Seen
see_all s [] = s
see_all s (e ∷ es) = see_all (see s (key_of e.key)) es

or_assoc : (a b c : Bool) → ((a || b) || c) ≡ (a || (b || c))
or_assoc true b c = refl
or_assoc false b c = refl

all_are_seen : (s : Seen) (es : List Entry) → see_all s es ≡ seen_with s (has_key 2 es) (has_key 3 es)
all_are_seen s [] = sees_nothing s
all_are_seen s (e ∷ es) =
    all_are_seen (see s (key_of e.key)) es
    ∙ ap (λ (t : Seen). seen_with t (has_key 2 es) (has_key 3 es)) (key_seen s e.key)
    ∙ (λ i. record {
      wrapper = or_assoc s.wrapper (is_number 2 e.key) (has_key 2 es) i;
      manifest = or_assoc s.manifest (is_number 3 e.key) (has_key 3 es) i;
    })

-- the keys that were seen decide which are missing
pub lacks_is : (place : ℕ) (es : List Entry) → all_seen place (see_all (record { wrapper = false; manifest = false }) es) ≡ judge_each (judge_lack place es) (2 ∷ 3 ∷ [])
lacks_is place es =
    let none : Seen = record { wrapper = false; manifest = false } in
    rw (all_are_seen none es) (by_both (has_key 2 es) (has_key 3 es))
  where
    there : Bool → ℕ → Result Unit Refusal
    there b n = cond b (Ok tt) (Err (refused place (Missing n)))

    by_both : (a b : Bool) → cond a (there b 3) (Err (refused place (Missing 2))) ≡ (there a 2 >>= λ _. there b 3 >>= λ _. Ok tt)
    by_both true true = refl
    by_both true false = refl
    by_both false b = refl
