-- Maps whose keys are numbers: their keys, and what is under a number.
use Rattle.std.proofs.Common.{◌≡◌, ℕ, ◌+◌, Bool, true, false, cond, eqb, List, [], ◌∷◌, length, Option, Some, None, Result, Ok, Err, refl, sym, ap, subst, ◌∙◌, inl, inr}
use Rattle.std.specs.Prelude.{◌||◌, option_map}
use Rattle.std.specs.List.{AllByRecursion}
use Rattle.std.proofs.lemmas.Bool.{eqb-true, eq-eqb}
use Rattle.std.proofs.lemmas.List.{append-nil}
use Rattle.det_cbor.specs.DataItem.{DataItem, UnsignedInteger, ByteString, DataPairs, NoPairs, PairThen, spell, IsValidWithin, ArePairsWithin}
use Rattle.det_cbor.specs.HeadReading.{◌>>=◌}
use Rattle.det_cbor.specs.Position.{Position}
use Rattle.det_cbor.specs.ArgumentLaws.{IsBytes, bytes_of_all}
use Rattle.det_cbor.specs.ResultLaws.{chosen, bind_ok, bind_err, same_ok, same_err}
use Rattle.suit_params.specs.declared.refusal.Refusal.{Refusal}
use Rattle.suit_params.specs.declared.refusal.Why.TheVariants.{UnknownKey, Missing}
use Rattle.suit_params.specs.Refusing.{refused, Says, Refuses, RefusesFirst, content_place}
use Rattle.suit_params.specs.Judging.{judge_held, judge_each}
use Rattle.suit_params.specs.Reading.{whole_judged}
use Rattle.suit_params.specs.JudgingLaws.{Judges}
use Rattle.suit_params.specs.HeldLaws.{ReadsAs, by_string, content_read, JudgesEach, Anything, all_anything, each_ok, each_again, each_err, each_refused}
use Rattle.suit_commands.specs.Selections.{Among}
use Rattle.suit_envelope.specs.Envelopes.{Entry, entries, is_number, has_key}
use Rattle.suit_manifest.specs.Maps.{IsKeyAmong, entry_under, SaysUnder, MaySayUnder, RefusesUnder, RefusesOtherKey, OtherKey}
use Rattle.suit_manifest.specs.Elements.{held_at}
use Rattle.suit_manifest.specs.MapReading.{among, judge_key, judge_entry, needed, judge_at, may, value_of}

-- ---- keys

among_ok : (n : ℕ) (keys : List ℕ) → among n keys ≡ true → Among n keys
among_ok n [] e = absurd cc
among_ok n (k ∷ keys) e = by_first (eqb k n) refl e (among_ok n keys)
  where
    by_first : (b : Bool) → eqb k n ≡ b → (b || among n keys) ≡ true → (among n keys ≡ true → Among n keys) → Among n (k ∷ keys)
    by_first true is f rest = inl (sym (eqb-true k n is))
    by_first false is f rest = inr (rest f)

among_again : (n : ℕ) (keys : List ℕ) → Among n keys → among n keys ≡ true
among_again n [] is = absurd is
among_again n (k ∷ keys) (inl same) = rw (eq-eqb k n (sym same)) refl
among_again n (k ∷ keys) (inr later) = rw (among_again n keys later) (or_true (eqb k n))
  where
    or_true : (b : Bool) → (b || true) ≡ true
    or_true true = refl
    or_true false = refl

abbrev IsKey : List ℕ → DataItem → Type 0
IsKey keys k = (n : ℕ) × Among n keys × (k ≡ UnsignedInteger n)

pub key_ok : (keys : List ℕ) (place : ℕ) (k : DataItem) (n : ℕ) → judge_key keys place k ≡ Ok n → Among n keys × (k ≡ UnsignedInteger n)
key_ok keys place (UnsignedInteger m) n e =
    elim (chosen {A = Result ℕ Refusal} (among m keys) (Ok m) (Err (refused place UnknownKey)) (Ok n) e) [
      | inl (is, f) ↦ let same = same_ok m n f in (subst (λ (l : ℕ). Among l keys) same (among_ok m keys is), ap UnsignedInteger same)
      | inr (other, f) ↦ absurd cc
    ]
key_ok keys place _ n e = absurd cc

pub key_again : (keys : List ℕ) (place n : ℕ) → Among n keys → judge_key keys place (UnsignedInteger n) ≡ Ok n
key_again keys place n is = rw (among_again n keys is) refl

same_number : (m n : ℕ) → UnsignedInteger m ≡ UnsignedInteger n → m ≡ n
same_number m n e = cc

key_err : (keys : List ℕ) (place : ℕ) (k : DataItem) (r : Refusal) → judge_key keys place k ≡ Err r → (IsKey keys k → ⊥) × (refused place UnknownKey ≡ r)
key_err keys place (UnsignedInteger m) r e =
    elim (chosen {A = Result ℕ Refusal} (among m keys) (Ok m) (Err (refused place UnknownKey)) (Err r) e) [
      | inl (is, f) ↦ absurd cc
      | inr (other, f) ↦ (λ key. never key.0 key.1 key.2 other, same_err _ r f)
    ]
  where
    never : (n : ℕ) → Among n keys → UnsignedInteger m ≡ UnsignedInteger n → among m keys ≡ false → ⊥
    never n is same other =
        let yes_it_is : among m keys ≡ true = subst (λ (l : ℕ). among l keys ≡ true) (sym (same_number m n same)) (among_again n keys is) in
        let both : true ≡ false = sym yes_it_is ∙ other in
        absurd cc
key_err keys place _ r e = (λ key. let never = key.2 in absurd cc, same_err _ r e)

key_other : (keys : List ℕ) (place : ℕ) (k : DataItem) → (IsKey keys k → ⊥) → judge_key keys place k ≡ Err (refused place UnknownKey)
key_other keys place (UnsignedInteger n) other = by_test (among n keys) refl
  where
    by_test : (b : Bool) → among n keys ≡ b → cond {A = Result ℕ Refusal} b (Ok n) (Err (refused place UnknownKey)) ≡ Err (refused place UnknownKey)
    by_test true is = absurd (other (n, among_ok n keys is, refl))
    by_test false is = refl
key_other keys place _ other = refl

entry_again : (keys : List ℕ) (e : Entry) → IsKeyAmong keys e → judge_entry keys e ≡ Ok tt
entry_again keys e is = ap (λ (k : DataItem). judge_key keys e.key_place k >>= λ _. Ok tt) is.2 ∙ rw (key_again keys e.key_place is.0 is.1) refl

entry_refused : (keys : List ℕ) (e : Entry) (r : Refusal) → RefusesOtherKey keys e r → judge_entry keys e ≡ Err r
entry_refused keys e r (OtherKey other) = rw (key_other keys e.key_place e.key other) refl

pub keys_judge : (keys : List ℕ) → JudgesEach Anything (judge_entry keys) (IsKeyAmong keys) (RefusesOtherKey keys)
keys_judge keys = record {
  ok = λ e fits f. bind_ok (judge_key keys e.key_place e.key) _ tt f (λ n is g. let found = key_ok keys e.key_place e.key n is in (n, found.0, found.1));
  again = λ e is. entry_again keys e is;
  err = λ e r fits f. bind_err (judge_key keys e.key_place e.key) _ r f (λ g. let found = key_err keys e.key_place e.key r g in subst (RefusesOtherKey keys e) found.1 (OtherKey found.0)) (λ n is g. absurd cc);
  refuses = λ e r bad. entry_refused keys e r bad;
}

pub known_ok : (keys : List ℕ) (es : List Entry) → judge_each (judge_entry keys) es ≡ Ok tt → AllByRecursion (IsKeyAmong keys) es
known_ok keys es e = each_ok Anything (judge_entry keys) (IsKeyAmong keys) (RefusesOtherKey keys) (keys_judge keys) es (all_anything es) e

pub known_again : (keys : List ℕ) (es : List Entry) → AllByRecursion (IsKeyAmong keys) es → judge_each (judge_entry keys) es ≡ Ok tt
known_again keys es known = each_again Anything (judge_entry keys) (IsKeyAmong keys) (RefusesOtherKey keys) (keys_judge keys) es known

pub known_err : (keys : List ℕ) (es : List Entry) (r : Refusal) → judge_each (judge_entry keys) es ≡ Err r → RefusesFirst (RefusesOtherKey keys) (IsKeyAmong keys) es r
known_err keys es r e = each_err Anything (judge_entry keys) (IsKeyAmong keys) (RefusesOtherKey keys) (keys_judge keys) es r (all_anything es) e

pub known_refused : (keys : List ℕ) (es : List Entry) (r : Refusal) → RefusesFirst (RefusesOtherKey keys) (IsKeyAmong keys) es r → judge_each (judge_entry keys) es ≡ Err r
known_refused keys es r bad = each_refused Anything (judge_entry keys) (IsKeyAmong keys) (RefusesOtherKey keys) (keys_judge keys) es r bad

-- ---- values under a number

pub none_lacks : (n : ℕ) (es : List Entry) → entry_under n es ≡ None → has_key n es ≡ false
none_lacks n [] e = refl
none_lacks n (a ∷ es) e = by_first (is_number n a.key) e (none_lacks n es)
  where
    by_first : (b : Bool) → cond b (Some a) (entry_under n es) ≡ None → (entry_under n es ≡ None → has_key n es ≡ false) → (b || has_key n es) ≡ false
    by_first true f rest = absurd cc
    by_first false f rest = rest f

pub some_has : (n : ℕ) (es : List Entry) (a : Entry) → entry_under n es ≡ Some a → has_key n es ≡ true
some_has n [] a e = absurd cc
some_has n (b ∷ es) a e = by_first (is_number n b.key) e (some_has n es a)
  where
    by_first : (t : Bool) → cond t (Some b) (entry_under n es) ≡ Some a → (entry_under n es ≡ Some a → has_key n es ≡ true) → (t || has_key n es) ≡ true
    by_first true f rest = refl
    by_first false f rest = rest f

pub lacks_none : (n : ℕ) (es : List Entry) → has_key n es ≡ false → entry_under n es ≡ None
lacks_none n es lacks = by_entry (entry_under n es) refl
  where
    by_entry : (o : Option Entry) → entry_under n es ≡ o → o ≡ None
    by_entry None is = refl
    by_entry (Some a) is = let never : true ≡ false = sym (some_has n es a is) ∙ lacks in absurd cc

pub has_some : (n : ℕ) (es : List Entry) → has_key n es ≡ true → (a : Entry) × (entry_under n es ≡ Some a)
has_some n es has = by_entry (entry_under n es) refl
  where
    by_entry : (o : Option Entry) → entry_under n es ≡ o → (a : Entry) × (entry_under n es ≡ Some a)
    by_entry None is = let never : false ≡ true = sym (none_lacks n es is) ∙ has in absurd cc
    by_entry (Some a) is = (a, is)

pub needed_ok : {A : Type 0} (place n : ℕ) (o : Option A) (a : A) → needed place n o ≡ Ok a → o ≡ Some a
needed_ok place n None a e = absurd cc
needed_ok {A} place n (Some b) a e = ap (λ (c : A). Some c) (same_ok b a e)

pub needed_err : {A : Type 0} (place n : ℕ) (o : Option A) (r : Refusal) → needed place n o ≡ Err r → (o ≡ None) × (refused place (Missing n) ≡ r)
needed_err place n None r e = (refl, same_err _ r e)
needed_err place n (Some b) r e = absurd cc

-- the entry under a number is valid
abbrev pub Fits : ℕ → Entry → Type 0
Fits levels e = IsValidWithin levels e.value

pub entries_fit : (levels place : ℕ) (before : Option (List ℕ)) (ps : DataPairs) → ArePairsWithin levels before ps → AllByRecursion (Fits levels) (entries place ps)
entries_fit levels place before NoPairs valid = tt
entries_fit levels place before (PairThen key value ps) valid = (valid.2, entries_fit levels (place + length (spell key) + length (spell value)) (Some (spell key)) ps valid.3)

pub under_fits : (levels n : ℕ) (es : List Entry) (a : Entry) → AllByRecursion (Fits levels) es → entry_under n es ≡ Some a → Fits levels a
under_fits levels n [] a all e = absurd cc
under_fits levels n (b ∷ es) a all e = by_first (is_number n b.key) e (under_fits levels n es a all.1)
  where
    by_first : (t : Bool) → cond t (Some b) (entry_under n es) ≡ Some a → (entry_under n es ≡ Some a → Fits levels a) → Fits levels a
    by_first true f rest = let same : b ≡ a = cc in subst (Fits levels) same all.0
    by_first false f rest = rest f

module _ {A : Type 0} (judge : ℕ → DataItem → Result A Refusal) (says : Says A) (form : Refuses) (law : Judges judge says form) where
  pub at_ok : (levels n : ℕ) (es : List Entry) (e : Entry) (a : A) → AllByRecursion (Fits levels) es → entry_under n es ≡ Some e → judge_at judge e ≡ Ok a → SaysUnder n says es a
  at_ok levels n es e a all there is = record { entry = e; there = there; says_so = law.ok levels e.value_place e.value a (under_fits levels n es e all there) is }

  pub at_err : (levels n : ℕ) (es : List Entry) (e : Entry) (r : Refusal) → AllByRecursion (Fits levels) es → entry_under n es ≡ Some e → judge_at judge e ≡ Err r → RefusesUnder n form es r
  at_err levels n es e r all there is = record { entry = e; there = there; refuses = law.err levels e.value_place e.value r (under_fits levels n es e all there) is }

  pub need_again : (place n : ℕ) (es : List Entry) (a : A) → SaysUnder n says es a → (needed place n (entry_under n es) >>= judge_at judge) ≡ Ok a
  need_again place n es a so = ap (λ (o : Option Entry). needed place n o >>= judge_at judge) so.there ∙ law.again so.entry.value_place so.entry.value a so.says_so

  pub need_refused : (place n : ℕ) (es : List Entry) (r : Refusal) → RefusesUnder n form es r → (needed place n (entry_under n es) >>= judge_at judge) ≡ Err r
  need_refused place n es r bad = ap (λ (o : Option Entry). needed place n o >>= judge_at judge) bad.there ∙ law.refuses bad.entry.value_place bad.entry.value r bad.refuses

  pub may_ok : (levels n : ℕ) (es : List Entry) (said : Option A) → AllByRecursion (Fits levels) es → may (judge_at judge) (entry_under n es) ≡ Ok said → MaySayUnder n says es said
  may_ok levels n es said all e = by_entry (entry_under n es) refl e
    where
      by_entry : (o : Option Entry) → entry_under n es ≡ o → may (judge_at judge) o ≡ Ok said → MaySayUnder n says es said
      by_entry None is f = subst (MaySayUnder n says es) (same_ok {A = Option A} None said f) is
      by_entry (Some a) is f = bind_ok (judge_at judge a) _ said f (λ x x-is g. subst (MaySayUnder n says es) (same_ok (Some x) said g) (at_ok levels n es a x all is x-is))

  pub may_again : (n : ℕ) (es : List Entry) (said : Option A) → MaySayUnder n says es said → may (judge_at judge) (entry_under n es) ≡ Ok said
  may_again n es None so = ap (may (judge_at judge)) so
  may_again n es (Some x) so = ap (may (judge_at judge)) so.there ∙ rw (law.again so.entry.value_place so.entry.value x so.says_so) refl

  pub may_err : (levels n : ℕ) (es : List Entry) (r : Refusal) → AllByRecursion (Fits levels) es → may (judge_at judge) (entry_under n es) ≡ Err r → RefusesUnder n form es r
  may_err levels n es r all e = by_entry (entry_under n es) refl e
    where
      by_entry : (o : Option Entry) → entry_under n es ≡ o → may (judge_at judge) o ≡ Err r → RefusesUnder n form es r
      by_entry None is f = absurd cc
      by_entry (Some a) is f = bind_err (judge_at judge a) _ r f (λ g. at_err levels n es a r all is g) (λ x x-is g. absurd cc)

  pub may_refused : (n : ℕ) (es : List Entry) (r : Refusal) → RefusesUnder n form es r → may (judge_at judge) (entry_under n es) ≡ Err r
  may_refused n es r bad = ap (may (judge_at judge)) bad.there ∙ rw (law.refuses bad.entry.value_place bad.entry.value r bad.refuses) refl

-- ---- reading

pub may_read : {A : Type 0} (read : Position → Result A Refusal) (judge : ℕ → DataItem → Result A Refusal) → ReadsAs read judge → (levels n : ℕ) (es : List Entry) → AllByRecursion (Fits levels) es
    → may read (option_map value_of (entry_under n es)) ≡ may (judge_at judge) (entry_under n es)
may_read {A} read judge law levels n es all = by_entry (entry_under n es) (under_fits levels n es)
  where
    by_entry : (o : Option Entry) → ((a : Entry) → AllByRecursion (Fits levels) es → o ≡ Some a → Fits levels a) → may read (option_map value_of o) ≡ may (judge_at judge) o
    by_entry None fits = refl
    by_entry (Some a) fits = ap (λ (r : Result A Refusal). r >>= λ x. Ok (Some x)) (law levels a.value_place a.value (fits a all refl))

pub need_read : {A B : Type 0} (read : Position → Result A Refusal) (judge : ℕ → DataItem → Result A Refusal) → ReadsAs read judge → (levels place n : ℕ) (es : List Entry) (f g : A → Result B Refusal) → AllByRecursion (Fits levels) es
    → ((a : A) → f a ≡ g a) → (needed place n (option_map value_of (entry_under n es)) >>= λ q. read q >>= f) ≡ (needed place n (entry_under n es) >>= λ e. judge_at judge e >>= g)
need_read {A} {B} read judge law levels place n es f g all same = by_entry (entry_under n es) (under_fits levels n es)
  where
    by_said : (r : Result A Refusal) → (r >>= f) ≡ (r >>= g)
    by_said (Ok a) = same a
    by_said (Err e) = refl

    by_entry : (o : Option Entry) → ((a : Entry) → AllByRecursion (Fits levels) es → o ≡ Some a → Fits levels a) → (needed place n (option_map value_of o) >>= λ q. read q >>= f) ≡ (needed place n o >>= λ e. judge_at judge e >>= g)
    by_entry None fits = refl
    by_entry (Some a) fits = ap (λ (r : Result A Refusal). r >>= f) (law levels a.value_place a.value (fits a all refl)) ∙ by_said (judge_at judge a)

-- the contents of byte strings, given a reader of whole contents
pub held_reads : {A : Type 0} (whole : Position → Result A Refusal) (judge : ℕ → DataItem → Result A Refusal) → ((p : Position) → IsBytes p.left → whole p ≡ whole_judged judge p.place p.left) → ReadsAs (held_at whole) (judge_held judge)
held_reads {A} whole judge law levels place x valid =
    by_string (λ (y : DataItem). IsValidWithin levels y → held_at whole (record { left = spell y; place = place }) ≡ judge_held judge place y)
    (λ bytes v. rw (content_read levels (record { left = spell (ByteString bytes); place = place }) (ByteString bytes) [] v (sym (append-nil (spell (ByteString bytes))))) (law (record { left = bytes; place = content_place place bytes }) (bytes_of_all bytes v.1)))
    (λ y o v. rw (content_read levels (record { left = spell y; place = place }) y [] v (sym (append-nil (spell y))), o.judged place) refl)
    x valid
