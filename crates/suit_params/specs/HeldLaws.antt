-- Byte strings, and the items that they hold.
use Rattle.std.proofs.Common.{◌≡◌, ℕ, ◌+◌, Bool, true, false, cond, eqb, List, [], ◌∷◌, ◌++◌, length, Result, Ok, Err, refl, sym, ap, subst, ◌∙◌, arith}
use Rattle.std.specs.List.{AllByRecursion}
use Rattle.std.proofs.lemmas.List.{length-append}
use Rattle.det_cbor.specs.Heads.{head_bytes}
use Rattle.det_cbor.specs.DataItem.{DataItem, ByteString, spell, IsValidWithin}
use Rattle.det_cbor.specs.declared.head.HeadKind.TheVariants as kinds
use Rattle.det_cbor.specs.HeadReading.{◌>>=◌}
use Rattle.det_cbor.specs.Position.{Position}
use Rattle.det_cbor.specs.ResultLaws.{bind_ok, bind_err, same_ok, same_err}
use Rattle.det_cbor.specs.ArgumentLaws.{IsBytes, bytes_of_all}
use Rattle.suit_params.specs.declared.refusal.Refusal.{Refusal}
use Rattle.suit_params.specs.declared.refusal.Why.TheVariants.{Shape, Trailing}
use Rattle.suit_params.specs.Refusing.{refused, Refuses, Says, IsByteString, content_place, SaysWhole, RefusesWhole, RefusesHeld, NoString, BadContent, SaysHeld, RefusesFirst, Here, Later}
use Rattle.suit_params.specs.Judging.{judge_string, judge_held, judge_each}
use Rattle.suit_params.specs.Reading.{inside, item_from, kind_after, only_from, string_from, content_from, whole_judged}
use Rattle.det_cbor.specs.ItemHeads.{item_kind, item_value}
use Rattle.suit_params.specs.HeadLaws.{item_head_read, bytes_again, after}
use Rattle.suit_params.specs.JudgingLaws.{Judges, item_ok, whole_ok, whole_err, whole_read, whole_refused}

-- ---- an item that may be a byte string

pub record OtherThanString (x : DataItem) : Type 0 where
  pub other : IsByteString x → ⊥
  pub judged : (place : ℕ) → judge_string place x ≡ Err (refused place Shape)
  pub read : (place : ℕ) (p : Position)
      → kind_after kinds.Bytes Shape place (item_value x) p (item_kind x) ≡ Err (refused place Shape)

pub by_string : (P : DataItem → Type 0) → ((bytes : List ℕ) → P (ByteString bytes))
    → ((x : DataItem) → OtherThanString x → P x) → (x : DataItem) → P x
by_string P bytes other (ByteString content) = bytes content
by_string P bytes other x = other x (record { other = λ h. h; judged = λ place. refl; read = λ place p. refl })

-- a byte string at a position is read as its content
pub content_read : (levels : ℕ) (p : Position) (x : DataItem) (rest : List ℕ)
    → IsValidWithin levels x → p.left ≡ spell x ++ rest
    → content_from p ≡ (judge_string p.place x >>= λ content. Ok (content, after p (spell x) rest))
unfolding content_from
content_read levels p x rest valid is =
    by_string (λ (y : DataItem). IsValidWithin levels y → p.left ≡ spell y ++ rest → content_from p ≡ (judge_string p.place y >>= λ content. Ok (content, after p (spell y) rest)))
    (λ bytes v i.
    let head = head_bytes 2 (length bytes) in
    let q = after p head (bytes ++ rest) in
    let content : Position = record { left = bytes; place = q.place } in
    let last : q.place + length bytes ≡ p.place + length (head ++ bytes) = omega (arith, length-append head bytes) in
    let taken : string_from (length bytes) q ≡ Ok (content, after q bytes rest) = rw (bytes_again q bytes rest refl) refl in
    rw (item_head_read levels p (ByteString bytes) rest v i) (taken ∙ ap (λ (n : ℕ). Ok (content, record { left = rest; place = n })) last))
    (λ y other v i. rw (item_head_read levels p y rest v i, other.read p.place (after p _ _), other.judged p.place) refl)
    x valid is

-- ---- the item that bytes hold

-- reading a valid item gives what judging it gives
abbrev pub ReadsAs : {A : Type 0} → (Position → Result A Refusal)
    → (ℕ → DataItem → Result A Refusal) → Type 0
ReadsAs read judge = (levels place : ℕ) (x : DataItem) → IsValidWithin levels x → read (record { left = spell x; place = place }) ≡ judge place x

pub whole_is : {A : Type 0} (read : Position → Result A Refusal)
    (judge : ℕ → DataItem → Result A Refusal)
    → ReadsAs read judge → (p : Position) → IsBytes p.left
    → (only_from p >>= read) ≡ whole_judged judge p.place p.left
whole_is {A} read judge law p fits = by_answer (item_from p) refl
  where
    ending : Position × Position → Result Position Refusal
    ending x = cond (eqb (length x.1.left) 0) (Ok x.0) (Err (refused x.1.place Trailing))

    alone : DataItem × Position → Result (Position × Position) Refusal
    alone x = Ok (inside p x.0, x.1)

    judging : DataItem × Position → Result A Refusal
    judging x = cond (eqb (length x.1.left) 0) (judge p.place x.0) (Err (refused x.1.place Trailing))

    by_end : (t : Bool) (x : DataItem) (place : ℕ) → read (inside p x) ≡ judge p.place x
        → (cond t (Ok (inside p x)) (Err (refused place Trailing)) >>= read)
        ≡ cond t (judge p.place x) (Err (refused place Trailing))
    by_end true x place e = e
    by_end false x place e = refl

    by_answer : (a : Result (DataItem × Position) Refusal) → item_from p ≡ a
        → (((a >>= alone) >>= ending) >>= read) ≡ (a >>= judging)
    by_answer (Ok x) is = by_end (eqb (length x.1.left) 0) x.0 x.1.place (law 0 p.place x.0 (item_ok p x.0 x.1 fits is).valid)
    by_answer (Err r) is = refl

then_then : {A B C : Type 0} (r : Result A Refusal) (f : A → Result B Refusal)
    (g : B → Result C Refusal)
    → (r >>= λ a. f a >>= g) ≡ ((r >>= f) >>= g)
then_then (Ok a) f g = refl
then_then (Err e) f g = refl

-- the content of a byte string is read as it is judged
pub content_is : {A : Type 0} (read : Position → Result A Refusal)
    (judge : ℕ → DataItem → Result A Refusal)
    → ReadsAs read judge → (levels place : ℕ) (bytes : List ℕ)
    → IsValidWithin levels (ByteString bytes)
    → (only_from (record { left = bytes; place = content_place place bytes }) >>= read) ≡ judge_held judge place (ByteString bytes)
content_is read judge law levels place bytes valid = whole_is read judge law (record { left = bytes; place = content_place place bytes }) (bytes_of_all bytes valid.1)

-- what was found, and the position after it
abbrev pub with_rest : {A : Type 0} → Position → A → Result (A × Position) Refusal
with_rest q a = Ok (a, q)

pub held_read : {A : Type 0} (read : Position → Result A Refusal)
    (judge : ℕ → DataItem → Result A Refusal)
    → ReadsAs read judge → (levels : ℕ) (p : Position) (x : DataItem) (rest : List ℕ)
    → IsValidWithin levels x → p.left ≡ spell x ++ rest
    → (content_from p >>= λ c. only_from c.0 >>= λ item. read item >>= with_rest c.1) ≡ (judge_held judge p.place x >>= with_rest (after p (spell x) rest))
held_read {A} read judge law levels p x rest valid is =
    let q = after p (spell x) rest in
    let reads : Position × Position → Result (A × Position) Refusal = λ c. only_from c.0 >>= λ item. read item >>= with_rest c.1 in
    ap (λ (r : Result (Position × Position) Refusal). r >>= reads) (content_read levels p x rest valid is)
    ∙ by_string (λ (y : DataItem). IsValidWithin levels y → ((judge_string p.place y >>= with_rest q) >>= reads) ≡ (judge_held judge p.place y >>= with_rest q))
    (λ bytes v.
    let c : Position = record { left = bytes; place = content_place p.place bytes } in
    then_then (only_from c) read (with_rest q) ∙ ap (λ (r : Result A Refusal). r >>= with_rest q) (content_is read judge law levels p.place bytes v))
    (λ y other v. rw (other.judged p.place) refl)
    x valid

-- ---- judging byte strings that hold an item

string_ok : (place : ℕ) (x : DataItem) (content : Position) → judge_string place x ≡ Ok content
    → (x ≡ ByteString content.left) × (content.place ≡ content_place place content.left)
string_ok place x content e =
    by_string (λ (y : DataItem). judge_string place y ≡ Ok content → (y ≡ ByteString content.left) × (content.place ≡ content_place place content.left))
    (λ bytes f. let same : record { left = bytes; place = content_place place bytes } ≡ content = same_ok _ content f in (ap (λ (p : Position). ByteString p.left) same, subst (λ (p : Position). p.place ≡ content_place place p.left) same refl))
    (λ y other f. let never = sym (other.judged place) ∙ f in absurd cc)
    x e

content_bytes : (levels : ℕ) (x : DataItem) (content : List ℕ) → IsValidWithin levels x
    → x ≡ ByteString content → IsBytes content
content_bytes levels x content valid is = let all = subst (IsValidWithin levels) is valid in bytes_of_all content all.1

pub held_judges : {A : Type 0} (judge : ℕ → DataItem → Result A Refusal) (says : Says A)
    (form : Refuses)
    → Judges judge says form → Judges (judge_held judge) (SaysHeld says) (RefusesHeld form)
held_judges {A} judge says form law = record {
  ok = λ levels place x a valid e. bind_ok (judge_string place x) _ a e (λ c c-is f.
      let s = string_ok place x c c-is in
      let so = whole_ok judge says form law c.place c.left a (content_bytes levels x c.left valid s.0) f in
      record { content = c.left; is = s.0; holds = subst (λ (n : ℕ). SaysWhole says n c.left a) s.1 so });
  again = λ place x a so. ap (judge_held judge place) so.is ∙ whole_read judge says form law _ so.content a so.holds;
  err = λ levels place x r valid e. bind_err (judge_string place x) _ r e (λ f. no_string levels place x r f) (λ c c-is f.
      let s = string_ok place x c c-is in
      let bad = whole_err judge says form law c.place c.left r (content_bytes levels x c.left valid s.0) f in
      subst (λ (y : DataItem). RefusesHeld form place y r) (sym s.0) (BadContent c.left r (subst (λ (n : ℕ). RefusesWhole form n c.left r) s.1 bad)));
  refuses = λ place x r bad. held_refused place x r bad;
}
  where
    no_string : (levels place : ℕ) (x : DataItem) (r : Refusal) → judge_string place x ≡ Err r
        → RefusesHeld form place x r
    no_string levels place x r e =
        by_string (λ (y : DataItem). judge_string place y ≡ Err r → RefusesHeld form place y r)
        (λ bytes f. absurd cc)
        (λ y other f. subst (RefusesHeld form place y) (same_err _ r (sym (other.judged place) ∙ f)) (NoString y other.other))
        x e

    held_refused : (place : ℕ) (x : DataItem) (r : Refusal) → RefusesHeld form place x r
        → judge_held judge place x ≡ Err r
    held_refused place x r (NoString y other) = by_string (λ (z : DataItem). (IsByteString z → ⊥) → judge_held judge place z ≡ Err (refused place Shape)) (λ bytes f. absurd (f tt)) (λ z o f. rw (o.judged place) refl) y other
    held_refused place x r (BadContent content s bad) = whole_refused judge says form law _ content s bad

-- ---- lists

-- judging an element accepts just what is good, and refuses just what is bad
pub record JudgesEach {A : Type 0} (fits : A → Type 0) (judge : A → Result Unit Refusal)
    (good : A → Type 0) (bad : A → Refusal → Type 0) : Type 0 where
  pub ok : (a : A) → fits a → judge a ≡ Ok tt → good a
  pub again : (a : A) → good a → judge a ≡ Ok tt
  pub err : (a : A) (r : Refusal) → fits a → judge a ≡ Err r → bad a r
  pub refuses : (a : A) (r : Refusal) → bad a r → judge a ≡ Err r

abbrev pub Anything : {A : Type 0} → A → Type 0
Anything a = Unit {0}

pub all_anything : {A : Type 0} (xs : List A) → AllByRecursion Anything xs
all_anything [] = tt
all_anything (x ∷ xs) = (tt, all_anything xs)

pub each_ok : {A : Type 0} (fits : A → Type 0) (judge : A → Result Unit Refusal) (good : A → Type 0)
    (bad : A → Refusal → Type 0)
    → JudgesEach fits judge good bad → (xs : List A) → AllByRecursion fits xs
    → judge_each judge xs ≡ Ok tt → AllByRecursion good xs
each_ok fits judge good bad law [] all e = tt
each_ok fits judge good bad law (x ∷ xs) all e = bind_ok (judge x) _ tt e (λ done is f. (law.ok x all.0 is, each_ok fits judge good bad law xs all.1 f))

pub each_again : {A : Type 0} (fits : A → Type 0) (judge : A → Result Unit Refusal)
    (good : A → Type 0) (bad : A → Refusal → Type 0)
    → JudgesEach fits judge good bad → (xs : List A) → AllByRecursion good xs
    → judge_each judge xs ≡ Ok tt
each_again fits judge good bad law [] all = refl
each_again fits judge good bad law (x ∷ xs) all = rw (law.again x all.0) (each_again fits judge good bad law xs all.1)

pub each_err : {A : Type 0} (fits : A → Type 0) (judge : A → Result Unit Refusal)
    (good : A → Type 0) (bad : A → Refusal → Type 0)
    → JudgesEach fits judge good bad → (xs : List A) (r : Refusal) → AllByRecursion fits xs
    → judge_each judge xs ≡ Err r → RefusesFirst bad good xs r
each_err fits judge good bad law [] r all e = absurd cc
each_err fits judge good bad law (x ∷ xs) r all e = bind_err (judge x) _ r e (λ f. Here x xs r (law.err x r all.0 f)) (λ done is f. Later x xs r (law.ok x all.0 is) (each_err fits judge good bad law xs r all.1 f))

pub each_refused : {A : Type 0} (fits : A → Type 0) (judge : A → Result Unit Refusal)
    (good : A → Type 0) (bad : A → Refusal → Type 0)
    → JudgesEach fits judge good bad → (xs : List A) (r : Refusal) → RefusesFirst bad good xs r
    → judge_each judge xs ≡ Err r
each_refused fits judge good bad law xs r (Here x rest s b) = rw (law.refuses x s b) refl
each_refused fits judge good bad law xs r (Later x rest s g later) = rw (law.again x g) (each_refused fits judge good bad law rest s later)
