-- Judging a manifest's values agrees with the grammar and the refusals.
use Rattle.std.proofs.Common.{◌≡◌, ℕ, false, eqb, List, Result, Ok, Err, refl, sym, ap, subst, ◌∙◌, ◌⊎◌, inl, inr}
use Rattle.std.proofs.lemmas.Bool.{eqb-true, eqb-false, ne_eqb, eq-eqb}
use Rattle.det_cbor.specs.DataItem.{DataItem, UnsignedInteger, ByteString, TextString, ArrayOf, DataItems, IsValidWithin}
use Rattle.det_cbor.specs.HeadReading.{◌>>=◌}
use Rattle.det_cbor.specs.ResultLaws.{chosen, bind_ok, bind_err, same_ok, same_err, not_both}
use Rattle.suit_params.specs.declared.digest.Digest.{Digest}
use Rattle.suit_params.specs.declared.refusal.Refusal.{Refusal}
use Rattle.suit_params.specs.declared.refusal.Why.TheVariants.{Shape, Version}
use Rattle.suit_params.specs.Refusing.{refused, Refuses, SaysHeld, NoString, content_place}
use Rattle.suit_params.specs.Params.{IsText}
use Rattle.suit_params.specs.Digests.{IsDigest}
use Rattle.suit_params.specs.Judging.{judge_held, judge_digest}
use Rattle.suit_params.specs.Reading.{whole_judged}
use Rattle.suit_params.specs.JudgingLaws.{Judges, whole_read}
use Rattle.suit_params.specs.HeldLaws.{held_judges, by_string}
use Rattle.det_cbor.specs.ItemHeads.{item_kind}
use Rattle.suit_params.proofs.DigestJudging.{digest_ok, digest_again, digest_err, digest_refused}
use Rattle.suit_commands.specs.SequenceFaults.{IsUnsigned}
use Rattle.suit_commands.specs.Tree.{SequenceTree}
use Rattle.suit_manifest.specs.declared.manifest.Member.{Member}
use Rattle.suit_manifest.specs.declared.manifest.Member.TheVariants as members
use Rattle.suit_manifest.specs.declared.manifest.TextMember.{TextMember}
use Rattle.suit_manifest.specs.declared.manifest.TextMember.TheVariants as texts
use Rattle.suit_manifest.specs.Components.{IsArray}
use Rattle.suit_manifest.specs.Manifests.{IsVersion, SaysNumber, SaysText, SaysMember, SaysSevered, SaysHere, SaysApart, SaysItem, SaysTextMember, SaysTextHere, SaysTextApart, RefusesVersion, NoVersion, OtherVersion, RefusesNumber, NoNumber, RefusesText, NoText, RefusesMember, RefusesApart, BadDigest, BadHeld, RefusesNothing, RefusesItem}
use Rattle.suit_manifest.specs.ManifestJudging.{judge_number, judge_version, judge_text, judge_member, judge_or, judge_severed, judge_item, judge_content, judge_text_member}
use Rattle.suit_manifest.specs.ManifestReading.{array_or}
use Rattle.suit_manifest.proofs.CommonJudging.{held_sequence_judges}

-- ---- numbers and texts

-- an item is either of the kind that is accepted, and made from a value, or of another kind and refused
IsJudged : {A : Type 0} → (ℕ → DataItem → Result A Refusal) → (DataItem → Type 0) → (A → DataItem) → DataItem → Type 0
IsJudged {A} judge kind make x = ((a : A) × (x ≡ make a) × ((place : ℕ) → judge place x ≡ Ok a)) ⊎ ((kind x → ⊥) × ((place : ℕ) → judge place x ≡ Err (refused place Shape)))

number_is : (x : DataItem) → IsJudged judge_number IsUnsigned UnsignedInteger x
unfolding IsJudged
number_is (UnsignedInteger n) = inl (n, refl, λ place. refl)
number_is _ = inr (λ h. h, λ place. refl)

text_is : (x : DataItem) → IsJudged judge_text IsText TextString x
unfolding IsJudged
text_is (TextString t) = inl (t, refl, λ place. refl)
text_is _ = inr (λ h. h, λ place. refl)

judged_ok : {A : Type 0} (judge : ℕ → DataItem → Result A Refusal) (kind : DataItem → Type 0) (make : A → DataItem) (place : ℕ) (x : DataItem) (a : A)
    → IsJudged judge kind make x → judge place x ≡ Ok a → x ≡ make a
unfolding IsJudged
judged_ok judge kind make place x a (inl (b, is, ok)) e = is ∙ ap make (same_ok b a (sym (ok place) ∙ e))
judged_ok judge kind make place x a (inr (other, err)) e = absurd (not_both (judge place x) a (refused place Shape) e (err place))

judged_err : {A : Type 0} (judge : ℕ → DataItem → Result A Refusal) (kind : DataItem → Type 0) (make : A → DataItem) (place : ℕ) (x : DataItem) (r : Refusal)
    → IsJudged judge kind make x → judge place x ≡ Err r → (kind x → ⊥) × (refused place Shape ≡ r)
unfolding IsJudged
judged_err judge kind make place x r (inl (b, is, ok)) e = absurd (not_both (judge place x) b r (ok place) e)
judged_err judge kind make place x r (inr (other, err)) e = (other, same_err (refused place Shape) r (sym (err place) ∙ e))

judged_other : {A : Type 0} (judge : ℕ → DataItem → Result A Refusal) (kind : DataItem → Type 0) (make : A → DataItem) (place : ℕ) (x : DataItem)
    → ((a : A) → kind (make a)) → IsJudged judge kind make x → (kind x → ⊥) → judge place x ≡ Err (refused place Shape)
unfolding IsJudged
judged_other judge kind make place x is_kind (inl (b, is, ok)) other = absurd (other (subst kind (sym is) (is_kind b)))
judged_other judge kind make place x is_kind (inr (wrong, err)) other = err place

-- judging agrees with the grammar for items of the kind, and for all others
kind_judges : {A : Type 0} (judge : ℕ → DataItem → Result A Refusal) (kind : DataItem → Type 0) (make : A → DataItem) (form : Refuses)
    → ((x : DataItem) → IsJudged judge kind make x) → ((place : ℕ) (a : A) → judge place (make a) ≡ Ok a)
    → ((place : ℕ) (x : DataItem) → (kind x → ⊥) → form place x (refused place Shape)) → ((place : ℕ) (x : DataItem) (r : Refusal) → form place x r → judge place x ≡ Err r)
    → Judges judge (λ place x a. x ≡ make a) form
kind_judges judge kind make form all made wrong refuses = record {
  ok = λ levels place x a valid e. judged_ok judge kind make place x a (all x) e;
  again = λ place x a is. ap (judge place) is ∙ made place a;
  err = λ levels place x r valid e. let found = judged_err judge kind make place x r (all x) e in subst (form place x) found.1 (wrong place x found.0);
  refuses = refuses;
}

number_other : (place : ℕ) (x : DataItem) → (IsUnsigned x → ⊥) → judge_number place x ≡ Err (refused place Shape)
number_other place x other = judged_other judge_number IsUnsigned UnsignedInteger place x (λ n. tt) (number_is x) other

number_refused : (place : ℕ) (x : DataItem) (r : Refusal) → RefusesNumber place x r → judge_number place x ≡ Err r
number_refused place x r (NoNumber y other) = number_other place x other

pub number_judges : Judges judge_number SaysNumber RefusesNumber
number_judges = kind_judges judge_number IsUnsigned UnsignedInteger RefusesNumber number_is (λ place n. refl) (λ place x other. NoNumber x other) number_refused

text_refused : (place : ℕ) (x : DataItem) (r : Refusal) → RefusesText place x r → judge_text place x ≡ Err r
text_refused place x r (NoText y other) = judged_other judge_text IsText TextString place x (λ t. tt) (text_is x) other

pub text_judges : Judges judge_text SaysText RefusesText
text_judges = kind_judges judge_text IsText TextString RefusesText text_is (λ place t. refl) (λ place x other. NoText x other) text_refused

-- ---- the version

version_ok : (place : ℕ) (x : DataItem) (v : ℕ) → judge_version place x ≡ Ok v → IsVersion place x v
version_ok place x v e =
    bind_ok (judge_number place x) _ v e (λ n n-is f. elim (chosen {A = Result ℕ Refusal} (eqb n 1) (Ok n) (Err (refused place (Version n))) (Ok v) f) [
      | inl (first, g) ↦ let same = same_ok n v g in record { is = judged_ok judge_number IsUnsigned UnsignedInteger place x n (number_is x) n-is ∙ ap UnsignedInteger same; first = sym same ∙ eqb-true n 1 first }
      | inr (other, g) ↦ absurd cc
    ])

version_again : (place : ℕ) (x : DataItem) (v : ℕ) → IsVersion place x v → judge_version place x ≡ Ok v
version_again place x v so = ap (judge_version place) so.is ∙ rw (eq-eqb v 1 so.first) refl

version_err : (place : ℕ) (x : DataItem) (r : Refusal) → judge_version place x ≡ Err r → RefusesVersion place x r
version_err place x r e =
    bind_err (judge_number place x) _ r e
    (λ f. let found = judged_err judge_number IsUnsigned UnsignedInteger place x r (number_is x) f in subst (RefusesVersion place x) found.1 (NoVersion x found.0))
    (λ n n-is f. elim (chosen {A = Result ℕ Refusal} (eqb n 1) (Ok n) (Err (refused place (Version n))) (Err r) f) [
      | inl (first, g) ↦ absurd cc
      | inr (other, g) ↦ subst (λ (y : DataItem). RefusesVersion place y r) (sym (judged_ok judge_number IsUnsigned UnsignedInteger place x n (number_is x) n-is)) (subst (RefusesVersion place (UnsignedInteger n)) (same_err _ r g) (OtherVersion n (eqb-false n 1 other)))
    ])

version_refused : (place : ℕ) (x : DataItem) (r : Refusal) → RefusesVersion place x r → judge_version place x ≡ Err r
version_refused place x r (NoVersion y other) = rw (number_other place x other) refl
version_refused place x r (OtherVersion n other) = rw (ne_eqb n 1 other) refl

pub version_judges : Judges judge_version IsVersion RefusesVersion
version_judges = record {
  ok = λ levels place x v valid e. version_ok place x v e;
  again = version_again;
  err = λ levels place x r valid e. version_err place x r e;
  refuses = version_refused;
}

-- ---- arrays, and everything else

pub record OtherKind (A : Type 0) (x : DataItem) : Type 0 where
  pub other : IsArray x → ⊥
  pub judged : (array g : ℕ → DataItem → Result A Refusal) (place : ℕ) → judge_or array g place x ≡ g place x
  pub read : (a b : Result A Refusal) → array_or a b (item_kind x) ≡ b

pub by_kind : (A : Type 0) (P : DataItem → Type 0) → ((items : DataItems) → P (ArrayOf items)) → ((x : DataItem) → OtherKind A x → P x) → (x : DataItem) → P x
by_kind A P array other (ArrayOf xs) = array xs
by_kind A P array other x = other x (record { other = λ h. h; judged = λ f g place. refl; read = λ a b. refl })

-- what is said, and what is refused, of both
module _ (A B : Type 0) (make : Digest → A) (keep : B → A) (judge : ℕ → DataItem → Result B Refusal) (says : ℕ → DataItem → B → Type 0) (form : ℕ → DataItem → Refusal → Type 0) (law : Judges judge says form)
    (both : ℕ → DataItem → A → Type 0) (apart : (place : ℕ) (x : DataItem) (d : Digest) → IsDigest place x d → both place x (make d)) (here : (place : ℕ) (x : DataItem) (b : B) → says place x b → both place x (keep b)) where
  abbrev judge_digests : ℕ → DataItem → Result A Refusal
  judge_digests place x = judge_digest place x >>= λ d. Ok (make d)

  abbrev judge_others : ℕ → DataItem → Result A Refusal
  judge_others place x = judge place x >>= λ b. Ok (keep b)

  pub or_ok : (levels place : ℕ) (x : DataItem) (a : A) → IsValidWithin levels x → judge_or judge_digests judge_others place x ≡ Ok a → both place x a
  or_ok levels place x a valid e =
      by_kind A (λ (y : DataItem). IsValidWithin levels y → judge_or judge_digests judge_others place y ≡ Ok a → both place y a)
      (λ items v f. bind_ok (judge_digest place (ArrayOf items)) _ a f (λ d d-is g. subst (both place (ArrayOf items)) (same_ok (make d) a g) (apart place (ArrayOf items) d (digest_ok place (ArrayOf items) d d-is))))
      (λ y o v f. bind_ok (judge place y) _ a (sym (o.judged judge_digests judge_others place) ∙ f) (λ b b-is g. subst (both place y) (same_ok (keep b) a g) (here place y b (law.ok levels place y b v b-is))))
      x valid e

  pub or_err : (levels place : ℕ) (x : DataItem) (r : Refusal) → IsValidWithin levels x → judge_or judge_digests judge_others place x ≡ Err r → RefusesApart form place x r
  or_err levels place x r valid e =
      by_kind A (λ (y : DataItem). IsValidWithin levels y → judge_or judge_digests judge_others place y ≡ Err r → RefusesApart form place y r)
      (λ items v f. bind_err (judge_digest place (ArrayOf items)) _ r f (λ g. BadDigest (ArrayOf items) r tt (digest_err place (ArrayOf items) r g)) (λ d d-is g. absurd cc))
      (λ y o v f. bind_err (judge place y) _ r (sym (o.judged judge_digests judge_others place) ∙ f) (λ g. BadHeld y r o.other (law.err levels place y r v g)) (λ b b-is g. absurd cc))
      x valid e

  digest_or : (place : ℕ) (x : DataItem) → IsArray x → judge_or judge_digests judge_others place x ≡ judge_digests place x
  digest_or place x is = by_kind A (λ (y : DataItem). IsArray y → judge_or judge_digests judge_others place y ≡ judge_digests place y) (λ items i. refl) (λ y o i. absurd (o.other i)) x is

  other_or : (place : ℕ) (x : DataItem) → (IsArray x → ⊥) → judge_or judge_digests judge_others place x ≡ judge_others place x
  other_or place x other = by_kind A (λ (y : DataItem). (IsArray y → ⊥) → judge_or judge_digests judge_others place y ≡ judge_others place y) (λ items i. absurd (i tt)) (λ y o i. o.judged judge_digests judge_others place) x other

  pub or_refused : (place : ℕ) (x : DataItem) (r : Refusal) → RefusesApart form place x r → judge_or judge_digests judge_others place x ≡ Err r
  or_refused place x r (BadDigest y s array bad) = digest_or place x array ∙ rw (digest_refused place x r bad) refl
  or_refused place x r (BadHeld y s other bad) = other_or place x other ∙ rw (law.refuses place x r bad) refl

  pub apart_again : (place : ℕ) (x : DataItem) (d : Digest) → IsDigest place x d → judge_or judge_digests judge_others place x ≡ Ok (make d)
  apart_again place x d so = digest_or place x (subst IsArray (sym so.is) tt) ∙ rw (digest_again place x d so) refl

  pub here_again : (place : ℕ) (x : DataItem) (b : B) → (IsArray x → ⊥) → says place x b → judge_or judge_digests judge_others place x ≡ Ok (keep b)
  here_again place x b other so = other_or place x other ∙ rw (law.again place x b so) refl

-- ---- members

held_other : {A : Type 0} (says : ℕ → DataItem → A → Type 0) (place : ℕ) (x : DataItem) (a : A) → SaysHeld says place x a → IsArray x → ⊥
held_other says place x a so array = subst IsArray so.is array

abbrev apart_member : Digest → Member
apart_member d = members.Apart d

abbrev here_member : SequenceTree → Member
here_member s = members.Here s

module _ (count : ℕ) where
  abbrev says_member : ℕ → DataItem → SequenceTree → Type 0
  says_member place x s = SaysMember count place x s

  abbrev refuses_member : ℕ → DataItem → Refusal → Type 0
  refuses_member place x r = RefusesMember count place x r

  said_apart : (place : ℕ) (x : DataItem) (d : Digest) → IsDigest place x d → SaysSevered count place x (apart_member d)
  said_apart place x d so = SaysApart d so

  said_here : (place : ℕ) (x : DataItem) (s : SequenceTree) → SaysMember count place x s → SaysSevered count place x (here_member s)
  said_here place x s so = SaysHere s so

  severed_again : (place : ℕ) (x : DataItem) (m : Member) → SaysSevered count place x m → judge_severed count place x ≡ Ok m
  severed_again place x m (SaysHere s so) = here_again Member SequenceTree apart_member here_member (judge_member count) says_member refuses_member (held_sequence_judges false count) (SaysSevered count) said_apart said_here place x s (held_other _ place x s so) so
  severed_again place x m (SaysApart d so) = apart_again Member SequenceTree apart_member here_member (judge_member count) says_member refuses_member (held_sequence_judges false count) (SaysSevered count) said_apart said_here place x d so

  pub severed_judges : Judges (judge_severed count) (SaysSevered count) (RefusesApart (RefusesMember count))
  severed_judges = record {
    ok = or_ok Member SequenceTree apart_member here_member (judge_member count) says_member refuses_member (held_sequence_judges false count) (SaysSevered count) said_apart said_here;
    again = severed_again;
    err = or_err Member SequenceTree apart_member here_member (judge_member count) says_member refuses_member (held_sequence_judges false count) (SaysSevered count) said_apart said_here;
    refuses = or_refused Member SequenceTree apart_member here_member (judge_member count) says_member refuses_member (held_sequence_judges false count) (SaysSevered count) said_apart said_here;
  }

-- ---- the text

item_judges : Judges judge_item SaysItem RefusesNothing
item_judges = record {
  ok = λ levels place x a valid e. same_ok x a e;
  again = λ place x a so. ap (λ (y : DataItem). Ok y) so;
  err = λ levels place x r valid e. absurd cc;
  refuses = λ place x r bad. absurd bad;
}

held_item : Judges (judge_held judge_item) (SaysHeld SaysItem) RefusesItem
held_item = held_judges judge_item SaysItem RefusesNothing item_judges

-- the content of a byte string that holds one item
pub record SaysContent (place : ℕ) (x : DataItem) (content : List ℕ) : Type 0 where
  pub said : DataItem
  pub held : SaysHeld SaysItem place x said
  pub same : held.content ≡ content

same_content : (a b : List ℕ) → ByteString a ≡ ByteString b → b ≡ a
same_content a b e = cc

content_ok : (levels place : ℕ) (x : DataItem) (content : List ℕ) → IsValidWithin levels x → judge_content place x ≡ Ok content → SaysContent place x content
content_ok levels place x content valid e =
    by_string (λ (y : DataItem). IsValidWithin levels y → judge_content place y ≡ Ok content → SaysContent place y content)
    (λ bytes v f. bind_ok (whole_judged judge_item (content_place place bytes) bytes) _ content f (λ item item-is g.
    let held = held_item.ok levels place (ByteString bytes) item v item-is in
    record { said = item; held = held; same = same_content bytes held.content held.is ∙ same_ok bytes content g }))
    (λ y o v f. let is : judge_content place y ≡ Err (refused place Shape) = rw (o.judged place) refl in absurd cc)
    x valid e

content_again : (place : ℕ) (x : DataItem) (content : List ℕ) → SaysContent place x content → judge_content place x ≡ Ok content
content_again place x content so =
    ap (judge_content place) so.held.is ∙ rw (whole_read judge_item SaysItem RefusesNothing item_judges (content_place place so.held.content) so.held.content so.said so.held.holds) (ap (λ (c : List ℕ). Ok c) so.same)

content_err : (levels place : ℕ) (x : DataItem) (r : Refusal) → IsValidWithin levels x → judge_content place x ≡ Err r → RefusesItem place x r
content_err levels place x r valid e =
    by_string (λ (y : DataItem). IsValidWithin levels y → judge_content place y ≡ Err r → RefusesItem place y r)
    (λ bytes v f. bind_err (whole_judged judge_item (content_place place bytes) bytes) _ r f (λ g. held_item.err levels place (ByteString bytes) r v g) (λ item item-is g. absurd cc))
    (λ y o v f. let is : judge_content place y ≡ Err (refused place Shape) = rw (o.judged place) refl in subst (RefusesItem place y) (same_err _ r (sym is ∙ f)) (NoString y o.other))
    x valid e

content_refused : (place : ℕ) (x : DataItem) (r : Refusal) → RefusesItem place x r → judge_content place x ≡ Err r
content_refused place x r bad =
    by_string (λ (y : DataItem). judge_held judge_item place y ≡ Err r → judge_content place y ≡ Err r)
    (λ bytes f. rw f refl)
    (λ y o f. let is : judge_held judge_item place y ≡ Err (refused place Shape) = rw (o.judged place) refl in let same : judge_content place y ≡ Err (refused place Shape) = rw (o.judged place) refl in same ∙ ap (λ (s : Refusal). Err s) (same_err _ r (sym is ∙ f)))
    x (held_item.refuses place x r bad)

content_judges : Judges judge_content SaysContent RefusesItem
content_judges = record { ok = content_ok; again = content_again; err = content_err; refuses = content_refused }

abbrev apart_text : Digest → TextMember
apart_text d = texts.Apart d

abbrev here_text : List ℕ → TextMember
here_text content = texts.Here content

text_apart : (place : ℕ) (x : DataItem) (d : Digest) → IsDigest place x d → SaysTextMember place x (apart_text d)
text_apart place x d so = SaysTextApart d so

text_here : (place : ℕ) (x : DataItem) (content : List ℕ) → SaysContent place x content → SaysTextMember place x (here_text content)
text_here place x content so = subst (λ (c : List ℕ). SaysTextMember place x (here_text c)) so.same (SaysTextHere so.said so.held)

text_again : (place : ℕ) (x : DataItem) (m : TextMember) → SaysTextMember place x m → judge_text_member place x ≡ Ok m
text_again place x m (SaysTextHere said held) =
    here_again TextMember (List ℕ) apart_text here_text judge_content SaysContent RefusesItem content_judges SaysTextMember text_apart text_here place x held.content (held_other SaysItem place x said held) (record { said = said; held = held; same = refl })
text_again place x m (SaysTextApart d so) = apart_again TextMember (List ℕ) apart_text here_text judge_content SaysContent RefusesItem content_judges SaysTextMember text_apart text_here place x d so

pub text_member_judges : Judges judge_text_member SaysTextMember (RefusesApart RefusesItem)
text_member_judges = record {
  ok = or_ok TextMember (List ℕ) apart_text here_text judge_content SaysContent RefusesItem content_judges SaysTextMember text_apart text_here;
  again = text_again;
  err = or_err TextMember (List ℕ) apart_text here_text judge_content SaysContent RefusesItem content_judges SaysTextMember text_apart text_here;
  refuses = or_refused TextMember (List ℕ) apart_text here_text judge_content SaysContent RefusesItem content_judges SaysTextMember text_apart text_here;
}
