-- Judging the values that follow the common part agrees with the grammar and the refusals.
use Rattle.std.proofs.Common.{◌≡◌, ℕ, false, List, [], Option, Some, None, Result, Ok, Err, refl, subst}
use Rattle.std.specs.List.{AllByRecursion}
use Rattle.det_cbor.specs.DataItem.{DataItem}
use Rattle.det_cbor.specs.ResultLaws.{bind_ok, bind_err, same_ok}
use Rattle.suit_params.specs.declared.refusal.Refusal.{Refusal}
use Rattle.suit_params.specs.Refusing.{RefusesFirst, Here, Later}
use Rattle.suit_commands.specs.Tree.{SequenceTree}
use Rattle.suit_envelope.specs.Envelopes.{Entry}
use Rattle.suit_manifest.specs.declared.manifest.Member.{Member}
use Rattle.suit_manifest.specs.declared.manifest.Member.TheVariants as members
use Rattle.suit_manifest.specs.declared.manifest.TextMember.{TextMember}
use Rattle.suit_manifest.specs.declared.manifest.TextMember.TheVariants as texts
use Rattle.suit_manifest.specs.declared.later.Later.{Later as LaterValues}
use Rattle.suit_manifest.specs.Maps.{entry_under, MaySayUnder, RefusesUnder}
use Rattle.suit_manifest.specs.Manifests.{SaysText, SaysMember, SaysSevered, SaysTextMember, SeveredUnder, TextUnder, RefusesText, RefusesMember, RefusesApart, RefusesItem, ReferenceKey, ValidateKey, LoadKey, InvokeKey, PayloadFetchKey, InstallKey, TextKey, SaysLater, RefusesLater, later_keys}
use Rattle.suit_manifest.specs.MapReading.{judge_at, may}
use Rattle.suit_manifest.specs.ManifestJudging.{judge_text, judge_member, judge_severed, judge_text_member, member_or_empty, text_of, judge_later}
use Rattle.suit_manifest.proofs.CommonJudging.{held_sequence_judges}
use Rattle.suit_manifest.proofs.MapLaws.{Fits, may_ok, may_again, may_err, may_refused}
use Rattle.suit_manifest.proofs.ValueJudging.{text_judges, severed_judges, text_member_judges}

-- ---- optional members

severed_said : (n count : ℕ) (es : List Entry) (o : Option Member) → MaySayUnder n (SaysSevered count) es o → SeveredUnder n count es (member_or_empty o)
severed_said n count es None so = so
severed_said n count es (Some (members.Here s)) so = so
severed_said n count es (Some (members.Apart d)) so = so
severed_said n count es (Some members.Empty) so = absurd (never so.says_so)
  where
    never : {place : ℕ} {x : DataItem} → SaysSevered count place x members.Empty → ⊥
    never said = elim said [ ]

record SeveredSays (n count : ℕ) (es : List Entry) (m : Member) : Type 0 where
  there : Option Member
  so : MaySayUnder n (SaysSevered count) es there
  same : member_or_empty there ≡ m

said_severed : (n count : ℕ) (es : List Entry) (m : Member) → SeveredUnder n count es m → SeveredSays n count es m
said_severed n count es members.Empty so = record { there = None; so = so; same = refl }
said_severed n count es (members.Here s) so = record { there = Some (members.Here s); so = so; same = refl }
said_severed n count es (members.Apart d) so = record { there = Some (members.Apart d); so = so; same = refl }

text_said : (es : List Entry) (o : Option TextMember) → MaySayUnder 23 SaysTextMember es o → TextUnder es (text_of o)
text_said es None so = so
text_said es (Some (texts.Here s)) so = so
text_said es (Some (texts.Apart d)) so = so
text_said es (Some texts.Empty) so = absurd (never so.says_so)
  where
    never : {place : ℕ} {x : DataItem} → SaysTextMember place x texts.Empty → ⊥
    never said = elim said [ ]

record TextSays (es : List Entry) (m : TextMember) : Type 0 where
  there : Option TextMember
  so : MaySayUnder 23 SaysTextMember es there
  same : text_of there ≡ m

said_text : (es : List Entry) (m : TextMember) → TextUnder es m → TextSays es m
said_text es texts.Empty so = record { there = None; so = so; same = refl }
said_text es (texts.Here s) so = record { there = Some (texts.Here s); so = so; same = refl }
said_text es (texts.Apart d) so = record { there = Some (texts.Apart d); so = so; same = refl }

-- ---- each value

pub record LaterSay (count : ℕ) (es : List Entry) (said : LaterValues) : Type 0 where
  pub reference : MaySayUnder 4 SaysText es said.reference
  pub validate : MaySayUnder 7 (SaysMember count) es said.validate
  pub load : MaySayUnder 8 (SaysMember count) es said.load
  pub invoke : MaySayUnder 9 (SaysMember count) es said.invoke
  pub payload_fetch : SeveredUnder 16 count es said.payload_fetch
  pub install : SeveredUnder 20 count es said.install
  pub text : TextUnder es said.text

module _ (count : ℕ) (es : List Entry) where
  abbrev text_in_order : Result (Option (List ℕ)) Refusal
  text_in_order = may (judge_at judge_text) (entry_under 4 es)

  abbrev member_in : ℕ → Result (Option SequenceTree) Refusal
  member_in n = may (judge_at (judge_member count)) (entry_under n es)

  abbrev severed_in : ℕ → Result (Option Member) Refusal
  severed_in n = may (judge_at (judge_severed count)) (entry_under n es)

  abbrev text_there : Result (Option TextMember) Refusal
  text_there = may (judge_at judge_text_member) (entry_under 23 es)

  abbrev says_member : ℕ → DataItem → SequenceTree → Type 0
  says_member place x s = SaysMember count place x s

  abbrev refuses_member : ℕ → DataItem → Refusal → Type 0
  refuses_member place x r = RefusesMember count place x r

  abbrev refuses_severed : ℕ → DataItem → Refusal → Type 0
  refuses_severed place x r = RefusesApart (RefusesMember count) place x r

  abbrev refuses_text : ℕ → DataItem → Refusal → Type 0
  refuses_text place x r = RefusesApart RefusesItem place x r

  reference_again : (said : Option (List ℕ)) → MaySayUnder 4 SaysText es said → text_in_order ≡ Ok said
  reference_again said so = may_again judge_text SaysText RefusesText text_judges 4 es said so

  member_again : (n : ℕ) (said : Option SequenceTree) → MaySayUnder n (SaysMember count) es said → member_in n ≡ Ok said
  member_again n said so = may_again (judge_member count) says_member refuses_member (held_sequence_judges false count) n es said so

  severed_again : (n : ℕ) (said : Option Member) → MaySayUnder n (SaysSevered count) es said → severed_in n ≡ Ok said
  severed_again n said so = may_again (judge_severed count) (SaysSevered count) refuses_severed (severed_judges count) n es said so

  text_again : (said : Option TextMember) → MaySayUnder 23 SaysTextMember es said → text_there ≡ Ok said
  text_again said so = may_again judge_text_member SaysTextMember refuses_text text_member_judges 23 es said so

  member_refused : (n : ℕ) (r : Refusal) → RefusesUnder n (RefusesMember count) es r → member_in n ≡ Err r
  member_refused n r bad = may_refused (judge_member count) says_member refuses_member (held_sequence_judges false count) n es r bad

  severed_refused : (n : ℕ) (r : Refusal) → RefusesUnder n (RefusesApart (RefusesMember count)) es r → severed_in n ≡ Err r
  severed_refused n r bad = may_refused (judge_severed count) (SaysSevered count) refuses_severed (severed_judges count) n es r bad

  module _ (levels : ℕ) (all : AllByRecursion (Fits levels) es) where
    reference_ok : (said : Option (List ℕ)) → text_in_order ≡ Ok said → MaySayUnder 4 SaysText es said
    reference_ok said e = may_ok judge_text SaysText RefusesText text_judges levels 4 es said all e

    member_ok : (n : ℕ) (said : Option SequenceTree) → member_in n ≡ Ok said → MaySayUnder n (SaysMember count) es said
    member_ok n said e = may_ok (judge_member count) says_member refuses_member (held_sequence_judges false count) levels n es said all e

    severed_ok : (n : ℕ) (said : Option Member) → severed_in n ≡ Ok said → SeveredUnder n count es (member_or_empty said)
    severed_ok n said e = severed_said n count es said (may_ok (judge_severed count) (SaysSevered count) refuses_severed (severed_judges count) levels n es said all e)

    text_is : (said : Option TextMember) → text_there ≡ Ok said → TextUnder es (text_of said)
    text_is said e = text_said es said (may_ok judge_text_member SaysTextMember refuses_text text_member_judges levels 23 es said all e)

    member_err : (n : ℕ) (r : Refusal) → member_in n ≡ Err r → RefusesUnder n (RefusesMember count) es r
    member_err n r e = may_err (judge_member count) says_member refuses_member (held_sequence_judges false count) levels n es r all e

    severed_err : (n : ℕ) (r : Refusal) → severed_in n ≡ Err r → RefusesUnder n (RefusesApart (RefusesMember count)) es r
    severed_err n r e = may_err (judge_severed count) (SaysSevered count) refuses_severed (severed_judges count) levels n es r all e

    pub later_ok : (said : LaterValues) → judge_later count es ≡ Ok said → LaterSay count es said
    later_ok said e =
        bind_ok text_in_order _ said e (λ a a-is e. bind_ok (member_in 7) _ said e (λ b b-is e. bind_ok (member_in 8) _ said e (λ c c-is e. bind_ok (member_in 9) _ said e (λ d d-is e.
        bind_ok (severed_in 16) _ said e (λ f f-is e. bind_ok (severed_in 20) _ said e (λ g g-is e. bind_ok text_there _ said e (λ t t-is e.
        subst (LaterSay count es) (same_ok _ said e) (record {
          reference = reference_ok a a-is;
          validate = member_ok 7 b b-is;
          load = member_ok 8 c c-is;
          invoke = member_ok 9 d d-is;
          payload_fetch = severed_ok 16 f f-is;
          install = severed_ok 20 g g-is;
          text = text_is t t-is;
        }))))))))

    pub later_err : (r : Refusal) → judge_later count es ≡ Err r → RefusesFirst (RefusesLater count es) (SaysLater count es) later_keys r
    later_err r e =
        bind_err text_in_order _ r e (λ h. Here ReferenceKey _ r (may_err judge_text SaysText RefusesText text_judges levels 4 es r all h)) (λ a a-is e. Later ReferenceKey _ r (a, reference_ok a a-is) (
        bind_err (member_in 7) _ r e (λ h. Here ValidateKey _ r (member_err 7 r h)) (λ b b-is e. Later ValidateKey _ r (b, member_ok 7 b b-is) (
        bind_err (member_in 8) _ r e (λ h. Here LoadKey _ r (member_err 8 r h)) (λ c c-is e. Later LoadKey _ r (c, member_ok 8 c c-is) (
        bind_err (member_in 9) _ r e (λ h. Here InvokeKey _ r (member_err 9 r h)) (λ d d-is e. Later InvokeKey _ r (d, member_ok 9 d d-is) (
        bind_err (severed_in 16) _ r e (λ h. Here PayloadFetchKey _ r (severed_err 16 r h)) (λ f f-is e. Later PayloadFetchKey _ r (member_or_empty f, severed_ok 16 f f-is) (
        bind_err (severed_in 20) _ r e (λ h. Here InstallKey _ r (severed_err 20 r h)) (λ g g-is e. Later InstallKey _ r (member_or_empty g, severed_ok 20 g g-is) (
        bind_err text_there _ r e (λ h. Here TextKey _ r (may_err judge_text_member SaysTextMember refuses_text text_member_judges levels 23 es r all h)) (λ t t-is e. absurd cc)))))))))))))

  pub later_again : (said : LaterValues) → LaterSay count es said → judge_later count es ≡ Ok said
  later_again said so =
      let fetch = said_severed 16 count es said.payload_fetch so.payload_fetch in
      let install = said_severed 20 count es said.install so.install in
      let text = said_text es said.text so.text in
      rw (
        reference_again said.reference so.reference,
        member_again 7 said.validate so.validate,
        member_again 8 said.load so.load,
        member_again 9 said.invoke so.invoke,
        severed_again 16 fetch.there fetch.so,
        severed_again 20 install.there install.so,
        text_again text.there text.so,
        fetch.same,
        install.same,
        text.same,
      ) refl

  first : (a : SaysLater count es ReferenceKey) → text_in_order ≡ Ok a.0
  first a = reference_again a.0 a.1

  pub later_refused : (r : Refusal) → RefusesFirst (RefusesLater count es) (SaysLater count es) later_keys r → judge_later count es ≡ Err r
  later_refused r (Here k l s bad) = rw (may_refused judge_text SaysText RefusesText text_judges 4 es r bad) refl
  later_refused r (Later k l s a (Here k2 l2 s2 bad)) = rw (first a, member_refused 7 r bad) refl
  later_refused r (Later k l s a (Later k2 l2 s2 b (Here k3 l3 s3 bad))) = rw (first a, member_again 7 b.0 b.1, member_refused 8 r bad) refl
  later_refused r (Later k l s a (Later k2 l2 s2 b (Later k3 l3 s3 c (Here k4 l4 s4 bad)))) = rw (first a, member_again 7 b.0 b.1, member_again 8 c.0 c.1, member_refused 9 r bad) refl
  later_refused r (Later k l s a (Later k2 l2 s2 b (Later k3 l3 s3 c (Later k4 l4 s4 d (Here k5 l5 s5 bad))))) =
      rw (first a, member_again 7 b.0 b.1, member_again 8 c.0 c.1, member_again 9 d.0 d.1, severed_refused 16 r bad) refl
  later_refused r (Later k l s a (Later k2 l2 s2 b (Later k3 l3 s3 c (Later k4 l4 s4 d (Later k5 l5 s5 f (Here k6 l6 s6 bad)))))) =
      let fetch = said_severed 16 count es f.0 f.1 in
      rw (first a, member_again 7 b.0 b.1, member_again 8 c.0 c.1, member_again 9 d.0 d.1, severed_again 16 fetch.there fetch.so, severed_refused 20 r bad) refl
  later_refused r (Later k l s a (Later k2 l2 s2 b (Later k3 l3 s3 c (Later k4 l4 s4 d (Later k5 l5 s5 f (Later k6 l6 s6 g (Here k7 l7 s7 bad))))))) =
      let fetch = said_severed 16 count es f.0 f.1 in
      let install = said_severed 20 count es g.0 g.1 in
      rw (
        first a,
        member_again 7 b.0 b.1,
        member_again 8 c.0 c.1,
        member_again 9 d.0 d.1,
        severed_again 16 fetch.there fetch.so,
        severed_again 20 install.there install.so,
        may_refused judge_text_member SaysTextMember refuses_text text_member_judges 23 es r bad,
      ) refl
  later_refused r (Later k l s a (Later k2 l2 s2 b (Later k3 l3 s3 c (Later k4 l4 s4 d (Later k5 l5 s5 f (Later k6 l6 s6 g (Later k7 l7 s7 t after))))))) = absurd (nothing after)
    where
      nothing : RefusesFirst (RefusesLater count es) (SaysLater count es) [] r → ⊥
      nothing after = elim after [ ]
