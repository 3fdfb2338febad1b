-- Stages that go one way: each gives one value, or one refusal, and never both.
use Rattle.std.proofs.Common.{◌≡◌, ℕ, List, [], Some, None, refl, sym, ap, subst, ◌∙◌, ◌<◌, ◌≤◌, ◌⊎◌, inl, inr, length, arith}
use Rattle.std.specs.Prelude.{IsTrue}
use Rattle.std.proofs.lemmas.Option.{same_Some}
use Rattle.suit_params.specs.declared.refusal.Refusal.{Refusal}
use Rattle.suit_params.specs.OneWhole.{SaysJustOne, RefusesJustOnce}
use Rattle.suit_params.specs.Refusing.{SaysWhole, RefusesWhole}
use Rattle.suit_commands.specs.Tree.{PlanTree}
use Rattle.suit_envelope.specs.Envelopes.{EnvelopeSays, IsEnvelope, RefusesEnvelope}
use Rattle.suit_envelope.specs.Said.{EnvelopeOf, RefusesBytes}
use Rattle.suit_envelope.specs.EnvelopeLaws.{EnvelopeLaws}
use Rattle.suit_manifest.specs.declared.manifest.Manifest.{Manifest}
use Rattle.suit_manifest.specs.declared.manifest.Members.{Members}
use Rattle.suit_manifest.specs.declared.members.MemberFault.{MemberFault}
use Rattle.suit_manifest.specs.declared.members.MemberFault.TheVariants as faults
use Rattle.suit_manifest.specs.Manifests.{IsManifest, RefusesManifest}
use Rattle.suit_manifest.specs.ManifestLaws.{ManifestLaws}
use Rattle.suit_manifest.specs.MembersApart.{HasMembers}
use Rattle.suit_manifest.specs.MembersLaws.{MembersLaws, HasOneAnswer, HasOneFault}
use Rattle.suit_cli.specs.declared.reply.Reply.{Reply}
use Rattle.suit_cli.specs.declared.reply.Outcome.{Outcome}
use Rattle.suit_cli.specs.declared.reply.Outcome.TheVariants as outcomes
use Rattle.suit_cli.specs.Replies.{IsReply}
use Rattle.suit_cli.specs.Texts.{refusal_line}
use Rattle.admission.specs.Refusals.{of_members}
use Rattle.suit_cli.specs.Refusals.{TellsRefusal}
use Rattle.suit_cli.specs.Outside.{Outside}
use Rattle.suit_cli.specs.Inputs.{IsRead, IsUnread, IsAbove, IsAbsent, IsTooLong, longest_key, IsKey, IsNoKey, IsUnreadKey, IsEmptyKey}
use Rattle.suit_cli.specs.Envelopes.{AreBytes, IsRefused, IsShort, IsLong, ManifestOf, RefusesItsManifest, IsLack}
use Rattle.suit_cli.specs.Judgement.{IsNarrow, IsWide}
use Rattle.suit_cli.proofs.OneCause.{HasOne}

-- ---- replies

pub one_reply : (r q : Reply) (o : Outcome) (t : List ℕ) → IsReply r o t → IsReply q o t → q ≡ r
one_reply r q o t first second =
    let outcome : q.outcome ≡ r.outcome = second.outcome_is ∙ sym first.outcome_is in
    let text : q.text ≡ r.text = second.text_is ∙ sym first.text_is in
    let left : Reply = record { outcome = r.outcome; text = q.text } in
    let e : q ≡ left = ap (λ (x : Outcome). record { outcome = x; text = q.text }) outcome in
    let f : left ≡ r = ap (λ (x : List ℕ). record { outcome = r.outcome; text = x }) text in
    e ∙ f

-- ---- files, as a host tells them

module _ (limit : ℕ) (name : List ℕ) (b : Outside) (told : IsTrue b.told) where
  pub one_read : (x y : List ℕ) → IsRead limit name b x → IsRead limit name b y → y ≡ x
  one_read x y first second = same_Some y x (sym (second.holds told) ∙ first.holds told)

  pub read_not_unread : (x : List ℕ) (q : Reply) → IsRead limit name b x → IsUnread limit name b q → ⊥
  read_not_unread x q read (IsAbsent none says) =
      let never : None ≡ Some x = sym (none told) ∙ read.holds told in
      absurd cc
  read_not_unread x q read (IsTooLong long says) =
      let l = long told in
      let same : l.0 ≡ x = same_Some l.0 x (sym l.1 ∙ read.holds told) in
      let above : limit < length x = subst (λ (c : List ℕ). limit < length c) same l.2 in
      let within : length x ≤ limit = read.fits in
      omega arith

  absent_or_long : IsAbove limit (b.files name) → b.files name ≡ None → ⊥
  absent_or_long above none = let never : None ≡ Some above.0 = sym none ∙ above.1 in absurd cc

  pub one_unread : (r q : Reply) → IsUnread limit name b r → IsUnread limit name b q → q ≡ r
  one_unread r q (IsAbsent none says) (IsAbsent none' says') = one_reply r q _ _ says says'
  one_unread r q (IsTooLong long says) (IsTooLong long' says') = one_reply r q _ _ says says'
  one_unread r q (IsAbsent none says) (IsTooLong long says') = absurd (absent_or_long (long told) (none told))
  one_unread r q (IsTooLong long says) (IsAbsent none says') = absurd (absent_or_long (long told) (none told))

  pub one_file : HasOne (IsRead limit name b) (IsUnread limit name b)
  one_file = record { value = one_read; refusal = one_unread; never = read_not_unread }

module _ (name : List ℕ) (b : Outside) (told : IsTrue b.told) where
  one_no_key : (r q : Reply) → IsNoKey name b r → IsNoKey name b q → q ≡ r
  one_no_key r q (IsUnreadKey u) (IsUnreadKey v) = one_unread longest_key name b told r q u v
  one_no_key r q (IsUnreadKey u) (IsEmptyKey read says) = absurd (read_not_unread longest_key name b told [] r read u)
  one_no_key r q (IsEmptyKey read says) (IsUnreadKey u) = absurd (read_not_unread longest_key name b told [] q read u)
  one_no_key r q (IsEmptyKey read says) (IsEmptyKey read' says') = one_reply r q _ _ says says'

  key_not_both : (x : List ℕ) (q : Reply) → IsKey name b x → IsNoKey name b q → ⊥
  key_not_both x q key (IsUnreadKey u) = read_not_unread longest_key name b told x q key.read u
  key_not_both x q key (IsEmptyKey read says) = key.some (sym (one_read longest_key name b told x [] key.read read))

  pub one_key : HasOne (IsKey name b) (IsNoKey name b)
  one_key = record { value = λ x y g h. one_read longest_key name b told x y g.read h.read; refusal = one_no_key; never = key_not_both }

-- ---- envelopes and manifests

pub refusal_reply : (P : Refusal → Type 0) (r q : Reply) (first : IsRefused P r) (second : IsRefused P q) → second.refusal ≡ first.refusal → q ≡ r
refusal_reply P r q first second same =
    let says : IsReply q outcomes.Refused (refusal_line first.refusal) = subst (λ (x : Refusal). IsReply q outcomes.Refused (refusal_line x)) same second.says in
    one_reply r q _ _ first.says says

module _ {A : Type 0} (says : ℕ → Rattle.det_cbor.specs.DataItem.DataItem → A → Type 0) (form : ℕ → Rattle.det_cbor.specs.DataItem.DataItem → Refusal → Type 0) (place : ℕ) (bytes : List ℕ)
    (law : SaysJustOne says form place bytes ⊎ RefusesJustOnce says form place bytes) where
  pub whole_one : (x y : A) → SaysWhole says place bytes x → SaysWhole says place bytes y → y ≡ x
  whole_one x y first second = by_law law where
    by_law : SaysJustOne says form place bytes ⊎ RefusesJustOnce says form place bytes → y ≡ x
    by_law (inl j) = j.only y second ∙ sym (j.only x first)
    by_law (inr j) = absurd (j.empty x first)

  pub whole_refusal : (r s : Refusal) → RefusesWhole form place bytes r → RefusesWhole form place bytes s → s ≡ r
  whole_refusal r s first second = by_law law where
    by_law : SaysJustOne says form place bytes ⊎ RefusesJustOnce says form place bytes → s ≡ r
    by_law (inl j) = absurd (j.sound r first)
    by_law (inr j) = j.only s second ∙ sym (j.only r first)

  pub whole_not_both : (x : A) (r : Refusal) → SaysWhole says place bytes x → RefusesWhole form place bytes r → ⊥
  whole_not_both x r first second = by_law law where
    by_law : SaysJustOne says form place bytes ⊎ RefusesJustOnce says form place bytes → ⊥
    by_law (inl j) = j.sound r second
    by_law (inr j) = j.empty x first

pub one_envelope : EnvelopeLaws → (bytes : List ℕ)
    → HasOne (λ (said : EnvelopeSays). AreBytes bytes × EnvelopeOf bytes said) (λ r. AreBytes bytes × IsRefused (RefusesBytes bytes) r)
one_envelope laws bytes = record {
  value = λ x y g h. whole_one IsEnvelope RefusesEnvelope 0 bytes (laws.whole 0 bytes g.0) x y g.1 h.1;
  refusal = λ r q g h. refusal_reply _ r q g.1 h.1 (whole_refusal IsEnvelope RefusesEnvelope 0 bytes (laws.whole 0 bytes g.0) _ _ g.1.refuses h.1.refuses);
  never = λ x q g h. whole_not_both IsEnvelope RefusesEnvelope 0 bytes (laws.whole 0 bytes g.0) x _ g.1 h.1.refuses;
}

pub one_short : (limit : ℕ) (said : EnvelopeSays) → HasOne (λ (u : Unit {0}). IsShort limit said) (IsLong limit said)
one_short limit said = record {
  value = λ x y g h. refl;
  refusal = λ r q g h. one_reply r q _ _ g.says h.says;
  never = λ x q g h. let above = h.long in omega (arith, g, above);
}

pub one_manifest : EnvelopeLaws → ManifestLaws → (bytes : List ℕ) (said : EnvelopeSays) → EnvelopeOf bytes said
    → HasOne (ManifestOf said) (IsRefused (RefusesItsManifest said))
one_manifest envelopes laws bytes said is = record {
  value = λ x y g h. whole_one IsManifest RefusesManifest said.manifest_place said.manifest law x y g h;
  refusal = λ r q g h. refusal_reply _ r q g h (whole_refusal IsManifest RefusesManifest said.manifest_place said.manifest law _ _ g.refuses h.refuses);
  never = λ x q g h. whole_not_both IsManifest RefusesManifest said.manifest_place said.manifest law x _ g h.refuses;
} where
  law : SaysJustOne IsManifest RefusesManifest said.manifest_place said.manifest ⊎ RefusesJustOnce IsManifest RefusesManifest said.manifest_place said.manifest
  law = laws.whole said.manifest_place said.manifest (envelopes.strings bytes said is).manifest.1

-- ---- members

module _ (r q : Reply) where
  one_told : (fault : MemberFault) → TellsRefusal r (of_members fault) → TellsRefusal q (of_members fault) → q ≡ r
  one_told (faults.Severed name) first second = one_reply r q _ _ first second
  one_told (faults.Differs name stated found) first second = one_reply r q _ _ first second
  one_told (faults.Refused refusal) first second = one_reply r q _ _ first second
  one_told faults.NoMemory first second = absurd first

pub one_members : MembersLaws → (bytes : List ℕ) (said : EnvelopeSays) (manifest : Manifest) → EnvelopeOf bytes said → HasOne (HasMembers said manifest) (IsLack said manifest)
one_members laws bytes said manifest is = record { value = one_value; refusal = one_refusal; never = not_both } where
  law : HasOneAnswer said manifest ⊎ HasOneFault said manifest
  law = laws.one_answer bytes said manifest is

  one_value : (x y : Members) → HasMembers said manifest x → HasMembers said manifest y → y ≡ x
  one_value x y g h = by_law law where
    by_law : HasOneAnswer said manifest ⊎ HasOneFault said manifest → y ≡ x
    by_law (inl j) = j.only y h ∙ sym (j.only x g)
    by_law (inr j) = absurd (j.sound x g)

  one_refusal : (r q : Reply) → IsLack said manifest r → IsLack said manifest q → q ≡ r
  one_refusal r q g h = by_law law where
    by_law : HasOneAnswer said manifest ⊎ HasOneFault said manifest → q ≡ r
    by_law (inl j) = absurd (j.sound g.fault g.lacks)
    by_law (inr j) =
        let same : h.fault ≡ g.fault = j.only h.fault h.lacks ∙ sym (j.only g.fault g.lacks) in
        one_told r q g.fault g.says (subst (λ (f : MemberFault). TellsRefusal q (of_members f)) same h.says)

  not_both : (x : Members) (q : Reply) → HasMembers said manifest x → IsLack said manifest q → ⊥
  not_both x q g h = by_law law where
    by_law : HasOneAnswer said manifest ⊎ HasOneFault said manifest → ⊥
    by_law (inl j) = j.sound h.fault h.lacks
    by_law (inr j) = j.sound x g

-- ---- widths

pub one_narrow : (plan : PlanTree) → HasOne (λ (u : Unit {0}). IsNarrow plan) (IsWide plan)
one_narrow plan = record {
  value = λ x y g h. refl;
  refusal = λ r q g h. one_reply r q _ _ g.says h.says;
  never = λ x q g h. let above = h.wide in omega (arith, g, above);
}
