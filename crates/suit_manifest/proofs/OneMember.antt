-- A member is taken in one way or is lacking for one reason, and never both.
use Rattle.std.proofs.Common.{◌≡◌, ℕ, true, false, Bool, List, Option, Some, None, Result, Ok, Err, refl, sym, ap, subst, ◌∙◌, ◌⊎◌, inl, inr}
use Rattle.det_cbor.specs.ArgumentLaws.{IsBytes}
use Rattle.det_cbor.specs.DataItem.{ByteString, spell}
use Rattle.det_cbor.specs.ResultLaws.{same_ok, same_err, not_both}
use Rattle.suit_params.specs.declared.digest.Digest.{Digest}
use Rattle.suit_params.specs.declared.refusal.Refusal.{Refusal}
use Rattle.suit_params.specs.DigestLaws.{has_decides}
use Rattle.suit_params.specs.Hashes.{has_digest}
use Rattle.suit_params.specs.Reading.{whole_judged}
use Rattle.suit_params.specs.Refusing.{SaysWhole, RefusesWhole}
use Rattle.suit_params.specs.JudgingLaws.{whole_ok, whole_err, whole_read, whole_refused}
use Rattle.suit_commands.specs.Sequences.{SaysSequence}
use Rattle.suit_commands.specs.SequenceFaults.{RefusesSequence}
use Rattle.suit_commands.specs.SequenceJudging.{judge_sequence}
use Rattle.suit_commands.specs.Tree.{SequenceTree}
use Rattle.suit_commands.proofs.SequenceJudging.{sequence_judges}
use Rattle.suit_envelope.specs.Members.{string_like}
use Rattle.suit_envelope.specs.declared.severed.MemberName.{MemberName}
use Rattle.suit_manifest.specs.declared.manifest.Member.{Member}
use Rattle.suit_manifest.specs.declared.manifest.Member.TheVariants.{Empty, Here, Apart}
use Rattle.suit_manifest.specs.declared.members.MemberFault.{MemberFault}
use Rattle.suit_manifest.specs.declared.members.MemberFault.TheVariants as faults
use Rattle.suit_manifest.specs.MembersApart.{IsTaken, LacksTaken, IsSevered, IsOther, IsNoSequence, HasMember, LacksMember}

-- ---- contents

abbrev Says : ℕ → ℕ → List ℕ → SequenceTree → Type 0
Says count = SaysWhole (SaysSequence false count 8)

abbrev Refuses : ℕ → ℕ → List ℕ → Refusal → Type 0
Refuses count = RefusesWhole (RefusesSequence false count 8)

abbrev judged : ℕ → ℕ → List ℕ → Result SequenceTree Refusal
judged count place content = whole_judged (judge_sequence false count 7) place content

said_is : (count place : ℕ) (content : List ℕ) (s : SequenceTree) → Says count place content s → judged count place content ≡ Ok s
said_is count place content s says = whole_read (judge_sequence false count 7) (SaysSequence false count 8) (RefusesSequence false count 8) (sequence_judges false count 7) place content s says

refused_is : (count place : ℕ) (content : List ℕ) (r : Refusal) → Refuses count place content r → judged count place content ≡ Err r
refused_is count place content r bad = whole_refused (judge_sequence false count 7) (SaysSequence false count 8) (RefusesSequence false count 8) (sequence_judges false count 7) place content r bad

-- ---- a member whose digest is stated

same_content : (held : Option (List ℕ)) (a b : List ℕ) → held ≡ Some a → held ≡ Some b → a ≡ b
same_content held a b x y = let same : ◌≡◌ {A = Option (List ℕ)} (Some a) (Some b) = sym x ∙ y in cc

both_ways : {P : Type 0} (held : Option (List ℕ)) (a : List ℕ) → held ≡ None → held ≡ Some a → P
both_ways held a x y = let never : ◌≡◌ {A = Option (List ℕ)} None (Some a) = sym x ∙ y in absurd cc

taken_same : (count : ℕ) (held : Option (List ℕ)) (place : ℕ) (stated : Digest) (s t : SequenceTree) → IsTaken count held place stated s → IsTaken count held place stated t → s ≡ t
taken_same count held place stated s t x y =
    let same = same_content held y.content x.content y.there x.there in
    same_ok s t (sym (said_is count place x.content s x.says_so) ∙ said_is count place x.content t (subst (λ (l : List ℕ). Says count place l t) same y.says_so))

taken_never : (name : MemberName) (count : ℕ) (held : Option (List ℕ)) (place : ℕ) (stated : Digest) (s : SequenceTree) (f : MemberFault) → IsTaken count held place stated s → LacksTaken name count held place stated f → ⊥
taken_never name count held place stated s f x (IsSevered none) = both_ways held x.content none x.there
taken_never name count held place stated s f x (IsOther content found there is other) =
    other (is ∙ ap (string_like stated) (same_content held content x.content there x.there) ∙ x.matches)
taken_never name count held place stated s f x (IsNoSequence content r there matches bad) =
    let same = same_content held content x.content there x.there in
    not_both (judged count place x.content) s r (said_is count place x.content s x.says_so) (refused_is count place x.content r (subst (λ (l : List ℕ). Refuses count place l r) same bad))

lacks_same : (name : MemberName) (count : ℕ) (held : Option (List ℕ)) (place : ℕ) (stated : Digest) (f g : MemberFault) → LacksTaken name count held place stated f → LacksTaken name count held place stated g → f ≡ g
lacks_same name count held place stated f g (IsSevered a) (IsSevered b) = refl
lacks_same name count held place stated f g (IsSevered a) (IsOther content found there is other) = both_ways held content a there
lacks_same name count held place stated f g (IsSevered a) (IsNoSequence content r there matches bad) = both_ways held content a there
lacks_same name count held place stated f g (IsOther content found there is other) (IsSevered b) = both_ways held content b there
lacks_same name count held place stated f g (IsOther content found there is other) (IsOther content2 found2 there2 is2 other2) =
    let same : found ≡ found2 = is ∙ ap (string_like stated) (same_content held content content2 there there2) ∙ sym is2 in
    ap (λ (d : Digest). faults.Differs name stated d) same
lacks_same name count held place stated f g (IsOther content found there is other) (IsNoSequence content2 r there2 matches bad) =
    absurd (other (is ∙ ap (string_like stated) (same_content held content content2 there there2) ∙ matches))
lacks_same name count held place stated f g (IsNoSequence content r there matches bad) (IsSevered b) = both_ways held content b there
lacks_same name count held place stated f g (IsNoSequence content r there matches bad) (IsOther content2 found there2 is other) =
    absurd (other (is ∙ ap (string_like stated) (same_content held content2 content there2 there) ∙ matches))
lacks_same name count held place stated f g (IsNoSequence content r there matches bad) (IsNoSequence content2 r2 there2 matches2 bad2) =
    let same = same_content held content2 content there2 there in
    ap faults.Refused (same_err r r2 (sym (refused_is count place content r bad) ∙ refused_is count place content r2 (subst (λ (l : List ℕ). Refuses count place l r2) same bad2)))

-- ---- any member

pub has_same : (count : ℕ) (held : Option (List ℕ)) (place : ℕ) (m : Member) (a b : Option SequenceTree) → HasMember count held place m a → HasMember count held place m b → a ≡ b
has_same count held place Empty a b x y = x ∙ sym y
has_same count held place (Here own) a b x y = x ∙ sym y
has_same count held place (Apart stated) (Some s) (Some t) x y = ap Some (taken_same count held place stated s t x y)
has_same count held place (Apart stated) None b x y = absurd x
has_same count held place (Apart stated) (Some s) None x y = absurd y

pub has_never : (name : MemberName) (count : ℕ) (held : Option (List ℕ)) (place : ℕ) (m : Member) (a : Option SequenceTree) (f : MemberFault) → HasMember count held place m a → LacksMember name count held place m f → ⊥
has_never name count held place Empty a f x bad = bad
has_never name count held place (Here own) a f x bad = bad
has_never name count held place (Apart stated) (Some s) f x bad = taken_never name count held place stated s f x bad
has_never name count held place (Apart stated) None f x bad = x

pub lack_same : (name : MemberName) (count : ℕ) (held : Option (List ℕ)) (place : ℕ) (m : Member) (f g : MemberFault) → LacksMember name count held place m f → LacksMember name count held place m g → f ≡ g
lack_same name count held place Empty f g x y = absurd x
lack_same name count held place (Here own) f g x y = absurd x
lack_same name count held place (Apart stated) f g x y = lacks_same name count held place stated f g x y

-- ---- there is one or the other

abbrev pub HasOrLacks : MemberName → ℕ → Option (List ℕ) → ℕ → Member → Type 0
HasOrLacks name count held place m = ((a : Option SequenceTree) × HasMember count held place m a) ⊎ ((f : MemberFault) × LacksMember name count held place m f)

abbrev pub HoldsBytes : Option (List ℕ) → Type 0
HoldsBytes None = Unit {0}
HoldsBytes (Some content) = IsBytes content

content_decided : (name : MemberName) (count : ℕ) (content : List ℕ) (place : ℕ) (stated : Digest) (a : Result SequenceTree Refusal) → IsBytes content → string_like stated content ≡ stated → judged count place content ≡ a
    → HasOrLacks name count (Some content) place (Apart stated)
content_decided name count content place stated (Ok s) fits matches is =
    inl (Some s, record { content = content; there = refl; matches = matches; says_so = whole_ok (judge_sequence false count 7) (SaysSequence false count 8) (RefusesSequence false count 8) (sequence_judges false count 7) place content s fits is })
content_decided name count content place stated (Err r) fits matches is =
    inr (faults.Refused r, IsNoSequence content r refl matches (whole_err (judge_sequence false count 7) (SaysSequence false count 8) (RefusesSequence false count 8) (sequence_judges false count 7) place content r fits is))

digest_decided : (name : MemberName) (count : ℕ) (content : List ℕ) (place : ℕ) (stated : Digest) (t : Bool) → IsBytes content → has_digest stated (spell (ByteString content)) ≡ t → HasOrLacks name count (Some content) place (Apart stated)
digest_decided name count content place stated true fits is =
    content_decided name count content place stated (judged count place content) fits ((has_decides stated (spell (ByteString content))).0 is) refl
digest_decided name count content place stated false fits is =
    let found : Digest = string_like stated content in
    inr (faults.Differs name stated found, IsOther content found refl refl (λ same. false_true (sym is ∙ (has_decides stated (spell (ByteString content))).1 same)))
  where
    false_true : false ≡ true → ⊥
    false_true e = absurd cc

pub has_or_lacks : (name : MemberName) (count : ℕ) (held : Option (List ℕ)) (place : ℕ) (m : Member) → HoldsBytes held → HasOrLacks name count held place m
has_or_lacks name count held place Empty fits = inl (None, refl)
has_or_lacks name count held place (Here own) fits = inl (None, refl)
has_or_lacks name count None place (Apart stated) fits = inr (faults.Severed name, IsSevered refl)
has_or_lacks name count (Some content) place (Apart stated) fits = digest_decided name count content place stated (has_digest stated (spell (ByteString content))) fits refl
