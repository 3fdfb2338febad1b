-- A member whose digest is stated, given what the envelope holds for it.
use Rattle.std.proofs.Common.{ℕ, ◌+◌, ◌<◌, ◌^◌, false, List, length, Option, Some, None, refl, sym, subst, Bor}
use Rattle.suit_params.specs.declared.digest.Digest.{Digest}
use Rattle.suit_params.specs.Refusing.{SaysWhole}
use Rattle.suit_commands.specs.Sequences.{SaysSequence}
use Rattle.suit_commands.specs.Tree.{SequenceTree}
use Rattle.suit_envelope.specs.Members.{AnswersMember}
use Rattle.suit_envelope.specs.Places.{EndsBelow}
use Rattle.suit_envelope.specs.declared.severed.MemberName.{MemberName}
use Rattle.suit_envelope.specs.declared.severed.MemberBytes.TheVariants as answers
use Rattle.suit_manifest.specs.declared.members.MemberFault.{MemberFault}
use Rattle.suit_manifest.specs.declared.members.MemberFault.TheVariants as faults
use Rattle.suit_manifest.specs.MembersApart.{IsTaken, LacksTaken, IsSevered, IsOther, IsNoSequence, RefusesContent, IsLackBy}

pub got_place : (held : Option (List ℕ)) (stated : Digest) (bytes : Bor (List ℕ)) (place : ℕ) → AnswersMember held stated (answers.Got bytes) → EndsBelow (2 ^ 64) held place → place + length bytes.now < 2 ^ 64
got_place None stated bytes place got fits = absurd got
got_place (Some content) stated bytes place got fits = subst (λ (l : List ℕ). place + length l < 2 ^ 64) (sym got.0) fits

pub got_taken : (count place : ℕ) (held : Option (List ℕ)) (stated : Digest) (bytes : Bor (List ℕ)) (s : SequenceTree) → AnswersMember held stated (answers.Got bytes)
    → SaysWhole (SaysSequence false count 8) place bytes.now s → IsTaken count held place stated s
got_taken count place None stated bytes s got says = absurd got
got_taken count place (Some content) stated bytes s got says =
    record { content = content; there = refl; matches = got.1; says_so = subst (λ (l : List ℕ). SaysWhole (SaysSequence false count 8) place l s) got.0 says }

pub got_refused : (name : MemberName) (count place : ℕ) (held : Option (List ℕ)) (stated : Digest) (bytes : Bor (List ℕ)) (f : MemberFault) → AnswersMember held stated (answers.Got bytes)
    → RefusesContent count place bytes.now f → IsLackBy (LacksTaken name count held place stated) f
got_refused name count place None stated bytes f got bad = absurd got
got_refused name count place (Some content) stated bytes (faults.Refused r) got bad =
    IsNoSequence content r refl got.1 (subst (λ (l : List ℕ). RefusesContent count place l (faults.Refused r)) got.0 bad)
got_refused name count place (Some content) stated bytes faults.NoMemory got bad = tt
got_refused name count place (Some content) stated bytes (faults.Severed n) got bad = absurd bad
got_refused name count place (Some content) stated bytes (faults.Differs n a b) got bad = absurd bad

pub severed : (name : MemberName) (count place : ℕ) (held : Option (List ℕ)) (stated : Digest) → AnswersMember held stated answers.Severed → LacksTaken name count held place stated (faults.Severed name)
severed name count place None stated none = IsSevered refl
severed name count place (Some content) stated none = absurd none

pub differs : (name : MemberName) (count place : ℕ) (held : Option (List ℕ)) (stated told found : Digest) → AnswersMember held stated (answers.Differs told found)
    → LacksTaken name count held place stated (faults.Differs name told found)
differs name count place None stated told found other = absurd other
differs name count place (Some content) stated told found other =
    subst (λ (d : Digest). LacksTaken name count (Some content) place stated (faults.Differs name d found)) (sym other.0) (IsOther content found refl other.1 other.2)
