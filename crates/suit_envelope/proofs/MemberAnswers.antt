-- A member is returned if and only if its digest is the stated one.
use Rattle.std.proofs.Common.{◌≡◌, ◌↔◌, ◌∙◌, ℕ, List, Option, Some, subst}
use Rattle.suit_params.specs.declared.digest.Digest.{Digest}
use Rattle.suit_envelope.specs.Members.{string_like, AnswersMember, IsGot}
use Rattle.suit_envelope.specs.declared.severed.MemberBytes.{MemberBytes}
use Rattle.suit_envelope.specs.declared.severed.MemberBytes.TheVariants as answers

got_there : (content : List ℕ) (stated : Digest) (r : MemberBytes) → AnswersMember (Some content) stated r → IsGot content r ↔ (string_like stated content ≡ stated)
got_there content stated (answers.Got bytes) said = (λ got. said.1, λ same. said.0)
got_there content stated answers.Severed said = absurd said
got_there content stated (answers.Differs told found) said = (λ got. absurd got, λ same. absurd (said.2 (said.1 ∙ same)))

pub got_alone : (held : Option (List ℕ)) (stated : Digest) (r : MemberBytes) → AnswersMember held stated r → (content : List ℕ) → held ≡ Some content → IsGot content r ↔ (string_like stated content ≡ stated)
got_alone held stated r said content is = got_there content stated r (subst (λ (o : Option (List ℕ)). AnswersMember o stated r) is said)
