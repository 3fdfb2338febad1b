-- An envelope is authentic if and only if the answer is yes.
use Rattle.std.proofs.Common.{◌≡◌, List, ℕ, [], ◌∷◌, refl, subst}
use Rattle.std.specs.List.{AllByRecursion}
use Rattle.suit_params.specs.declared.digest.Digest.{Digest}
use Rattle.suit_envelope.specs.Macs.{IsOther, FailsToVerify, SomeVerifies, ThisVerifies, ALaterVerifies}
use Rattle.suit_envelope.specs.Authentic.{IsAuthentic, AnswersAuthentic, payload_of}
use Rattle.suit_envelope.specs.WrapperParts.{WrapperSays, HasWrapper}
use Rattle.suit_envelope.specs.declared.authenticity.Authenticity.{Authenticity}
use Rattle.suit_envelope.specs.declared.authenticity.Authenticity.TheVariants as answers

pub none_verifies : (key payload : List ℕ) (blocks : List (List ℕ)) → AllByRecursion (FailsToVerify key payload) blocks → SomeVerifies key payload blocks → ⊥
none_verifies key payload [] fail some = elim some [ ]
none_verifies key payload (block ∷ blocks) fail (ThisVerifies b rest verifies) = fail.0 verifies
none_verifies key payload (block ∷ blocks) fail (ALaterVerifies b rest later) = none_verifies key payload blocks fail.1 later

pub none_is_mac : (key payload : List ℕ) (blocks : List (List ℕ)) → AllByRecursion IsOther blocks → SomeVerifies key payload blocks → ⊥
none_is_mac key payload [] other some = elim some [ ]
none_is_mac key payload (block ∷ blocks) other (ThisVerifies b rest verifies) = other.0 verifies.kind verifies.protected verifies.tag verifies.is_block
none_is_mac key payload (block ∷ blocks) other (ALaterVerifies b rest later) = none_is_mac key payload blocks other.1 later

module _ (wrapper manifest key : List ℕ) where
  pub yes_is_authentic : (answer : Authenticity) → ((digest : Digest) (blocks : List (List ℕ)) → WrapperSays wrapper digest blocks → AnswersAuthentic digest blocks manifest key answer)
      → HasWrapper wrapper → answer ≡ answers.Yes → IsAuthentic wrapper manifest key
  yes_is_authentic answer told has same =
      let said : AnswersAuthentic has.0 has.1 manifest key answers.Yes = subst (λ (a : Authenticity). AnswersAuthentic has.0 has.1 manifest key a) same (told has.0 has.1 has.2) in
      record { digest = has.0; blocks = has.1; says = has.2; stated = said.0; verifies = said.1 }

  pub authentic_is_yes : (answer : Authenticity) → ((digest : Digest) (blocks : List (List ℕ)) → WrapperSays wrapper digest blocks → AnswersAuthentic digest blocks manifest key answer)
      → IsAuthentic wrapper manifest key → answer ≡ answers.Yes
  authentic_is_yes answers.Yes told is = refl
  authentic_is_yes (answers.DigestDiffers stated found) told is = absurd ((told is.digest is.blocks is.says).2 is.stated)
  authentic_is_yes answers.NoMac told is = absurd (none_is_mac key (payload_of is.digest) is.blocks (told is.digest is.blocks is.says).1 is.verifies)
  authentic_is_yes (answers.MacDiffers expected found) told is = absurd (none_verifies key (payload_of is.digest) is.blocks (told is.digest is.blocks is.says).1 is.verifies)
