-- The meaning of a digest that is being computed: its hash function, and the message so far.
use Rattle.std.specs.Prelude.{◌≡◌, ℕ, List}
use Rattle.sha2.specs.Hashers.{Holds256, Holds384, Holds512}
use Rattle.suit_params.specs.declared.digest_kind.DigestKind.{DigestKind}
use Rattle.suit_params.specs.declared.digest_kind.DigestKind.TheVariants as kinds
use Rattle.suit_params.specs.declared.hasher.Hasher.{Hasher}
use Rattle.suit_params.specs.declared.hasher.Hasher.TheVariants as hashers

abbrev pub hasher_kind : Hasher → DigestKind
hasher_kind (hashers.Sha256 hasher) = kinds.Sha256
hasher_kind (hashers.Sha384 hasher) = kinds.Sha384
hasher_kind (hashers.Sha512 hasher) = kinds.Sha512

-- the hasher has taken this message
abbrev pub HasTaken : Hasher → List ℕ → Type 0
HasTaken (hashers.Sha256 hasher) message = Holds256 hasher message
HasTaken (hashers.Sha384 hasher) message = Holds384 hasher message
HasTaken (hashers.Sha512 hasher) message = Holds512 hasher message

-- the hasher computes this hash function, and has taken this message
pub record HasHashed (hasher : Hasher) (kind : DigestKind) (message : List ℕ) : Type 0 where
  pub by : hasher_kind hasher ≡ kind
  pub taken : HasTaken hasher message
