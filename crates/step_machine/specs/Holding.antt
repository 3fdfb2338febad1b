-- Whether a condition holds of a component, by its parameters in force, its identity and its content.
use Rattle.std.specs.Prelude.{ℕ, Bool, false, List, Option, Some, None, IsSome}
use Rattle.suit_params.specs.declared.digest.Digest.{Digest}
use Rattle.suit_params.specs.declared.param.ParamKey.TheVariants as keys
use Rattle.suit_params.specs.InForce.{Parameters, in_force, identifier_of, number_of, bytes_of, digest_in, size_in}
use Rattle.suit_commands.specs.declared.kinds.TestKind.{TestKind}
use Rattle.suit_commands.specs.declared.kinds.TestKind.TheVariants as tests
use Rattle.path_model.specs.declared.identity.Identity.{Identity}
use Rattle.path_model.specs.DevicePlays.{is_content, is_image, same_identifier, same_number}

-- a digest is in force, and the content has it, and the size if one is in force
abbrev pub has_match : Option Digest → Option ℕ → List ℕ → Bool
has_match None size content = false
has_match (Some digest) size content = is_image digest size content

-- whether the condition holds
abbrev pub holds : TestKind → ℕ → Parameters → Identity → List ℕ → Bool
holds tests.Vendor component parameters identity content =
    same_identifier (identifier_of (in_force parameters component keys.Vendor)) identity.vendor
holds tests.Class component parameters identity content =
    same_identifier (identifier_of (in_force parameters component keys.Class)) identity.class
holds tests.Device component parameters identity content =
    same_identifier (identifier_of (in_force parameters component keys.Device)) identity.device
holds tests.Slot component parameters identity content =
    same_number (number_of (in_force parameters component keys.Slot)) (Some identity.slot)
holds tests.ImageMatch component parameters identity content =
    has_match (digest_in parameters component) (size_in parameters component) content
holds tests.CheckContent component parameters identity content =
    is_content (bytes_of (in_force parameters component keys.Content)) content
holds tests.Abort component parameters identity content = false

-- the condition reads the content, since its parameter is in force
abbrev pub Looks : TestKind → ℕ → Parameters → Type 0
Looks tests.ImageMatch component parameters = IsSome (digest_in parameters component)
Looks tests.CheckContent component parameters =
    IsSome (bytes_of (in_force parameters component keys.Content))
Looks _ component parameters = ⊥
