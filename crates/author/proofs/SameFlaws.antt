-- The flaws of a description do not depend on its files.
use Rattle.std.proofs.Common.{◌≡◌, ℕ, List, Bool, Option, Some, None, Result, refl}
use Rattle.std.specs.Prelude.{is_some}
use Rattle.serde_json.specs.Data.{Data}
use Rattle.serde_json.specs.Find.{as_object}
use Rattle.json_fields.specs.declared.flaw.Flaw.{Flaw}
use Rattle.json_fields.specs.Pointers.{index_token}
use Rattle.suit_params.specs.declared.param.ParamKey.{ParamKey}
use Rattle.suit_params.specs.declared.param.ParamKey.TheVariants as keys
use Rattle.suit_commands.specs.Tree.{SequenceTree, BranchesTree}
use Rattle.author.specs.declared.command_name.CommandName.{CommandName}
use Rattle.author.specs.declared.command_name.CommandName.TheVariants as commands
use Rattle.author.specs.Scope.{Scope}
use Rattle.author.specs.FileValues.{digest_of, size_of, content_of}
use Rattle.author.specs.ParamNames.{param_named}
use Rattle.author.specs.ParamValues.{param_value, ParamsSoFar, takes_named, takes_param, params_of}
use Rattle.author.specs.Commands.{command_said}
use Rattle.author.proofs.Likes.{Like, BothRead, BothFlawed, Any, like_any, like_bind, like_under, like_if, like_object}

abbrev pub Files : Type 0
Files = List (List ℕ × List ℕ)

-- the same but for the files
abbrev pub scope_with : Files → Bool → ℕ → Scope
scope_with files shared count = record { files = files; shared = shared; count = count }

module _ (f g : Files) where
  pub like_digest : (d : Data) → Like Any (digest_of f d) (digest_of g d)
  like_digest d = like_if Any (is_some (as_object d)) _ _ _ _ (like_bind Any Any _ _ _ _ (like_any _) (λ x y h. BothRead _ _ tt)) (like_any _)

  pub like_size : (d : Data) → Like Any (size_of f d) (size_of g d)
  like_size d = like_if Any (is_some (as_object d)) _ _ _ _ (like_bind Any Any _ _ _ _ (like_any _) (λ x y h. BothRead _ _ tt)) (like_any _)

  pub like_content : (d : Data) → Like Any (content_of f d) (content_of g d)
  like_content d = like_if Any (is_some (as_object d)) _ _ _ _ (like_bind Any Any _ _ _ _ (like_any _) (λ x y h. BothRead _ _ tt)) (like_any _)

  module _ (shared : Bool) (count : ℕ) where
    like_param : (key : ParamKey) (d : Data) → Like Any (param_value (scope_with f shared count) key d) (param_value (scope_with g shared count) key d)
    like_param keys.Vendor d = like_any _
    like_param keys.Class d = like_any _
    like_param keys.Device d = like_any _
    like_param keys.Digest d = like_bind Any Any _ _ _ _ (like_digest d) (λ x y h. BothRead _ _ tt)
    like_param keys.Slot d = like_any _
    like_param keys.Strict d = like_any _
    like_param keys.Soft d = like_any _
    like_param keys.Size d = like_bind Any Any _ _ _ _ (like_size d) (λ x y h. BothRead _ _ tt)
    like_param keys.Content d = like_bind Any Any _ _ _ _ (like_content d) (λ x y h. BothRead _ _ tt)
    like_param keys.Uri d = like_any _
    like_param keys.Source d = like_any _
    like_param keys.Args d = like_any _

    abbrev ParamsLike : ParamsSoFar → ParamsSoFar → Type 0
    ParamsLike t u = (t.scope ≡ scope_with f shared count) × (u.scope ≡ scope_with g shared count)

    like_named : (t u : ParamsSoFar) (name : Option ParamKey) (d : Data) → ParamsLike t u → Like ParamsLike (takes_named t name d) (takes_named u name d)
    like_named t u None d h = BothFlawed _
    like_named t u (Some key) d h = like_bind Any ParamsLike (param_value t.scope key d) (param_value u.scope key d) _ _ (rw (h.0, h.1) (like_param key d)) (λ x y e. BothRead _ _ h)

    like_params : (d : Data) → Like Any (params_of (scope_with f shared count) d) (params_of (scope_with g shared count) d)
    like_params d =
        like_bind ParamsLike Any _ _ _ _ (like_object ParamsLike takes_param takes_param (λ t u k x h. like_named t u (param_named k) x h) d _ _ (refl, refl)) (λ x y h. BothRead _ _ tt)

    pub like_command : (name : CommandName) (d : Data) (s s' : Result SequenceTree Flaw) (bs bs' : Result BranchesTree Flaw) → Like Any s s' → Like Any bs bs'
        → Like Any (command_said (scope_with f shared count) name d s bs) (command_said (scope_with g shared count) name d s' bs')
    like_command (commands.Test kind) d s s' bs bs' h k = like_any _
    like_command (commands.Act kind) d s s' bs bs' h k = like_any _
    like_command commands.Index d s s' bs bs' h k = like_any _
    like_command commands.Set d s s' bs bs' h k = like_bind Any Any _ _ _ _ (like_under Any (index_token 1) _ _ (like_params d)) (λ x y e. BothRead _ _ tt)
    like_command commands.Try d s s' bs bs' h k = like_bind Any Any _ _ _ _ (like_under Any (index_token 1) _ _ k) (λ x y e. BothRead _ _ tt)
    like_command commands.Run d s s' bs bs' h k = like_bind Any Any _ _ _ _ (like_under Any (index_token 1) _ _ h) (λ x y e. BothRead _ _ tt)
