-- The flaws of a description's commands do not depend on its files.
use Rattle.std.proofs.Common.{ℕ, zero, suc, Bool, None}
use Rattle.std.specs.Prelude.{◌&&◌, is_some}
use Rattle.serde_json.specs.Find.{as_null}
use Rattle.serde_json.specs.Data.{Data, array, Items, no_items, item}
use Rattle.json_fields.specs.Flaws.{under}
use Rattle.json_fields.specs.Pointers.{index_token}
use Rattle.author.specs.CommandNames.{name_of}
use Rattle.author.specs.Commands.{command_of, sequence_of, steps_from, tries_of, branches_from, is_end}
use Rattle.author.proofs.Likes.{Like, BothRead, BothFlawed, Any, like_bind, like_then, like_under, like_if}
use Rattle.author.proofs.SameFlaws.{Files, scope_with, like_command}

module _ (f g : Files) (shared : Bool) (count : ℕ) where
  mutual
    pub like_sequence : (levels : ℕ) (d : Data) → Like Any (sequence_of (scope_with f shared count) levels d) (sequence_of (scope_with g shared count) levels d)
    like_sequence zero d = BothFlawed _
    like_sequence (suc levels) (array (item d ds)) = like_steps levels 0 (item d ds)
    like_sequence (suc levels) _ = BothFlawed _

    like_steps : (levels i : ℕ) (ds : Items) → Like Any (steps_from (scope_with f shared count) levels i ds) (steps_from (scope_with g shared count) levels i ds)
    like_steps levels i no_items = BothRead _ _ tt
    like_steps levels i (item d ds) =
        like_bind Any Any _ _ _ _ (like_under Any (index_token i) _ _ (like_command_at levels d)) (λ x y e. like_bind Any Any _ _ _ _ (like_steps levels (suc i) ds) (λ s t h. BothRead _ _ tt))

    like_command_at : (levels : ℕ) (d : Data) → Like Any (command_of (scope_with f shared count) levels d) (command_of (scope_with g shared count) levels d)
    like_command_at levels (array (item name (item d no_items))) =
        like_then Any (under (index_token 0) (name_of shared name)) _ _ (λ n. like_command f g shared count n d _ _ _ _ (like_sequence levels d) (like_tries levels d))
    like_command_at levels _ = BothFlawed _

    like_tries : (levels : ℕ) (d : Data) → Like Any (tries_of (scope_with f shared count) levels d) (tries_of (scope_with g shared count) levels d)
    like_tries levels (array (item d (item e ds))) = like_branches levels 0 (item d (item e ds))
    like_tries levels _ = BothFlawed _

    like_branches : (levels i : ℕ) (ds : Items) → Like Any (branches_from (scope_with f shared count) levels i ds) (branches_from (scope_with g shared count) levels i ds)
    like_branches levels i no_items = BothRead _ _ tt
    like_branches levels i (item d ds) =
        like_bind Any Any _ _ _ _ (like_under Any (index_token i) _ _ (like_if Any (is_end ds && is_some (as_null d)) _ _ _ _ (BothRead None None tt) (like_bind Any Any _ _ _ _ (like_sequence levels d) (λ x y e. BothRead _ _ tt))))
        (λ x y e. like_bind Any Any _ _ _ _ (like_branches levels (suc i) ds) (λ s t h. BothRead _ _ tt))
