-- How the names of files are collected.
use Rattle.std.proofs.Common.{◌≡◌, ◌<◌, ◌≤◌, ℕ, suc, ◌+◌, List, [], ◌∷◌, ◌++◌, length, get_or, drop, add-one, String, Global, string_bytes, refl, sym, ap, ◌∙◌}
use Rattle.std.proofs.lemmas.List.{drop_all}
use Rattle.std.proofs.Math.Seq.{drop-cons}
use Rattle.serde_json.specs.View.{view, items_view, members_view}
use Rattle.serde_json.specs.declared.value.Value.{Value}
use Rattle.author.specs.FileNames.{name_at, names_in, names_in_items, names_in_members, with_name, once}

once-append : (kept xs ys : List (List ℕ)) → once kept (xs ++ ys) ≡ once (once kept xs) ys
once-append kept [] ys = refl
once-append kept (x ∷ xs) ys = once-append (with_name kept x) xs ys

pub items_turn : (vs : List Value) (i : ℕ) (v : Value) (names more whole : List (List ℕ)) → i < length vs → v ≡ get_or vs i v → more ≡ once names (names_in (view v))
    → whole ≡ once names (names_in_items (items_view (drop i vs))) → whole ≡ once more (names_in_items (items_view (drop (i + 1) vs)))
items_turn vs i v names more whole h is e so_far =
    so_far ∙ ap (λ xs. once names (names_in_items (items_view xs))) (drop-cons vs i v h)
    ∙ ap (λ x. once names (names_in (view x) ++ names_in_items (items_view (drop (suc i) vs)))) (sym is)
    ∙ once-append names (names_in (view v)) (names_in_items (items_view (drop (suc i) vs)))
    ∙ rw (e, add-one)

pub items_end : (vs : List Value) (i : ℕ) (names whole : List (List ℕ)) → length vs ≤ i → whole ≡ once names (names_in_items (items_view (drop i vs))) → whole ≡ names
items_end vs i names whole h so_far = so_far ∙ ap (λ xs. once names (names_in_items (items_view xs))) (drop_all i vs h)

pub members_turn : (es rest : List (String Global × Value)) (k : String Global) (v : Value) (names more whole : List (List ℕ)) → es ≡ (k, v) ∷ rest
    → more ≡ once names (name_at (string_bytes k) (view v) (names_in (view v)))
    → whole ≡ once names (names_in_members (members_view es)) → whole ≡ once more (names_in_members (members_view rest))
members_turn es rest k v names more whole is e so_far =
    so_far ∙ ap (λ xs. once names (names_in_members (members_view xs))) is
    ∙ once-append names (name_at (string_bytes k) (view v) (names_in (view v))) (names_in_members (members_view rest))
    ∙ rw e
