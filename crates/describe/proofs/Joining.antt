-- Elements that are pushed to a list, before those that are still to come.
use Rattle.std.proofs.Common.{◌≡◌, ℕ, suc, ◌+◌, ◌<◌, ◌≤◌, false, eqb, List, [], ◌∷◌, ◌++◌, length, get_or, drop, add-one, Option, Some, None, refl, sym, ap, ◌∙◌}
use Rattle.std.proofs.Math.Seq.{drop-cons}
use Rattle.std.proofs.lemmas.List.{drop_all}
use Rattle.serde_json.specs.Data.{Data, array, Items, no_items, item}
use Rattle.serde_json.specs.View.{view, items_view}
use Rattle.serde_json.specs.declared.value.Value.{Value}
use Rattle.suit_commands.specs.Tree.{SequenceTree}
use Rattle.suit_commands.specs.View.{command_tree, sequence_tree, branches_tree}
use Rattle.suit_commands.specs.declared.command.Step.{Step}
use Rattle.describe.specs.CommandData.{command_data, step_data, branch_data, branch_said}
use Rattle.describe.specs.SeverData.{sever_data}
use Rattle.describe.specs.Growing.{joined}

pub joined_pushed : (vs : List Value) (v : Value) (more : Items) → joined (items_view (vs ++ v ∷ [])) more ≡ joined (items_view vs) (item (view v) more)
joined_pushed [] v more = refl
joined_pushed (w ∷ vs) v more = ap (item (view w)) (joined_pushed vs v more)

pub joined_none : (ds : Items) → joined ds no_items ≡ ds
joined_none no_items = refl
joined_none (item d ds) = ap (item d) (joined_none ds)

-- one more is pushed, and what is to come begins after it
pushed : (vs ws : List Value) (v : Value) (before after whole : Items) (d : Data) → ws ≡ vs ++ v ∷ [] → view v ≡ d → before ≡ item d after
    → joined (items_view vs) before ≡ whole → joined (items_view ws) after ≡ whole
pushed vs ws v before after whole d is said first so_far =
    ap (λ xs. joined (items_view xs) after) is ∙ joined_pushed vs v after ∙ ap (λ e. joined (items_view vs) (item e after)) said ∙ ap (joined (items_view vs)) (sym first) ∙ so_far

-- ---- the steps of a sequence

steps_left : (ss : List Step) (i : ℕ) (s : Step) → i < length ss → s ≡ get_or ss i s
    → step_data (sequence_tree (drop i ss)) ≡ item (command_data (command_tree s.command)) (step_data (sequence_tree (drop (i + 1) ss)))
steps_left ss i s lt is =
    ap (λ xs. step_data (sequence_tree xs)) (drop-cons ss i s lt)
    ∙ ap (λ (t : Step). item (command_data (command_tree t.command)) (step_data (sequence_tree (drop (suc i) ss)))) (sym is)
    ∙ ap (λ n. item (command_data (command_tree s.command)) (step_data (sequence_tree (drop n ss)))) (sym (add-one i))

pub step_pushed : (ss : List Step) (i : ℕ) (s : Step) (vs ws : List Value) (v : Value) (whole : Items) → i < length ss → s ≡ get_or ss i s → ws ≡ vs ++ v ∷ []
    → view v ≡ command_data (command_tree s.command)
    → joined (items_view vs) (step_data (sequence_tree (drop i ss))) ≡ whole → joined (items_view ws) (step_data (sequence_tree (drop (i + 1) ss))) ≡ whole
step_pushed ss i s vs ws v whole lt is added said so_far = pushed vs ws v _ _ whole _ added said (steps_left ss i s lt is) so_far

pub steps_pushed : (ss : List Step) (i : ℕ) (vs : List Value) (whole : Items) → length ss ≤ i
    → joined (items_view vs) (step_data (sequence_tree (drop i ss))) ≡ whole → items_view vs ≡ whole
steps_pushed ss i vs whole end so_far =
    sym (joined_none (items_view vs)) ∙ ap (λ xs. joined (items_view vs) (step_data (sequence_tree xs))) (sym (drop_all i ss end)) ∙ so_far

-- ---- branches

branch_then : (b : Option SequenceTree) (bs : List (Option SequenceTree)) → branch_data (branches_tree (b ∷ bs)) ≡ item (branch_said b) (branch_data (branches_tree bs))
branch_then (Some s) bs = refl
branch_then None bs = refl

branches_left : (bs : List (Option SequenceTree)) (i : ℕ) (b : Option SequenceTree) → i < length bs → b ≡ get_or bs i b
    → branch_data (branches_tree (drop i bs)) ≡ item (branch_said b) (branch_data (branches_tree (drop (i + 1) bs)))
branches_left bs i b lt is =
    ap (λ xs. branch_data (branches_tree xs)) (drop-cons bs i b lt) ∙ branch_then (get_or bs i b) (drop (suc i) bs)
    ∙ ap (λ c. item (branch_said c) (branch_data (branches_tree (drop (suc i) bs)))) (sym is)
    ∙ ap (λ n. item (branch_said b) (branch_data (branches_tree (drop n bs)))) (sym (add-one i))

pub branch_pushed : (bs : List (Option SequenceTree)) (i : ℕ) (b : Option SequenceTree) (vs ws : List Value) (v : Value) (whole : Items) → i < length bs → b ≡ get_or bs i b → ws ≡ vs ++ v ∷ []
    → view v ≡ branch_said b
    → joined (items_view vs) (branch_data (branches_tree (drop i bs))) ≡ whole → joined (items_view ws) (branch_data (branches_tree (drop (i + 1) bs))) ≡ whole
branch_pushed bs i b vs ws v whole lt is added said so_far = pushed vs ws v _ _ whole _ added said (branches_left bs i b lt is) so_far

pub branches_pushed : (bs : List (Option SequenceTree)) (i : ℕ) (vs : List Value) (whole : Items) → length bs ≤ i
    → joined (items_view vs) (branch_data (branches_tree (drop i bs))) ≡ whole → items_view vs ≡ whole
branches_pushed bs i vs whole end so_far =
    sym (joined_none (items_view vs)) ∙ ap (λ xs. joined (items_view vs) (branch_data (branches_tree xs))) (sym (drop_all i bs end)) ∙ so_far

-- ---- an array of names, if there are any

pub some_names : (vs : List Value) (ds : Items) → eqb (length vs) 0 ≡ false → items_view vs ≡ ds → Some (array (items_view vs)) ≡ sever_data ds
some_names [] ds some e = absurd cc
some_names (v ∷ vs) ds some e = ap sever_data e
