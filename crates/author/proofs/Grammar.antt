-- The sequences of a description are those that the grammar allows, where they fit the types of the code.
use Rattle.std.proofs.Common.{◌≡◌, ◌<◌, ◌≤◌, ℕ, zero, suc, Bool, true, false, List, [], ◌∷◌, Option, Some, None, Result, refl}
use Rattle.std.specs.Prelude.{◌≢◌, is_some, unwrap_or}
use Rattle.std.specs.List.{AllByRecursion}
use Rattle.serde_json.specs.Data.{Data, null, boolean, number, string, array, object, Items, no_items, item}
use Rattle.serde_json.specs.Find.{as_null, as_bool}
use Rattle.json_fields.specs.declared.flaw.Flaw.{Flaw}
use Rattle.json_fields.specs.Arrays.{array_of}
use Rattle.json_fields.specs.Values.{number_up_to}
use Rattle.json_fields.specs.Pointers.{index_token}
use Rattle.suit_commands.specs.declared.kinds.ActKind.{ActKind}
use Rattle.suit_commands.specs.declared.selection.Selection.TheVariants.{One, All, Listed}
use Rattle.suit_commands.specs.Tree.{CommandTree, SequenceTree, NoSteps, StepThen, BranchesTree, NoBranches, BranchThen, NullThen}
use Rattle.suit_commands.specs.Allowed.{IsSelectionOf, AreTwo, IsSequence, AreCommands, IsCommand, AreBranches}
use Rattle.suit_commands.specs.SequenceWriting.{StepsFit, CommandFits, BranchesFit}
use Rattle.author.specs.declared.command_name.CommandName.{CommandName}
use Rattle.author.specs.declared.command_name.CommandName.TheVariants as names
use Rattle.author.specs.Scope.{Scope}
use Rattle.author.specs.Elements.{items_in}
use Rattle.author.specs.ParamValues.{index_of}
use Rattle.author.specs.Selections.{is_list, selection_of}
use Rattle.author.specs.CommandNames.{allowed, name_of}
use Rattle.author.specs.Commands.{argument, command_said, is_end, branch_said, branch_then, sequence_of, steps_from, command_of, tries_of, branches_from}
use Rattle.author.proofs.Keeps.{Holds, WasRead, WasFlawed, holds_bind, holds_then, holds_under, holds_choice, holds_weaker, holds_each}
use Rattle.author.proofs.ParamGrammar.{number_holds, index_holds, AreGood, params_hold}

-- ---- selections

abbrev AreIndices : ℕ → List ℕ → Type 0
AreIndices count is = AllByRecursion (λ i. i < count) is

abbrev IsListOf : ℕ → List ℕ → Type 0
IsListOf count is = (is ≢ []) × AreIndices count is

some_element : (i : ℕ) (is : List ℕ) → i ∷ is ≢ []
some_element i is e = absurd cc

list_holds : (count : ℕ) (d : Data) → is_list (items_in d) ≡ true → Holds (IsListOf count) (array_of (index_of count) d)
list_holds count null e = absurd cc
list_holds count (boolean b) e = absurd cc
list_holds count (number n) e = absurd cc
list_holds count (string s) e = absurd cc
list_holds count (object ms) e = absurd cc
list_holds count (array no_items) e = absurd cc
list_holds count (array (item d ds)) e =
    holds_bind (λ i. i < count) (IsListOf count) _ _ (holds_under (λ i. i < count) (index_token 0) (index_of count d) (index_holds count d)) (λ i h.
    holds_bind (AreIndices count) (IsListOf count) _ _ (holds_each (λ i. i < count) (index_of count) (index_holds count) 1 ds) (λ is hs. WasRead (i ∷ is) (some_element i is, (h, hs))))

selection_holds : (count : ℕ) (d : Data) → Holds (IsSelectionOf count) (selection_of count d)
selection_holds count d =
    holds_choice (IsSelectionOf count) (unwrap_or (as_bool d) false) _ _ (λ e. WasRead All tt) (λ e.
    holds_choice (IsSelectionOf count) (is_list (items_in d)) _ _
    (λ e. holds_bind (IsListOf count) (IsSelectionOf count) _ _ (list_holds count d e) (λ is h. WasRead (Listed is) h))
    (λ e. holds_bind (λ i. i < count) (IsSelectionOf count) _ _ (index_holds count d) (λ i h. WasRead (One i) h)))

-- ---- commands

module _ (scope : Scope) where
  abbrev Sequences : ℕ → SequenceTree → Type 0
  Sequences levels s = StepsFit s → IsSequence scope.shared scope.count levels s

  abbrev Steps : ℕ → SequenceTree → Type 0
  Steps levels s = StepsFit s → AreCommands scope.shared scope.count levels s

  abbrev Commands : ℕ → CommandTree → Type 0
  Commands levels c = CommandFits c → IsCommand scope.shared scope.count levels c

  abbrev Tries : ℕ → BranchesTree → Type 0
  Tries levels bs = BranchesFit bs → AreTwo bs × AreBranches scope.shared scope.count levels bs

  -- acts are read where the sequence is not the shared one
  abbrev Named : CommandName → Type 0
  Named (names.Act kind) = scope.shared ≡ false
  Named (names.Test kind) = Unit {0}
  Named names.Index = Unit {0}
  Named names.Set = Unit {0}
  Named names.Try = Unit {0}
  Named names.Run = Unit {0}

  act_allowed : (b : Bool) (kind : ActKind) → scope.shared ≡ b → Holds Named (allowed b (names.Act kind))
  act_allowed true kind e = WasFlawed _
  act_allowed false kind e = WasRead _ e

  name_allowed : (n : CommandName) → Holds Named (allowed scope.shared n)
  name_allowed (names.Act kind) = act_allowed scope.shared kind refl
  name_allowed (names.Test kind) = WasRead _ tt
  name_allowed names.Index = WasRead _ tt
  name_allowed names.Set = WasRead _ tt
  name_allowed names.Try = WasRead _ tt
  name_allowed names.Run = WasRead _ tt

  name_holds : (d : Data) → Holds Named (name_of scope.shared d)
  name_holds d = holds_then Named _ _ (λ n. name_allowed n)

  report_holds : (d : Data) → Holds (λ r. r ≤ 15) (argument (number_up_to 15 d))
  report_holds d = holds_under (λ r. r ≤ 15) (index_token 1) (number_up_to 15 d) (number_holds 15 d)

  said : (levels : ℕ) (n : CommandName) (d : Data) (s : Result SequenceTree Flaw) (bs : Result BranchesTree Flaw) → Named n → Holds (Sequences levels) s → Holds (Tries levels) bs
      → Holds (Commands levels) (command_said scope n d s bs)
  said levels (names.Test kind) d s bs named hs hb = holds_bind (λ r. r ≤ 15) (Commands levels) _ _ (report_holds d) (λ r h. WasRead _ (λ fit. h))
  said levels (names.Act kind) d s bs named hs hb = holds_bind (λ r. r ≤ 15) (Commands levels) _ _ (report_holds d) (λ r h. WasRead _ (λ fit. (named, h)))
  said levels names.Index d s bs named hs hb =
      holds_bind (IsSelectionOf scope.count) (Commands levels) _ _ (holds_under (IsSelectionOf scope.count) (index_token 1) _ (selection_holds scope.count d)) (λ x h. WasRead _ (λ fit. h))
  said levels names.Set d s bs named hs hb =
      holds_bind (AreGood scope.count) (Commands levels) _ _ (holds_under (AreGood scope.count) (index_token 1) _ (params_hold scope d)) (λ list h. WasRead _ (λ fit. (fit, h.0, h.1)))
  said levels names.Try d s bs named hs hb =
      holds_bind (Tries levels) (Commands levels) _ _ (holds_under (Tries levels) (index_token 1) bs hb) (λ tries h. WasRead _ (λ fit. h fit.1))
  said levels names.Run d s bs named hs hb =
      holds_bind (Sequences levels) (Commands levels) _ _ (holds_under (Sequences levels) (index_token 1) s hs) (λ inner h. WasRead _ (λ fit. h fit.1.1))

  -- ---- branches

  -- null is the last
  abbrev Branch : ℕ → Bool → Option SequenceTree → Type 0
  Branch levels last (Some s) = Sequences levels s
  Branch levels last None = last ≡ true

  -- one branch for each element
  abbrev Matching : Items → BranchesTree → Type 0
  Matching no_items NoBranches = Unit {0}
  Matching no_items (BranchThen s bs) = ⊥
  Matching no_items (NullThen bs) = ⊥
  Matching (item d ds) NoBranches = ⊥
  Matching (item d ds) (BranchThen s bs) = Matching ds bs
  Matching (item d ds) (NullThen bs) = (is_end ds ≡ true) × Matching ds bs

  abbrev Branches : ℕ → Items → BranchesTree → Type 0
  Branches levels ds bs = (BranchesFit bs → AreBranches scope.shared scope.count levels bs) × Matching ds bs

  branch_holds : (levels : ℕ) (last : Bool) (d : Data) (s : Result SequenceTree Flaw) → Holds (Sequences levels) s → Holds (Branch levels last) (branch_said last d s)
  branch_holds levels false d s h = holds_bind (Sequences levels) (Branch levels false) _ _ h (λ x g. WasRead (Some x) g)
  branch_holds levels true d s h =
      holds_choice (Branch levels true) (is_some (as_null d)) _ _ (λ e. WasRead None refl) (λ e. holds_bind (Sequences levels) (Branch levels true) _ _ h (λ x g. WasRead (Some x) g))

  null_last : (levels : ℕ) (d : Data) (ds : Items) (bs : BranchesTree) → is_end ds ≡ true → Branches levels ds bs → Branches levels (item d ds) (NullThen bs)
  null_last levels d no_items NoBranches e h = ((λ fit. tt), (refl, tt))
  null_last levels d no_items (BranchThen s bs) e h = absurd h.1
  null_last levels d no_items (NullThen bs) e h = absurd h.1
  null_last levels d (item x ds) bs e h = absurd cc

  one_branch : (levels : ℕ) (d : Data) (ds : Items) (b : Option SequenceTree) (bs : BranchesTree) → Branch levels (is_end ds) b → Branches levels ds bs
      → Branches levels (item d ds) (branch_then b bs)
  one_branch levels d ds (Some s) bs hb h = ((λ fit. (hb fit.0.1.1, h.0 fit.1)), h.1)
  one_branch levels d ds None bs hb h = null_last levels d ds bs hb h

  two : (a b : Data) (ds : Items) (bs : BranchesTree) → Matching (item a (item b ds)) bs → AreTwo bs
  two a b ds NoBranches h = absurd h
  two a b ds (BranchThen s NoBranches) h = absurd h
  two a b ds (BranchThen s (BranchThen t bs)) h = tt
  two a b ds (BranchThen s (NullThen bs)) h = tt
  two a b ds (NullThen bs) h = let bad : false ≡ true = h.0 in absurd cc

  -- ---- sequences

  mutual
    pub sequences : (levels : ℕ) (d : Data) → Holds (Sequences levels) (sequence_of scope levels d)
    sequences zero d = WasFlawed _
    sequences (suc levels) (array (item d ds)) =
        holds_bind (Commands levels) (Sequences (suc levels)) _ _ (holds_under (Commands levels) (index_token 0) (command_of scope levels d) (commands levels d)) (λ c h.
        holds_bind (Steps levels) (Sequences (suc levels)) _ _ (steps levels 1 ds) (λ s hs. WasRead (StepThen 0 c s) (λ fit. (h fit.0, hs fit.1))))
    sequences (suc levels) _ = WasFlawed _

    steps : (levels i : ℕ) (ds : Items) → Holds (Steps levels) (steps_from scope levels i ds)
    steps levels i no_items = WasRead NoSteps (λ fit. tt)
    steps levels i (item d ds) =
        holds_bind (Commands levels) (Steps levels) _ _ (holds_under (Commands levels) (index_token i) (command_of scope levels d) (commands levels d)) (λ c h.
        holds_bind (Steps levels) (Steps levels) _ _ (steps levels (suc i) ds) (λ s hs. WasRead (StepThen 0 c s) (λ fit. (h fit.0, hs fit.1))))

    commands : (levels : ℕ) (d : Data) → Holds (Commands levels) (command_of scope levels d)
    commands levels (array (item name (item d no_items))) =
        holds_bind Named (Commands levels) _ _ (holds_under Named (index_token 0) (name_of scope.shared name) (name_holds name)) (λ n h.
        said levels n d (sequence_of scope levels d) (tries_of scope levels d) h (sequences levels d) (tries levels d))
    commands levels _ = WasFlawed _

    tries : (levels : ℕ) (d : Data) → Holds (Tries levels) (tries_of scope levels d)
    tries levels (array (item a (item b ds))) =
        holds_weaker (Branches levels (item a (item b ds))) (Tries levels) (branches_from scope levels 0 (item a (item b ds)))
        (branches levels 0 (item a (item b ds))) (λ bs h. (λ fit. (two a b ds bs h.1, h.0 fit)))
    tries levels _ = WasFlawed _

    branches : (levels i : ℕ) (ds : Items) → Holds (Branches levels ds) (branches_from scope levels i ds)
    branches levels i no_items = WasRead NoBranches ((λ fit. tt), tt)
    branches levels i (item d ds) =
        holds_bind (Branch levels (is_end ds)) (Branches levels (item d ds)) _ _
        (holds_under (Branch levels (is_end ds)) (index_token i) (branch_said (is_end ds) d (sequence_of scope levels d)) (branch_holds levels (is_end ds) d (sequence_of scope levels d) (sequences levels d))) (λ b hb.
        holds_bind (Branches levels ds) (Branches levels (item d ds)) _ _ (branches levels (suc i) ds) (λ bs h. WasRead (branch_then b bs) (one_branch levels d ds b bs hb h)))
