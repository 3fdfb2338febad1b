-- How sequences and branches grow while they are read.
use Rattle.std.proofs.Common.{◌≡◌, ℕ, zero, suc, ◌+◌, ◌-◌, ◌<◌, ◌≤◌, List, [], ◌∷◌, length, eqb, get_or, drop, add-one, Option, Some, None, Result, Ok, Err, refl, sym, ap, ◌∙◌, arith}
use Rattle.det_cbor.specs.HeadReading.{◌>>=◌}
use Rattle.serde_json.specs.Data.{Data, array, Items, no_items, item}
use Rattle.serde_json.specs.declared.value.Value.{Value}
use Rattle.std.proofs.Math.Seq.{drop-cons}
use Rattle.std.proofs.lemmas.List.{drop_all, length-drop}
use Rattle.std.proofs.lemmas.Bool.Decides.{nat_tests}
use Rattle.serde_json.specs.View.{view, items_view}
use Rattle.json_fields.specs.declared.flaw.Flaw.{Flaw}
use Rattle.json_fields.specs.declared.flaw.FlawKind.{FlawKind}
use Rattle.json_fields.specs.declared.flaw.JsonFault.{JsonFault}
use Rattle.json_fields.specs.declared.flaw.JsonFault.TheVariants.{Flawed, NoMemory}
use Rattle.json_fields.specs.Answers.{Gives}
use Rattle.json_fields.specs.declared.flaw.FlawKind.TheVariants.{Field, Hex}
use Rattle.json_fields.specs.Flaws.{flawed, under}
use Rattle.json_fields.specs.Pointers.{index_token}
use Rattle.suit_commands.specs.Tree.{CommandTree, SequenceTree, NoSteps, StepThen, BranchesTree, NoBranches, BranchThen, NullThen}
use Rattle.suit_commands.specs.View.{step_after, branch_after}
use Rattle.author.specs.Scope.{Scope}
use Rattle.author.specs.Elements.{items_in, pair_in}
use Rattle.author.specs.CommandNames.{name_of}
use Rattle.author.specs.Commands.{sequence_of, steps_from, command_of, command_named, tries_of, branches_from, branch_of, branch_then, is_end}

-- ---- one sequence after another

abbrev pub joined : SequenceTree → SequenceTree → SequenceTree
joined NoSteps s = s
joined (StepThen place c rest) s = StepThen place c (joined rest s)

pub joined-NoSteps : (s : SequenceTree) → joined s NoSteps ≡ s
joined-NoSteps NoSteps = refl
joined-NoSteps (StepThen place c rest) = ap (StepThen place c) (joined-NoSteps rest)

pub joined-step_after : (s : SequenceTree) (place : ℕ) (c : CommandTree) (more : SequenceTree) → joined (step_after s place c) more ≡ joined s (StepThen place c more)
joined-step_after NoSteps place c more = refl
joined-step_after (StepThen p d rest) place c more = ap (StepThen p d) (joined-step_after rest place c more)

abbrev pub after_steps : SequenceTree → Result SequenceTree Flaw → Result SequenceTree Flaw
after_steps s read = read >>= λ more. Ok (joined s more)

steps_regrouped : (s : SequenceTree) (c : CommandTree) (read : Result SequenceTree Flaw) → after_steps s (read >>= λ more. Ok (StepThen 0 c more)) ≡ after_steps (step_after s 0 c) read
steps_regrouped s c (Ok more) = ap (λ t. Ok t) (sym (joined-step_after s 0 c more))
steps_regrouped s c (Err f) = refl

pub steps_turn : (scope : Scope) (levels i : ℕ) (d : Data) (ds : Items) (s : SequenceTree) (c : CommandTree) → command_of scope levels d ≡ Ok c
    → after_steps s (steps_from scope levels i (item d ds)) ≡ after_steps (step_after s 0 c) (steps_from scope levels (suc i) ds)
steps_turn scope levels i d ds s c e = rw e (steps_regrouped s c (steps_from scope levels (suc i) ds))

-- ---- branches

abbrev pub spliced : BranchesTree → BranchesTree → BranchesTree
spliced NoBranches bs = bs
spliced (BranchThen s rest) bs = BranchThen s (spliced rest bs)
spliced (NullThen rest) bs = NullThen (spliced rest bs)

pub spliced-NoBranches : (bs : BranchesTree) → spliced bs NoBranches ≡ bs
spliced-NoBranches NoBranches = refl
spliced-NoBranches (BranchThen s rest) = ap (BranchThen s) (spliced-NoBranches rest)
spliced-NoBranches (NullThen rest) = ap NullThen (spliced-NoBranches rest)

pub spliced-branch_after : (bs : BranchesTree) (b : Option SequenceTree) (more : BranchesTree) → spliced (branch_after bs b) more ≡ spliced bs (branch_then b more)
spliced-branch_after NoBranches (Some s) more = refl
spliced-branch_after NoBranches None more = refl
spliced-branch_after (BranchThen t rest) b more = ap (BranchThen t) (spliced-branch_after rest b more)
spliced-branch_after (NullThen rest) b more = ap NullThen (spliced-branch_after rest b more)

abbrev pub after_branches : BranchesTree → Result BranchesTree Flaw → Result BranchesTree Flaw
after_branches bs read = read >>= λ more. Ok (spliced bs more)

branches_regrouped : (bs : BranchesTree) (b : Option SequenceTree) (read : Result BranchesTree Flaw) → after_branches bs (read >>= λ more. Ok (branch_then b more)) ≡ after_branches (branch_after bs b) read
branches_regrouped bs b (Ok more) = ap (λ t. Ok t) (sym (spliced-branch_after bs b more))
branches_regrouped bs b (Err f) = refl

pub branches_turn : (scope : Scope) (levels i : ℕ) (d : Data) (ds : Items) (bs : BranchesTree) (b : Option SequenceTree) → under (index_token i) (branch_of scope levels (is_end ds) d) ≡ Ok b
    → after_branches bs (branches_from scope levels i (item d ds)) ≡ after_branches (branch_after bs b) (branches_from scope levels (suc i) ds)
branches_turn scope levels i d ds bs b e = rw e (branches_regrouped bs b (branches_from scope levels (suc i) ds))

pub is_end-view : (vs : List Value) → is_end (items_view vs) ≡ eqb (length vs) 0
is_end-view [] = refl
is_end-view (v ∷ vs) = grind arith

-- ---- reading, by the elements of a value

abbrev pub sequence_in : Scope → ℕ → Items → Result SequenceTree Flaw
sequence_in scope levels no_items = flawed Field
sequence_in scope levels (item d ds) = steps_from scope levels 0 (item d ds)

sequence_of-items : (scope : Scope) (levels : ℕ) (d : Data) → sequence_of scope (suc levels) d ≡ sequence_in scope levels (items_in d)
sequence_of-items scope levels (array (item d ds)) = refl
sequence_of-items scope levels _ = refl

pub sequence_of-listed : (scope : Scope) (levels n : ℕ) (d : Data) (vs : List Value) → levels ≡ suc n → 0 < length vs → items_view vs ≡ items_in d → sequence_of scope levels d ≡ steps_from scope n 0 (items_view vs)
sequence_of-listed scope levels n d [] e h is = absurd (omega arith)
sequence_of-listed scope levels n d (v ∷ vs) e h is = rw e (sequence_of-items scope n d ∙ ap (sequence_in scope n) (sym is))

abbrev pub command_in : Scope → ℕ → Option (Data × Data) → Result CommandTree Flaw
command_in scope levels (Some p) = under (index_token 0) (name_of scope.shared p.0) >>= λ n. command_named scope levels n p.1
command_in scope levels None = flawed Field

pub command_of-pair : (scope : Scope) (levels : ℕ) (d : Data) → command_of scope levels d ≡ command_in scope levels (pair_in (items_in d))
command_of-pair scope levels (array (item d (item e no_items))) = refl
command_of-pair scope levels _ = refl

abbrev pub tries_in : Scope → ℕ → Items → Result BranchesTree Flaw
tries_in scope levels (item a (item b ds)) = branches_from scope levels 0 (item a (item b ds))
tries_in scope levels _ = flawed Field

tries_of-items : (scope : Scope) (levels : ℕ) (d : Data) → tries_of scope levels d ≡ tries_in scope levels (items_in d)
tries_of-items scope levels (array (item d (item e ds))) = refl
tries_of-items scope levels _ = refl

pub tries_of-two : (scope : Scope) (levels : ℕ) (d : Data) (vs : List Value) → 2 ≤ length vs → items_view vs ≡ items_in d → tries_of scope levels d ≡ branches_from scope levels 0 (items_view vs)
tries_of-two scope levels d [] h is = absurd (omega arith)
tries_of-two scope levels d (v ∷ []) h is = absurd (omega arith)
tries_of-two scope levels d (v ∷ w ∷ vs) h is = tries_of-items scope levels d ∙ ap (tries_in scope levels) (sym is)

pub tries_of-fewer : (scope : Scope) (levels : ℕ) (d : Data) (vs : List Value) → length vs < 2 → items_view vs ≡ items_in d → tries_of scope levels d ≡ flawed Field
tries_of-fewer scope levels d [] h is = tries_of-items scope levels d ∙ ap (tries_in scope levels) (sym is)
tries_of-fewer scope levels d (v ∷ []) h is = tries_of-items scope levels d ∙ ap (tries_in scope levels) (sym is)
tries_of-fewer scope levels d (v ∷ w ∷ vs) h is = absurd (omega arith)

-- ---- a fault that is told as that of a part

abbrev kind_in : {Y : Type 0} → Result Y Flaw → FlawKind
kind_in (Ok y) = Field
kind_in (Err f) = f.kind

module _ {X T Y : Type 0} (v : X → T) (token : List ℕ) (said : Result T Flaw) (k : Result T Flaw → Result Y Flaw) (passes : (f : Flaw) → k (Err f) ≡ Err f) where
  pub fault_told : (fault : JsonFault) (result : Result Y JsonFault) → ((s : Result Y Flaw) → Gives (λ y. y) (Err fault) s → Gives (λ y. y) result (under token s))
      → Gives v (Err fault) said → Gives (λ y. y) result (k (under token said))
  fault_told (Flawed f) (Ok y) h g = let bad = h (Err f) refl in grind arith
  fault_told (Flawed f) (Err (Flawed j)) h g = rw (g, passes) (h (Err f) refl)
  fault_told (Flawed f) (Err NoMemory) h g = tt
  fault_told NoMemory (Ok y) h g = let bad = h (flawed Field) tt in grind arith
  fault_told NoMemory (Err (Flawed j)) h g =
      let bad : Field ≡ Hex = ap kind_in (h (flawed Field) tt) ∙ sym (ap kind_in (h (flawed Hex) tt)) in
      grind arith
  fault_told NoMemory (Err NoMemory) h g = tt

-- ---- a fault of what was read first

pub err_passes : {X T W Y : Type 0} (v : X → T) (w : W → Y) (k : Result T Flaw → Result Y Flaw) → ((f : Flaw) → k (Err f) ≡ Err f)
    → (e : JsonFault) (said : Result T Flaw) → Gives v (Err e) said → Gives w (Err e) (k said)
err_passes v w k passes (Flawed f) said g = rw (g, passes) refl
err_passes v w k passes NoMemory said g = tt

eqb_left : (m n : ℕ) → m ≤ n → eqb (n - m) 0 ≡ eqb m n
eqb_left m n h = grind (arith, nat_tests)

-- ---- the turns of the loops that read sequences and branches

pub drop_turn : (vs : List Value) (i : ℕ) (v : Value) → i < length vs → v ≡ get_or vs i v → items_view (drop i vs) ≡ item (view v) (items_view (drop (i + 1) vs))
drop_turn vs i v h is = ap items_view (drop-cons vs i v h) ∙ ap (λ x. item (view x) (items_view (drop (suc i) vs))) (sym is) ∙ ap (λ n. item (view v) (items_view (drop n vs))) (sym (add-one i))

module _ (scope : Scope) (levels i : ℕ) (vs : List Value) where
  abbrev steps_left : Result SequenceTree Flaw
  steps_left = steps_from scope levels i (items_view (drop i vs))

  pub steps_one : (v : Value) (s t : SequenceTree) (c : CommandTree) (whole : Result SequenceTree Flaw) → i < length vs → v ≡ get_or vs i v → command_of scope levels (view v) ≡ Ok c → t ≡ step_after s 0 c
      → whole ≡ after_steps s steps_left → whole ≡ after_steps t (steps_from scope levels (i + 1) (items_view (drop (i + 1) vs)))
  steps_one v s t c whole h is e pushed so_far =
      so_far ∙ ap (λ ds. after_steps s (steps_from scope levels i ds)) (drop_turn vs i v h is)
      ∙ steps_turn scope levels i (view v) (items_view (drop (i + 1) vs)) s c e
      ∙ rw (pushed, add-one)

  pub steps_end : (s : SequenceTree) (whole : Result SequenceTree Flaw) → length vs ≤ i → whole ≡ after_steps s steps_left → whole ≡ Ok s
  steps_end s whole h so_far =
      so_far ∙ ap (λ xs. after_steps s (steps_from scope levels i (items_view xs))) (drop_all i vs h) ∙ ap (λ t. Ok t) (joined-NoSteps s)

  pub steps_bad : {X : Type 0} (view_of : X → CommandTree) (v : Value) (s : SequenceTree) (whole : Result SequenceTree Flaw) (fault : JsonFault) (result : Result SequenceTree JsonFault)
      → i < length vs → v ≡ get_or vs i v → whole ≡ after_steps s steps_left
      → ((r : Result SequenceTree Flaw) → Gives (λ y. y) (Err fault) r → Gives (λ y. y) result (under (index_token i) r))
      → Gives view_of (Err fault) (command_of scope levels (view v)) → Gives (λ y. y) result whole
  steps_bad view_of v s whole fault result h is so_far moved bad =
      rw (so_far ∙ ap (λ ds. after_steps s (steps_from scope levels i ds)) (drop_turn vs i v h is))
      (fault_told view_of (index_token i) (command_of scope levels (view v))
      (λ r. after_steps s (r >>= λ c. steps_from scope levels (suc i) (items_view (drop (i + 1) vs)) >>= λ more. Ok (StepThen 0 c more))) (λ f. refl) fault result moved bad)

  abbrev branches_left : Result BranchesTree Flaw
  branches_left = branches_from scope levels i (items_view (drop i vs))

  last_turn : i < length vs → is_end (items_view (drop (i + 1) vs)) ≡ eqb (i + 1) (length vs)
  last_turn h = is_end-view (drop (i + 1) vs) ∙ rw length-drop (eqb_left (i + 1) (length vs) (omega arith))

  pub branches_one : (v : Value) (bs cs : BranchesTree) (b : Option SequenceTree) (whole : Result BranchesTree Flaw) → i < length vs → v ≡ get_or vs i v
      → under (index_token i) (branch_of scope levels (eqb (i + 1) (length vs)) (view v)) ≡ Ok b → cs ≡ branch_after bs b
      → whole ≡ after_branches bs branches_left → whole ≡ after_branches cs (branches_from scope levels (i + 1) (items_view (drop (i + 1) vs)))
  branches_one v bs cs b whole h is e pushed so_far =
      so_far ∙ ap (λ ds. after_branches bs (branches_from scope levels i ds)) (drop_turn vs i v h is)
      ∙ branches_turn scope levels i (view v) (items_view (drop (i + 1) vs)) bs b (rw (last_turn h) e)
      ∙ rw (pushed, add-one)

  pub branches_end : (bs : BranchesTree) (whole : Result BranchesTree Flaw) → length vs ≤ i → whole ≡ after_branches bs branches_left → whole ≡ Ok bs
  branches_end bs whole h so_far =
      so_far ∙ ap (λ xs. after_branches bs (branches_from scope levels i (items_view xs))) (drop_all i vs h) ∙ ap (λ t. Ok t) (spliced-NoBranches bs)

  pub branches_bad : (v : Value) (bs : BranchesTree) (whole : Result BranchesTree Flaw) (e : JsonFault) → i < length vs → v ≡ get_or vs i v
      → Gives {X = Option SequenceTree} (λ b. b) (Err e) (under (index_token i) (branch_of scope levels (eqb (i + 1) (length vs)) (view v)))
      → whole ≡ after_branches bs branches_left → Gives {X = BranchesTree} (λ b. b) (Err e) whole
  branches_bad v bs whole e h is bad so_far =
      rw (so_far ∙ ap (λ ds. after_branches bs (branches_from scope levels i ds)) (drop_turn vs i v h is), last_turn h)
      (err_passes (λ b. b) (λ b. b)
      (λ r. after_branches bs (r >>= λ b. branches_from scope levels (suc i) (items_view (drop (i + 1) vs)) >>= λ more. Ok (branch_then b more))) (λ f. refl) e
      (under (index_token i) (branch_of scope levels (eqb (i + 1) (length vs)) (view v))) bad)
