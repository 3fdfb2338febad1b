-- The item that says a sequence is the array made from it, and the places of the sequence are those in the
-- array.
use Rattle.std.proofs.Common.{◌≡◌, ℕ, Bool, List, refl, sym, ap, ◌∙◌}
use Rattle.det_cbor.specs.DataItem.{DataItem, UnsignedInteger, ByteString, ArrayOf, NullItem, DataItems, ItemThen, spell}
use Rattle.suit_params.specs.Refusing.{content_place, SaysWhole}
use Rattle.suit_params.proofs.ParamLawProofs.{param_laws}
use Rattle.suit_commands.specs.Sequences.{elements_place, place_after, SaysSequence, SaysArray, SaysSteps, SaysNoSteps, SaysStep, SaysCommand, SaysTest, SaysAct, SaysOne, SaysAll, SaysListed, SaysOverride, SaysTry, SaysRun, SaysBranches, SaysNoBranches, SaysNull, SaysBranch, SaysInner, SaysHeldSequence}
use Rattle.suit_commands.specs.SequenceMaking.{code_of, step_items, argument_item, branch_items, sequence_item, inner_item, argument_place, next_code, first_code, placed, placed_command, placed_branches, unplaced, unplaced_command, unplaced_branches}
use Rattle.suit_commands.specs.Tree.{CommandTree, Test, TryEach, RunSequence, SequenceTree, NoSteps, StepThen, BranchesTree, NoBranches, BranchThen, NullThen}

-- ---- the item

mutual
  pub sequence_made : (shared : Bool) (count levels place : ℕ) (x : DataItem) (s : SequenceTree) → SaysSequence shared count levels place x s → x ≡ sequence_item s
  sequence_made shared count levels place x s (SaysArray l at items t some said) = ap ArrayOf (steps_made shared count _ _ items s said)

  steps_made : (shared : Bool) (count levels place : ℕ) (items : DataItems) (s : SequenceTree) → SaysSteps shared count levels place items s → items ≡ step_items s
  steps_made shared count levels place items s (SaysNoSteps l at) = refl
  steps_made shared count levels place items s (SaysStep l at code argument others command rest said more) =
      λ i. ItemThen (UnsignedInteger (code_made shared count _ _ code argument command said i)) (ItemThen (argument_made shared count _ _ code argument command said i) (steps_made shared count _ _ others rest more i))

  code_made : (shared : Bool) (count levels place code : ℕ) (x : DataItem) (command : CommandTree) → SaysCommand shared count levels place code x command → code ≡ code_of command
  code_made shared count levels place code x command (SaysTest l at kind report le) = refl
  code_made shared count levels place code x command _ = refl

  argument_made : (shared : Bool) (count levels place code : ℕ) (x : DataItem) (command : CommandTree) → SaysCommand shared count levels place code x command → x ≡ argument_item command
  argument_made shared count levels place code x command (SaysOverride l at y list said) = param_laws.made count _ x list said
  argument_made shared count levels place code x command (SaysTry l at items bs two said) = ap ArrayOf (branches_made shared count _ _ items bs said)
  argument_made shared count levels place code x command (SaysRun l at content s said) = ap ByteString (inner_made shared count _ _ content s said)
  argument_made shared count levels place code x command _ = refl

  branches_made : (shared : Bool) (count levels place : ℕ) (items : DataItems) (bs : BranchesTree) → SaysBranches shared count levels place items bs → items ≡ branch_items bs
  branches_made shared count levels place items bs (SaysNoBranches l at) = refl
  branches_made shared count levels place items bs (SaysNull l at) = refl
  branches_made shared count levels place items bs (SaysBranch l at content others s rest said more) =
      λ i. ItemThen (ByteString (inner_made shared count _ _ content s said i)) (branches_made shared count _ _ others rest more i)

  inner_made : (shared : Bool) (count levels place : ℕ) (content : List ℕ) (s : SequenceTree) → SaysInner shared count levels place content s → content ≡ spell (sequence_item s)
  inner_made shared count levels place content s (SaysHeldSequence l at c x t spells said) = spells.is ∙ ap spell (sequence_made shared count _ _ x s said)

-- ---- the places

mutual
  pub sequence_placed : (shared : Bool) (count levels place : ℕ) (x : DataItem) (s : SequenceTree) → SaysSequence shared count levels place x s → s ≡ placed (elements_place place (step_items s)) s
  sequence_placed shared count levels place x s (SaysArray l at items t some said) =
      steps_placed shared count _ _ items s said ∙ ap (λ (xs : DataItems). placed (elements_place place xs) s) (steps_made shared count _ _ items s said)

  steps_placed : (shared : Bool) (count levels place : ℕ) (items : DataItems) (s : SequenceTree) → SaysSteps shared count levels place items s → s ≡ placed place s
  steps_placed shared count levels place items s (SaysNoSteps l at) = refl
  steps_placed shared count levels place items s (SaysStep l at code argument others command rest said more) =
      let code_is : code ≡ code_of command = code_made shared count _ _ code argument command said in
      let argument_is : argument ≡ argument_item command = argument_made shared count _ _ code argument command said in
      let first : command ≡ placed_command (argument_place place command) command =
      command_placed shared count _ _ code argument command said ∙ ap (λ (n : ℕ). placed_command (place_after place (UnsignedInteger n)) command) code_is in
      let later : rest ≡ placed (next_code place command) rest =
      steps_placed shared count _ _ others rest more
      ∙ ap (λ (n : ℕ). placed (place_after (place_after place (UnsignedInteger n)) argument) rest) code_is
      ∙ ap (λ (y : DataItem). placed (place_after (argument_place place command) y) rest) argument_is in
      λ i. StepThen place (first i) (later i)

  command_placed : (shared : Bool) (count levels place code : ℕ) (x : DataItem) (command : CommandTree) → SaysCommand shared count levels place code x command → command ≡ placed_command place command
  command_placed shared count levels place code x command (SaysTest l at kind report le) = refl
  command_placed shared count levels place code x command (SaysAct l at kind report unshared le) = refl
  command_placed shared count levels place code x command (SaysOne l at i lt) = refl
  command_placed shared count levels place code x command (SaysAll l at) = refl
  command_placed shared count levels place code x command (SaysListed l at is some all) = refl
  command_placed shared count levels place code x command (SaysOverride l at y list said) = refl
  command_placed shared count levels place code x command (SaysTry l at items bs two said) =
      ap TryEach (branches_placed shared count _ _ items bs said ∙ ap (λ (xs : DataItems). placed_branches (elements_place place xs) bs) (branches_made shared count _ _ items bs said))
  command_placed shared count levels place code x command (SaysRun l at content s said) = ap RunSequence (inner_placed shared count _ _ content s said)

  branches_placed : (shared : Bool) (count levels place : ℕ) (items : DataItems) (bs : BranchesTree) → SaysBranches shared count levels place items bs → bs ≡ placed_branches place bs
  branches_placed shared count levels place items bs (SaysNoBranches l at) = refl
  branches_placed shared count levels place items bs (SaysNull l at) = refl
  branches_placed shared count levels place items bs (SaysBranch l at content others s rest said more) =
      let first : s ≡ placed (first_code place s) s = inner_placed shared count _ _ content s said in
      let later : rest ≡ placed_branches (place_after place (inner_item s)) rest =
      branches_placed shared count _ _ others rest more ∙ ap (λ (c : List ℕ). placed_branches (place_after place (ByteString c)) rest) (inner_made shared count _ _ content s said) in
      λ i. BranchThen (first i) (later i)

  inner_placed : (shared : Bool) (count levels place : ℕ) (content : List ℕ) (s : SequenceTree) → SaysInner shared count levels place content s → s ≡ placed (first_code place s) s
  inner_placed shared count levels place content s (SaysHeldSequence l at c x t spells said) =
      sequence_placed shared count _ _ x s said
      ∙ ap (λ (b : List ℕ). placed (elements_place (content_place place b) (step_items s)) s) (inner_made shared count levels place content s (SaysHeldSequence l at c x t spells said))

-- ---- the bytes

pub sequence_again : (shared : Bool) (count levels place : ℕ) (bytes : List ℕ) (s : SequenceTree) → SaysWhole (SaysSequence shared count levels) place bytes s → bytes ≡ spell (sequence_item s)
sequence_again shared count levels place bytes s whole = whole.spells.is ∙ ap spell (sequence_made shared count levels place whole.item s whole.says_so)

-- ---- sequences that differ only in their places

mutual
  steps_unplaced : (s : SequenceTree) → step_items (unplaced s) ≡ step_items s
  steps_unplaced NoSteps = refl
  steps_unplaced (StepThen place command rest) =
      λ i. ItemThen (UnsignedInteger (code_unplaced command i)) (ItemThen (argument_unplaced command i) (steps_unplaced rest i))

  code_unplaced : (command : CommandTree) → code_of (unplaced_command command) ≡ code_of command
  code_unplaced (Test kind report) = refl
  code_unplaced _ = refl

  argument_unplaced : (command : CommandTree) → argument_item (unplaced_command command) ≡ argument_item command
  argument_unplaced (TryEach tries) = ap ArrayOf (branches_unplaced tries)
  argument_unplaced (RunSequence inner) = λ i. ByteString (spell (ArrayOf (steps_unplaced inner i)))
  argument_unplaced _ = refl

  branches_unplaced : (tries : BranchesTree) → branch_items (unplaced_branches tries) ≡ branch_items tries
  branches_unplaced NoBranches = refl
  branches_unplaced (BranchThen inner rest) = λ i. ItemThen (ByteString (spell (ArrayOf (steps_unplaced inner i)))) (branches_unplaced rest i)
  branches_unplaced (NullThen rest) = ap (ItemThen NullItem) (branches_unplaced rest)

pub one_item : (s t : SequenceTree) → unplaced s ≡ unplaced t → sequence_item s ≡ sequence_item t
one_item s t e = ap ArrayOf (sym (steps_unplaced s) ∙ ap step_items e ∙ steps_unplaced t)
