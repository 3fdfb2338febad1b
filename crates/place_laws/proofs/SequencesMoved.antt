-- An item that says a sequence says it at each place, but for places.
use Rattle.std.proofs.Common.{◌≡◌, ℕ, zero, suc, Bool, List, refl, ap}
use Rattle.det_cbor.specs.DataItem.{DataItem, DataItems, UnsignedInteger, ByteString}
use Rattle.suit_params.specs.Refusing.{content_place}
use Rattle.suit_commands.specs.Sequences.{elements_place, place_after, SaysSequence, SaysArray, SaysSteps, SaysNoSteps, SaysStep, SaysCommand, SaysTest, SaysAct, SaysOne, SaysAll, SaysListed, SaysOverride, SaysTry, SaysRun, SaysBranches, SaysNoBranches, SaysNull, SaysBranch, SaysInner, SaysHeldSequence}
use Rattle.suit_commands.specs.SequenceMaking.{unplaced, unplaced_command, unplaced_branches}
use Rattle.suit_commands.specs.Tree.{CommandTree, Test, Act, Index, Override, TryEach, RunSequence, SequenceTree, NoSteps, StepThen, BranchesTree, NoBranches, BranchThen, NullThen}
use Rattle.suit_commands.specs.declared.selection.Selection.TheVariants.{One, All, Listed}
use Rattle.place_laws.proofs.ParamsMoved.{params_moved}

-- the contents of byte strings, at so many levels
abbrev InnerMoves : Bool → ℕ → ℕ → Type 0
InnerMoves shared count levels =
    (p q : ℕ) (content : List ℕ) (s : SequenceTree) → SaysInner shared count levels p content s
    → (t : SequenceTree) × SaysInner shared count levels q content t × (unplaced s ≡ unplaced t)

branches_moved : (shared : Bool) (count levels p q : ℕ) (items : DataItems) (bs : BranchesTree) → InnerMoves shared count levels → SaysBranches shared count levels p items bs
    → (cs : BranchesTree) × SaysBranches shared count levels q items cs × (unplaced_branches bs ≡ unplaced_branches cs)
branches_moved shared count levels p q items bs law (SaysNoBranches l at) = (NoBranches, SaysNoBranches levels q, refl)
branches_moved shared count levels p q items bs law (SaysNull l at) = (NullThen NoBranches, SaysNull levels q, refl)
branches_moved shared count levels p q items bs law (SaysBranch l at content others s rest said more) =
    let t = law p q content s said in
    let later = branches_moved shared count levels (place_after p (ByteString content)) (place_after q (ByteString content)) others rest law more in
    (BranchThen t.0 later.0, SaysBranch levels q content others t.0 later.0 t.1 later.1, λ i. BranchThen (t.2 i) (later.2 i))

command_moved : (shared : Bool) (count levels p q number : ℕ) (x : DataItem) (c : CommandTree) → InnerMoves shared count levels → SaysCommand shared count levels p number x c
    → (d : CommandTree) × SaysCommand shared count levels q number x d × (unplaced_command c ≡ unplaced_command d)
command_moved shared count levels p q number x c law (SaysTest l at kind report le) = (Test kind report, SaysTest levels q kind report le, refl)
command_moved shared count levels p q number x c law (SaysAct l at kind report unshared le) = (Act kind report, SaysAct levels q kind report unshared le, refl)
command_moved shared count levels p q number x c law (SaysOne l at i lt) = (Index (One i), SaysOne levels q i lt, refl)
command_moved shared count levels p q number x c law (SaysAll l at) = (Index All, SaysAll levels q, refl)
command_moved shared count levels p q number x c law (SaysListed l at is some all) = (Index (Listed is), SaysListed levels q is some all, refl)
command_moved shared count levels p q number x c law (SaysOverride l at y list said) = (Override list, SaysOverride levels q x list (params_moved count p q x list said), refl)
command_moved shared count levels p q number x c law (SaysTry l at items bs two said) =
    let cs = branches_moved shared count levels (elements_place p items) (elements_place q items) items bs law said in
    (TryEach cs.0, SaysTry levels q items cs.0 two cs.1, ap TryEach cs.2)
command_moved shared count levels p q number x c law (SaysRun l at content s said) =
    let t = law p q content s said in
    (RunSequence t.0, SaysRun levels q content t.0 t.1, ap RunSequence t.2)

steps_moved : (shared : Bool) (count levels p q : ℕ) (items : DataItems) (s : SequenceTree) → InnerMoves shared count levels → SaysSteps shared count levels p items s
    → (t : SequenceTree) × SaysSteps shared count levels q items t × (unplaced s ≡ unplaced t)
steps_moved shared count levels p q items s law (SaysNoSteps l at) = (NoSteps, SaysNoSteps levels q, refl)
steps_moved shared count levels p q items s law (SaysStep l at number argument others command rest said more) =
    let a : ℕ = place_after p (UnsignedInteger number) in
    let b : ℕ = place_after q (UnsignedInteger number) in
    let d = command_moved shared count levels a b number argument command law said in
    let later = steps_moved shared count levels (place_after a argument) (place_after b argument) others rest law more in
    (StepThen q d.0 later.0, SaysStep levels q number argument others d.0 later.0 d.1 later.1, λ i. StepThen 0 (d.2 i) (later.2 i))

no_level : (shared : Bool) (count place : ℕ) (x : DataItem) (s : SequenceTree) → SaysSequence shared count zero place x s → ⊥
no_level shared count place x s said = elim said [ ]

sequence_above : (shared : Bool) (count levels p q : ℕ) (x : DataItem) (s : SequenceTree) → InnerMoves shared count levels → SaysSequence shared count (suc levels) p x s
    → (t : SequenceTree) × SaysSequence shared count (suc levels) q x t × (unplaced s ≡ unplaced t)
sequence_above shared count levels p q x s law (SaysArray l at items t some said) =
    let u = steps_moved shared count levels (elements_place p items) (elements_place q items) items s law said in
    (u.0, SaysArray levels q items u.0 some u.1, u.2)

inner_moved : (shared : Bool) (count levels : ℕ) → InnerMoves shared count levels
inner_moved shared count zero p q content s (SaysHeldSequence l at c x t spells said) = absurd (no_level shared count _ x s said)
inner_moved shared count (suc levels) p q content s (SaysHeldSequence l at c x t spells said) =
    let u = sequence_above shared count levels (content_place p content) (content_place q content) x s (inner_moved shared count levels) said in
    (u.0, SaysHeldSequence (suc levels) q content x u.0 spells u.1, u.2)

pub sequence_moved : (shared : Bool) (count levels p q : ℕ) (x : DataItem) (s : SequenceTree) → SaysSequence shared count levels p x s
    → (t : SequenceTree) × SaysSequence shared count levels q x t × (unplaced s ≡ unplaced t)
sequence_moved shared count zero p q x s said = absurd (no_level shared count p x s said)
sequence_moved shared count (suc levels) p q x s said = sequence_above shared count levels p q x s (inner_moved shared count levels) said
