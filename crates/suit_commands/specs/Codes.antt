-- A one-to-one code of trees.
use Rattle.std.specs.Prelude.{◌≡◌, ℕ, List, refl}
use Rattle.std.proofs.Common.{ap, arith}
use Rattle.std.specs.Coded.{Coded, coded_list}
use base.Stored.{Gv, gnil, gnum, gcons}
use Rattle.det_cbor.specs.DataCode.{number, first, rest}
use Rattle.suit_params.specs.declared.param.Param.{Param}
use Rattle.suit_params.specs.contracts.param.Param as param
use Rattle.suit_commands.specs.Tree.{CommandTree, Test, Act, Index, Override, TryEach, RunSequence, SequenceTree, NoSteps, StepThen, BranchesTree, NoBranches, BranchThen, NullThen}
use Rattle.suit_commands.specs.contracts.kinds.TestKind as test_kind
use Rattle.suit_commands.specs.contracts.kinds.ActKind as act_kind
use Rattle.suit_commands.specs.contracts.selection.Selection as selection_row

abbrev list_code : Coded (List Param)
list_code = coded_list param.the_row.coded

abbrev pub tag : CommandTree → ℕ
tag (Test kind report) = 0
tag (Act kind report) = 1
tag (Index selection) = 2
tag (Override list) = 3
tag (TryEach tries) = 4
tag (RunSequence inner) = 5

abbrev mutual
  pub sequence_code : SequenceTree → Gv
  sequence_code NoSteps = gnil
  sequence_code (StepThen place command rest) =
      gcons (gnum place)
      (gcons (gcons (gnum (tag command)) (body_code command)) (sequence_code rest))

  pub body_code : CommandTree → Gv
  body_code (Test kind report) = gcons (test_kind.the_row.coded.code kind) (gnum report)
  body_code (Act kind report) = gcons (act_kind.the_row.coded.code kind) (gnum report)
  body_code (Index selection) = selection_row.the_row.coded.code selection
  body_code (Override list) = list_code.code list
  body_code (TryEach tries) = branches_code tries
  body_code (RunSequence inner) = sequence_code inner

  pub branches_code : BranchesTree → Gv
  branches_code NoBranches = gnil
  branches_code (NullThen rest) = gcons gnil (branches_code rest)
  branches_code (BranchThen inner rest) =
      gcons (gcons gnil (sequence_code inner)) (branches_code rest)

-- ---- the code is one-to-one

mutual
  pub sequence_inj : (x y : SequenceTree) → sequence_code x ≡ sequence_code y → x ≡ y
  sequence_inj NoSteps NoSteps p = refl
  sequence_inj (StepThen a c r) (StepThen b d s) p =
      λ i. StepThen (number (first (p i)))
      (command_inj c d (ap (λ g. number (first (first (rest g)))) p)
      (ap (λ g. rest (first (rest g))) p) i)
      (sequence_inj r s (ap (λ g. rest (rest g)) p) i)
  sequence_inj _ _ p = absurd cc

  pub command_inj : (x y : CommandTree) → tag x ≡ tag y → body_code x ≡ body_code y → x ≡ y
  command_inj (Test k r) (Test l s) t p =
      λ i. Test (test_kind.the_row.coded.inj k l (ap first p) i) (number (rest (p i)))
  command_inj (Act k r) (Act l s) t p =
      λ i. Act (act_kind.the_row.coded.inj k l (ap first p) i) (number (rest (p i)))
  command_inj (Index a) (Index b) t p = ap Index (selection_row.the_row.coded.inj a b p)
  command_inj (Override a) (Override b) t p = ap Override (list_code.inj a b p)
  command_inj (TryEach a) (TryEach b) t p = ap TryEach (branches_inj a b p)
  command_inj (RunSequence a) (RunSequence b) t p = ap RunSequence (sequence_inj a b p)
  command_inj _ _ t p = absurd (omega (arith, t))

  pub branches_inj : (x y : BranchesTree) → branches_code x ≡ branches_code y → x ≡ y
  branches_inj NoBranches NoBranches p = refl
  branches_inj (NullThen r) (NullThen s) p = ap NullThen (branches_inj r s (ap rest p))
  branches_inj (BranchThen a r) (BranchThen b s) p =
      λ i. BranchThen (sequence_inj a b (ap (λ g. rest (first g)) p) i)
      (branches_inj r s (ap rest p) i)
  branches_inj _ _ p = absurd cc

abbrev pub coded_sequence : Coded SequenceTree
coded_sequence = record { code = sequence_code; inj = sequence_inj }

abbrev pub coded_branches : Coded BranchesTree
coded_branches = record { code = branches_code; inj = branches_inj }
