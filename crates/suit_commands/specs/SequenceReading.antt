-- How a sequence of commands is read, from an item that was judged before.
use Rattle.std.specs.Prelude.{ℕ, zero, suc, ◌/◌, ◌%◌, ◌==◌, nat_lt, if◌then◌else◌, Bool, List, [], ◌∷◌, Option, Some, None, Result, Ok, Err}
use Rattle.det_cbor.specs.declared.head.HeadKind.{HeadKind}
use Rattle.det_cbor.specs.declared.head.HeadKind.TheVariants as kinds
use Rattle.det_cbor.specs.HeadReading.{◌>>=◌}
use Rattle.det_cbor.specs.Position.{Position}
use Rattle.suit_params.specs.declared.param.Param.{Param}
use Rattle.suit_params.specs.declared.refusal.Refusal.{Refusal}
use Rattle.suit_params.specs.declared.refusal.Why.TheVariants.{Shape, Unsupported, BadArgument, Nested}
use Rattle.suit_params.specs.Refusing.{refused}
use Rattle.suit_params.specs.Reading.{head_from, only_from, kind_from, string_from}
use Rattle.suit_params.specs.ParamJudging.{judge_index}
use Rattle.suit_params.specs.ParamReading.{next_params}
use Rattle.suit_commands.specs.declared.command_code.CommandCode.{CommandCode}
use Rattle.suit_commands.specs.declared.command_code.CommandCode.TheVariants as codes
use Rattle.suit_commands.specs.declared.scope.Scope.{Scope}
use Rattle.suit_commands.specs.declared.selection.Selection.{Selection}
use Rattle.suit_commands.specs.declared.selection.Selection.TheVariants.{One, All, Listed}
use Rattle.suit_commands.specs.CommandCodes.{numbered}
use Rattle.suit_commands.specs.SequenceJudging.{known_code, branch_before}
use Rattle.suit_commands.specs.Tree.{CommandTree, Test, Act, Index, Override, TryEach, RunSequence, SequenceTree, NoSteps, StepThen, BranchesTree, NoBranches}

-- reads the content of a byte string at a place as a sequence
abbrev pub InnerReader : Type 0
InnerReader = ℕ → Position → Result SequenceTree Refusal

-- ---- codes

unfoldable pub code_from : Bool → Position → Result (CommandCode × Position) Refusal
code_from shared p =
    kind_from kinds.Unsigned Unsupported p
    >>= λ n. known_code p.place shared (numbered n.0) >>= λ code. Ok (code, n.1)

-- ---- arguments

unfoldable pub report_from : Position → Result (ℕ × Position) Refusal
report_from p =
    kind_from kinds.Unsigned BadArgument p
    >>= λ n. if nat_lt n.0 16 then Ok n else Err (refused p.place BadArgument)

abbrev pub element_after : ℕ → ℕ → ℕ → ℕ → Position → HeadKind → Result (ℕ × Position) Refusal
element_after count list place n p kinds.Unsigned = judge_index count place n >>= λ i. Ok (i, p)
element_after count list place n p _ = Err (refused list BadArgument)

-- an element of the list whose place is `list`
unfoldable pub element_from : ℕ → ℕ → Position → Result (ℕ × Position) Refusal
element_from count list p =
    head_from p >>= λ h. element_after count list p.place h.0.value h.1 h.0.kind

-- the next n elements
abbrev pub indices_from : ℕ → ℕ → ℕ → Position → Result (List ℕ × Position) Refusal
indices_from count list zero p = Ok ([], p)
indices_from count list (suc n) p =
    element_from count list p >>= λ i. indices_from count list n i.1 >>= λ is. Ok (i.0 ∷ is.0, is.1)

abbrev pub selection_after : ℕ → ℕ → ℕ → Position → HeadKind → Result (Selection × Position) Refusal
selection_after count place n p kinds.Unsigned = judge_index count place n >>= λ i. Ok (One i, p)
selection_after count place n p kinds.Bool =
    if n == 1 then Ok (All, p) else Err (refused place BadArgument)
selection_after count place n p kinds.Array =
    if n == 0 then Err (refused place BadArgument)
    else (indices_from count place n p >>= λ is. Ok (Listed is.0, is.1))
selection_after count place n p _ = Err (refused place BadArgument)

unfoldable pub selection_from : ℕ → Position → Result (Selection × Position) Refusal
selection_from count p = head_from p >>= λ h. selection_after count p.place h.0.value h.1 h.0.kind

-- the head is checked first, and then the whole item is read
unfoldable pub override_from : ℕ → Position → Result (List Param × Position) Refusal
override_from count p = kind_from kinds.Map BadArgument p >>= λ n. next_params count p

-- ---- byte strings that hold sequences

abbrev pub held_sequence : InnerReader → ℕ → ℕ → Position → Result (SequenceTree × Position) Refusal
held_sequence inner place n p = string_from n p >>= λ c. inner place c.0 >>= λ s. Ok (s, c.1)

unfoldable pub run_from : InnerReader → Position → Result (SequenceTree × Position) Refusal
run_from inner p =
    kind_from kinds.Bytes BadArgument p >>= λ n. held_sequence inner p.place n.0 n.1

abbrev pub branch_by : InnerReader → Bool → ℕ → ℕ → Position → HeadKind
    → Result (Option SequenceTree × Position) Refusal
branch_by inner last place n p kinds.Bytes =
    held_sequence inner place n p >>= λ s. Ok (Some s.0, s.1)
branch_by inner last place n p kinds.Null =
    if last then Ok (None, p) else Err (refused place BadArgument)
branch_by inner last place n p _ = Err (refused place BadArgument)

unfoldable pub branch_from : InnerReader → Bool → Position
    → Result (Option SequenceTree × Position) Refusal
branch_from inner last p = head_from p >>= λ h. branch_by inner last p.place h.0.value h.1 h.0.kind

-- the next n branches
abbrev pub branches_from : InnerReader → ℕ → Position → Result (BranchesTree × Position) Refusal
branches_from inner zero p = Ok (NoBranches, p)
branches_from inner (suc n) p =
    branch_from inner (n == 0) p >>= λ b. branches_from inner n b.1
    >>= λ bs. Ok (branch_before b.0 bs.0, bs.1)

unfoldable pub try_from : InnerReader → Position → Result (BranchesTree × Position) Refusal
try_from inner p =
    kind_from kinds.Array BadArgument p
    >>= λ n. if nat_lt n.0 2 then Err (refused p.place BadArgument) else branches_from inner n.0 n.1

-- ---- commands

abbrev pub argument_from : InnerReader → ℕ → CommandCode → Position
    → Result (CommandTree × Position) Refusal
argument_from inner count (codes.Test kind) p = report_from p >>= λ v. Ok (Test kind v.0, v.1)
argument_from inner count (codes.Act kind) p = report_from p >>= λ v. Ok (Act kind v.0, v.1)
argument_from inner count codes.Index p = selection_from count p >>= λ v. Ok (Index v.0, v.1)
argument_from inner count codes.TryEach p = try_from inner p >>= λ v. Ok (TryEach v.0, v.1)
argument_from inner count codes.Override p = override_from count p >>= λ v. Ok (Override v.0, v.1)
argument_from inner count codes.Run p = run_from inner p >>= λ v. Ok (RunSequence v.0, v.1)

abbrev pub step_from : InnerReader → Bool → ℕ → Position → Result (CommandTree × Position) Refusal
step_from inner shared count p = code_from shared p >>= λ c. argument_from inner count c.0 c.1

-- the next n commands
abbrev pub steps_from : InnerReader → Bool → ℕ → ℕ → Position → Result SequenceTree Refusal
steps_from inner shared count zero p = Ok NoSteps
steps_from inner shared count (suc n) p =
    step_from inner shared count p >>= λ c. steps_from inner shared count n c.1
    >>= λ rest. Ok (StepThen p.place c.0 rest)

-- n codes and arguments, if they are in pairs
abbrev pub paired_from : InnerReader → Bool → ℕ → ℕ → ℕ → Position → Result SequenceTree Refusal
paired_from inner shared count place n p =
    if n == 0 then Err (refused place Shape)
    else if n % 2 == 0 then steps_from inner shared count (n / 2) p
    else Err (refused place Shape)

-- a whole item, read as a sequence
unfoldable pub sequence_at : InnerReader → Bool → ℕ → Position → Result SequenceTree Refusal
sequence_at inner shared count p =
    kind_from kinds.Array Shape p >>= λ n. paired_from inner shared count p.place n.0 n.1

-- ---- sequences in sequences, up to a number of levels

unfoldable pub nested_from : Bool → ℕ → ℕ → InnerReader
nested_from shared count zero place p = Err (refused place Nested)
nested_from shared count (suc levels) place p =
    only_from p >>= sequence_at (nested_from shared count levels) shared count

-- the reader of inner sequences in this scope
abbrev pub inner_reader : Scope → InnerReader
inner_reader scope = nested_from scope.shared scope.count scope.levels

-- bytes that must hold one sequence, with at most `levels` levels inside it
abbrev pub whole_sequence : Bool → ℕ → ℕ → Position → Result SequenceTree Refusal
whole_sequence shared count levels p =
    only_from p >>= sequence_at (nested_from shared count levels) shared count
