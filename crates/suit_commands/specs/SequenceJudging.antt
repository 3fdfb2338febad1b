-- How a sequence of commands is judged, case by case: the tree that it says, or the first refusal.
use Rattle.std.specs.Prelude.{ℕ, zero, suc, ◌%◌, ◌==◌, nat_lt, if◌then◌else◌, Bool, List, [], ◌∷◌, Option, Some, None, Result, Ok, Err}
use Rattle.det_cbor.specs.DataItem.{DataItem, UnsignedInteger, ByteString, ArrayOf, MapOf, Boolean, NullItem, DataItems, NoItems, ItemThen, item_count}
use Rattle.det_cbor.specs.HeadReading.{◌>>=◌}
use Rattle.suit_params.specs.declared.param.Param.{Param}
use Rattle.suit_params.specs.declared.refusal.Refusal.{Refusal}
use Rattle.suit_params.specs.declared.refusal.Why.TheVariants.{Shape, Unsupported, BadArgument, Nested}
use Rattle.suit_params.specs.Refusing.{refused, content_place}
use Rattle.suit_params.specs.Reading.{whole_judged}
use Rattle.suit_params.specs.ParamJudging.{judge_index, judge_params}
use Rattle.suit_commands.specs.declared.command_code.CommandCode.{CommandCode}
use Rattle.suit_commands.specs.declared.command_code.CommandCode.TheVariants as codes
use Rattle.suit_commands.specs.declared.selection.Selection.{Selection}
use Rattle.suit_commands.specs.declared.selection.Selection.TheVariants.{One, All, Listed}
use Rattle.suit_commands.specs.CommandCodes.{numbered}
use Rattle.suit_commands.specs.Sequences.{elements_place, place_after}
use Rattle.suit_commands.specs.Tree.{CommandTree, Test, Act, Index, Override, TryEach, RunSequence, SequenceTree, NoSteps, StepThen, BranchesTree, NoBranches, BranchThen, NullThen}

-- judges a byte string with this content, at this place, as a sequence
abbrev pub InnerJudge : Type 0
InnerJudge = ℕ → List ℕ → Result SequenceTree Refusal

-- ---- codes

-- a code is judged at its place; some are refused in the shared sequence
abbrev pub known_code : ℕ → Bool → Option CommandCode → Result CommandCode Refusal
known_code place shared (Some (codes.Act kind)) =
    if shared then Err (refused place Unsupported) else Ok (codes.Act kind)
known_code place shared (Some code) = Ok code
known_code place shared None = Err (refused place Unsupported)

abbrev pub judge_code : Bool → ℕ → DataItem → Result CommandCode Refusal
judge_code shared place (UnsignedInteger n) = known_code place shared (numbered n)
judge_code shared place _ = Err (refused place Unsupported)

-- ---- arguments

abbrev pub judge_report : ℕ → DataItem → Result ℕ Refusal
judge_report place (UnsignedInteger n) =
    if nat_lt n 16 then Ok n else Err (refused place BadArgument)
judge_report place _ = Err (refused place BadArgument)

-- an element of the list whose place is `list`
abbrev pub judge_element : ℕ → ℕ → ℕ → DataItem → Result ℕ Refusal
judge_element count list place (UnsignedInteger i) = judge_index count place i
judge_element count list place _ = Err (refused list BadArgument)

abbrev pub judge_indices : ℕ → ℕ → ℕ → DataItems → Result (List ℕ) Refusal
judge_indices count list place NoItems = Ok []
judge_indices count list place (ItemThen x others) =
    judge_element count list place x >>= λ i. judge_indices count list (place_after place x) others
    >>= λ is. Ok (i ∷ is)

abbrev pub judge_selection : ℕ → ℕ → DataItem → Result Selection Refusal
judge_selection count place (UnsignedInteger i) = judge_index count place i >>= λ j. Ok (One j)
judge_selection count place (Boolean b) = if b then Ok All else Err (refused place BadArgument)
judge_selection count place (ArrayOf items) =
    if item_count items == 0 then Err (refused place BadArgument)
    else (judge_indices count place (elements_place place items) items >>= λ is. Ok (Listed is))
judge_selection count place _ = Err (refused place BadArgument)

abbrev pub judge_override : ℕ → ℕ → DataItem → Result (List Param) Refusal
judge_override count place (MapOf pairs) = judge_params count place (MapOf pairs)
judge_override count place _ = Err (refused place BadArgument)

abbrev pub judge_run : InnerJudge → ℕ → DataItem → Result SequenceTree Refusal
judge_run inner place (ByteString content) = inner place content
judge_run inner place _ = Err (refused place BadArgument)

-- ---- branches

abbrev pub branch_before : Option SequenceTree → BranchesTree → BranchesTree
branch_before (Some s) branches = BranchThen s branches
branch_before None branches = NullThen branches

-- null is allowed only if no other branch follows
abbrev pub judge_branch : InnerJudge → ℕ → DataItem → DataItems
    → Result (Option SequenceTree) Refusal
judge_branch inner place (ByteString content) others = inner place content >>= λ s. Ok (Some s)
judge_branch inner place NullItem others =
    if item_count others == 0 then Ok None else Err (refused place BadArgument)
judge_branch inner place _ others = Err (refused place BadArgument)

abbrev pub judge_branches : InnerJudge → ℕ → DataItems → Result BranchesTree Refusal
judge_branches inner place NoItems = Ok NoBranches
judge_branches inner place (ItemThen x others) =
    judge_branch inner place x others >>= λ b. judge_branches inner (place_after place x) others
    >>= λ bs. Ok (branch_before b bs)

abbrev pub judge_try : InnerJudge → ℕ → DataItem → Result BranchesTree Refusal
judge_try inner place (ArrayOf items) =
    if nat_lt (item_count items) 2 then Err (refused place BadArgument)
    else judge_branches inner (elements_place place items) items
judge_try inner place _ = Err (refused place BadArgument)

-- ---- commands

abbrev pub judge_argument : InnerJudge → ℕ → CommandCode → ℕ → DataItem → Result CommandTree Refusal
judge_argument inner count (codes.Test kind) place x =
    judge_report place x >>= λ n. Ok (Test kind n)
judge_argument inner count (codes.Act kind) place x = judge_report place x >>= λ n. Ok (Act kind n)
judge_argument inner count codes.Index place x =
    judge_selection count place x >>= λ selection. Ok (Index selection)
judge_argument inner count codes.TryEach place x =
    judge_try inner place x >>= λ branches. Ok (TryEach branches)
judge_argument inner count codes.Override place x =
    judge_override count place x >>= λ list. Ok (Override list)
judge_argument inner count codes.Run place x = judge_run inner place x >>= λ s. Ok (RunSequence s)

abbrev pub judge_step : InnerJudge → Bool → ℕ → ℕ → DataItem → DataItem → Result CommandTree Refusal
judge_step inner shared count place code argument =
    judge_code shared place code
    >>= λ c. judge_argument inner count c (place_after place code) argument

-- codes and arguments alternate, and there are as many of either
abbrev pub judge_steps : InnerJudge → Bool → ℕ → ℕ → DataItems → Result SequenceTree Refusal
judge_steps inner shared count place NoItems = Ok NoSteps
judge_steps inner shared count place (ItemThen code NoItems) = Ok NoSteps
judge_steps inner shared count place (ItemThen code (ItemThen argument others)) =
    judge_step inner shared count place code argument
    >>= λ command. judge_steps inner shared count
    (place_after (place_after place code) argument) others
    >>= λ rest. Ok (StepThen place command rest)

abbrev pub judge_array : InnerJudge → Bool → ℕ → ℕ → DataItem → Result SequenceTree Refusal
judge_array inner shared count place (ArrayOf items) =
    if item_count items == 0 then Err (refused place Shape)
    else if item_count items % 2 == 0
    then judge_steps inner shared count (elements_place place items) items
    else Err (refused place Shape)
judge_array inner shared count place _ = Err (refused place Shape)

-- ---- sequences in sequences, up to a number of levels

unfoldable pub judge_inner : Bool → ℕ → ℕ → InnerJudge
judge_inner shared count zero place content = Err (refused place Nested)
judge_inner shared count (suc levels) place content =
    whole_judged (judge_array (judge_inner shared count levels) shared count)
    (content_place place content) content

-- an item, with at most `levels` levels inside it
abbrev pub judge_sequence : Bool → ℕ → ℕ → ℕ → DataItem → Result SequenceTree Refusal
judge_sequence shared count levels = judge_array (judge_inner shared count levels) shared count
