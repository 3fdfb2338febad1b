-- How many bytes the files have that are contents in the sequences of a description. Contents in hexadecimal digits
-- count as none, since they are no longer than the description.
use Rattle.std.specs.Prelude.{ℕ, zero, suc, ◌+◌, ◌-◌, nat_le, Bool, true, false, if◌then◌else◌, List, length, Option, Some, None, option_and_then, unwrap_or}
use Rattle.serde_json.specs.Data.{Data, array, Items, no_items, item, Members, no_members, member}
use Rattle.serde_json.specs.Find.{as_str, as_object}
use Rattle.suit_params.specs.declared.param.ParamKey.{ParamKey}
use Rattle.suit_params.specs.declared.param.ParamKey.TheVariants as keys
use Rattle.author.specs.declared.command_name.CommandName.{CommandName}
use Rattle.author.specs.declared.command_name.CommandName.TheVariants as names
use Rattle.author.specs.CommandNames.{command_named}
use Rattle.author.specs.Files.{bytes_of}
use Rattle.author.specs.ParamNames.{param_named}

-- ---- one content: `{"file": NAME}`

abbrev pub members_in : Data → Members
members_in d = unwrap_or (as_object d) no_members

abbrev pub named_length : List (List ℕ × List ℕ) → ℕ → Option (List ℕ) → ℕ
named_length files n (Some name) = length (bytes_of files name)
named_length files n None = n

abbrev pub file_length : List (List ℕ × List ℕ) → ℕ → Members → ℕ
file_length files n no_members = n
file_length files n (member key d ms) = file_length files (named_length files n (as_str d)) ms

abbrev pub content_length : List (List ℕ × List ℕ) → Data → ℕ
content_length files d = file_length files 0 (members_in d)

-- ---- parameters

abbrev pub is_content : Option ParamKey → Bool
is_content (Some keys.Content) = true
is_content _ = false

abbrev pub params_from : List (List ℕ × List ℕ) → ℕ → Members → ℕ
params_from files n no_members = n
params_from files n (member key d ms) =
    params_from files (if is_content (param_named key) then content_length files d else n) ms

abbrev pub params_length : List (List ℕ × List ℕ) → Data → ℕ
params_length files d = params_from files 0 (members_in d)

-- ---- sequences, nested at most so many levels deep

abbrev pub command_by_name : Data → Option CommandName
command_by_name d = option_and_then command_named (as_str d)

-- the contents in an argument, which is also counted as a sequence and as the branches of a try each
abbrev pub argument_length : List (List ℕ × List ℕ) → Option CommandName → Data → ℕ → ℕ → ℕ
argument_length files (Some names.Set) d inner tries = params_length files d
argument_length files (Some names.Try) d inner tries = tries
argument_length files (Some names.Run) d inner tries = inner
argument_length files (Some names.Index) d inner tries = 0
argument_length files (Some (names.Test kind)) d inner tries = 0
argument_length files (Some (names.Act kind)) d inner tries = 0
argument_length files None d inner tries = 0

abbrev mutual
  pub sequence_length : List (List ℕ × List ℕ) → ℕ → Data → ℕ
  sequence_length files zero d = 0
  sequence_length files (suc levels) (array ds) = commands_length files levels ds
  sequence_length files (suc levels) _ = 0

  pub commands_length : List (List ℕ × List ℕ) → ℕ → Items → ℕ
  commands_length files levels no_items = 0
  commands_length files levels (item d ds) =
      command_length files levels d + commands_length files levels ds

  pub command_length : List (List ℕ × List ℕ) → ℕ → Data → ℕ
  command_length files levels (array (item name (item d no_items))) =
      argument_length files (command_by_name name) d (sequence_length files levels d)
      (tries_length files levels d)
  command_length files levels _ = 0

  pub tries_length : List (List ℕ × List ℕ) → ℕ → Data → ℕ
  tries_length files levels (array ds) = branches_length files levels ds
  tries_length files levels _ = 0

  pub branches_length : List (List ℕ × List ℕ) → ℕ → Items → ℕ
  branches_length files levels no_items = 0
  branches_length files levels (item d ds) =
      sequence_length files levels d + branches_length files levels ds

-- ---- what is left of a number of bytes

abbrev pub left_after : ℕ → ℕ → Option ℕ
left_after left n = if nat_le n left then Some (left - n) else None
