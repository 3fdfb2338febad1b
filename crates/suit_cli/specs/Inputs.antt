-- The stages that read a named file.
use Rattle.std.specs.Prelude.{◌≡◌, ◌≢◌, ◌<◌, ◌≤◌, ◌+◌, ℕ, IsTrue, List, [], length, Option, Some, None}
use Rattle.suit_cli.specs.declared.reply.Reply.{Reply}
use Rattle.suit_cli.specs.declared.reply.Outcome.TheVariants as outcomes
use Rattle.suit_cli.specs.Texts.{absent_line, too_long_line, empty_key_line}
use Rattle.suit_cli.specs.Replies.{IsReply}
use Rattle.suit_cli.specs.Outside.{Outside}
use Rattle.suit_cli.specs.Stages.{Stage, reading}

-- the longest file that is read, in bytes
abbrev pub longest_file : ℕ
longest_file = 1048576

-- the longest trimmed envelope that is checked or shown, in bytes
abbrev pub longest_shown : ℕ
longest_shown = 65536

-- the longest description of a device, in bytes
abbrev pub longest_device : ℕ
longest_device = 65536

-- the longest key, in bytes
abbrev pub longest_key : ℕ
longest_key = 64

-- ---- a file

-- the file is there, and not longer than the limit
pub record IsRead (limit : ℕ) (name : List ℕ) (before : Outside) (bytes : List ℕ) : Type 0 where
  pub holds : IsTrue before.told → before.files name ≡ Some bytes
  pub fits : length bytes ≤ limit

-- the file is longer than the limit
abbrev pub IsAbove : ℕ → Option (List ℕ) → Type 0
IsAbove limit file = (bytes : List ℕ) × (file ≡ Some bytes) × (limit < length bytes)

pub data IsUnread (limit : ℕ) (name : List ℕ) (before : Outside) (reply : Reply) : Type 0 where
  IsAbsent : (IsTrue before.told → before.files name ≡ None)
      → IsReply reply outcomes.Absent (absent_line name) → IsUnread limit name before reply
  IsTooLong : (IsTrue before.told → IsAbove limit (before.files name))
      → IsReply reply outcomes.TooLong (too_long_line name) → IsUnread limit name before reply

-- Reads the whole file. One byte more than the limit shows that it is too long.
abbrev pub file : ℕ → List ℕ → Stage (List ℕ)
file limit name = reading (limit + 1) name (IsRead limit name) (IsUnread limit name)

-- ---- the key

-- a file of one to 64 bytes
pub record IsKey (name : List ℕ) (before : Outside) (key : List ℕ) : Type 0 where
  pub read : IsRead longest_key name before key
  pub some : key ≢ []

pub data IsNoKey (name : List ℕ) (before : Outside) (reply : Reply) : Type 0 where
  IsUnreadKey : IsUnread longest_key name before reply → IsNoKey name before reply
  IsEmptyKey : IsRead longest_key name before [] → IsReply reply outcomes.Refused empty_key_line
      → IsNoKey name before reply

abbrev pub key_in : List ℕ → Stage (List ℕ)
key_in name = reading (longest_key + 1) name (IsKey name) (IsNoKey name)
