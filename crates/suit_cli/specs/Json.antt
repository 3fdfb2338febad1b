-- The stage that reads a JSON text (RFC 8259).
use Rattle.std.specs.Prelude.{◌≡◌, ℕ, List, Some, None, Result, Ok, Err, codes}
use Rattle.std.specs.Str.{IsUtf8}
use Rattle.serde_json.specs.Data.{Data}
use Rattle.serde_json.specs.Read.{read}
use Rattle.serde_json.specs.View.{view}
use Rattle.serde_json.specs.declared.value.Value.{Value}
use Rattle.suit_cli.specs.declared.reply.Reply.{Reply}
use Rattle.suit_cli.specs.declared.reply.Stop.{Stop}
use Rattle.suit_cli.specs.declared.reply.Outcome.TheVariants as outcomes
use Rattle.suit_cli.specs.Replies.{IsReply}
use Rattle.suit_cli.specs.Stages.{Stage, judging}

pub record IsJsonOf (bytes : List ℕ) (value : Data) : Type 0 where
  pub utf8 : IsUtf8 bytes
  pub reads : read bytes ≡ Some value

abbrev pub bad_json_line : List ℕ
bad_json_line = codes "bad json\n"

pub record IsBadJson (bytes : List ℕ) (reply : Reply) : Type 0 where
  pub unread : IsUtf8 bytes → read bytes ≡ None
  pub says : IsReply reply outcomes.Refused bad_json_line

abbrev pub json_in : List ℕ → Stage Data
json_in bytes = judging (IsJsonOf bytes) (IsBadJson bytes)

-- a value of the code is the data that it stands for
abbrev pub data_or_stop : Result Value Stop → Result Data Stop
data_or_stop (Ok value) = Ok (view value)
data_or_stop (Err stop) = Err stop
