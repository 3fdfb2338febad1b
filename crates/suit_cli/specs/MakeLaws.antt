-- Where `make` stops, with which reply, and what it stores: what follows from its stages over a host that tells.
use Rattle.std.specs.Prelude.{◌≡◌, ◌≢◌, ℕ, IsTrue, List, [], ◌∷◌, length, Some}
use Rattle.serde_json.specs.Data.{Data}
use Rattle.author.specs.FileNames.{file_names}
use Rattle.suit_cli.specs.declared.reply.Reply.{Reply}
use Rattle.suit_cli.specs.declared.reply.Outcome.TheVariants as outcomes
use Rattle.suit_cli.specs.Replies.{IsReply}
use Rattle.suit_cli.specs.Outside.{Outside, Asks, AsksFirst}
use Rattle.suit_cli.specs.declared.reply.Object.{Object}
use Rattle.suit_cli.specs.declared.reply.Object.TheVariants as objects
use Rattle.suit_cli.specs.Stages.{Ending, Says, FaultOf, NoMemory}
use Rattle.suit_cli.specs.Inputs.{IsRead, IsUnread, IsKey, IsNoKey}
use Rattle.suit_cli.specs.Authoring.{longest_description, longest_named, IsAuthored, IsNotAuthored, IsEnvelopeOf, IsLongEnvelope, made_line, names_held}
use Rattle.suit_cli.specs.Commands.{makes}

-- ---- the contents of the files

-- the file holds a description of this value
pub record HoldsDescription (name : List ℕ) (before : Outside) (value : Data) : Type 0 where
  pub bytes : List ℕ
  pub read : IsRead longest_description name before bytes
  pub authored : IsAuthored bytes value

-- each of these names has a file, within its limit
pub data AreRead (before : Outside) : List (List ℕ) → List (List ℕ × List ℕ) → Type 0 where
  NoFile : AreRead before [] []
  FileThen : (name bytes : List ℕ) (names : List (List ℕ)) (files : List (List ℕ × List ℕ))
      → IsRead longest_named name before bytes → AreRead before names files
      → AreRead before (name ∷ names) ((name, bytes) ∷ files)

-- one of these names has no file, or one that is too long; the first of these is told
pub data OneIsUnread (before : Outside) (reply : Reply) : List (List ℕ) → Type 0 where
  AtName : (name : List ℕ) (names : List (List ℕ)) → IsUnread longest_named name before reply
      → OneIsUnread before reply (name ∷ names)
  LaterName : (name bytes : List ℕ) (names : List (List ℕ)) → IsRead longest_named name before bytes
      → OneIsUnread before reply names
      → OneIsUnread before reply (name ∷ names)

-- a description, a key, and the named files
pub record HasParts (description key_name : List ℕ) (before : Outside) (value : Data) (key : List ℕ)
    (files : List (List ℕ × List ℕ)) : Type 0 where
  pub described : HoldsDescription description before value
  pub has_key : IsKey key_name before key
  pub are_read : AreRead before (file_names value) files

-- ---- the replies: the first of these stops it

pub data MakeSays (description key_name : List ℕ) (before : Outside) (reply : Reply) : Type 0 where
  -- status 20, `absent NAME`, or 21, `too long NAME`
  AtDescription : IsUnread longest_description description before reply
      → MakeSays description key_name before reply
  -- status 3, `bad json` or what is wrong in it
  AtFields : (bytes : List ℕ) → IsRead longest_description description before bytes
      → IsNotAuthored bytes reply → MakeSays description key_name before reply
  -- status 20, 21, or 3, `empty key`
  AtKey : (value : Data) → HoldsDescription description before value → IsNoKey key_name before reply
      → MakeSays description key_name before reply
  -- status 20 or 21
  AtNamed : (value : Data) (key : List ℕ) → HoldsDescription description before value
      → IsKey key_name before key → OneIsUnread before reply (file_names value)
      → MakeSays description key_name before reply
  -- status 21, `too long envelope`
  AtLength : (value : Data) (key : List ℕ) (files : List (List ℕ × List ℕ))
      → HasParts description key_name before value key files
      → IsLongEnvelope value files key reply → MakeSays description key_name before reply
  -- status 0, `made N`
  AtStore : (value : Data) (key : List ℕ) (files : List (List ℕ × List ℕ)) (envelope : List ℕ)
      → HasParts description key_name before value key files
      → IsEnvelopeOf value files key envelope
      → IsReply reply outcomes.Done (made_line (length envelope))
      → MakeSays description key_name before reply

-- ---- the stored envelope

-- the described envelope stands under the name, and the reply tells its length
pub record IsStored (description key_name out : List ℕ) (before after : Outside) (reply : Reply)
    : Type 0 where
  pub value : Data
  pub key : List ℕ
  pub files : List (List ℕ × List ℕ)
  pub envelope : List ℕ
  pub parts : HasParts description key_name before value key files
  pub is : IsEnvelopeOf value files key envelope
  pub stands : after.files out ≡ Some envelope
  pub others : (other : List ℕ) → other ≢ out → after.files other ≡ before.files other
  pub says : IsReply reply outcomes.Done (made_line (length envelope))

-- the names of what it reads: the description, the key, and the files that the description names
abbrev pub names_asked : List ℕ → List ℕ → Outside → List (List ℕ)
names_asked description key_name before =
    description ∷ key_name ∷ names_held (before.files description)

pub record MakeLaws : Type 0 where
  -- each reply has its cause
  pub only : (description key_name out : List ℕ) (before after : Outside) (reply : Reply)
      → makes description key_name out before after (Says reply)
      → MakeSays description key_name before reply
  -- and where a cause stands, each answer that is neither a fault nor running out of memory is its reply
  pub always : (description key_name out : List ℕ) (before after : Outside) (reply other : Reply)
      → IsTrue before.told → MakeSays description key_name before reply
      → makes description key_name out before after (Says other) → other ≡ reply
  -- where it is done, the envelope is stored
  pub stored : (description key_name out : List ℕ) (before after : Outside) (reply : Reply)
      → IsTrue before.told → makes description key_name out before after (Says reply)
      → reply.outcome ≡ outcomes.Done → IsStored description key_name out before after reply
  -- otherwise, and after memory ran out, the files are as they were
  pub still : (description key_name out : List ℕ) (before after : Outside) (reply : Reply)
      → IsTrue before.told → makes description key_name out before after (Says reply)
      → (reply.outcome ≡ outcomes.Done → ⊥) → after.files ≡ before.files
  pub starved : (description key_name out : List ℕ) (before after : Outside) → IsTrue before.told
      → makes description key_name out before after NoMemory
      → after.files ≡ before.files
  -- and whatever it ends with, so are all but the one that it names
  pub others : (description key_name out : List ℕ) (before after : Outside) (ending : Ending)
      → IsTrue before.told → makes description key_name out before after ending
      → (other : List ℕ) → other ≢ out → after.files other ≡ before.files other
  -- these alone are asked for, in their order, and all of them where it is done; and only the host faults
  pub asks : (description key_name out : List ℕ) (before after : Outside) (ending : Ending)
      → makes description key_name out before after ending
      → AsksFirst (names_asked description key_name before) before after
  pub asks_all : (description key_name out : List ℕ) (before after : Outside) (reply : Reply)
      → makes description key_name out before after (Says reply) → reply.outcome ≡ outcomes.Done
      → Asks (names_asked description key_name before) before after
  pub faults : (description key_name out : List ℕ) (before after : Outside) (object : Object)
      → makes description key_name out before after (FaultOf object) → object ≡ objects.Host
