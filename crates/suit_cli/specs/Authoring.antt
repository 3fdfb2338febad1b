-- The stages of `make`: a description in JSON, the files that it names, and the envelope that is made of them.
use Rattle.std.specs.Prelude.{◌≡◌, ℕ, ◌+◌, List, [], ◌∷◌, ◌++◌, length, Option, Some, None, codes, Result, Ok, Err}
use Rattle.std.specs.Fmt.{decimal}
use Rattle.std.specs.Option.{option_and_then, option_map_or}
use Rattle.std.specs.Str.{IsUtf8}
use Rattle.serde_json.specs.Data.{Data}
use Rattle.serde_json.specs.Read.{read}
use Rattle.author.specs.declared.fault.DescriptionFault.{DescriptionFault}
use Rattle.author.specs.declared.fault.DescriptionFault.TheVariants as faults
use Rattle.author.specs.declared.held.Description.{Description}
use Rattle.author.specs.Faults.{IsDescription, RefusesDescription}
use Rattle.author.specs.FileNames.{file_names}
use Rattle.author.specs.Held.{value_of}
use Rattle.author.specs.MadeEnvelopes.{IsMadeOf, IsTooLong, IsAuthenticUnder, HoldsManifestOf}
use Rattle.suit_cli.specs.declared.reply.Reply.{Reply}
use Rattle.suit_cli.specs.declared.reply.Stop.{Stop}
use Rattle.suit_cli.specs.declared.reply.Outcome.TheVariants as outcomes
use Rattle.suit_cli.specs.Lines.{joined, number_line}
use Rattle.suit_cli.specs.Texts.{too_long_line}
use Rattle.suit_cli.specs.Replies.{IsReply}
use Rattle.suit_cli.specs.Outside.{Stores, StoresInVain}
use Rattle.suit_cli.specs.Stages.{Stage, Answers, judging, at_host, in_turn, ◌>>=◌, Said}
use Rattle.suit_cli.specs.Inputs.{file, key_in}
use Rattle.suit_cli.specs.Json.{bad_json_line}
use Rattle.suit_cli.specs.Devices.{pointed_line, alike_line}

-- the longest description of an envelope, in bytes
abbrev pub longest_description : ℕ
longest_description = 65536

-- the longest file that a description names, in bytes
abbrev pub longest_named : ℕ
longest_named = 4194304

-- ---- the description

-- the bytes are JSON (RFC 8259) of this value, and describe an envelope
pub record IsAuthored (bytes : List ℕ) (value : Data) : Type 0 where
  pub utf8 : IsUtf8 bytes
  pub reads : read bytes ≡ Some value
  pub describes : IsDescription value

-- the line of what is wrong; running out of memory has none here
abbrev pub IsDescriptionLine : DescriptionFault → List ℕ → Type 0
IsDescriptionLine (faults.BadField pointer) text = text ≡ pointed_line (codes "bad field") pointer
IsDescriptionLine (faults.BadHex pointer) text = text ≡ pointed_line (codes "bad hex") pointer
IsDescriptionLine (faults.BadUuid pointer) text = text ≡ pointed_line (codes "bad uuid") pointer
IsDescriptionLine (faults.TooMany n) text = text ≡ joined (decimal n ∷ codes " components\n" ∷ [])
IsDescriptionLine (faults.TwoAlike i j) text = text ≡ alike_line i j
IsDescriptionLine faults.NoMemory text = ⊥

pub record TellsDescription (fault : DescriptionFault) (reply : Reply) : Type 0 where
  pub outcome_is : reply.outcome ≡ outcomes.Refused
  pub line : IsDescriptionLine fault reply.text

-- the bytes are no JSON, or describe no envelope: then the first fault is told
pub data IsNotAuthored (bytes : List ℕ) (reply : Reply) : Type 0 where
  IsNoText : (IsUtf8 bytes → read bytes ≡ None) → IsReply reply outcomes.Refused bad_json_line
      → IsNotAuthored bytes reply
  IsNoDescription : (value : Data) (fault : DescriptionFault) → IsUtf8 bytes
      → read bytes ≡ Some value → RefusesDescription value fault → TellsDescription fault reply
      → IsNotAuthored bytes reply

abbrev pub description_in : List ℕ → Stage Data
description_in bytes = judging (IsAuthored bytes) (IsNotAuthored bytes)

-- a description in the code stands for the value that it was read from
abbrev pub value_or_stop : Result Description Stop → Result Data Stop
value_or_stop (Ok description) = Ok (value_of description)
value_or_stop (Err stop) = Err stop

-- ---- the files that it names, in their order

abbrev pub files_after : List (List ℕ × List ℕ) → List (List ℕ) → Stage (List (List ℕ × List ℕ))
files_after taken [] = judging (λ files. files ≡ taken) (λ reply. ⊥)
files_after taken (name ∷ names) =
    in_turn (file longest_named name) (λ bytes. files_after (taken ++ (name, bytes) ∷ []) names)

abbrev pub files_in : List (List ℕ) → Stage (List (List ℕ × List ℕ))
files_in names = files_after [] names

-- ---- the envelope

-- these bytes are the described envelope, authentic under the key, with the described manifest
pub record IsEnvelopeOf (value : Data) (files : List (List ℕ × List ℕ)) (key bytes : List ℕ)
    : Type 0 where
  pub made : IsMadeOf value files key bytes
  pub authentic : IsAuthenticUnder key bytes
  pub manifest : HoldsManifestOf value files bytes

pub record IsLongEnvelope (value : Data) (files : List (List ℕ × List ℕ)) (key : List ℕ)
    (reply : Reply) : Type 0 where
  pub limit : ℕ
  pub passes : IsTooLong value files key limit
  pub says : IsReply reply outcomes.TooLong (too_long_line (codes "envelope"))

abbrev pub made_in : Data → List (List ℕ × List ℕ) → List ℕ → Stage (List ℕ)
made_in value files key = judging (IsEnvelopeOf value files key) (IsLongEnvelope value files key)

-- ---- the store

-- The store comes after all refusals, and memory cannot run out once it has begun.
abbrev pub storing : List ℕ → List ℕ → Stage (Unit {0})
storing out bytes = record {
  gives = λ before after _. Stores out bytes before after;
  declines = λ before after reply. ⊥;
  faults = at_host (StoresInVain out);
  lacks = λ before after. after ≡ before;
}

abbrev pub made_line : ℕ → List ℕ
made_line size = number_line (codes "made") size

abbrev pub stores : List ℕ → List ℕ → Answers
stores out envelope =
    storing out envelope
    >>= λ _. Said (λ reply. IsReply reply outcomes.Done (made_line (length envelope)))

-- ---- `make DESCRIPTION KEY OUT` from the description's value on

abbrev pub makes_described : Data → List ℕ → List ℕ → Answers
makes_described value key_name out =
    key_in key_name >>= λ key.
    files_in (file_names value) >>= λ files.
    made_in value files key >>= λ envelope.
    stores out envelope

-- ---- how much is pulled

-- the names in a file that holds a description
abbrev pub names_held : Option (List ℕ) → List (List ℕ)
names_held file = option_map_or file_names (option_and_then read file) []

-- how many bytes are pulled of these files at most: one more than the limit of each
abbrev pub most_named : List (List ℕ) → ℕ
most_named [] = 0
most_named (name ∷ names) = (longest_named + 1) + most_named names
