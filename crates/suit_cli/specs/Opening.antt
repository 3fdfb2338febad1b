-- The code's answer where a file is opened up to its manifest.
use Rattle.std.specs.Prelude.{◌≡◌, ◌^◌, ℕ, List, Result, Ok, Err}
use Rattle.suit_envelope.specs.Envelopes.{EnvelopeSays}
use Rattle.suit_envelope.specs.Places.{MembersEndBelow}
use Rattle.suit_envelope.specs.Said.{EnvelopeOf, said_by}
use Rattle.suit_envelope.specs.WrapperParts.{HasWrapper}
use Rattle.suit_manifest.specs.declared.manifest.Manifest.{Manifest}
use Rattle.admission.specs.declared.opening.Opened.{Opened}
use Rattle.suit_cli.specs.declared.reply.Stop.{Stop}
use Rattle.suit_cli.specs.Outside.{Outside}
use Rattle.suit_cli.specs.Stages.{Answers, ending_of}
use Rattle.suit_cli.specs.Inputs.{longest_shown}
use Rattle.suit_cli.specs.Envelopes.{AreBytes, IsShort, ManifestOf}
use Rattle.suit_cli.specs.Commands.{in_file}

-- the bytes passed all stages up to the manifest
pub record IsOpened (bytes : List ℕ) (opened : Opened) : Type 0 where
  pub are_bytes : AreBytes bytes
  pub envelope : EnvelopeOf bytes (said_by opened.envelope)
  pub is_short : IsShort longest_shown (said_by opened.envelope)
  pub manifest : ManifestOf (said_by opened.envelope) opened.manifest
  pub wrapper : HasWrapper opened.envelope.wrapper.now
  pub whole : opened.envelope.whole.now ≡ bytes
  pub places : MembersEndBelow (2 ^ 64) (said_by opened.envelope)

-- no answer follows the manifest
abbrev pub never : EnvelopeSays → Manifest → Answers
never said manifest = λ before after ending. ⊥

-- the bytes passed these stages, or the answer ended at one of them
abbrev pub Opens : List ℕ → Result Opened Stop → Type 0
Opens bytes (Ok opened) = IsOpened bytes opened
Opens bytes (Err stop) = (here : Outside) → in_file bytes never here here (ending_of (Err stop))
