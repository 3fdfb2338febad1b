-- How an update judges an envelope before anything is done.
use Rattle.std.specs.Prelude.{ℕ, List, Result, Ok, Err}
use Rattle.suit_envelope.specs.Authentic.{IsAuthentic}
use Rattle.suit_envelope.specs.Said.{EnvelopeOf}
use Rattle.suit_manifest.specs.MembersApart.{HasMembers}
use Rattle.suit_manifest.specs.Procedures.{update_tree, invocation_tree}
use Rattle.flash_layout.specs.declared.frame.Frame.{Frame}
use Rattle.flash_layout.specs.declared.key.Key.{Key}
use Rattle.flash_layout.specs.declared.layout.Entry.{Entry}
use Rattle.flash_layout.specs.Frames.{bank_size}
use Rattle.flash_layout.specs.Placement.{ArePlaces}
use Rattle.rollback_record.specs.SoundFlash.{key_bytes}
use Rattle.admission.specs.declared.admitting.Admitted.{Admitted}
use Rattle.admission.specs.declared.refusal.NotAdmitted.{NotAdmitted}
use Rattle.admission.specs.Admission.{IsAdmitted, IsNotAdmitted, admission_of}
pub use Rattle.admission.specs.Admission.{Admission as Accepted}
use Rattle.suit_cli.specs.declared.reply.Reply.{Reply}
use Rattle.suit_cli.specs.declared.reply.Stop.{Stop}
use Rattle.suit_cli.specs.Refusals.{TellsRefusal}
use Rattle.suit_cli.specs.Stages.{Stage, Finds, judging}
use Rattle.suit_cli.specs.Envelopes.{AreBytes, IsShort, ManifestOf}
use Rattle.suit_cli.specs.Judgement.{AreSafe, IsNarrow}

-- the bytes are admitted under the layout and the key of a flash with this frame; a bank of it holds the envelope
abbrev pub IsAccepted : Frame → List Entry → Key → List ℕ → Accepted → Type 0
IsAccepted frame layout key bytes accepted =
    IsAdmitted (bank_size frame) layout (key_bytes key) bytes accepted

-- the bytes are not admitted, and the reply tells the first thing that is wrong
pub record IsDeclined (frame : Frame) (layout : List Entry) (key : Key) (bytes : List ℕ)
    (reply : Reply) : Type 0 where
  pub refusal : NotAdmitted
  pub refused : IsNotAdmitted (bank_size frame) layout (key_bytes key) bytes refusal
  pub says : TellsRefusal reply refusal

abbrev pub accepts : Frame → List Entry → Key → List ℕ → Stage Accepted
accepts frame layout key bytes =
    judging (IsAccepted frame layout key bytes) (IsDeclined frame layout key bytes)

-- what `IsAccepted` asks of the bytes, one by one
pub record Meets (frame : Frame) (layout : List Entry) (key : Key) (bytes : List ℕ) (a : Accepted)
    : Type 0 where
  -- they spell an envelope that a bank holds when it is trimmed
  pub are_bytes : AreBytes bytes
  pub envelope : EnvelopeOf bytes a.said
  pub is_short : IsShort (bank_size frame) a.said
  -- it is authentic, and has a manifest
  pub authentic : IsAuthentic a.said.wrapper a.said.manifest (key_bytes key)
  pub says : ManifestOf a.said a.manifest
  -- the layout has the manifest's components, and its members are there and match
  pub placed : ArePlaces layout a.manifest.components a.places
  pub members : HasMembers a.said a.manifest a.members
  -- both its procedures are within the width that is judged, and safe
  pub update_narrow : IsNarrow (update_tree a.manifest a.members)
  pub invocation_narrow : IsNarrow (invocation_tree a.manifest)
  pub are_safe : AreSafe (update_tree a.manifest a.members) (invocation_tree a.manifest)

-- ---- the code's answers

abbrev pub accepted_or_stop : Result Admitted Stop → Result Accepted Stop
accepted_or_stop (Ok a) = Ok (admission_of a)
accepted_or_stop (Err stop) = Err stop

abbrev pub FindsAccepted : Stage Accepted → Result Admitted Stop → Type 0
FindsAccepted stage result = Finds stage (accepted_or_stop result)
