-- The result of `run update`.
use Rattle.std.specs.Prelude.{◌≡◌, ◌⊎◌, ℕ, max, ◌∷◌, [], IsTrue, List, Option, codes}
use Rattle.std.specs.Fmt.{decimal}
use Rattle.suit_edge.specs.Flash.{IsSame}
use Rattle.suit_envelope.specs.Payloads.{HasPayloads}
use Rattle.suit_envelope.specs.Trimmed.{trimmed}
use Rattle.suit_envelope.specs.WrapperParts.{WrapperSays}
use Rattle.suit_commands.specs.Tree.{PlanTree}
use Rattle.suit_manifest.specs.Procedures.{update_tree}
use Rattle.suit_params.specs.declared.digest.Digest.{Digest}
use Rattle.flash_layout.specs.declared.frame.Frame.{Frame}
use Rattle.flash_layout.specs.declared.key.Key.{Key}
use Rattle.flash_layout.specs.declared.layout.Entry.{Entry}
use Rattle.flash_layout.specs.declared.slot.Record.{Record}
use Rattle.flash_layout.specs.Configs.{ConfigOf, Configured}
use Rattle.flash_layout.specs.Frames.{head_of}
use Rattle.rollback_record.specs.HeadRecord.{RecordOf}
use Rattle.step_machine.specs.Devices.{device_at}
use Rattle.step_machine.specs.Fetching.{AsksAmong, asked_at}
use Rattle.step_machine.specs.PlanRuns.{counts_of}
use Rattle.step_machine.specs.UrisSet.{HasFetch}
use Rattle.invoke_proc.specs.Booting.{GainsSafe}
use Rattle.update_proc.specs.declared.update_end.UpdateEnd.{UpdateEnd}
use Rattle.update_proc.specs.declared.update_end.UpdateEnd.TheVariants as ends
use Rattle.update_proc.specs.Ends.{IsUnbegun, JudgedSo, UpdateCounts}
use Rattle.update_proc.specs.Moments.{Placed, placed_on}
use Rattle.update_proc.specs.Offered.{ForOffer}
use Rattle.update_proc.specs.Records.{new_record}
use Rattle.update_proc.specs.Updates.{KeepsUpdate, KeptSo, LeavesUpdate, PlayedSo, PlaysToEnd, PlaysUpdate, hosted, sources}
use Rattle.suit_cli.specs.Lines.{joined, number_line}
use Rattle.suit_cli.specs.Texts.{flash_fault_line, out_of_memory_line}
use Rattle.suit_cli.specs.Outside.{Outside}
use Rattle.suit_cli.specs.Inputs.{longest_file, IsRead, file}
use Rattle.suit_cli.specs.Installed.{config_in}
use Rattle.suit_cli.specs.Launching.{Launching, LeavesAlone, cause_status, cause_text, stopped_line}
use Rattle.suit_cli.specs.Surroundings.{Seen, Surroundings}
use Rattle.suit_cli.specs.Acceptance.{Accepted, IsAccepted}

-- ---- the lines

abbrev pub rollback_line : ℕ → ℕ → List ℕ
rollback_line recorded offered =
    joined
    (codes "rollback: recorded " ∷ decimal recorded ∷ codes ", offered " ∷ decimal offered
    ∷ codes "\n" ∷ [])

abbrev pub other_manifest_line : ℕ → List ℕ
other_manifest_line number =
    joined (codes "rollback: number " ∷ decimal number ∷ codes " has another manifest\n" ∷ [])

-- of a manifest with this number
abbrev pub update_line : ℕ → UpdateEnd → List ℕ
update_line number (ends.Installed installed) = number_line (codes "installed") number
update_line number (ends.Lower recorded offered) = rollback_line recorded offered
update_line number (ends.OtherDigest recorded offered) = other_manifest_line number
update_line number ends.Worn = codes "record worn\n"
update_line number (ends.Condition place) = stopped_line place (codes "condition failed")
update_line number (ends.Stopped place cause) = stopped_line place (cause_text cause)
update_line number ends.FlashFault = flash_fault_line
update_line number ends.NoMemory = out_of_memory_line

-- ---- the statuses

abbrev pub update_status : UpdateEnd → ℕ
update_status (ends.Installed installed) = 0
update_status (ends.Lower recorded offered) = 5
update_status (ends.OtherDigest recorded offered) = 5
update_status ends.Worn = 19
update_status (ends.Condition place) = 6
update_status (ends.Stopped place cause) = cause_status cause
update_status ends.FlashFault = 8
update_status ends.NoMemory = 11

-- ---- the update

-- the new record beside this image of the flash
abbrev pub new_of : Frame → Accepted → Option Record → List ℕ → Digest → List ℕ → Record
new_of frame a held image digest numbers =
    new_record frame held image (trimmed a.said.wrapper a.said.manifest) a.manifest.sequence digest
    numbers

abbrev pub tree_of : Accepted → PlanTree
tree_of a = update_tree a.manifest a.members

-- what is offered to a flash with this configuration: the bytes of a file, and the envelope in them
pub record Offer : Type 0 where
  pub layout : List Entry
  pub key : Key
  pub frame : Frame
  pub bytes : List ℕ
  pub accepted : Accepted

-- its update procedure, on that flash
abbrev pub placed_of : Offer → Placed
placed_of o = placed_on o.frame o.layout o.accepted.places (tree_of o.accepted)

-- No component has room for more on a flash of this size: a slot lies in it, and each working memory has at most 1,048,576
-- bytes.
abbrev pub most_room : ℕ → ℕ
most_room size = max size 1048576

-- The envelope was accepted, and installed so: how it was judged beside the record, how the procedure was played, what the
-- flash is left with, which files were asked for, and whose fault was counted. Of the host nothing was asked where no fetch
-- stands in the procedure, or it was not begun. Each launch has its digest, and its size where one is in force.
pub record IsUpdate (o : Offer) (uris : List (List ℕ × List ℕ)) (launched now : Launching)
    (before after : Outside) (end : UpdateEnd) : Type 0 where
  pub alone : LeavesAlone launched now before after
  pub counts :
      UpdateCounts end (counts_of before.faults before.flash.faults launched.faults)
      (counts_of after.faults after.flash.faults now.faults)
  pub asks : IsTrue before.told
      → AsksAmong (tree_of o.accepted) uris (most_room before.flash.size)
      (asked_at before.asked before.pulled)
      (asked_at after.asked after.pulled)
  pub unasked : (HasFetch (tree_of o.accepted) → ⊥) ⊎ IsUnbegun end
      → asked_at after.asked after.pulled ≡ asked_at before.asked before.pulled
  pub judged : IsTrue before.flash.told
      → ForOffer o.frame before.flash.reads o.accepted.said.wrapper
      (λ held digest. JudgedSo o.accepted.manifest.sequence digest held end)
  pub plays : IsTrue before.flash.told → IsTrue launched.told
      → ForOffer o.frame before.flash.reads o.accepted.said.wrapper (λ held digest.
      (payloads : List (List ℕ × List ℕ)) → HasPayloads o.bytes payloads
      → PlayedSo
      (λ made play. PlaysUpdate (placed_of o) held
      (sources payloads uris (hosted before.told before.files before.asked after.asked))
      (device_at before.flash.reads launched.launches) (device_at made now.launches) play)
      (after.flash.reads ≡ before.flash.reads) o.layout after.flash.reads launched.launches
      now.launches end)
  pub left : IsTrue before.flash.told
      → ForOffer o.frame before.flash.reads o.accepted.said.wrapper (λ held digest.
      KeptSo
      (LeavesUpdate (placed_of o) held
      (new_of o.frame o.accepted held before.flash.reads digest) before.flash.reads
      after.flash.reads end)
      (after.flash.reads ≡ before.flash.reads) end)
  pub safe : IsTrue before.flash.told → IsTrue launched.told
      → GainsSafe launched.launches now.launches

-- the flash holds a configuration, the file was read and accepted under it, an update was made of it, and these lines tell
-- how that ended
pub record Updates (name : List ℕ) (uris : List (List ℕ × List ℕ)) (before after : Seen)
    (end : UpdateEnd) (lines : List ℕ) : Type 0 where
  pub o : Offer
  pub configured : Outside
  pub held : config_in.gives before.outside configured (o.layout, o.key, o.frame)
  pub middle : Outside
  pub read : (file longest_file name).gives configured middle o.bytes
  pub is_accepted : IsAccepted o.frame o.layout o.key o.bytes o.accepted
  pub update : IsUpdate o uris before.launcher after.launcher middle after.outside end
  pub lines_are : lines ≡ update_line o.accepted.manifest.sequence end

-- ---- at each moment

-- Where the host and the launcher tell, the update procedure of what was accepted is played to its end, and makes those
-- contents.
abbrev pub IsDone : Offer → List (List ℕ × List ℕ) → Surroundings → Surroundings → Option Record
    → List ℕ → Type 0
IsDone o uris before after held made =
    IsTrue before.outside.told → IsTrue before.launcher.told
    → PlaysToEnd (placed_of o) held o.bytes uris before.outside.files
    (device_at before.flash.reads before.launcher.launches) (device_at made after.launcher.launches)

-- At each moment of an update that ended so, the flash had the old record, and no content changed but those of slots that
-- may be written; or it had the new record, and the contents that its procedure made, which was done. Where it was not done
-- the old record stood at each moment, and where it was not run nothing changed.
abbrev pub KeepsOffer : Offer → List (List ℕ × List ℕ) → Surroundings → Surroundings → UpdateEnd
    → Type 0
KeepsOffer o uris before after end =
    ForOffer o.frame before.flash.reads o.accepted.said.wrapper (λ held digest.
    KeptSo
    (KeepsUpdate (placed_of o) (IsDone o uris before after held) held
    (new_of o.frame o.accepted held before.flash.reads digest) before.flash after.flash end)
    (IsSame before.flash after.flash) end)

-- the flash holds a record, or none, and the wrapper states a digest
abbrev pub HasOffer : Frame → List ℕ → List ℕ → Type 0
HasOffer frame image wrapper =
    (held : Option Record) × (digest : Digest) × (blocks : List (List ℕ))
    × RecordOf frame (head_of frame image) held
    × WrapperSays wrapper digest blocks

-- The file with that name was accepted, and so the flash was kept. This holds of a settled flash.
pub record KeepsFlash (name : List ℕ) (uris : List (List ℕ × List ℕ))
    (before after : Surroundings) (end : UpdateEnd) : Type 0 where
  pub o : Offer
  pub config :
      ConfigOf before.outside.flash.size before.flash.reads (Configured o.layout o.key o.frame)
  pub read : IsRead longest_file name before.outside o.bytes
  pub is_accepted : IsAccepted o.frame o.layout o.key o.bytes o.accepted
  pub offered : HasOffer o.frame before.flash.reads o.accepted.said.wrapper
  pub kept : KeepsOffer o uris before after end

-- ---- inside

abbrev pub offer : Frame → List Entry → Key → List ℕ → Accepted → Offer
offer frame layout key bytes accepted = record {
  layout = layout;
  key = key;
  frame = frame;
  bytes = bytes;
  accepted = accepted;
}
