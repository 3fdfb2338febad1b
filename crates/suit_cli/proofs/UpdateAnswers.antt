-- The answer to `run update`.
use Rattle.std.specs.Prelude.{IsTrue}
use Rattle.std.proofs.Common.{◌≡◌, ℕ, List, Option, Err, refl, sym, subst}
use Rattle.step_machine.specs.Devices.{device_at}
use Rattle.suit_edge.specs.Flash.{Flash, IsFlash, IsSame}
use Rattle.suit_edge.specs.FlashLaws.{same_flash_then}
use Rattle.suit_envelope.specs.Trimmed.{trimmed}
use Rattle.suit_manifest.specs.Procedures.{update_tree}
use Rattle.flash_layout.specs.declared.frame.Frame.{Frame}
use Rattle.flash_layout.specs.declared.key.Key.{Key}
use Rattle.flash_layout.specs.declared.layout.Entry.{Entry}
use Rattle.flash_layout.specs.declared.slot.Record.{Record}
use Rattle.flash_layout.specs.Configs.{ConfigOf, Configured, IsAllowed}
use Rattle.flash_layout.specs.Frames.{head_of}
use Rattle.flash_layout.specs.ConfigLaws.{OneAnswer}
use Rattle.rollback_record.specs.HeadRecord.{RecordOf}
use Rattle.rollback_record.specs.SoundFlash.{Settled}
use Rattle.update_proc.specs.Moments.{placed_on}
use Rattle.update_proc.specs.declared.update_end.UpdateEnd.{UpdateEnd}
use Rattle.update_proc.specs.Updates.{PlaysToEnd}
use Rattle.update_proc.proofs.Reread.{keeps_from, kept_from}
use Rattle.suit_cli.specs.declared.reply.Reply.{Reply}
use Rattle.suit_cli.specs.declared.reply.Stop.{Stop}
use Rattle.suit_cli.specs.Words.{Named, RunUpdate, pairs_of}
use Rattle.suit_cli.specs.Outside.{Files, Outside}
use Rattle.suit_cli.specs.Stages.{Ending, NoMemory, Answers, Goes, Lacks, Last, EndsWithout, Does, ending_of, ◌>>=◌}
use Rattle.suit_cli.specs.Inputs.{longest_file, IsRead, file}
use Rattle.suit_cli.specs.Installed.{config_in}
use Rattle.suit_cli.specs.Launching.{Launching}
use Rattle.suit_cli.specs.Surroundings.{Surroundings}
use Rattle.suit_cli.specs.Acceptance.{Accepted, IsAccepted, accepts}
use Rattle.suit_cli.specs.Commands.{does}
use Rattle.suit_cli.specs.Coming.{Comes, ByStages, ByUpdate, Ended, Answered, Booted, KeepsAccepted, StaysOrKeeps, Updated, UpdatesBy}
use Rattle.suit_cli.specs.Updating.{IsDone, KeepsOffer, offer}
use Rattle.suit_cli.proofs.AcceptedFacts.{facts}
use Rattle.suit_cli.proofs.Chains.{stopped}
use Rattle.suit_cli.proofs.Initing.{looks_self}
use Rattle.suit_cli.proofs.UpdateSound.{has_offer}

abbrev Nothing : Answers
Nothing = Last (λ (reply : Reply). ⊥)

abbrev OfFile : Frame → List Entry → Key → List ℕ → Answers
OfFile frame layout key name = file longest_file name >>= λ bytes. accepts frame layout key bytes >>= λ accepted. Nothing

-- ---- in stages

-- memory ran out before anything was done
pub starved_update : (name : List ℕ) (uris : List Named) (l : Launching) (b : Outside) → Comes (does (RunUpdate name uris)) (λ task. RunUpdate name uris ≡ task) l l b b (Answered NoMemory)
starved_update name uris l b = ByStages NoMemory (Lacks (looks_self b)) refl

module _ (name : List ℕ) (uris : List Named) (l : Launching) (b : Outside) where
  abbrev Comes_to : Launching → Outside → Ended → Type 0
  Comes_to m a ended = Comes (does (RunUpdate name uris)) (λ task. RunUpdate name uris ≡ task) l m b a ended

  -- where there is no configuration
  pub unconfigured_update : (a : Outside) (stop : Stop) → Does config_in b a (Err stop) → Comes_to l a (Answered (ending_of (Err stop)))
  unconfigured_update a stop found = ByStages _ (stopped config_in (λ config. OfFile config.2 config.0 config.1 name) b a stop found) refl

  module _ (layout : List Entry) (key : Key) (frame : Frame) (c : Outside) (held : config_in.gives b c (layout, key, frame)) where
    -- where the file is not read
    pub unread_update : (a : Outside) (stop : Stop) → Does (file longest_file name) c a (Err stop) → Comes_to l a (Answered (ending_of (Err stop)))
    unread_update a stop found =
        ByStages _ (Goes (layout, key, frame) c _ held (stopped (file longest_file name) (λ bytes. accepts frame layout key bytes >>= λ accepted. Nothing) c a stop found)) refl

    module _ (bytes : List ℕ) (d : Outside) (read : (file longest_file name).gives c d bytes) where
      -- where it is not accepted
      pub unaccepted_update : (stop : Stop) → Does (accepts frame layout key bytes) d d (Err stop) → Comes_to l d (Answered (ending_of (Err stop)))
      unaccepted_update stop found =
          ByStages _ (Goes (layout, key, frame) c _ held (Goes bytes d _ read (stopped (accepts frame layout key bytes) (λ accepted. Nothing) d d stop found))) refl

      -- and behind that
      pub comes_updated : (m : Launching) (a : Outside) (accepted : Accepted) → IsAccepted frame layout key bytes accepted → (ended : Ended)
          → UpdatesBy (offer frame layout key bytes accepted) (pairs_of uris) l m d a ended → Comes_to m a ended
      comes_updated m a accepted is (Answered ending) by =
          ByStages ending (Goes (layout, key, frame) c ending held (Goes bytes d ending read (Goes accepted d ending (refl, is)
          (subst (λ (e : Ending). Last (λ (reply : Reply). ⊥) d a e) (sym by.0) (EndsWithout by.1))))) by.2
      comes_updated m a accepted is (Booted end lines) by = absurd by
      comes_updated m a accepted is (Updated end lines) by = ByUpdate name uris end lines refl (record {
        o = offer frame layout key bytes accepted;
        configured = c;
        held = held;
        middle = d;
        read = read;
        is_accepted = is;
        update = by.0;
        lines_are = by.1;
      })

-- the acceptance of the same bytes
pub accepted_as : (frame : Frame) (layout : List Entry) (key : Key) (x y : List ℕ) → x ≡ y → (a : Accepted) → IsAccepted frame layout key x a → IsAccepted frame layout key y a
accepted_as frame layout key x y same a is = subst (λ (bytes : List ℕ). IsAccepted frame layout key bytes a) same is

pub unaccepted_as : (frame : Frame) (layout : List Entry) (key : Key) (x y : List ℕ) → x ≡ y → (stop : Stop) → ((here : Outside) → Does (accepts frame layout key x) here here (Err stop))
    → (here : Outside) → Does (accepts frame layout key y) here here (Err stop)
unaccepted_as frame layout key x y same stop found = subst (λ (bytes : List ℕ). (here : Outside) → Does (accepts frame layout key bytes) here here (Err stop)) same found

-- and what it is offered as
pub updates_as : (frame : Frame) (layout : List Entry) (key : Key) (x y : List ℕ) → x ≡ y → (a : Accepted) (u v : List (List ℕ × List ℕ)) → u ≡ v → (l m : Launching) (before after : Outside) (ended : Ended)
    → UpdatesBy (offer frame layout key x a) u l m before after ended → UpdatesBy (offer frame layout key y a) v l m before after ended
updates_as frame layout key x y same a u v is l m before after ended by =
    subst (λ (uris : List (List ℕ × List ℕ)). UpdatesBy (offer frame layout key y a) uris l m before after ended) is
    (subst (λ (bytes : List ℕ). UpdatesBy (offer frame layout key bytes a) u l m before after ended) same by)

-- ---- at each moment

pub keeps_as : (frame : Frame) (layout : List Entry) (key : Key) (x y : List ℕ) → x ≡ y → (a : Accepted) (uris : List (List ℕ × List ℕ)) (before after : Surroundings) (ended : Ended)
    → KeepsAccepted (offer frame layout key x a) uris before after ended → KeepsAccepted (offer frame layout key y a) uris before after ended
keeps_as frame layout key x y same a uris before after ended kept = subst (λ (bytes : List ℕ). KeepsAccepted (offer frame layout key bytes a) uris before after ended) same kept

-- by the same names for URIs
pub keeps_named : (name : List ℕ) (u v : List (List ℕ × List ℕ)) → u ≡ v → (before after : Surroundings) (ended : Ended) → StaysOrKeeps name u before after ended → StaysOrKeeps name v before after ended
keeps_named name u v is before after ended keeps = subst (λ (uris : List (List ℕ × List ℕ)). StaysOrKeeps name uris before after ended) is keeps

-- behind the looks at the configuration and at the file

module _ (name : List ℕ) (uris : List (List ℕ × List ℕ)) (l : Launching) (before middle : Outside) (after : Surroundings) (told_is : middle.told ≡ before.told) (files_are : IsTrue before.told → middle.files ≡ before.files)
    (size : ℕ) (is_size : before.flash.size ≡ size) (a b : Flash) (law_a : IsFlash a size) (law_b : IsFlash b size) (same : IsSame a b)
    (layout : List Entry) (key : Key) (frame : Frame) (allowed : IsAllowed frame size layout key) (config : ConfigOf size a.reads (Configured layout key frame))
    (settled : Settled a) (bytes : List ℕ) (read : IsRead longest_file name before bytes) (x : Accepted) (is : IsAccepted frame layout key bytes x) (configs : OneAnswer) where
  abbrev start : Surroundings
  start = record { outside = before; launcher = l; flash = a }

  abbrev since : Surroundings
  since = record { outside = middle; launcher = l; flash = b }

  done_since : (held : Option Record) (made : List ℕ) → IsDone (offer frame layout key bytes x) uris since after held made → IsDone (offer frame layout key bytes x) uris start after held made
  done_since held made did host launcher =
      subst (λ (r : List ℕ). PlaysToEnd (placed_on frame layout x.places (update_tree x.manifest x.members)) held bytes uris before.files (device_at r l.launches) (device_at made after.launcher.launches)) same.reads
      (subst (λ (f : Files). PlaysToEnd (placed_on frame layout x.places (update_tree x.manifest x.members)) held bytes uris f (device_at b.reads l.launches) (device_at made after.launcher.launches)) (files_are host)
      (did (subst IsTrue (sym told_is) host) launcher))

  kept_since : (end : UpdateEnd) → KeepsOffer (offer frame layout key bytes x) uris since after end → KeepsOffer (offer frame layout key bytes x) uris start after end
  kept_since end kept held digest blocks there said =
      kept_from _ _ _ _
      (keeps_from a b after.flash same frame size law_a layout allowed.layout_is x.places (update_tree x.manifest x.members) held key config settled there
      (trimmed x.said.wrapper x.said.manifest) x.manifest.sequence digest _ _ (done_since held) end)
      (same_flash_then a b after.flash size law_b same) end
      (kept held digest blocks (subst (λ (l : List ℕ). RecordOf frame (head_of frame l) held) (sym same.reads) there) said)

  pub keeps_since : (ended : Ended) → KeepsAccepted (offer frame layout key bytes x) uris since after ended → StaysOrKeeps name uris start after ended
  keeps_since (Answered ending) still = same_flash_then a b after.flash size law_b same still
  keeps_since (Booted end lines) still = same_flash_then a b after.flash size law_b same still
  keeps_since (Updated end lines) kept = record {
    o = offer frame layout key bytes x;
    config = subst (λ (n : ℕ). ConfigOf n a.reads (Configured layout key frame)) (sym is_size) config;
    read = read;
    is_accepted = is;
    offered =
        has_offer configs frame layout key a.reads (subst (λ (n : ℕ). ConfigOf n a.reads (Configured layout key frame)) (sym law_a.fits) config) bytes x
        (facts frame layout key bytes x is) settled.sound;
    kept = kept_since end kept;
  }
