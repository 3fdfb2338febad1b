-- The launches of an update.
use Rattle.std.proofs.Common.{◌≡◌, ◌⊎◌, inl, inr, ⊎_elim, ℕ, List, length, Option, sym, ◌∙◌, ap, subst}
use Rattle.std.specs.Prelude.{IsTrue}
use Rattle.step_machine.specs.Devices.{device_at}
use Rattle.suit_params.specs.declared.digest.Digest.{Digest}
use Rattle.flash_layout.specs.Configs.{ConfigOf, Configured}
use Rattle.flash_layout.specs.Frames.{head_of}
use Rattle.flash_layout.specs.declared.slot.Record.{Record}
use Rattle.rollback_record.specs.HeadRecord.{RecordOf}
use Rattle.rollback_record.specs.RecordLaws.{SomeAnswer}
use Rattle.step_machine.specs.declared.plan_end.PlanEnd.{PlanEnd}
use Rattle.invoke_proc.proofs.Booted.{payloads_in}
use Rattle.update_proc.specs.declared.update_end.UpdateEnd.{UpdateEnd}
use Rattle.update_proc.specs.Updates.{Hosted, PlaysUpdate, hosted, sources}
use Rattle.update_proc.proofs.Finished.{some_play}
use Rattle.suit_cli.specs.Inputs.{IsRead, longest_file}
use Rattle.suit_cli.specs.Launching.{Launching}
use Rattle.suit_cli.specs.LaunchedLaws.{TellsImage}
use Rattle.suit_cli.specs.LaunchedUpdateLaws.{LaunchedUpdateLaws, LaunchesAccepted}
use Rattle.suit_cli.specs.Outside.{Flashed, Outside, with_flash}
use Rattle.suit_cli.specs.Surroundings.{seen}
use Rattle.suit_cli.specs.Updating.{Updates, placed_of}
use Rattle.suit_cli.proofs.AcceptedFacts.{facts}

module _ (records : SomeAnswer) where
  module _ (image : List ℕ) (name : List ℕ) (uris : List (List ℕ × List ℕ)) (launched now : Launching) (before after : Outside) (end : UpdateEnd) (lines : List ℕ)
      (holds : TellsImage image launched before) (u : Updates name uris (seen before launched) (seen after now) end lines) where
    flash_told : IsTrue u.middle.flash.told
    flash_told = subst IsTrue (sym (ap (λ (f : Flashed). f.told) u.read.0.flash ∙ u.held.0.still.told)) holds.flash

    reads : u.middle.flash.reads ≡ image
    reads = ap (λ (f : Flashed). f.reads) u.read.0.flash ∙ u.held.0.still.reads holds.flash ∙ holds.reads

    config : ConfigOf (length image) image (Configured u.o.layout u.o.key u.o.frame)
    config =
        subst (λ (n : ℕ). ConfigOf n image (Configured u.o.layout u.o.key u.o.frame)) holds.size
        (subst (λ (l : List ℕ). ConfigOf before.flash.size l (Configured u.o.layout u.o.key u.o.frame)) holds.reads (u.held.1 holds.flash))

    there : IsRead longest_file name (with_flash before u.configured.flash) u.o.bytes
    there = subst (λ (x : Outside). IsRead longest_file name x u.o.bytes) u.held.0.beside u.read.1

    abbrev host : Hosted
    host = hosted u.middle.told u.middle.files u.middle.asked after.asked

    abbrev Plays : Option Record → List (List ℕ × List ℕ) → List ℕ → List ℕ → PlanEnd → Type 0
    Plays held payloads from made play =
        PlaysUpdate (placed_of u.o) held (sources payloads uris host) (device_at from launched.launches) (device_at made now.launches) play

    launches : (now.launches ≡ launched.launches) ⊎ LaunchesAccepted uris u.o.layout u.o.key u.o.bytes image launched.launches now.launches
    launches =
        let f = facts u.o.frame u.o.layout u.o.key u.o.bytes u.o.accepted u.is_accepted in
        let some = records u.o.frame (head_of u.o.frame image) in
        let digest : Digest = f.authentic.digest in
        let payloads = payloads_in u.o.bytes u.o.accepted.said f.envelope in
        let recorded : RecordOf u.o.frame (head_of u.o.frame u.middle.flash.reads) some.0 = subst (λ (l : List ℕ). RecordOf u.o.frame (head_of u.o.frame l) some.0) (sym reads) some.1 in
        let played = u.update.plays flash_told holds.launcher some.0 digest f.authentic.blocks recorded f.authentic.says payloads.0 payloads.1 in
        ⊎_elim (λ same. inl same)
        (λ play. inr (record {
          frame = u.o.frame;
          config = config;
          accepted = u.o.accepted;
          is_accepted = u.is_accepted;
          held = some.0;
          recorded = some.1;
          payloads = payloads.0;
          are = payloads.1;
          host = host;
          made = play.0;
          end = play.1;
          plays = subst (λ (l : List ℕ). Plays some.0 payloads.0 l play.0 play.1) reads play.2;
          gains = u.update.safe flash_told holds.launcher;
        }))
        (some_play (Plays some.0 payloads.0 u.middle.flash.reads) _ u.o.layout after.flash.reads launched.launches now.launches end played)

  pub laws : LaunchedUpdateLaws
  laws image name uris before after end lines holds u =
      ⊎_elim (λ same. inl same)
      (λ some. inr (u.o.layout, u.o.key, u.o.bytes, (there image name uris before.launcher after.launcher before.outside after.outside end lines holds u).holds, some))
      (launches image name uris before.launcher after.launcher before.outside after.outside end lines holds u)
