-- Why an update ends so.
use Rattle.std.proofs.Common.{◌≡◌, ◌⊎◌, inl, inr, ℕ, Bool, List, Option, Some, None, refl, sym, ap, subst, ◌∙◌, arith}
use Rattle.std.specs.Prelude.{IsTrue}
use Rattle.step_machine.specs.Devices.{device_at}
use Rattle.suit_edge.specs.declared.launch.Launch.{Launch}
use Rattle.suit_envelope.specs.EnvelopeLaws.{EnvelopeLaws}
use Rattle.suit_envelope.specs.Envelopes.{EnvelopeSays}
use Rattle.suit_envelope.specs.Payloads.{HasPayloads}
use Rattle.suit_envelope.specs.WrapperParts.{WrapperSays}
use Rattle.suit_params.specs.declared.digest.Digest.{Digest}
use Rattle.suit_manifest.specs.ManifestLaws.{ManifestLaws}
use Rattle.suit_manifest.specs.declared.manifest.Manifest.{Manifest}
use Rattle.flash_layout.specs.declared.frame.Frame.{Frame}
use Rattle.flash_layout.specs.declared.key.Key.{Key}
use Rattle.flash_layout.specs.declared.layout.Entry.{Entry}
use Rattle.flash_layout.specs.declared.slot.Record.{Record}
use Rattle.flash_layout.specs.ConfigLaws.{OneAnswer}
use Rattle.flash_layout.specs.Configs.{Configured}
use Rattle.flash_layout.specs.Frames.{head_of}
use Rattle.step_machine.specs.declared.plan_end.PlanEnd.{PlanEnd}
use Rattle.rollback_record.specs.HeadRecord.{RecordOf}
use Rattle.rollback_record.specs.Judging.{IsJudged}
use Rattle.rollback_record.specs.declared.judging.Judged.{Judged}
use Rattle.rollback_record.specs.declared.judging.Judged.TheVariants as verdicts
use Rattle.update_proc.specs.declared.update_end.UpdateEnd.{UpdateEnd}
use Rattle.update_proc.specs.declared.update_end.UpdateEnd.TheVariants as ends
use Rattle.update_proc.specs.Ends.{JudgedSo}
use Rattle.update_proc.specs.Updates.{PlayedSo, PlaysUpdate, hosted, sources}
use Rattle.suit_cli.specs.Acceptance.{IsAccepted, Meets}
use Rattle.suit_cli.specs.Envelopes.{ManifestOf}
use Rattle.suit_cli.specs.Launching.{Launching}
use Rattle.suit_cli.specs.Inputs.{IsRead, longest_file}
use Rattle.suit_cli.specs.Outside.{Flashed, Outside, with_flash}
use Rattle.suit_cli.specs.Surroundings.{seen}
use Rattle.suit_cli.specs.Updating.{Updates, Offer, offer, placed_of}
use Rattle.suit_cli.specs.UpdateEndLaws.{Beside, UpdateEnds, IsLower, IsOther, IsWorn, IsInstalled, IsStopped, IsFailed, FlashFailed, MemoryRanOut, UpdateEndLaws, UpdateIsCaused, UpdateIsJudged, IsOffered, IsEndOf, IsNoEnd}
use Rattle.suit_cli.proofs.AcceptedFacts.{facts}
use Rattle.suit_cli.proofs.OneStage.{one_envelope, one_manifest, one_read}

module _ (o : Offer) (uris : List (List ℕ × List ℕ)) (launched now : Launching) (before after : Outside) where
  abbrev IsJudgedSo : UpdateEnd → Type 0
  IsJudgedSo end = Beside o before (λ number digest held. JudgedSo number digest held end)

  abbrev IsPlayedSo : UpdateEnd → Type 0
  IsPlayedSo end =
      Beside o before (λ number digest held. (payloads : List (List ℕ × List ℕ)) → HasPayloads o.bytes payloads
      → PlayedSo (λ made play. (since : List (List ℕ)) × PlaysUpdate (placed_of o) held (sources payloads uris (hosted before.told before.files since after.asked)) (device_at before.flash.reads launched.launches) (device_at made now.launches) play)
      (after.flash.reads ≡ before.flash.reads) o.layout after.flash.reads launched.launches now.launches end)

  of_end : (end : UpdateEnd) → IsJudgedSo end → IsPlayedSo end → UpdateEnds o uris launched now before after end
  of_end (ends.Lower recorded offered) j p = IsLower recorded offered j
  of_end (ends.OtherDigest recorded offered) j p = IsOther recorded offered j
  of_end ends.Worn j p = IsWorn j
  of_end (ends.Installed installed) j p = IsInstalled installed (λ held digest blocks record_is says. (j held digest blocks record_is says, p held digest blocks record_is says))
  of_end (ends.Condition place) j p = IsStopped place (λ held digest blocks record_is says. (j held digest blocks record_is says, p held digest blocks record_is says))
  of_end (ends.Stopped place cause) j p = IsFailed place cause (λ held digest blocks record_is says. (j held digest blocks record_is says, p held digest blocks record_is says))
  of_end ends.FlashFault j p = FlashFailed
  of_end ends.NoMemory j p = MemoryRanOut

-- a play since some names were asked for
somewhere : (P : List ℕ → PlanEnd → List (List ℕ) → Type 0) (Same : Type 0) (layout : List Entry) (after : List ℕ) (launched now : List Launch) (end : UpdateEnd) (since : List (List ℕ))
    → PlayedSo (λ made play. P made play since) Same layout after launched now end → PlayedSo (λ made play. (asked : List (List ℕ)) × P made play asked) Same layout after launched now end
somewhere P Same layout after launched now (ends.Installed r) since p = record { made = p.made; plays = (since, p.plays); left = p.left }
somewhere P Same layout after launched now (ends.Condition place) since p = record { made = p.made; plays = (since, p.plays); left = p.left }
somewhere P Same layout after launched now (ends.Stopped place cause) since p = record { made = p.made; plays = (since, p.plays); left = p.left }
somewhere P Same layout after launched now ends.FlashFault since (inl none) = inl none
somewhere P Same layout after launched now ends.FlashFault since (inr (made, end, play, is)) = inr (made, end, (since, play), is)
somewhere P Same layout after launched now (ends.Lower recorded offered) since p = p
somewhere P Same layout after launched now (ends.OtherDigest recorded offered) since p = p
somewhere P Same layout after launched now ends.Worn since p = p
somewhere P Same layout after launched now ends.NoMemory since p = p

module _ (name : List ℕ) (uris : List (List ℕ × List ℕ)) (launched now : Launching) (before after : Outside) (end : UpdateEnd) (lines : List ℕ) (flash_told : IsTrue before.flash.told)
    (u : Updates name uris (seen before launched) (seen after now) end lines) where
  here_told : u.configured.told ≡ before.told
  here_told = ap (λ (x : Outside). x.told) u.held.0.beside

  flash_tells : IsTrue u.middle.flash.told
  flash_tells = subst IsTrue (sym (ap (λ (f : Flashed). f.told) u.read.0.flash ∙ u.held.0.still.told)) flash_told

  reads : u.middle.flash.reads ≡ before.flash.reads
  reads = ap (λ (f : Flashed). f.reads) u.read.0.flash ∙ u.held.0.still.reads flash_told

  read : IsRead longest_file name before u.o.bytes
  read =
      let there : IsRead longest_file name (with_flash before u.configured.flash) u.o.bytes = subst (λ (x : Outside). IsRead longest_file name x u.o.bytes) u.held.0.beside u.read.1 in
      record { holds = there.holds; fits = there.fits }

  judged_so : IsJudgedSo u.o uris launched now before after end
  judged_so held digest blocks record_is says =
      u.update.judged flash_tells held digest blocks (subst (λ (l : List ℕ). RecordOf u.o.frame (head_of u.o.frame l) held) (sym reads) record_is) says

  pub judged : UpdateIsJudged name before end
  judged = record { o = u.o; config = u.held.1; read = read; is_accepted = u.is_accepted; judged = judged_so }

  -- of a host and a launcher that tell too
  module _ (told : IsTrue before.told) (launcher : IsTrue launched.told) where
    middle_told : IsTrue u.middle.told
    middle_told = subst IsTrue (sym (u.read.0.quiet.told ∙ here_told)) told

    files : u.middle.files ≡ before.files
    files = u.read.0.quiet.files (subst IsTrue (sym here_told) told) ∙ ap (λ (x : Outside). x.files) u.held.0.beside

    abbrev Plays : Option Record → List (List ℕ × List ℕ) → Bool → (List ℕ → Option (List ℕ)) → List ℕ → Type 0
    Plays held payloads t f l =
        PlayedSo (λ made play. PlaysUpdate (placed_of u.o) held (sources payloads uris (hosted t f u.middle.asked after.asked)) (device_at l launched.launches) (device_at made now.launches) play)
        (after.flash.reads ≡ l) u.o.layout after.flash.reads launched.launches now.launches end

    played : IsPlayedSo u.o uris launched now before after end
    played held digest blocks record_is says payloads has =
        somewhere (λ made play since. PlaysUpdate (placed_of u.o) held (sources payloads uris (hosted before.told before.files since after.asked)) (device_at before.flash.reads launched.launches) (device_at made now.launches) play)
        (after.flash.reads ≡ before.flash.reads) u.o.layout after.flash.reads launched.launches now.launches end u.middle.asked
        (subst (λ (t : Bool). Plays held payloads t before.files before.flash.reads) (u.read.0.quiet.told ∙ here_told)
        (subst (λ (f : List ℕ → Option (List ℕ)). Plays held payloads u.middle.told f before.flash.reads) files
        (subst (λ (l : List ℕ). Plays held payloads u.middle.told u.middle.files l) reads
        (u.update.plays flash_tells launcher held digest blocks (subst (λ (l : List ℕ). RecordOf u.o.frame (head_of u.o.frame l) held) (sym reads) record_is) says payloads has))))

    pub only : UpdateIsCaused name uris (seen before launched) (seen after now) end lines
    only = record {
      layout = u.o.layout;
      key = u.o.key;
      frame = u.o.frame;
      config = u.held.1;
      bytes = u.o.bytes;
      read = read;
      accepted = u.o.accepted;
      is_accepted = u.is_accepted;
      ends = of_end u.o uris launched now before after end judged_so played;
      lines_are = u.lines_are;
    }

-- ---- one verdict

module _ (number : ℕ) (digest : Digest) where
  one_beside : (r : Record) (v w : Judged) → IsJudged number digest (Some r) v → IsJudged number digest (Some r) w → w ≡ v
  one_beside r verdicts.Accepted verdicts.Accepted x y = refl
  one_beside r verdicts.Accepted (verdicts.Lower a b) x y = absurd (x.0.number y.0)
  one_beside r verdicts.Accepted (verdicts.OtherDigest a b) x y = absurd (y.1 (x.0.same y.0))
  one_beside r verdicts.Accepted verdicts.Worn x y = absurd (x.1 y.1)
  one_beside r (verdicts.Lower a b) verdicts.Accepted x y = absurd (y.0.number x.0)
  one_beside r (verdicts.Lower a b) (verdicts.Lower c d) x y = let recorded : c ≡ a = y.1 ∙ sym x.1 in let offered : d ≡ b = y.2 ∙ sym x.2 in cc
  one_beside r (verdicts.Lower a b) (verdicts.OtherDigest c d) x y = absurd (omega (arith, x.0, y.0))
  one_beside r (verdicts.Lower a b) verdicts.Worn x y = absurd (y.0.number x.0)
  one_beside r (verdicts.OtherDigest a b) verdicts.Accepted x y = absurd (x.1 (y.0.same x.0))
  one_beside r (verdicts.OtherDigest a b) (verdicts.Lower c d) x y = absurd (omega (arith, x.0, y.0))
  one_beside r (verdicts.OtherDigest a b) (verdicts.OtherDigest c d) x y = let recorded : c ≡ a = y.2 ∙ sym x.2 in let offered : d ≡ b = y.3 ∙ sym x.3 in cc
  one_beside r (verdicts.OtherDigest a b) verdicts.Worn x y = absurd (x.1 (y.0.same x.0))
  one_beside r verdicts.Worn verdicts.Accepted x y = absurd (y.1 x.1)
  one_beside r verdicts.Worn (verdicts.Lower a b) x y = absurd (x.0.number y.0)
  one_beside r verdicts.Worn (verdicts.OtherDigest a b) x y = absurd (y.1 (x.0.same y.0))
  one_beside r verdicts.Worn verdicts.Worn x y = refl

  one_verdict : (held : Option Record) (v w : Judged) → IsJudged number digest held v → IsJudged number digest held w → w ≡ v
  one_verdict (Some r) v w x y = one_beside r v w x y
  one_verdict None verdicts.Accepted verdicts.Accepted x y = refl
  one_verdict None (verdicts.Lower a b) w x y = absurd x
  one_verdict None (verdicts.OtherDigest a b) w x y = absurd x
  one_verdict None verdicts.Worn w x y = absurd x
  one_verdict None v (verdicts.Lower a b) x y = absurd y
  one_verdict None v (verdicts.OtherDigest a b) x y = absurd y
  one_verdict None v verdicts.Worn x y = absurd y

-- ---- the verdict decides

module _ (configs : OneAnswer) (envelopes : EnvelopeLaws) (manifests : ManifestLaws) (name : List ℕ) (uris : List (List ℕ × List ℕ)) (launched now : Launching) (before after : Outside) (verdict : Judged)
    (told : IsTrue before.told) (flash_told : IsTrue before.flash.told) (f : IsOffered name before verdict) where
  module _ (end : UpdateEnd) (lines : List ℕ) (u : UpdateIsCaused name uris (seen before launched) (seen after now) end lines) where
    same_config : Configured u.layout u.key u.frame ≡ Configured f.layout f.key f.frame
    same_config = configs before.flash.size before.flash.reads (Configured u.layout u.key u.frame) (Configured f.layout f.key f.frame) (u.config flash_told) (f.config flash_told)

    same_frame : u.frame ≡ f.frame
    same_frame = let e = same_config in cc

    same_bytes : u.bytes ≡ f.bytes
    same_bytes = one_read longest_file name before told f.bytes u.bytes f.read u.read

    accepted_there : IsAccepted f.frame f.layout f.key f.bytes u.accepted
    accepted_there =
        let layouts : u.layout ≡ f.layout = let e = same_config in cc in
        let keys : u.key ≡ f.key = let e = same_config in cc in
        subst (λ (z : List ℕ). IsAccepted f.frame f.layout f.key z u.accepted) same_bytes
        (subst (λ (z : Key). IsAccepted f.frame f.layout z u.bytes u.accepted) keys
        (subst (λ (z : List Entry). IsAccepted f.frame z u.key u.bytes u.accepted) layouts (subst (λ (z : Frame). IsAccepted z u.layout u.key u.bytes u.accepted) same_frame u.is_accepted)))

    x : Meets f.frame f.layout f.key f.bytes f.accepted
    x = facts f.frame f.layout f.key f.bytes f.accepted f.is_accepted

    y : Meets f.frame f.layout f.key f.bytes u.accepted
    y = facts f.frame f.layout f.key f.bytes u.accepted accepted_there

    same_said : u.accepted.said ≡ f.accepted.said
    same_said = (one_envelope envelopes f.bytes).value f.accepted.said u.accepted.said (x.are_bytes, x.envelope) (y.are_bytes, y.envelope)

    same_manifest : u.accepted.manifest ≡ f.accepted.manifest
    same_manifest =
        (one_manifest envelopes manifests f.bytes f.accepted.said x.envelope).value f.accepted.manifest u.accepted.manifest x.says
        (subst (λ (s : EnvelopeSays). ManifestOf s u.accepted.manifest) same_said y.says)

    states : WrapperSays u.accepted.said.wrapper f.digest f.blocks
    states = subst (λ (s : EnvelopeSays). WrapperSays s.wrapper f.digest f.blocks) (sym same_said) f.states

    -- the same record
    recorded_there : RecordOf u.frame (head_of u.frame before.flash.reads) f.held
    recorded_there = subst (λ (g : Frame). RecordOf g (head_of g before.flash.reads) f.held) (sym same_frame) f.recorded

    -- another verdict on the same offer
    is_verdict : (other : Judged) → IsJudged u.accepted.manifest.sequence f.digest f.held other → other ≡ verdict
    is_verdict other j =
        one_verdict f.accepted.manifest.sequence f.digest f.held verdict other f.is_judged (subst (λ (m : Manifest). IsJudged m.sequence f.digest f.held other) same_manifest j)

    leads : (other : Judged) (e : UpdateEnd) → IsEndOf other e → IsJudged u.accepted.manifest.sequence f.digest f.held other → IsEndOf verdict e ⊎ IsNoEnd e
    leads other e is j = inl (subst (λ v. IsEndOf v e) (is_verdict other j) is)

    by_end : (e : UpdateEnd) → UpdateEnds (offer u.frame u.layout u.key u.bytes u.accepted) uris launched now before after e → IsEndOf verdict e ⊎ IsNoEnd e
    by_end _ (IsLower recorded offered j) = leads (verdicts.Lower recorded offered) (ends.Lower recorded offered) refl (j f.held f.digest f.blocks recorded_there states)
    by_end _ (IsOther recorded offered j) = leads (verdicts.OtherDigest recorded offered) (ends.OtherDigest recorded offered) refl (j f.held f.digest f.blocks recorded_there states)
    by_end _ (IsWorn j) = leads verdicts.Worn ends.Worn refl (j f.held f.digest f.blocks recorded_there states)
    by_end _ (IsInstalled installed p) = leads verdicts.Accepted (ends.Installed installed) tt (p f.held f.digest f.blocks recorded_there states).0
    by_end _ (IsStopped place p) = leads verdicts.Accepted (ends.Condition place) tt (p f.held f.digest f.blocks recorded_there states).0
    by_end _ (IsFailed place cause p) = leads verdicts.Accepted (ends.Stopped place cause) tt (p f.held f.digest f.blocks recorded_there states).0
    by_end _ FlashFailed = inr tt
    by_end _ MemoryRanOut = inr tt

pub update_end_laws : OneAnswer → EnvelopeLaws → ManifestLaws → UpdateEndLaws
update_end_laws configs envelopes manifests = record {
  only = λ name uris before after end lines told flash launcher u. only name uris before.launcher after.launcher before.outside after.outside end lines flash u told launcher;
  judged = λ name uris before after end lines flash u. judged name uris before.launcher after.launcher before.outside after.outside end lines flash u;
  always = λ name uris before after end lines verdict told flash launcher f u.
      let caused = only name uris before.launcher after.launcher before.outside after.outside end lines flash u told launcher in
      by_end configs envelopes manifests name uris before.launcher after.launcher before.outside after.outside verdict told flash f end lines caused end caused.ends;
}
