-- An update whose procedure completes.
use Rattle.std.proofs.Common.{◌≡◌, ◌⊎◌, inl, inr, ◌<◌, ℕ, List, length, get_or, Option, Some, None, refl, sym, ◌∙◌, ap, subst}
use Rattle.std.specs.Prelude.{IsTrue, IsSomeAnd, ◌^◌, ◌-◌}
use Rattle.suit_edge.specs.Faults.{Faulted}
use Rattle.suit_params.specs.declared.digest.Digest.{Digest}
use Rattle.suit_commands.specs.Tree.{PlanTree}
use Rattle.suit_envelope.specs.Envelopes.{EnvelopeSays}
use Rattle.suit_envelope.specs.WrapperParts.{WrapperSays}
use Rattle.suit_manifest.specs.declared.manifest.Manifest.{Manifest}
use Rattle.suit_manifest.specs.declared.manifest.Members.{Members}
use Rattle.suit_manifest.specs.Procedures.{update_tree}
use Rattle.path_model.specs.declared.cause.Cause.{Cause}
use Rattle.path_model.specs.declared.cause.Cause.TheVariants as causes
use Rattle.flash_layout.specs.declared.frame.Frame.{Frame}
use Rattle.flash_layout.specs.declared.key.Key.{Key}
use Rattle.flash_layout.specs.declared.layout.Entry.{Entry}
use Rattle.flash_layout.specs.declared.place.Places.{Places}
use Rattle.flash_layout.specs.declared.slot.Record.{Record}
use Rattle.flash_layout.specs.Frames.{head_of}
use Rattle.flash_slots.specs.RamContents.{Held, empty_ram}
use Rattle.rollback_record.specs.HeadRecord.{RecordOf}
use Rattle.rollback_record.specs.Judging.{IsAcceptable, IsNotBack}
use Rattle.step_machine.specs.declared.plan_end.PlanEnd.{PlanEnd}
use Rattle.step_machine.specs.declared.plan_end.PlanEnd.TheVariants as plays
use Rattle.step_machine.specs.declared.spot.Standing.{Standing}
use Rattle.step_machine.specs.Devices.{contents_of, device_at}
use Rattle.step_machine.specs.PlanRuns.{CountsFor, PlaysPlan, counts_of, setting_of}
use Rattle.step_machine.specs.Worlds.{IsChoice}
use Rattle.update_proc.specs.declared.update_end.UpdateEnd.{UpdateEnd}
use Rattle.update_proc.specs.declared.update_end.UpdateEnd.TheVariants as ends
use Rattle.update_proc.specs.Choices.{active_slots}
use Rattle.update_proc.specs.Moments.{KeepsContents, placed_on}
use Rattle.path_model.specs.Settings.{steady}
use Rattle.update_proc.specs.Updates.{PlaysUpdate, hosted, sources}
use Rattle.suit_cli.specs.Acceptance.{Accepted}
use Rattle.suit_cli.specs.Launching.{Launching}
use Rattle.suit_cli.specs.Outside.{Outside}
use Rattle.suit_cli.specs.Updating.{IsUpdate, new_of, offer}
use Rattle.completeness.specs.Outcomes.{AreTold, IsFaultless}
use Rattle.completeness.specs.Plays.{Completes, LeavesPlay}
use Rattle.completeness.specs.Updates.{Sets, play_of}
use Rattle.completeness.proofs.Leaving.{completes, leaves, never_condition, never_stops, same_contents}
use Rattle.completeness.proofs.SamePlaces.{AreSame, chosen_there, keeps_there, one_choice, one_standing, stand_there, turned}

-- nothing that a play depends on has changed
pub record SeesSame (b m : Outside) : Type 0 where
  pub told : m.told ≡ b.told
  pub files : m.files ≡ b.files
  pub faults : m.faults ≡ b.faults
  pub flash_told : m.flash.told ≡ b.flash.told
  pub reads : m.flash.reads ≡ b.flash.reads
  pub flash_faults : m.flash.faults ≡ b.flash.faults

-- ---- a judgement of an acceptable number and digest

module _ (sequence : ℕ) (digest : Digest) where
  not_lower : (held : Option Record) (recorded offered : ℕ) → IsAcceptable sequence digest held
      → IsSomeAnd held (λ r. (sequence < r.sequence) × (recorded ≡ r.sequence) × (offered ≡ sequence)) → ⊥
  not_lower None recorded offered ok bad = bad
  not_lower (Some r) recorded offered ok bad = ok.0.number bad.0

  not_other : (held : Option Record) (recorded offered : Digest) → IsAcceptable sequence digest held
      → IsSomeAnd held (λ r. (sequence ≡ r.sequence) × (digest ≡ r.digest → ⊥) × (recorded ≡ r.digest) × (offered ≡ digest)) → ⊥
  not_other None recorded offered ok bad = bad
  not_other (Some r) recorded offered ok bad = bad.1 (ok.0.same bad.0)

  not_worn : (held : Option Record) → IsAcceptable sequence digest held → IsSomeAnd held (λ r. IsNotBack sequence digest r × (r.generation ≡ 2 ^ 64 - 1)) → ⊥
  not_worn None ok bad = bad
  not_worn (Some r) ok bad = ok.1 bad.1

-- ---- an update

-- of what was found, in the same places as what is offered
module _ (layout : List Entry) (bytes : List ℕ) (s : EnvelopeSays) (m : Manifest) (x : Members) (p q : Places) (same : AreSame p q)
    (digest : Digest) (blocks : List (List ℕ)) (states : WrapperSays s.wrapper digest blocks) (inside : (k : ℕ) → k < p.count → get_or p.layout_index k 0 < length layout) (held : Option Record)
    (uris : List (List ℕ × List ℕ)) (l n : Launching) (b mid a : Outside) (sees : SeesSame b mid) (told : AreTold l b)
    (frame : Frame) (recorded : RecordOf frame (head_of frame b.flash.reads) held) where
  abbrev Offered : Accepted
  Offered = record { said = s; manifest = m; places = p; members = x }

  abbrev Found : Accepted
  Found = record { said = s; manifest = m; places = q; members = x }

  abbrev Tree : PlanTree
  Tree = update_tree m x

  mid_told : IsTrue mid.told
  mid_told = subst IsTrue (sym sees.told) told.host

  mid_flash_told : IsTrue mid.flash.told
  mid_flash_told = subst IsTrue (sym sees.flash_told) told.flash

  mid_recorded : RecordOf frame (head_of frame mid.flash.reads) held
  mid_recorded = subst (λ (r : List ℕ). RecordOf frame (head_of frame r) held) (sym sees.reads) recorded

  -- its record, where the flash read so before and these slots are in use
  abbrev new_on : List ℕ → List ℕ → Record
  new_on image numbers = new_of frame Offered held image digest numbers

  module _ (sets : Sets layout bytes Offered held) where
    -- the play on the chosen slots
    record Replayed (made : List ℕ) (play : PlanEnd) : Type 0 where
      pub ram : List Held
      pub choice : IsChoice layout (record { number = sets.numbers })
      pub plays_so : PlaysPlan Tree (setting_of sets.standings sets.payloads uris (steady b.files)) play
          (contents_of sets.standings (empty_ram layout) b.flash.reads) (contents_of sets.standings ram made) l.launches n.launches

    chosen_once : (numbers : List ℕ) → Rattle.update_proc.specs.Choices.AreChosen layout q Tree (active_slots held) numbers → numbers ≡ sets.numbers
    chosen_once numbers chosen = one_choice layout p Tree (active_slots held) sets.numbers numbers sets.chosen (chosen_there layout q p (turned p q same) Tree (active_slots held) numbers chosen)

    replayed : (made : List ℕ) (play : PlanEnd) → PlaysUpdate (placed_on frame layout q Tree) held (sources sets.payloads uris (hosted mid.told mid.files mid.asked a.asked)) (device_at mid.flash.reads l.launches) (device_at made n.launches) play → Replayed made play
    replayed made play u =
        let numbers = chosen_once u.numbers u.chosen in
        let standings : u.standings ≡ sets.standings = one_standing layout p (record { number = sets.numbers }) (record { number = u.numbers }) sets.standings u.standings
        (λ k lt. ap (λ (z : List ℕ). get_or z (get_or p.layout_index k 0) 0) numbers) sets.stand
        (stand_there layout q p (turned p q same) (record { number = u.numbers }) u.standings u.stand) in
        record {
          ram = u.ram;
          choice = subst (λ (z : List ℕ). IsChoice layout (record { number = z })) numbers u.choice;
          plays_so = subst (λ (f : List ℕ → Option (List ℕ)). PlaysPlan Tree (setting_of sets.standings sets.payloads uris (steady f)) play
              (contents_of sets.standings (empty_ram layout) b.flash.reads) (contents_of sets.standings u.ram made) l.launches n.launches) sees.files
              (subst (λ (r : List ℕ). PlaysPlan Tree (setting_of sets.standings sets.payloads uris (steady mid.files)) play
              (contents_of sets.standings (empty_ram layout) r) (contents_of sets.standings u.ram made) l.launches n.launches) sees.reads
              (subst (λ (t : List Standing). PlaysPlan Tree (setting_of t sets.payloads uris (steady mid.files)) play
              (contents_of t (empty_ram layout) mid.flash.reads) (contents_of t u.ram made) l.launches n.launches) standings
              (subst (λ (f : ℕ → List ℕ → Option (List ℕ)). PlaysPlan Tree (setting_of u.standings sets.payloads uris f) play
              (contents_of u.standings (empty_ram layout) mid.flash.reads) (contents_of u.standings u.ram made) l.launches n.launches) (u.gives (inl mid_told)) u.plays)));
        }

    -- ---- it was installed

    pub record InstalledSo (end : UpdateEnd) : Type 0 where
      pub is : end ≡ ends.Installed (new_on b.flash.reads sets.numbers)
      pub recorded_so : RecordOf frame (head_of frame a.flash.reads) (Some (new_on b.flash.reads sets.numbers))
      pub completed : Completes (play_of layout bytes Offered held sets uris b)
      pub left : LeavesPlay sets.standings (play_of layout bytes Offered held sets uris b) l.launches n.launches a.flash.reads
      pub others : KeepsContents layout p Tree sets.numbers b.flash.reads a.flash.reads

    pub installed_so : (key : Key) (r : Record) → IsUpdate (offer frame layout key bytes Found) uris l n mid a (ends.Installed r) → InstalledSo (ends.Installed r)
    installed_so key r u =
        let played = u.plays mid_flash_told told.launcher held digest blocks mid_recorded states sets.payloads sets.has in
        let again = replayed played.made plays.Done played.plays in
        let kept = u.left mid_flash_told held digest blocks mid_recorded states in
        let numbers = chosen_once kept.numbers kept.chosen in
        let new : new_on mid.flash.reads kept.numbers ≡ new_on b.flash.reads sets.numbers =
        ap (λ (z : List ℕ). new_on mid.flash.reads z) numbers ∙ ap (λ (z : List ℕ). new_on z sets.numbers) sees.reads in
        record {
          is = ap ends.Installed (kept.left.0 ∙ new);
          recorded_so = subst (λ (z : Record). RecordOf frame (head_of frame a.flash.reads) (Some z)) new kept.left.1;
          completed = completes Tree _ _ _ _ _ again.plays_so;
          left = leaves Tree _ _ _ _ _ sets.standings again.ram a.flash.reads
              (same_contents layout p (record { number = sets.numbers }) sets.standings played.made a.flash.reads again.ram inside again.choice sets.stand played.left) again.plays_so;
          others = subst (λ (z : List ℕ). KeepsContents layout p Tree sets.numbers z a.flash.reads) sees.reads
              (subst (λ (z : List ℕ). KeepsContents layout p Tree z mid.flash.reads a.flash.reads) numbers
              (keeps_there layout q p (turned p q same) Tree kept.numbers mid.flash.reads a.flash.reads kept.contents));
        }

    -- ---- or memory ran out

    pub record StarvedSo (end : UpdateEnd) : Type 0 where
      pub is : end ≡ ends.NoMemory
      pub launches : n.launches ≡ l.launches
      pub reads : a.flash.reads ≡ b.flash.reads

    -- ---- and nothing else, where no fault was counted

    module _ (acceptable : IsAcceptable m.sequence digest held) (done : Completes (play_of layout bytes Offered held sets uris b)) (faultless : IsFaultless l n b a) where
      -- a play that was stopped by itself is no play that completes
      module _ (place : ℕ) (cause : Cause) where
        abbrev Stopped : Type 0
        Stopped = (made : List ℕ) × PlaysUpdate (placed_on frame layout q Tree) held (sources sets.payloads uris (hosted mid.told mid.files mid.asked a.asked)) (device_at mid.flash.reads l.launches) (device_at made n.launches) (plays.DirectiveFailed place cause)

      never_by_itself : (place : ℕ) (cause : Cause) → Stopped place cause → CountsFor cause (counts_of mid.faults mid.flash.faults l.faults) (counts_of a.faults a.flash.faults n.faults) → ⊥
      never_by_itself place causes.Missing st c = never_stops _ place causes.Missing _ done (replayed st.0 (plays.DirectiveFailed place causes.Missing) st.1).plays_so.ends
      never_by_itself place causes.SelfCopy st c = never_stops _ place causes.SelfCopy _ done (replayed st.0 (plays.DirectiveFailed place causes.SelfCopy) st.1).plays_so.ends
      never_by_itself place causes.TooLarge st c = never_stops _ place causes.TooLarge _ done (replayed st.0 (plays.DirectiveFailed place causes.TooLarge) st.1).plays_so.ends
      never_by_itself place causes.Absent st c = never_stops _ place causes.Absent _ done (replayed st.0 (plays.DirectiveFailed place causes.Absent) st.1).plays_so.ends
      never_by_itself place causes.HostFault st c = faultless.host (subst (λ (z : ℕ). Faulted z a.faults) sees.faults c.0)
      never_by_itself place causes.FlashFault st c = faultless.flash (subst (λ (z : ℕ). Faulted z a.flash.faults) sees.flash_faults c.1)
      never_by_itself place causes.LaunchFault st c = faultless.launcher c.2

      pub way : (key : Key) (end : UpdateEnd) → IsUpdate (offer frame layout key bytes Found) uris l n mid a end → InstalledSo end ⊎ StarvedSo end
      way key (ends.Installed r) u = inl (installed_so key r u)
      way key ends.NoMemory u = inr (record {
        is = refl;
        launches = u.plays mid_flash_told told.launcher held digest blocks mid_recorded states sets.payloads sets.has;
        reads = u.left mid_flash_told held digest blocks mid_recorded states ∙ sees.reads;
      })
      way key (ends.Lower recorded_number offered) u =
          absurd (not_lower m.sequence digest held recorded_number offered acceptable (u.judged mid_flash_told held digest blocks mid_recorded states))
      way key (ends.OtherDigest recorded_digest offered) u =
          absurd (not_other m.sequence digest held recorded_digest offered acceptable (u.judged mid_flash_told held digest blocks mid_recorded states))
      way key ends.Worn u = absurd (not_worn m.sequence digest held acceptable (u.judged mid_flash_told held digest blocks mid_recorded states))
      way key (ends.Condition place) u =
          let played = u.plays mid_flash_told told.launcher held digest blocks mid_recorded states sets.payloads sets.has in
          absurd (never_condition Tree _ _ _ _ _ place done (replayed played.made (plays.ConditionFailed place) played.plays).plays_so)
      way key (ends.Stopped place cause) u =
          let played = u.plays mid_flash_told told.launcher held digest blocks mid_recorded states sets.payloads sets.has in
          absurd (never_by_itself place cause (played.made, played.plays) u.counts)
      way key ends.FlashFault u = absurd (faultless.flash (subst (λ (z : ℕ). Faulted z a.flash.faults) sees.flash_faults u.counts.1))
