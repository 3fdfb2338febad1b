-- `run update` is done exactly where it has what it needs.
use Rattle.std.proofs.Common.{◌≡◌, ◌⊎◌, inl, inr, ⊎_elim, ◌<◌, ℕ, List, [], length, get_or, Option, Some, refl, sym, ◌∙◌, ap, subst, arith}
use Rattle.std.specs.Prelude.{IsTrue}
use Rattle.suit_envelope.specs.Envelopes.{EnvelopeSays}
use Rattle.suit_envelope.specs.EnvelopeLaws.{EnvelopeLaws}
use Rattle.suit_envelope.specs.Payloads.{HasPayloads}
use Rattle.suit_manifest.specs.declared.manifest.Manifest.{Manifest}
use Rattle.suit_manifest.specs.declared.manifest.Members.{Members}
use Rattle.suit_manifest.specs.ManifestLaws.{ManifestLaws}
use Rattle.suit_manifest.specs.MembersApart.{HasMembers}
use Rattle.suit_manifest.specs.MembersLaws.{MembersLaws}
use Rattle.flash_layout.specs.declared.frame.Frame.{Frame}
use Rattle.flash_layout.specs.declared.key.Key.{Key}
use Rattle.flash_layout.specs.declared.layout.Entry.{Entry}
use Rattle.flash_layout.specs.declared.place.Places.{Places}
use Rattle.flash_layout.specs.declared.slot.Record.{Record}
use Rattle.flash_layout.specs.ConfigLaws.{OneAnswer}
use Rattle.flash_layout.specs.Configs.{Configured}
use Rattle.flash_layout.specs.Frames.{head_of}
use Rattle.flash_layout.specs.Layouts.{IsLayout}
use Rattle.flash_layout.specs.Placement.{ArePlaces}
use Rattle.rollback_record.specs.HeadRecord.{RecordOf}
use Rattle.rollback_record.specs.RecordLaws.{SomeAnswer}
use Rattle.update_proc.specs.declared.update_end.UpdateEnd.{UpdateEnd}
use Rattle.update_proc.specs.declared.update_end.UpdateEnd.TheVariants as ends
use Rattle.suit_cli.specs.Acceptance.{Accepted, IsAccepted}
use Rattle.suit_cli.specs.Coming.{Answered, ByBoot, ByStages, ByUpdate, Ended, Updated, ended_status}
use Rattle.suit_cli.specs.Envelopes.{ManifestOf}
use Rattle.suit_cli.specs.Inputs.{IsRead, longest_file}
use Rattle.suit_cli.specs.Launching.{Launching}
use Rattle.suit_cli.specs.Outside.{Flashed, Files, Outside}
use Rattle.suit_cli.specs.Program.{ComesTo, answers}
use Rattle.suit_cli.specs.Stages.{Ending, FaultOf, NoMemory, Says}
use Rattle.suit_cli.specs.Surroundings.{seen}
use Rattle.suit_cli.specs.UpdateLaws.{UpdateLaws}
use Rattle.suit_cli.specs.Updating.{IsUpdate, Updates, update_line, update_status, offer}
use Rattle.suit_cli.specs.Words.{Named, RunBoot, RunUpdate, pairs_of, task_of}
use Rattle.invoke_proc.proofs.Booted.{payloads_in}
use Rattle.suit_cli.specs.Statuses.{ending_status}
use Rattle.suit_cli.proofs.Running.{Declining, status_done}
use Rattle.suit_cli.proofs.UpdateEnds.{cause_not_low}
use Rattle.completeness.specs.CompletenessLaws.{AsksUpdate}
use Rattle.suit_cli.proofs.AcceptedFacts.{began, facts}
use Rattle.suit_cli.proofs.OneStage.{one_envelope, one_manifest, one_members, one_read}
use Rattle.suit_cli.proofs.TaskAnswers.{does_of}
use Rattle.completeness.specs.Outcomes.{AreTold, IsFaultless, LeavesFlash}
use Rattle.completeness.specs.Updates.{Installs, Meets, Offers, ReadyToUpdate, Sets, record_for}
use Rattle.completeness.proofs.Leaving.{starved_leaves}
use Rattle.completeness.proofs.Begun.{never_fault, two_faults}
use Rattle.completeness.proofs.SamePlaces.{AreSame, same_places}
use Rattle.completeness.proofs.UpdatePlayed.{InstalledSo, SeesSame, installed_so, way}

pub configured_once : (l m : List Entry) (k n : Key) (f g : Frame) → Configured l k f ≡ Configured m n g → (l ≡ m) × (k ≡ n) × (f ≡ g)
configured_once l m k n f g same = grind (arith, same)

task_once : (x y : List ℕ) (us vs : List Named) → Some (RunUpdate x us) ≡ Some (RunUpdate y vs) → (x ≡ y) × (us ≡ vs)
task_once x y us vs same = grind (arith, same)

pub inside_there : (layout : List Entry) (ids : List (List (List ℕ))) (p : Places) → ArePlaces layout ids p → (k : ℕ) → k < p.count → get_or p.layout_index k 0 < length layout
inside_there layout ids p are k lt = (are.each k [] (omega (arith, lt, are.count))).0

-- ---- the update found the outside as it was

module _ (name : List ℕ) (uris : List (List ℕ × List ℕ)) (l n : Launching) (b a : Outside) (end : UpdateEnd) (lines : List ℕ) (u : Updates name uris (seen b l) (seen a n) end lines) (told : AreTold l b) where
  still_told : u.configured.told ≡ b.told
  still_told = ap (λ (o : Outside). o.told) u.held.0.beside

  still_files : u.configured.files ≡ b.files
  still_files = ap (λ (o : Outside). o.files) u.held.0.beside

  pub sees : SeesSame b u.middle
  sees = record {
    told = u.read.0.quiet.told ∙ still_told;
    files = u.read.0.quiet.files (subst IsTrue (sym still_told) told.host) ∙ still_files;
    faults = u.read.0.faults ∙ ap (λ (o : Outside). o.faults) u.held.0.beside;
    flash_told = ap (λ (f : Flashed). f.told) u.read.0.flash ∙ u.held.0.still.told;
    reads = ap (λ (f : Flashed). f.reads) u.read.0.flash ∙ u.held.0.still.reads told.flash;
    flash_faults = ap (λ (f : Flashed). f.faults) u.read.0.flash ∙ u.held.0.faults;
  }

  pub read_there : IsRead longest_file name b u.o.bytes
  read_there = record {
    holds = λ t. ap (λ (f : Files). f name) (sym still_files) ∙ u.read.1.holds (subst IsTrue (sym still_told) told.host);
    fits = u.read.1.fits;
  }

  pub files_left : a.files ≡ b.files
  files_left = u.update.alone.files (subst IsTrue (sym sees.told) told.host) ∙ sees.files

-- ---- one thing is accepted

module _ (envelopes : EnvelopeLaws) (manifests : ManifestLaws) (members : MembersLaws) (frame : Frame) (layout : List Entry) (key : Key) (bytes : List ℕ) (b : Outside) (told : IsTrue b.told)
    (x y : Accepted) (f : Meets frame layout key bytes x) (g : Meets frame layout key bytes y) where
  pub same_said : y.said ≡ x.said
  same_said = (one_envelope envelopes bytes).value x.said y.said (f.are_bytes, f.envelope) (g.are_bytes, g.envelope)

  pub same_manifest : y.manifest ≡ x.manifest
  same_manifest = (one_manifest envelopes manifests bytes x.said f.envelope).value x.manifest y.manifest f.says (subst (λ (s : EnvelopeSays). ManifestOf s y.manifest) same_said g.says)

  pub same_members : y.members ≡ x.members
  same_members =
      (one_members members bytes x.said x.manifest f.envelope).value x.members y.members f.members
      (subst (λ (m : Manifest). HasMembers x.said m y.members) same_manifest (subst (λ (s : EnvelopeSays). HasMembers s y.manifest y.members) same_said g.members))

-- ---- done, where it is ready

module _ (configs : OneAnswer) (envelopes : EnvelopeLaws) (manifests : ManifestLaws) (members : MembersLaws) (laws : UpdateLaws) where
  module _ (words : List (List ℕ)) (l n : Launching) (b a : Outside) (ready : ReadyToUpdate words l b) where
    abbrev O : Offers ready.name b
    O = ready.offers

    module _ (end : UpdateEnd) (lines : List ℕ) (u : Updates ready.name (pairs_of ready.uris) (seen b l) (seen a n) end lines) where
      config : (u.o.layout ≡ O.layout) × (u.o.key ≡ O.key) × (u.o.frame ≡ O.frame)
      config = configured_once u.o.layout O.layout u.o.key O.key u.o.frame O.frame (configs b.flash.size b.flash.reads (Configured u.o.layout u.o.key u.o.frame) (Configured O.layout O.key O.frame)
          (u.held.1 ready.told.flash) (O.configured ready.told.flash))

      same_bytes : u.o.bytes ≡ O.bytes
      same_bytes = one_read longest_file ready.name b ready.told.host O.bytes u.o.bytes O.read (read_there ready.name (pairs_of ready.uris) l n b a end lines u ready.told)

      accepted_there : IsAccepted O.frame O.layout O.key O.bytes u.o.accepted
      accepted_there =
          subst (λ (z : List ℕ). IsAccepted O.frame O.layout O.key z u.o.accepted) same_bytes
          (subst (λ (z : Key). IsAccepted O.frame O.layout z u.o.bytes u.o.accepted) config.1
          (subst (λ (z : List Entry). IsAccepted O.frame z u.o.key u.o.bytes u.o.accepted) config.0 (subst (λ (z : Frame). IsAccepted z u.o.layout u.o.key u.o.bytes u.o.accepted) config.2 u.is_accepted)))

      f : Meets O.frame O.layout O.key O.bytes O.accepted
      f = facts O.frame O.layout O.key O.bytes O.accepted O.is_accepted

      g : Meets O.frame O.layout O.key O.bytes u.o.accepted
      g = facts O.frame O.layout O.key O.bytes u.o.accepted accepted_there

      manifest_is : u.o.accepted.manifest ≡ O.accepted.manifest
      manifest_is = same_manifest envelopes manifests members O.frame O.layout O.key O.bytes b ready.told.host O.accepted u.o.accepted f g

      abbrev Update : Accepted → Type 0
      Update z = IsUpdate (offer O.frame O.layout O.key O.bytes z) (pairs_of ready.uris) l n u.middle a end

      update_there : Update (record { said = O.accepted.said; manifest = O.accepted.manifest; places = u.o.accepted.places; members = O.accepted.members })
      update_there =
          let v = u.o.accepted in
          let o = O.accepted in
          subst (λ (z : Members). Update (record { said = o.said; manifest = o.manifest; places = v.places; members = z }))
          (same_members envelopes manifests members O.frame O.layout O.key O.bytes b ready.told.host o v f g)
          (subst (λ (z : Manifest). Update (record { said = o.said; manifest = z; places = v.places; members = v.members })) manifest_is
          (subst (λ (z : EnvelopeSays). Update (record { said = z; manifest = v.manifest; places = v.places; members = v.members }))
          (same_said envelopes manifests members O.frame O.layout O.key O.bytes b ready.told.host o v f g)
          (subst (λ (z : List ℕ). IsUpdate (offer O.frame O.layout O.key z v) (pairs_of ready.uris) l n u.middle a end) same_bytes
          (subst (λ (z : Key). IsUpdate (offer O.frame O.layout z u.o.bytes v) (pairs_of ready.uris) l n u.middle a end) config.1
          (subst (λ (z : List Entry). IsUpdate (offer O.frame z u.o.key u.o.bytes v) (pairs_of ready.uris) l n u.middle a end) config.0
          (subst (λ (z : Frame). IsUpdate (offer z u.o.layout u.o.key u.o.bytes v) (pairs_of ready.uris) l n u.middle a end) config.2 u.update))))))

      layout_is : IsLayout O.frame b.flash.size O.layout
      layout_is = (O.configured ready.told.flash).page.allowed

      same_there : AreSame O.accepted.places u.o.accepted.places
      same_there = same_places O.frame b.flash.size O.layout layout_is O.accepted.manifest.components O.accepted.places u.o.accepted.places f.placed
          (subst (λ (z : Manifest). ArePlaces O.layout z.components u.o.accepted.places) manifest_is g.placed)

      installs : InstalledSo O.layout O.bytes O.accepted.said O.accepted.manifest O.accepted.members O.accepted.places u.o.accepted.places same_there O.digest O.stated.0 O.stated.1
          (inside_there O.layout O.accepted.manifest.components O.accepted.places f.placed) O.held (pairs_of ready.uris) l n b u.middle a
          (sees ready.name (pairs_of ready.uris) l n b a end lines u ready.told) ready.told O.frame O.recorded ready.sets end → Installs words l b ready n a (Updated end lines)
      installs i =
          let new = record_for ready.name b O ready.sets.numbers in
          let line : lines ≡ update_line O.accepted.manifest.sequence (ends.Installed new) =
          u.lines_are ∙ ap (λ (z : Manifest). update_line z.sequence end) manifest_is ∙ ap (λ (z : UpdateEnd). update_line O.accepted.manifest.sequence z) i.is in
          record {
            ended_is = ap (λ (z : UpdateEnd). Updated z lines) i.is ∙ ap (λ (z : List ℕ). Updated (ends.Installed new) z) line;
            recorded = i.recorded_so;
            left = i.left;
            others = i.others;
            files = files_left ready.name (pairs_of ready.uris) l n b a end lines u ready.told;
          }

      of_update : IsFaultless l n b a → Installs words l b ready n a (Updated end lines) ⊎ LeavesFlash l n b a (Updated end lines)
      of_update faultless =
          ⊎_elim (λ i. inl (installs i))
          (λ starved. inr (record {
            lacks = record {
              status = ap update_status starved.is;
              line = u.lines_are ∙ ap (λ (z : UpdateEnd). update_line u.o.accepted.manifest.sequence z) starved.is;
              launches = starved.launches;
              files = files_left ready.name (pairs_of ready.uris) l n b a end lines u ready.told;
            };
            reads = starved.reads;
          }))
          (way O.layout O.bytes O.accepted.said O.accepted.manifest O.accepted.members O.accepted.places u.o.accepted.places same_there O.digest O.stated.0 O.stated.1
          (inside_there O.layout O.accepted.manifest.components O.accepted.places f.placed) O.held (pairs_of ready.uris) l n b u.middle a
          (sees ready.name (pairs_of ready.uris) l n b a end lines u ready.told) ready.told O.frame O.recorded ready.sets O.acceptable ready.completes faultless O.key end update_there)

    of_stages : (e : Ending) → answers words b a e → n ≡ l → IsFaultless l n b a → Installs words l b ready n a (Answered e) ⊎ LeavesFlash l n b a (Answered e)
    of_stages (Says reply) answer same faultless =
        absurd (laws.accepted ready.name b a (O.layout, O.key, O.frame) O.bytes O.accepted reply ready.told.host ready.told.flash O.configured O.read O.is_accepted
        (does_of words b a reply (RunUpdate ready.name ready.uris) ready.asks answer))
    of_stages (FaultOf object) answer same faultless = absurd (never_fault words l n b a (FaultOf object) answer tt faultless)
    of_stages NoMemory answer same faultless = inr (starved_leaves words l n b a ready.told answer same)

    pub update_completes : (ended : Ended) → IsFaultless l n b a → ComesTo words l n b a ended → Installs words l b ready n a ended ⊎ LeavesFlash l n b a ended
    update_completes _ faultless (ByStages e answer same) = of_stages e answer same faultless
    update_completes _ faultless (ByBoot end lines word boots) = let never : Some RunBoot ≡ Some (RunUpdate ready.name ready.uris) = sym word ∙ ready.asks in absurd cc
    update_completes _ faultless (ByUpdate name uris end lines word updates) =
        let task = task_once name ready.name uris ready.uris (sym word ∙ ready.asks) in
        of_update end lines (subst (λ (z : List Named). Updates ready.name (pairs_of z) (seen b l) (seen a n) end lines) task.1
        (subst (λ (z : List ℕ). Updates z (pairs_of uris) (seen b l) (seen a n) end lines) task.0 updates)) faultless

  -- ---- and only there

  module _ (records : SomeAnswer) (words : List (List ℕ)) (l n : Launching) (b a : Outside) (told : AreTold l b) where
    module _ (name : List ℕ) (uris : List Named) (r : Record) (lines : List ℕ) (u : Updates name (pairs_of uris) (seen b l) (seen a n) (ends.Installed r) lines) (word : task_of words ≡ Some (RunUpdate name uris)) where
      abbrev V : Accepted
      V = u.o.accepted

      -- the record that the flash has
      abbrev held : Option Record
      held = (records u.o.frame (head_of u.o.frame b.flash.reads)).0

      recorded : RecordOf u.o.frame (head_of u.o.frame b.flash.reads) held
      recorded = (records u.o.frame (head_of u.o.frame b.flash.reads)).1

      h : Meets u.o.frame u.o.layout u.o.key u.o.bytes V
      h = facts u.o.frame u.o.layout u.o.key u.o.bytes V u.is_accepted

      itself : AreSame V.places V.places
      itself = record { count = refl; each = λ k lt. refl }

      same : SeesSame b u.middle
      same = sees name (pairs_of uris) l n b a (ends.Installed r) lines u told

      middle_told : IsTrue u.middle.told
      middle_told = subst IsTrue (sym same.told) told.host

      middle_flash_told : IsTrue u.middle.flash.told
      middle_flash_told = subst IsTrue (sym same.flash_told) told.flash

      recorded_there : RecordOf u.o.frame (head_of u.o.frame u.middle.flash.reads) held
      recorded_there = subst (λ (z : List ℕ). RecordOf u.o.frame (head_of u.o.frame z) held) (sym same.reads) recorded

      offers : Offers name b
      offers = record {
        layout = u.o.layout;
        key = u.o.key;
        frame = u.o.frame;
        configured = u.held.1;
        bytes = u.o.bytes;
        read = read_there name (pairs_of uris) l n b a (ends.Installed r) lines u told;
        accepted = V;
        is_accepted = u.is_accepted;
        digest = h.authentic.digest;
        stated = (h.authentic.blocks, h.authentic.says);
        held = held;
        recorded = recorded;
        acceptable = u.update.judged middle_flash_told held h.authentic.digest h.authentic.blocks recorded_there h.authentic.says;
      }

      payloads : (list : List (List ℕ × List ℕ)) × HasPayloads u.o.bytes list
      payloads = payloads_in u.o.bytes V.said h.envelope

      sets : Sets u.o.layout u.o.bytes V held
      sets =
          let played = (u.update.plays middle_flash_told told.launcher held h.authentic.digest h.authentic.blocks recorded_there h.authentic.says payloads.0 payloads.1).plays in
          record { numbers = played.numbers; chosen = played.chosen; standings = played.standings; stand = played.stand; payloads = payloads.0; has = payloads.1 }

      installed_there : InstalledSo u.o.layout u.o.bytes V.said V.manifest V.members V.places V.places itself h.authentic.digest h.authentic.blocks h.authentic.says
          (inside_there u.o.layout V.manifest.components V.places h.placed) held (pairs_of uris) l n b u.middle a same told u.o.frame recorded sets (ends.Installed r)
      installed_there = installed_so u.o.layout u.o.bytes V.said V.manifest V.members V.places V.places itself h.authentic.digest h.authentic.blocks h.authentic.says
          (inside_there u.o.layout V.manifest.components V.places h.placed) held (pairs_of uris) l n b u.middle a same told u.o.frame recorded sets u.o.key r u.update

      was_ready : ReadyToUpdate words l b
      unfolding offers
      was_ready = record { name = name; uris = uris; asks = word; told = told; offers = offers; sets = sets; completes = installed_there.completed }

      was_installed : Installs words l b was_ready n a (Updated (ends.Installed r) lines)
      unfolding offers was_ready
      was_installed = record {
        ended_is = ap (λ (z : List ℕ). Updated (ends.Installed r) z) u.lines_are
            ∙ ap (λ (z : UpdateEnd). Updated z (update_line V.manifest.sequence (ends.Installed r))) installed_there.is;
        recorded = installed_there.recorded_so;
        left = installed_there.left;
        others = installed_there.others;
        files = files_left name (pairs_of uris) l n b a (ends.Installed r) lines u told;
      }

    of_end : (name : List ℕ) (uris : List Named) (end : UpdateEnd) (lines : List ℕ) → Updates name (pairs_of uris) (seen b l) (seen a n) end lines → task_of words ≡ Some (RunUpdate name uris) → update_status end ≡ 0
        → (ready : ReadyToUpdate words l b) × Installs words l b ready n a (Updated end lines)
    of_end name uris (ends.Installed r) lines u word zero = (was_ready name uris r lines u word, was_installed name uris r lines u word)
    of_end name uris (ends.Lower recorded_number offered) lines u word zero = absurd (omega (arith, zero))
    of_end name uris (ends.OtherDigest recorded_digest offered) lines u word zero = absurd (omega (arith, zero))
    of_end name uris ends.Worn lines u word zero = absurd (omega (arith, zero))
    of_end name uris (ends.Condition place) lines u word zero = absurd (omega (arith, zero))
    of_end name uris (ends.Stopped place cause) lines u word zero = absurd (cause_not_low cause 0 zero (omega arith))
    of_end name uris ends.FlashFault lines u word zero = absurd (omega (arith, zero))
    of_end name uris ends.NoMemory lines u word zero = absurd (omega (arith, zero))

    never_stages : (name : List ℕ) (uris : List Named) (e : Ending) → task_of words ≡ Some (RunUpdate name uris) → answers words b a e → ending_status e ≡ 0 → ⊥
    never_stages name uris (Says reply) word answer zero =
        let done = status_done reply.outcome zero in
        ⊎_elim (λ d. subst Declining done d) (λ x. let never = sym done ∙ x.unsafe.outcome_is in cc) (began name b a reply (does_of words b a reply (RunUpdate name uris) word answer))
    never_stages name uris (FaultOf object) word answer zero = ⊎_elim (λ e. omega (arith, e, zero)) (λ e. omega (arith, e, zero)) (two_faults (FaultOf object) tt)
    never_stages name uris NoMemory word answer zero = omega (arith, zero)

    pub only_update : (ended : Ended) → AsksUpdate words b → ComesTo words l n b a ended → ended_status ended ≡ 0 → (ready : ReadyToUpdate words l b) × Installs words l b ready n a ended
    only_update _ asks (ByStages e answer same) zero = absurd (never_stages asks.0 asks.1 e asks.2 answer zero)
    only_update _ asks (ByBoot end lines word boots) zero = let never : Some RunBoot ≡ Some (RunUpdate asks.0 asks.1) = sym word ∙ asks.2 in absurd cc
    only_update _ asks (ByUpdate name uris end lines word updates) zero = of_end name uris end lines updates word zero
