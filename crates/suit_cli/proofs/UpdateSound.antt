-- An update of what was accepted: it may be installed, and each launch has its digest.
use Rattle.std.proofs.Common.{◌≡◌, inl, inr, ℕ, List, [], length, get_or, map, Option, Some, None, refl, sym, ◌∙◌, subst, append-nil, arith}
use Rattle.std.specs.List.{All}
use Rattle.suit_edge.specs.Flash.{Flash, Passes}
use Rattle.suit_edge.specs.declared.launch.Launch.{Launch}
use Rattle.suit_params.specs.declared.digest.Digest.{Digest}
use Rattle.suit_envelope.specs.Envelopes.{map_entries}
use Rattle.suit_envelope.specs.Payloads.{HasPayloads, integrated_payloads}
use Rattle.suit_envelope.specs.Trimmed.{trimmed}
use Rattle.suit_manifest.specs.ManifestLaws.{ManifestLaws}
use Rattle.suit_manifest.specs.Procedures.{update_tree}
use Rattle.path_model.specs.PlayLaws.{FaultedSafeLaunches, SafeLaunches}
use Rattle.flash_layout.specs.declared.frame.Frame.{Frame}
use Rattle.flash_layout.specs.declared.key.Key.{Key}
use Rattle.flash_layout.specs.declared.layout.Entry.{Entry}
use Rattle.flash_layout.specs.declared.slot.Record.{Record}
use Rattle.flash_layout.specs.ConfigLaws.{OneAnswer}
use Rattle.flash_layout.specs.Configs.{Blank, ConfigOf, Configured, IsAllowed}
use Rattle.flash_layout.specs.Frames.{head_of}
use Rattle.flash_layout.specs.Placement.{ArePlaces, HaveOtherPlaces}
use Rattle.flash_layout.specs.ToldFrames.{IsTold}
use Rattle.flash_layout.specs.declared.place.Places.{Places}
use Rattle.rollback_record.specs.SoundFlash.{HasEach}
use Rattle.flash_slots.specs.RamContents.{empty_ram}
use Rattle.rollback_record.specs.HeadRecord.{RecordOf}
use Rattle.rollback_record.specs.SoundFlash.{IsInstalled, Sound}
use Rattle.rollback_record.proofs.SoundBy.{SoundBy, BlankBy, EmptyBy, InstalledBy, sound_by}
use Rattle.step_machine.specs.Devices.{contents_of, device_at}
use Rattle.step_machine.specs.Invoking.{launched_as}
use Rattle.step_machine.specs.PlanRuns.{setting_of}
use Rattle.step_machine.specs.Worlds.{AreDistinct}
use Rattle.step_machine.specs.declared.plan_end.PlanEnd.{PlanEnd}
use Rattle.invoke_proc.specs.Booting.{GainsSafe}
use Rattle.step_machine.specs.Typing.{HasIdentifiers}
use Rattle.invoke_proc.proofs.Places.{are_distinct, are_identities}
use Rattle.invoke_proc.proofs.SoundBoot.{have_digests}
use Rattle.update_proc.specs.Choices.{AreChosen, active_slots}
use Rattle.update_proc.specs.Installing.{MayBeInstalled}
use Rattle.update_proc.specs.Moments.{placed_on}
use Rattle.update_proc.specs.Offered.{ForOffer}
use Rattle.update_proc.specs.Updates.{Hosted, LaunchesBy, PlaysUpdate, sources}
use Rattle.place_laws.specs.Installing.{InstalledAnywhere}
use Rattle.suit_cli.specs.Acceptance.{Accepted, Meets}
use Rattle.suit_cli.specs.Updating.{HasOffer, new_of}

-- components that have places are in the layout
has_each : (layout : List Entry) (ids : List (List (List ℕ))) (places : Places) → ArePlaces layout ids places → HasEach layout ids
has_each layout ids places are k d inside = (get_or places.layout_index k 0, are.each k d inside)

-- ---- the places of its components

module _ (manifests : ManifestLaws) (frame : Frame) (layout : List Entry) (key : Key) (bytes : List ℕ) (a : Accepted) (f : Meets frame layout key bytes a) (other : HaveOtherPlaces a.manifest.components a.places) where
  pub distinct : AreDistinct layout a.places
  distinct =
      let grammar = manifests.grammatical a.said.manifest_place f.says.item a.manifest f.says.says_so in
      are_distinct layout a.manifest.components a.places grammar.few grammar.apart f.placed other

-- ---- a sound flash with a configuration has a record, or none

the_layout : (a b : List Entry) (k l : Key) (f g : Frame) → Configured a k f ≡ Configured b l g → (a ≡ b) × (k ≡ l) × (f ≡ g)
the_layout a b k l f g same = grind (arith, same)

not_blank : (layout : List Entry) (key : Key) (frame : Frame) → Blank ≡ Configured layout key frame → ⊥
not_blank layout key frame same = grind (arith, same)

module _ (configs : OneAnswer) (frame : Frame) (layout : List Entry) (key : Key) (reads : List ℕ) (config : ConfigOf (length reads) reads (Configured layout key frame)) where
  one : (other : List Entry) (k : Key) (f : Frame) → ConfigOf (length reads) reads (Configured other k f) → (layout ≡ other) × (key ≡ k) × (frame ≡ f)
  one other k f is = the_layout layout other key k frame f (configs (length reads) reads (Configured layout key frame) (Configured other k f) config is)

  told : IsTold (length reads) reads frame
  told other k f is = sym (one other k f is).2

  of_cases : SoundBy frame reads → (held : Option Record) × RecordOf frame (head_of frame reads) held
  of_cases (BlankBy is) = absurd (not_blank layout key frame (configs (length reads) reads Blank (Configured layout key frame) is config))
  of_cases (EmptyBy other k is none) = (None, none)
  of_cases (InstalledBy other k r is held installed) = (Some r, held)

  some_record : Sound reads → (held : Option Record) × RecordOf frame (head_of frame reads) held
  some_record sound = of_cases (sound_by frame reads told sound)

  pub has_offer : (bytes : List ℕ) (a : Accepted) → Meets frame layout key bytes a → Sound reads → HasOffer frame reads a.said.wrapper
  has_offer bytes a f sound = let some = some_record sound in (some.0, f.authentic.digest, f.authentic.blocks, some.1, f.authentic.says)

  -- ---- it may be installed

  module _ (installs : InstalledAnywhere) (bytes : List ℕ) (a : Accepted) (f : Meets frame layout key bytes a) where
    abbrev stated : Digest
    stated = f.authentic.digest

    installed : (held : Option Record) (numbers : List ℕ) → IsInstalled layout key (trimmed a.said.wrapper a.said.manifest) (new_of frame a held reads stated numbers)
    installed held numbers = installs layout key bytes a.said (new_of frame a held reads stated numbers) f.envelope (record {
      place = a.said.manifest_place;
      said = a.manifest;
      says = f.says;
      authentic = f.authentic;
      number = refl;
      digest = (f.authentic.blocks, f.authentic.says);
      components = has_each layout a.manifest.components a.places f.placed;
      safe = f.are_safe.invocation_safe;
      narrow = f.invocation_narrow;
    })

    may_be : (held : Option Record) (numbers : List ℕ) → MayBeInstalled frame reads (trimmed a.said.wrapper a.said.manifest) (new_of frame a held reads stated numbers)
    may_be held numbers other k is =
        let same = one other k frame is in
        subst (λ (l : Key). IsInstalled other l (trimmed a.said.wrapper a.said.manifest) (new_of frame a held reads stated numbers)) same.1
        (subst (λ (l : List Entry). IsInstalled l key (trimmed a.said.wrapper a.said.manifest) (new_of frame a held reads stated numbers)) same.0 (installed held numbers))

    -- so each image is sound
    pub sound_update : (start now : Flash) → Sound reads
        → ForOffer frame reads a.said.wrapper (λ held digest.
        ((numbers : List ℕ) → AreChosen layout a.places (update_tree a.manifest a.members) (active_slots held) numbers
        → MayBeInstalled frame reads (trimmed a.said.wrapper a.said.manifest) (new_of frame a held reads digest numbers)) → Passes start now Sound)
        → Passes start now Sound
    sound_update start now sound offers =
        let some = some_record sound in
        offers some.0 stated f.authentic.blocks some.1 f.authentic.says (λ numbers chosen. may_be some.0 numbers)

-- ---- launches

gains_nothing : (launched now : List Launch) → now ≡ launched → GainsSafe launched now
gains_nothing launched now same = record { gained = []; added = same ∙ sym (append-nil launched); safe = tt }

module _ (safe : SafeLaunches) (faulted : FaultedSafeLaunches) (manifests : ManifestLaws) (size : ℕ) (frame : Frame) (layout : List Entry) (key : Key) (allowed : IsAllowed frame size layout key)
    (typed : All HasIdentifiers layout) (bytes : List ℕ) (a : Accepted) (f : Meets frame layout key bytes a) (other : HaveOtherPlaces a.manifest.components a.places)
    (uris : List (List ℕ × List ℕ)) (host : Hosted) (before : List ℕ) (launched now : List Launch) where
  abbrev payloads : List (List ℕ × List ℕ)
  payloads = integrated_payloads (map_entries f.envelope.says_so.map)

  pub has_payloads : HasPayloads bytes payloads
  has_payloads = record { said = a.said; envelope = f.envelope; are = refl }

  abbrev Plays : Option Record → List ℕ → PlanEnd → Type 0
  Plays held made end = PlaysUpdate (placed_on frame layout a.places (update_tree a.manifest a.members)) held (sources payloads uris host) (device_at before launched) (device_at made now) end

  gains_played : (held : Option Record) (made : List ℕ) (end : PlanEnd) → Plays held made end → GainsSafe launched now
  gains_played held made end p = record {
    gained = p.plays.gained;
    added = p.plays.added;
    safe =
        have_digests safe faulted (update_tree a.manifest a.members) (setting_of p.standings payloads uris p.given) (contents_of p.standings (empty_ram layout) before) f.are_safe.update_safe
        (are_identities frame size layout allowed.layout_is a.places (record { number = p.numbers }) p.standings typed (distinct manifests frame layout key bytes a f other) p.choice p.stand
        (update_tree a.manifest a.members) (sym f.placed.count ∙ sym p.stand.count))
        (record { contents = contents_of p.standings p.ram made; launches = map launched_as p.plays.gained; asked = p.plays.asks }) end p.plays.ends;
  }

  of_launches : LaunchesBy frame Plays before launched now → GainsSafe launched now
  of_launches (inl same) = gains_nothing launched now same
  of_launches (inr (held, is, made, end, play)) = gains_played held made end play

  -- whatever payloads it is said of
  pub gains_update : ((p : List (List ℕ × List ℕ)) → HasPayloads bytes p
      → LaunchesBy frame (λ held made end. PlaysUpdate (placed_on frame layout a.places (update_tree a.manifest a.members)) held (sources p uris host) (device_at before launched) (device_at made now) end) before launched now)
      → GainsSafe launched now
  gains_update launches = of_launches (launches payloads has_payloads)
