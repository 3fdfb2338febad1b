-- An image that tells the same as a sound one is sound, and goes on from it.
use Rattle.std.proofs.Common.{◌≡◌, List, ℕ, length, Option, None, Some, sym, subst, ◌∙◌, arith}
use Rattle.flash_layout.specs.declared.frame.Frame.{Frame}
use Rattle.flash_layout.specs.declared.key.Key.{Key}
use Rattle.flash_layout.specs.declared.layout.Entry.{Entry}
use Rattle.flash_layout.specs.declared.slot.Record.{Record}
use Rattle.flash_layout.specs.ConfigLaws.{OneAnswer}
use Rattle.flash_layout.specs.Configs.{Blank, Config, ConfigOf, Configured}
use Rattle.flash_layout.specs.Frames.{head_of}
use Rattle.suit_envelope.specs.Members.{string_like}
use Rattle.suit_params.specs.declared.digest.Digest.{Digest}
use Rattle.rollback_record.specs.HeadRecord.{RecordOf}
use Rattle.rollback_record.specs.Migrating.{HoldsAlike, IsSameRecord, NoRecord, OneRecord, IsSameInstallation}
use Rattle.rollback_record.specs.SoundFlash.{Follows, FollowsOn, IsInstalled, IsNoEarlier, Sound, SoundBlank, SoundEmpty, SoundInstalled, recorded_bank}
use Rattle.rollback_record.proofs.OneAnswers.{one_answer}

not_blank : (layout : List Entry) (key : Key) (frame : Frame) → ◌≡◌ {A = Config} (Configured layout key frame) Blank → ⊥
not_blank layout key frame e = cc

no_none : (r : Record) → ◌≡◌ {A = Option Record} (Some r) None → ⊥
no_none r e = cc

some_record : (r s : Record) → ◌≡◌ {A = Option Record} (Some r) (Some s) → r ≡ s
some_record r s e = cc

-- the same record, with the same bytes
installed_alike : (layout : List Entry) (key : Key) (bytes : List ℕ) (r s : Record) → IsSameRecord r s → IsInstalled layout key bytes r → IsInstalled layout key bytes s
installed_alike layout key bytes r s same is = record {
  wrapper = is.wrapper;
  manifest = is.manifest;
  said = is.said;
  are_bytes = is.are_bytes;
  spelled = is.spelled;
  envelope = is.envelope;
  says = is.says;
  authentic = is.authentic;
  number = same.sequence ∙ is.number;
  digest = subst (λ (d : Digest). d ≡ string_like d is.manifest) (sym same.digest) is.digest;
  components = is.components;
  safe = is.safe;
  narrow = is.narrow;
}

module _ (law : OneAnswer) (a : List ℕ) (layout : List Entry) (key : Key) (frame : Frame) (r : Record) (was : ConfigOf (length a) a (Configured layout key frame)) (held : RecordOf frame (head_of frame a) (Some r)) where
  -- what a sound image has installed
  installed_of : Sound a → IsInstalled layout key (recorded_bank frame (head_of frame a) r) r
  installed_of (SoundBlank blank) = absurd (not_blank layout key frame (law (length a) a (Configured layout key frame) Blank was blank))
  installed_of (SoundEmpty l k f config none) =
      let same : ◌≡◌ {A = Config} (Configured l k f) (Configured layout key frame) = law (length a) a (Configured l k f) (Configured layout key frame) config was in
      let frames : f ≡ frame = cc in
      absurd (no_none r (one_answer frame (head_of frame a) (Some r) None held (subst (λ (g : Frame). RecordOf g (head_of g a) None) frames none)))
  installed_of (SoundInstalled l k f s config is installed) =
      let same : ◌≡◌ {A = Config} (Configured l k f) (Configured layout key frame) = law (length a) a (Configured l k f) (Configured layout key frame) config was in
      let layouts : l ≡ layout = cc in
      let keys : k ≡ key = cc in
      let frames : f ≡ frame = cc in
      let records : s ≡ r = some_record s r (one_answer frame (head_of frame a) (Some s) (Some r) (subst (λ (g : Frame). RecordOf g (head_of g a) (Some s)) frames is) held) in
      let by_frame = subst (λ (g : Frame). IsInstalled l k (recorded_bank g (head_of g a) s) s) frames installed in
      let by_layout = subst (λ (m : List Entry). IsInstalled m k (recorded_bank frame (head_of frame a) s) s) layouts by_frame in
      let by_key = subst (λ (m : Key). IsInstalled layout m (recorded_bank frame (head_of frame a) s) s) keys by_layout in
      subst (λ (t : Record). IsInstalled layout key (recorded_bank frame (head_of frame a) t) t) records by_key

module _ (law : OneAnswer) (a b : List ℕ) (alike : IsSameInstallation a b) (sound : Sound a) where
  sound_by : HoldsAlike alike.frame (head_of alike.frame a) alike.there (head_of alike.there b) → Sound b
  sound_by (NoRecord none none_there) = SoundEmpty alike.layout alike.key alike.there alike.is none_there
  sound_by (OneRecord r s held held_there same bank) =
      SoundInstalled alike.layout alike.key alike.there s alike.is held_there
      (subst (λ (l : List ℕ). IsInstalled alike.layout alike.key l s) (sym bank) (installed_alike alike.layout alike.key (recorded_bank alike.frame (head_of alike.frame a) r) r s same (installed_of law a alike.layout alike.key alike.frame r alike.was held sound)))

  pub alike_sound : Sound b
  alike_sound = sound_by alike.held

-- ---- going on

no_earlier : (r s : Record) → IsSameRecord r s → IsNoEarlier r s
no_earlier r s same = record { number = omega (arith, same.sequence); same = λ e. sym same.digest }

module _ (a b : List ℕ) (alike : IsSameInstallation a b) where
  later : HoldsAlike alike.frame (head_of alike.frame a) alike.there (head_of alike.there b)
      → (r : Record) → RecordOf alike.frame (head_of alike.frame a) (Some r) → (s : Record) × RecordOf alike.there (head_of alike.there b) (Some s) × IsNoEarlier r s
  later (NoRecord none none_there) r held = absurd (no_none r (one_answer alike.frame (head_of alike.frame a) (Some r) None held none))
  later (OneRecord q s held_q held_s same bank) r held =
      let is : q ≡ r = some_record q r (one_answer alike.frame (head_of alike.frame a) (Some q) (Some r) held_q held) in
      (s, held_s, subst (λ (x : Record). IsNoEarlier x s) is (no_earlier q s same))

  pub alike_follows : Follows a b
  alike_follows =
      FollowsOn (record { layout = alike.layout; key = alike.key; before = alike.frame; now = alike.there; was = alike.was; is = alike.is; later = later alike.held })
