-- The life of a flash, and which images are sound.
use Rattle.std.proofs.Common.{◌≡◌, inr, ⊎_elim, ℕ, zero, suc, List, [], ◌∷◌, length, get_or, Some, None, sym, ◌∙◌, subst, arith}
use Rattle.std.specs.List.{All, AllPairs}
use Rattle.std.proofs.lemmas.Bool.{cases_lt}
use Rattle.std.proofs.lemmas.List.{get_or_past}
use Rattle.std.proofs.lemmas.List.Kept.{AllPairs-cons}
use Rattle.flash_layout.specs.declared.frame.Frame.{Frame}
use Rattle.flash_layout.specs.declared.key.Key.{Key}
use Rattle.flash_layout.specs.declared.layout.Entry.{Entry}
use Rattle.flash_layout.specs.declared.slot.Record.{Record}
use Rattle.flash_layout.specs.ConfigLaws.{OneAnswer as OneConfigAnswer}
use Rattle.flash_layout.specs.Configs.{Blank, ConfigOf, Configured}
use Rattle.flash_layout.specs.Frames.{head_of}
use Rattle.suit_params.specs.declared.refusal.Refusal.{Refusal}
use Rattle.suit_envelope.specs.Said.{RefusesBytes}
use Rattle.rollback_record.specs.HeadRecord.{RecordOf}
use Rattle.rollback_record.specs.InstalledLaws.{InstalledLaw}
use Rattle.rollback_record.specs.RecordLaws.{OneAnswer}
use Rattle.rollback_record.specs.SoundFlash.{Follows, FollowsBlank, FollowsOn, IsInstalled, Sound, SoundBlank, SoundEmpty, SoundInstalled, recorded_bank}
use Rattle.rollback_record.specs.SoundLaws.{SoundLaws}
use Rattle.suit_cli.specs.LifeLaws.{AreZeros, Begins, HasRecorded, IsLife, LifeLaws, LivesOn, NeverLower, SoundnessLaws}

-- ---- zero bytes

zero_at : (image : List ℕ) → AreZeros image → (i : ℕ) → get_or image i 0 ≡ 0
zero_at image zeros i = ⊎_elim (λ lt. zeros i 0 lt) (λ le. get_or_past image i 0 le) (cases_lt i (length image))

pub zeros_sound : (image : List ℕ) → AreZeros image → Sound image
zeros_sound image zeros = SoundBlank (inr (λ opened. shut (sym (zero_at image zeros 0) ∙ opened), λ opened. shut (sym (zero_at image zeros 45056) ∙ opened))) where
  shut : ◌≡◌ {A = ℕ} 0 0xA5 → ⊥
  shut e = omega (arith, e)

-- ---- lives

module _ (laws : SoundLaws) where
  begins_sound : (image : List ℕ) → Begins image → Sound image
  begins_sound image begins = ⊎_elim (λ zeros. zeros_sound image zeros) (λ sound. sound) begins

  later_sound : (image : List ℕ) (later : List (List ℕ)) → LivesOn image later → All Sound later
  later_sound image [] lives k d lt = absurd (omega (arith, lt))
  later_sound image (next ∷ later) lives zero d lt = lives.0
  later_sound image (next ∷ later) lives (suc k) d lt = later_sound next later lives.2 k d (omega (arith, lt))

  each_sound : (images : List (List ℕ)) → IsLife images → All Sound images
  each_sound [] life k d lt = absurd (omega (arith, lt))
  each_sound (first ∷ later) life zero d lt = begins_sound first life.0
  each_sound (first ∷ later) life (suc k) d lt = later_sound first later life.1 k d (omega (arith, lt))

  all_follow : (image : List ℕ) (later : List (List ℕ)) → LivesOn image later → All (Follows image) later
  all_follow image [] lives k d lt = absurd (omega (arith, lt))
  all_follow image (next ∷ later) lives zero d lt = lives.1
  all_follow image (next ∷ later) lives (suc k) d lt =
      laws.onward image next _ lives.1 (all_follow next later lives.2 k d (omega (arith, lt)))

  pairs_from : (image : List ℕ) (later : List (List ℕ)) → LivesOn image later → AllPairs Follows (image ∷ later)
  pairs_from image [] lives = λ i j d lt within. absurd (omega (arith, lt, within))
  pairs_from image (next ∷ later) lives =
      AllPairs-cons Follows image (next ∷ later) (all_follow image (next ∷ later) lives) (pairs_from next later lives.2)

  each_follows : (images : List (List ℕ)) → IsLife images → AllPairs Follows images
  each_follows [] life = λ i j d lt within. absurd (omega (arith, within))
  each_follows (first ∷ later) life = pairs_from first later life.1

-- ---- the record

not_blank : (layout : List Entry) (key : Key) (frame : Frame) → Blank ≡ Configured layout key frame → ⊥
not_blank layout key frame same = grind (arith, same)

the_config : (a b : List Entry) (k l : Key) (f g : Frame) → Configured a k f ≡ Configured b l g → (a ≡ b) × (k ≡ l) × (f ≡ g)
the_config a b k l f g same = grind (arith, same)

never_lower : OneConfigAnswer → (a b : List ℕ) → Follows a b → NeverLower a b
never_lower configs a b (FollowsBlank blank) frame layout key r has =
    absurd (not_blank layout key frame (configs (length a) a Blank (Configured layout key frame) blank has.config))
never_lower configs a b (FollowsOn on) frame layout key r has =
    let same = the_config on.layout layout on.key key on.before frame (configs (length a) a (Configured on.layout on.key on.before) (Configured layout key frame) on.was has.config) in
    let later = on.later r (subst (λ (f : Frame). RecordOf f (head_of f a) (Some r)) (sym same.2) has.record_is) in (
      on.now,
      later.0,
      record {
        config = subst (λ (l : List Entry). ConfigOf (length b) b (Configured l key on.now)) same.0 (subst (λ (k : Key). ConfigOf (length b) b (Configured on.layout k on.now)) same.1 on.is);
        record_is = later.1;
      },
      later.2,
    )

pub life_laws : OneConfigAnswer → SoundLaws → LifeLaws
life_laws configs laws = record {
  sound = λ images life. each_sound laws images life;
  follows = λ images life. each_follows laws images life;
  numbers = λ images life i j d lt within. never_lower configs _ _ (each_follows laws images life i j d lt within);
}

-- ---- the record of a sound image

the_record : (a b : Record) → Some a ≡ Some b → a ≡ b
the_record a b same = grind (arith, same)

not_none : (r : Record) → None ≡ Some r → ⊥
not_none r same = grind (arith, same)

module _ (configs : OneConfigAnswer) (records : OneAnswer) (frame : Frame) (layout : List Entry) (key : Key) (r : Record) (image : List ℕ)
    (has : HasRecorded frame layout key r image) where
  abbrev bank : Record → List ℕ
  bank s = recorded_bank frame (head_of frame image) s

  pub installed_in : Sound image → IsInstalled layout key (bank r) r
  installed_in (SoundBlank is) = absurd (not_blank layout key frame (configs (length image) image Blank (Configured layout key frame) is has.config))
  installed_in (SoundEmpty other k f is none) =
      let same = the_config other layout k key f frame (configs (length image) image (Configured other k f) (Configured layout key frame) is has.config) in
      absurd (not_none r (records frame (head_of frame image) None (Some r) (subst (λ (g : Frame). RecordOf g (head_of g image) None) same.2 none) has.record_is))
  installed_in (SoundInstalled other k f s is held installed) =
      let same = the_config other layout k key f frame (configs (length image) image (Configured other k f) (Configured layout key frame) is has.config) in
      let one = the_record s r (records frame (head_of frame image) (Some s) (Some r) (subst (λ (g : Frame). RecordOf g (head_of g image) (Some s)) same.2 held) has.record_is) in
      subst (λ (t : Record). IsInstalled layout key (bank t) t) one
      (subst (λ (g : Frame). IsInstalled layout key (recorded_bank g (head_of g image) s) s) same.2
      (subst (λ (l : Key). IsInstalled layout l (recorded_bank f (head_of f image) s) s) same.1
      (subst (λ (l : List Entry). IsInstalled l k (recorded_bank f (head_of f image) s) s) same.0 installed)))

  spells_one : InstalledLaw → (why : Refusal) → RefusesBytes (bank r) why → Sound image → ⊥
  spells_one law why refuses sound = (law layout key (bank r) r (installed_in sound)).refused why refuses

pub soundness_laws : OneConfigAnswer → OneAnswer → SoundLaws → InstalledLaw → SoundnessLaws
soundness_laws configs records laws installed = record {
  zeros = zeros_sound;
  formatted = laws.formatted;
  installed = λ frame layout key r image has sound. installed_in configs records frame layout key r image has sound;
  no_envelope = λ frame layout key r image why has refuses sound. spells_one configs records frame layout key r image has installed why refuses sound;
}
