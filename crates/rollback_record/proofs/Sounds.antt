-- Sound flashes: what a commit and a formatting leave.
use Rattle.std.proofs.Common.{◌≡◌, ◌≢◌, ◌⊎◌, inl, inr, ⊎_elim, ◌<◌, ◌≤◌, ℕ, ◌+◌, List, length, get_or, Option, Some, None, IfSome, refl, sym, ◌∙◌, ap, subst, arith}
use Rattle.std.proofs.lemmas.Bool.{cases_eq}
use Rattle.std.proofs.lemmas.List.Edits.{get_or-between}
use Rattle.suit_edge.specs.Ranges.{Outside}
use Rattle.suit_edge.specs.RangeLaws.{same_range}
use Rattle.flash_layout.specs.declared.frame.Frame.{Frame}
use Rattle.flash_layout.specs.declared.key.Key.{Key}
use Rattle.flash_layout.specs.declared.layout.Entry.{Entry}
use Rattle.flash_layout.specs.declared.slot.Record.{Record}
use Rattle.flash_layout.specs.ConfigLaws.{OneAnswer}
use Rattle.flash_layout.specs.ConfigPage.{IsConfigPage}
use Rattle.flash_layout.specs.Configs.{Config, ConfigOf, Blank, Configured}
use Rattle.flash_layout.specs.Formats.{IsFormatted}
use Rattle.flash_layout.specs.FrameFacts.{FrameFacts, bank_high, bank_there, facts}
use Rattle.flash_layout.specs.FirstFrame.{has_room}
use Rattle.flash_layout.specs.Frames.{HasNoRecord, IsFrame, bank_of, bank_place, bank_size, config_page_of, head_of, head_size, record_from, record_place}
use Rattle.flash_layout.specs.Roots.{frame_by, frame_told}
use Rattle.rollback_record.specs.Committing.{InHead}
use Rattle.rollback_record.specs.HeadRecord.{Counts, RecordOf}
use Rattle.rollback_record.specs.RecordPage.{record_length}
use Rattle.rollback_record.specs.SoundFlash.{Follows, FollowsBlank, FollowsOn, IsInstalled, IsNoEarlier, Sound, SoundBlank, SoundEmpty, SoundInstalled, recorded_bank}
use Rattle.rollback_record.specs.SoundLaws.{HasNewInRange, IsCommitted, IsInstalledFor, TellsFrame}
use Rattle.rollback_record.proofs.OneAnswers.{one_answer}
use Rattle.rollback_record.proofs.HeadPlaces.{tells_head, tells_outside}
use Rattle.rollback_record.proofs.Pages.{config_same}
use Rattle.rollback_record.proofs.Widths.{most_few}
use Rattle.rollback_record.proofs.SoundBy.{SoundBy, BlankBy, EmptyBy, InstalledBy, sound_by}

-- ---- no record

gate_of : (frame : Frame) (head : List ℕ) (w : ℕ) (r : Record) → Counts frame head w r → get_or head (record_from frame w) 0 ≡ 0xA5
gate_of frame head w r is =
    let at : record_from frame w + 0 ≡ record_from frame w = omega arith in
    ap (λ (k : ℕ). get_or head k 0) (sym at) ∙ sym (get_or-between head (record_from frame w) (record_from frame w + record_length frame) 0 0 (omega arith)) ∙ ap (λ (l : List ℕ). get_or l 0 0) is.page.bytes

pub no_record : (frame : Frame) (head : List ℕ) → HasNoRecord frame head → RecordOf frame head None
no_record frame head closed which r few is = ⊎_elim
    (λ e. closed.0 (gate_of frame head 0 r (subst (λ (k : ℕ). Counts frame head k r) e is)))
    (λ ne. closed.1 (gate_of frame head 1 r (subst (λ (k : ℕ). Counts frame head k r) (one ne) is)))
    (cases_eq which 0)
  where
    one : which ≢ 0 → which ≡ 1
    one ne = omega (arith, ne, few)

pub formatted : (frame : Frame) (layout : List Entry) (key : Key) (image : List ℕ) → IsFormatted frame (length image) layout key image → Sound image
formatted frame layout key image is = SoundEmpty layout key frame is.config (no_record frame (head_of frame image) is.no_record)

-- ---- going on

-- with the same frame
goes_same : (layout : List Entry) (key : Key) (frame : Frame) (a : List ℕ) → ConfigOf (length a) a (Configured layout key frame) → Follows a a
goes_same layout key frame a config = FollowsOn (record {
  layout = layout;
  key = key;
  before = frame;
  now = frame;
  was = config;
  is = config;
  later = λ r is. (r, is, record { number = omega arith; same = λ _. refl });
})

pub itself : (a : List ℕ) → Sound a → Follows a a
itself a (SoundBlank blank) = FollowsBlank blank
itself a (SoundEmpty layout key frame config none) = goes_same layout key frame a config
itself a (SoundInstalled layout key frame r config is installed) = goes_same layout key frame a config

not_blank : (layout : List Entry) (key : Key) (frame : Frame) → ◌≡◌ {A = Config} (Configured layout key frame) Blank → ⊥
not_blank layout key frame e = cc

later_still : (r s u : Record) → IsNoEarlier r s → IsNoEarlier s u → IsNoEarlier r u
later_still r s u first second = record {
  number = omega (arith, first.number, second.number);
  same = λ e.
      let one : r.sequence ≡ s.sequence = omega (arith, first.number, second.number, e) in
      let two : s.sequence ≡ u.sequence = omega (arith, first.number, second.number, e) in
      first.same one ∙ second.same two;
}

pub onward : OneAnswer → (a b c : List ℕ) → Follows a b → Follows b c → Follows a c
onward law a b c (FollowsBlank blank) second = FollowsBlank blank
onward law a b c (FollowsOn first) (FollowsBlank blank) = absurd (not_blank first.layout first.key first.now (law (length b) b _ _ first.is blank))
onward law a b c (FollowsOn first) (FollowsOn second) =
    let one : ◌≡◌ {A = Config} (Configured second.layout second.key second.before) (Configured first.layout first.key first.now) = law (length b) b _ _ second.was first.is in
    let layouts : second.layout ≡ first.layout = cc in
    let keys : second.key ≡ first.key = cc in
    let frames : first.now ≡ second.before = cc in
    FollowsOn (record {
      layout = first.layout;
      key = first.key;
      before = first.before;
      now = second.now;
      was = first.was;
      is = subst (λ (l : List Entry). ConfigOf (length c) c (Configured l first.key second.now)) layouts (subst (λ (k : Key). ConfigOf (length c) c (Configured second.layout k second.now)) keys second.is);
      later = λ r is.
          let s = first.later r is in
          let u = second.later s.0 (subst (λ (f : Frame). RecordOf f (head_of f b) (Some s.0)) frames s.1) in
          (u.0, u.1, later_still r s.0 u.0 s.2 u.2);
    })

-- ---- heads that agree on what tells the frame, and on the configuration page

module _ (size : ℕ) (frame : Frame) (placed : FrameFacts size frame) (a c : List ℕ) (large : frame.base + head_size frame ≤ length a) (long : length c ≡ length a)
    (page : config_page_of frame (head_of frame a) ≡ config_page_of frame (head_of frame c)) (tells : (i : ℕ) → TellsFrame i → get_or c i 0 ≡ get_or a i 0) where
  long_c : frame.base + head_size frame ≤ length c
  long_c = omega (arith, long, large)

  told_same : 45066 ≤ length a → frame_told c ≡ frame_told a
  told_same room = ap frame_by (same_range c a 45056 45066 long (omega (arith, long, room)) (λ i low high. tells i (inr (low, high))))

  pub same_config : (layout : List Entry) (key : Key) → ConfigOf (length a) a (Configured layout key frame) → ConfigOf (length c) c (Configured layout key frame)
  same_config layout key is = record {
    placed = subst (λ (n : ℕ). IsFrame n frame) (sym long) is.placed;
    told = told_same (omega (arith, has_room (length a) frame is.placed)) ∙ is.told;
    whole = long_c;
    typed = is.typed;
    page = subst (λ (n : ℕ). IsConfigPage frame n (config_page_of frame (head_of frame c)) layout key) (sym long) (subst (λ (l : List ℕ). IsConfigPage frame (length a) l layout key) page is.page);
  }

  pub same_blank : ConfigOf (length a) a Blank → ConfigOf (length c) c Blank
  same_blank is = ⊎_elim
      (λ short. inl (omega (arith, short, long)))
      (λ closed. inr (
        λ opened. closed.0 (sym (tells 0 (inl refl)) ∙ opened),
        λ opened. closed.1 (sym (tells 45056 (inr (omega arith, omega arith))) ∙ opened),
      ))
      is

  -- and on a bank
  pub same_bank : (b n : ℕ) → b < 2 → n ≤ bank_size frame → ((i : ℕ) → bank_place frame b ≤ i → i < bank_place frame b + n → get_or c i 0 ≡ get_or a i 0)
      → bank_of frame (head_of frame a) b n ≡ bank_of frame (head_of frame c) b n
  same_bank b n few short same =
      bank_there size frame placed a b n few short
      ∙ sym (same_range c a (bank_place frame b) (bank_place frame b + n) long (omega (arith, long_c, short, bank_high size frame placed b few)) same)
      ∙ sym (bank_there size frame placed c b n few short)

-- ---- a commit

module _ (size : ℕ) (frame : Frame) (placed : FrameFacts size frame) (a c : List ℕ) (w : ℕ) (large : frame.base + head_size frame ≤ length a) (long : length c ≡ length a) (two : w < 2)
    (apart : (i : ℕ) → InHead frame i → Outside (record_place frame w) (record_length frame) i → get_or c i 0 ≡ get_or a i 0) where
  page_same : config_page_of frame (head_of frame a) ≡ config_page_of frame (head_of frame c)
  page_same = config_same size frame placed a c w large long two apart

  tells_same : (i : ℕ) → TellsFrame i → get_or c i 0 ≡ get_or a i 0
  tells_same i tells =
      apart i (tells_head size frame placed i tells)
      (tells_outside size frame placed (record_place frame w) (record_length frame) (omega arith) (omega (arith, two, most_few frame)) i tells)

  configured : (layout : List Entry) (key : Key) → ConfigOf (length a) a (Configured layout key frame) → ConfigOf (length c) c (Configured layout key frame)
  configured = same_config size frame placed a c large long page_same tells_same

  blank : ConfigOf (length a) a Blank → ConfigOf (length c) c Blank
  blank = same_blank size frame placed a c large long page_same tells_same

  bank_same : (b n : ℕ) → b < 2 → n ≤ bank_size frame → bank_of frame (head_of frame a) b n ≡ bank_of frame (head_of frame c) b n
  bank_same b n few short =
      same_bank size frame placed a c large long page_same tells_same b n few short
      (λ i low high. apart i (inr (omega (arith, low), omega (arith, high, short, bank_high size frame placed b few))) (inr (omega (arith, low, two, most_few frame))))

  installed_same : (layout : List Entry) (key : Key) (r : Record) → r.bank < 2 → r.length ≤ bank_size frame → IsInstalled layout key (recorded_bank frame (head_of frame a) r) r
      → IsInstalled layout key (recorded_bank frame (head_of frame c) r) r
  installed_same layout key r few short is = subst (λ (l : List ℕ). IsInstalled layout key l r) (bank_same r.bank r.length few short) is

  module _ (held : Option Record) (new : Record) (was : RecordOf frame (head_of frame a) held) where
    -- the new record
    new_sound : HasNewInRange frame a new → IsInstalledFor a new → RecordOf frame (head_of frame c) (Some new) → (layout : List Entry) (key : Key)
        → ConfigOf (length a) a (Configured layout key frame) → Sound c
    new_sound fields installed is layout key config =
        SoundInstalled layout key frame new (configured layout key config) is (installed_same layout key new fields.bank fields.size (installed layout key frame config))

    -- the one that it held
    still_sound : SoundBy frame a → RecordOf frame (head_of frame c) held → Sound c
    still_sound (BlankBy is) held_is = SoundBlank (blank is)
    still_sound (EmptyBy layout key config none) held_is =
        SoundEmpty layout key frame (configured layout key config) (subst (λ (o : Option Record). RecordOf frame (head_of frame c) o) (one_answer frame (head_of frame a) held None was none) held_is)
    still_sound (InstalledBy layout key r config is installed) held_is =
        SoundInstalled layout key frame r (configured layout key config) (subst (λ (o : Option Record). RecordOf frame (head_of frame c) o) (one_answer frame (head_of frame a) held (Some r) was is) held_is)
        (installed_same layout key r is.counts.page.fields.bank is.counts.page.fields.size installed)

    now_sound : HasNewInRange frame a new → IsInstalledFor a new → SoundBy frame a → RecordOf frame (head_of frame c) (Some new) → Sound c
    now_sound fields installed (BlankBy is) new_is = SoundBlank (blank is)
    now_sound fields installed (EmptyBy layout key config none) new_is = new_sound fields installed new_is layout key config
    now_sound fields installed (InstalledBy layout key r config is was_installed) new_is = new_sound fields installed new_is layout key config

    -- and what goes on
    goes_on : ((r : Record) → held ≡ Some r → (s : Record) × RecordOf frame (head_of frame c) (Some s) × IsNoEarlier r s) → (layout : List Entry) (key : Key)
        → ConfigOf (length a) a (Configured layout key frame) → Follows a c
    goes_on later layout key config =
        FollowsOn (record { layout = layout; key = key; before = frame; now = frame; was = config; is = configured layout key config; later = λ r is. later r (one_answer frame (head_of frame a) held (Some r) was is) })

    on_from : ((r : Record) → held ≡ Some r → (s : Record) × RecordOf frame (head_of frame c) (Some s) × IsNoEarlier r s) → SoundBy frame a → Follows a c
    on_from later (BlankBy is) = FollowsBlank is
    on_from later (EmptyBy layout key config none) = goes_on later layout key config
    on_from later (InstalledBy layout key r config is installed) = goes_on later layout key config

later_of : (frame : Frame) (head : List ℕ) (held : Option Record) (new : Record) → IfSome held (λ r. IsNoEarlier r new) → RecordOf frame head held ⊎ RecordOf frame head (Some new) → (r : Record) → held ≡ Some r
    → (s : Record) × RecordOf frame head (Some s) × IsNoEarlier r s
later_of frame head held new sure is r e = ⊎_elim
    (λ old. (r, subst (λ (o : Option Record). RecordOf frame head o) e old, record { number = omega arith; same = λ _. refl }))
    (λ now. (new, now, subst (λ (o : Option Record). IfSome o (λ r. IsNoEarlier r new)) e sure))
    is

module _ (frame : Frame) (held : Option Record) (new : Record) (before image : List ℕ) (is : IsCommitted frame held new before image) where
  there : FrameFacts (length before) frame
  there = facts (length before) frame is.frame_is.is

  beside : (i : ℕ) → InHead frame i → Outside (record_place frame is.which) (record_length frame) i → get_or image i 0 ≡ get_or before i 0
  beside i inside out = is.beside.same i (inside, out)

  pub committed : HasNewInRange frame before new → IsInstalledFor before new → Sound before → Sound image
  committed fields installed sound =
      let by = sound_by frame before is.frame_is.told sound in
      ⊎_elim
      (still_sound (length before) frame there before image is.which there.inside is.beside.size is.two beside held new is.was by)
      (now_sound (length before) frame there before image is.which there.inside is.beside.size is.two beside held new is.was fields installed by)
      is.record_is

  pub follows : IfSome held (λ r. IsNoEarlier r new) → Sound before → Follows before image
  follows sure sound =
      on_from (length before) frame there before image is.which there.inside is.beside.size is.two beside held new is.was (later_of frame (head_of frame image) held new sure is.record_is)
      (sound_by frame before is.frame_is.told sound)
