-- Where `run init` and `run status` stop.
use Rattle.std.proofs.Common.{◌≡◌, ◌⊎◌, inl, inr, ℕ, List, [], ◌∷◌, ◌++◌, refl, sym, ap, subst, ◌∙◌, Option, Some, None}
use Rattle.std.specs.Prelude.{IsTrue}
use Rattle.std.proofs.lemmas.List.{append_assoc, append-nil}
use Rattle.flash_layout.specs.declared.frame.Frame.{Frame}
use Rattle.flash_layout.specs.declared.layout.Entry.{Entry}
use Rattle.flash_layout.specs.declared.slot.Record.{Record}
use Rattle.flash_layout.specs.Configs.{Config, ConfigOf}
use Rattle.flash_layout.specs.Formats.{HasOpenGate, IsFormatted}
use Rattle.flash_layout.specs.Frames.{head_of}
use Rattle.rollback_record.specs.HeadRecord.{RecordOf}
use Rattle.suit_cli.specs.declared.reply.Reply.{Reply}
use Rattle.suit_cli.specs.declared.reply.Object.TheVariants as objects
use Rattle.suit_cli.specs.declared.reply.Outcome.TheVariants as outcomes
use Rattle.suit_cli.specs.Outside.{Outside, Asks, AsksFirst, Flashed, IsStill, Looks, Reads}
use Rattle.suit_cli.specs.Stages.{Ending, Says, FaultOf, NoMemory, Goes, Declines, Faults, Lacks, Ends, IsSaid, ◌>>=◌}
use Rattle.suit_cli.specs.Inputs.{longest_device, IsRead, IsKey, IsNoKey, key_in}
use Rattle.suit_cli.specs.Devices.{IsDevice, IsNoDevice, device_in, key_of}
use Rattle.suit_cli.specs.Formatting.{IsShut, IsInUse, formats}
use Rattle.suit_cli.specs.Installed.{component_lines}
use Rattle.suit_cli.specs.Commands.{inits_as, inits, tells_status}
use Rattle.suit_cli.specs.FlashLaws.{InitSays, AtGate, AtDevice, AtDescription, AtKey, AtFormat, IsReady, InitLaws, StatusSays, AtConfig, AtRecord, AtLines, StatusLaws}
use Rattle.suit_cli.proofs.AskedFirst.{First, judging_first, none, on_from, reading_first, reads_told, same_asked}
use Rattle.suit_cli.proofs.Running.{Declining, declining, unread_declines, no_key_declines, no_device_declines}
use Rattle.suit_cli.proofs.OneAnswers.{one_init, one_status}
use Rattle.suit_cli.proofs.SameFiles.{read_here, unread_here, no_key_here, key_here}

-- ---- a flash that is as it was

still_self : (f : Flashed) → IsStill f f
still_self f = record { told = refl; size = refl; reads = λ t. refl }

still_then : (f g h : Flashed) → IsStill f g → IsStill g h → IsStill f h
still_then f g h first second = record {
  told = second.told ∙ first.told;
  size = second.size ∙ first.size;
  reads = λ t. second.reads (subst IsTrue (sym first.told) t) ∙ first.reads t;
}

still_same : (f g : Flashed) → g ≡ f → IsStill f g
still_same f g same = subst (λ (x : Flashed). IsStill f x) (sym same) (still_self f)

-- ---- the same files and a flash that is as it was

pub record IsNear (b m : Outside) : Type 0 where
  pub told : m.told ≡ b.told
  pub files : IsTrue b.told → m.files ≡ b.files
  pub flash : IsStill b.flash m.flash

pub near_looks : (b m : Outside) → Looks b m → IsNear b m
near_looks b m looks = record { told = ap (λ (o : Outside). o.told) looks.beside; files = λ t. ap (λ (o : Outside). o.files) looks.beside; flash = looks.still }

pub near_reads : (most : ℕ) (name : List ℕ) (b m : Outside) → Reads most name b m → IsNear b m
near_reads most name b m reads = record { told = reads.quiet.told; files = reads.quiet.files; flash = still_same _ _ reads.flash }

pub near_same : (b m : Outside) → m ≡ b → IsNear b m
near_same b m same = subst (λ (o : Outside). IsNear b o) (sym same) (record { told = refl; files = λ t. refl; flash = still_self b.flash })

pub near_then : (b m n : Outside) → IsNear b m → IsNear m n → IsNear b n
near_then b m n first second = record {
  told = second.told ∙ first.told;
  files = λ t. second.files (subst IsTrue (sym first.told) t) ∙ first.files t;
  flash = still_then _ _ _ first.flash second.flash;
}

in_use_here : (f g : Flashed) → IsStill f g → (r : Reply) → IsInUse g r → IsInUse f r
in_use_here f g still r in_use = record {
  opened = λ t. subst HasOpenGate (still.reads t) (in_use.opened (subst IsTrue (sym still.told) t));
  says = in_use.says;
}

-- ---- `run init`

module _ (size : ℕ) (device key_name : List ℕ) (b m : Outside) (near : IsNear b m) (shut : IsShut b.flash) (is : size ≡ b.flash.size) (r : Reply) where
  device_here : (bytes : List ℕ) (layout : List Entry) (frame : Frame) → IsDevice size bytes layout frame → IsDevice b.flash.size bytes layout frame
  device_here bytes layout frame describes = subst (λ (n : ℕ). IsDevice n bytes layout frame) is describes

  init_says : (a : Outside) → inits_as size device key_name m a (Says r) → InitSays device key_name b r
  init_says a (Declines _ d) = AtDevice shut (unread_here m b near.told near.files longest_device device r d.1)
  init_says a (Goes bytes m0 _ g (Declines _ d)) =
      AtDescription bytes shut (read_here m b near.told near.files longest_device device bytes g.1) (subst (λ (n : ℕ). IsNoDevice n bytes r) is d.1)
  init_says a (Goes bytes m0 _ g (Goes x m1 _ l (Declines _ d))) =
      let there = near_then b m m1 near (near_then m m0 m1 (near_reads _ _ m m0 g.0) (near_same m0 m1 l.0)) in
      AtKey bytes x.0 x.1 shut (read_here m b near.told near.files longest_device device bytes g.1) (device_here bytes x.0 x.1 l.1) (no_key_here m1 b there.told there.files key_name r d.1)
  init_says a (Goes bytes m0 _ g (Goes x m1 _ l (Goes key m2 _ k (Declines _ d)))) =
      let there = near_then b m m1 near (near_then m m0 m1 (near_reads _ _ m m0 g.0) (near_same m0 m1 l.0)) in
      let later = near_then b m1 m2 there (near_reads _ _ m1 m2 k.0) in
      AtGate (in_use_here b.flash m2.flash later.flash r d.1)
  init_says a (Goes bytes m0 _ g (Goes x m1 _ l (Goes key m2 _ k (Goes u m3 _ f (IsSaid _ same says))))) =
      let there = near_then b m m1 near (near_then m m0 m1 (near_reads _ _ m m0 g.0) (near_same m0 m1 l.0)) in
      AtFormat bytes x.0 x.1 key shut (read_here m b near.told near.files longest_device device bytes g.1) (device_here bytes x.0 x.1 l.1) (key_here m1 b there.told there.files key_name key k.1) says

  -- it declines and leaves the flash as it is, or is done
  init_ends : (a : Outside) → inits_as size device key_name m a (Says r)
      → (Declining r.outcome × IsStill m.flash a.flash) ⊎ ((r.outcome ≡ outcomes.Done) × (IsTrue b.flash.told → IsReady device key_name b a))
  init_ends a (Declines _ d) = inl (unread_declines _ _ _ r d.1, (near_reads _ _ m a d.0).flash)
  init_ends a (Goes bytes m0 _ g (Declines _ d)) = inl (no_device_declines _ _ r d.1, (near_then m m0 a (near_reads _ _ m m0 g.0) (near_same m0 a d.0)).flash)
  init_ends a (Goes bytes m0 _ g (Goes x m1 _ l (Declines _ d))) =
      inl (no_key_declines _ _ r d.1, (near_then m m0 a (near_reads _ _ m m0 g.0) (near_then m0 m1 a (near_same m0 m1 l.0) (near_reads _ _ m1 a d.0))).flash)
  init_ends a (Goes bytes m0 _ g (Goes x m1 _ l (Goes key m2 _ k (Declines _ d)))) =
      inl (declining r _ _ d.1.says tt, (near_then m m0 a (near_reads _ _ m m0 g.0) (near_then m0 m1 a (near_same m0 m1 l.0) (near_then m1 m2 a (near_reads _ _ m1 m2 k.0) (near_looks m2 a d.0)))).flash)
  init_ends a (Goes bytes m0 _ g (Goes x m1 _ l (Goes key m2 _ k (Goes u m3 _ f (IsSaid _ same says))))) =
      let there = near_then b m m1 near (near_then m m0 m1 (near_reads _ _ m m0 g.0) (near_same m0 m1 l.0)) in
      let later = near_then b m1 m2 there (near_reads _ _ m1 m2 k.0) in
      inr (
        says.outcome_is,
        λ told. record {
          bytes = bytes;
          layout = x.0;
          frame = x.1;
          key = key;
          holds = read_here m b near.told near.files longest_device device bytes g.1;
          describes = device_here bytes x.0 x.1 l.1;
          has_key = key_here m1 b there.told there.files key_name key k.1;
          formatted = subst (λ (o : Outside). IsFormatted x.1 b.flash.size x.0 (key_of key) o.flash.reads) (sym same)
              (subst (λ (n : ℕ). IsFormatted x.1 n x.0 (key_of key) m3.flash.reads) later.flash.size (f.is.1 (subst IsTrue (sym later.flash.told) told)));
        },
      )

init_starves : (size : ℕ) (device key_name : List ℕ) (m a : Outside) → inits_as size device key_name m a NoMemory → IsStill m.flash a.flash
init_starves size device key_name m a (Lacks l) = (near_reads _ _ m a l).flash
init_starves size device key_name m a (Goes bytes m0 _ g (Lacks l)) = (near_then m m0 a (near_reads _ _ m m0 g.0) (near_same m0 a l)).flash
init_starves size device key_name m a (Goes bytes m0 _ g (Goes x m1 _ y (Lacks l))) =
    (near_then m m0 a (near_reads _ _ m m0 g.0) (near_then m0 m1 a (near_same m0 m1 y.0) (near_reads _ _ m1 a l))).flash
init_starves size device key_name m a (Goes bytes m0 _ g (Goes x m1 _ y (Goes key m2 _ k (Lacks l)))) =
    (near_then m m0 a (near_reads _ _ m m0 g.0) (near_then m0 m1 a (near_same m0 m1 y.0) (near_then m1 m2 a (near_reads _ _ m1 m2 k.0) (near_looks m2 a l)))).flash
init_starves size device key_name m a (Goes bytes m0 _ g (Goes x m1 _ y (Goes key m2 _ k (Goes _ middle _ _ last)))) = elim last [ ]

-- by the look at the gate
inits_says : (device key_name : List ℕ) (b a : Outside) (r : Reply) → inits device key_name b a (Says r) → InitSays device key_name b r
inits_says device key_name b a r (Declines _ d) = AtGate d.1
inits_says device key_name b a r (Goes size m _ g rest) = init_says size device key_name b m (near_looks b m g.0) g.1.shut g.1.size_is r a rest

inits_ends : (device key_name : List ℕ) (b a : Outside) (r : Reply) → inits device key_name b a (Says r)
    → (Declining r.outcome × IsStill b.flash a.flash) ⊎ ((r.outcome ≡ outcomes.Done) × (IsTrue b.flash.told → IsReady device key_name b a))
inits_ends device key_name b a r (Declines _ d) = inl (declining r _ _ d.1.says tt, d.0.still)
inits_ends device key_name b a r (Goes size m _ g rest) = of_ends (init_ends size device key_name b m (near_looks b m g.0) g.1.shut g.1.size_is r a rest) where
  of_ends : (Declining r.outcome × IsStill m.flash a.flash) ⊎ ((r.outcome ≡ outcomes.Done) × (IsTrue b.flash.told → IsReady device key_name b a))
      → (Declining r.outcome × IsStill b.flash a.flash) ⊎ ((r.outcome ≡ outcomes.Done) × (IsTrue b.flash.told → IsReady device key_name b a))
  of_ends (inl d) = inl (d.0, still_then _ _ _ g.0.still d.1)
  of_ends (inr done) = inr done

inits_starve : (device key_name : List ℕ) (b a : Outside) → inits device key_name b a NoMemory → IsStill b.flash a.flash
inits_starve device key_name b a (Lacks l) = l.still
inits_starve device key_name b a (Goes size m _ g rest) = still_then _ _ _ g.0.still (init_starves size device key_name m a rest)

-- the files that are asked for
formats_asked : (frame : Frame) (layout : List Entry) (key : List ℕ) (m a : Outside) (e : Ending) → formats frame layout (key_of key) m a e → a.asked ≡ m.asked
formats_asked frame layout key m a _ (Goes u n _ f (IsSaid _ same says)) = same_asked n a same ∙ ap (λ (o : Outside). o.asked) f.beside
formats_asked frame layout key m a _ (Declines _ d) = ap (λ (o : Outside). o.asked) d.0.beside
formats_asked frame layout key m a _ (Faults objects.Host f) = absurd f
formats_asked frame layout key m a _ (Faults objects.Flash f) = ap (λ (o : Outside). o.asked) f.beside
formats_asked frame layout key m a _ (Lacks l) = ap (λ (o : Outside). o.asked) l.beside

init_asks : (size : ℕ) (device key_name : List ℕ) (m a : Outside) (e : Ending) → IsTrue m.told → inits_as size device key_name m a e → First (device ∷ key_name ∷ []) m a
init_asks size device key_name m a e told answer =
    reading_first _ device (IsRead longest_device device) _ (λ bytes. device_in size bytes >>= λ x. key_in key_name >>= λ key. formats x.1 x.0 (key_of key)) (key_name ∷ []) m a e told
    (λ bytes n there good on. judging_first (λ (x : List Entry × Frame). IsDevice size bytes x.0 x.1) (IsNoDevice size bytes) (λ x. key_in key_name >>= λ key. formats x.1 x.0 (key_of key)) (key_name ∷ []) n a e
    (λ x is rest. reading_first _ key_name (IsKey key_name) (IsNoKey key_name) (λ key. formats x.1 x.0 (key_of key)) [] n a e there
    (λ key o here k last. none [] o a (formats_asked x.1 x.0 key o a e last)) rest) on) answer

inits_ask : (device key_name : List ℕ) (b a : Outside) (e : Ending) → inits device key_name b a e → AsksFirst (device ∷ key_name ∷ []) b a
inits_ask device key_name b a e (Goes size m _ g rest) told =
    on_from (device ∷ key_name ∷ []) b a m (ap (λ (o : Outside). o.asked) g.0.beside)
    (init_asks size device key_name m a e (subst IsTrue (sym (ap (λ (o : Outside). o.told) g.0.beside)) told) rest)
inits_ask device key_name b a _ (Declines _ d) told = none (device ∷ key_name ∷ []) b a (ap (λ (o : Outside). o.asked) d.0.beside)
inits_ask device key_name b a _ (Faults objects.Host f) told = absurd f
inits_ask device key_name b a _ (Faults objects.Flash f) told = none (device ∷ key_name ∷ []) b a (ap (λ (o : Outside). o.asked) f.beside)
inits_ask device key_name b a _ (Lacks l) told = none (device ∷ key_name ∷ []) b a (ap (λ (o : Outside). o.asked) l.beside)

module _ (device key_name : List ℕ) (b a : Outside) (r : Reply) (done : r.outcome ≡ outcomes.Done) where
  never : Declining r.outcome → ⊥
  never declines = subst Declining done declines

  init_asks_both : (size : ℕ) (m : Outside) → IsTrue m.told → inits_as size device key_name m a (Says r) → a.asked ≡ m.asked ++ (device ∷ key_name ∷ [])
  init_asks_both size m told (Declines _ d) = absurd (never (unread_declines _ _ m r d.1))
  init_asks_both size m told (Goes bytes m0 _ g (Declines _ d)) = absurd (never (no_device_declines _ _ r d.1))
  init_asks_both size m told (Goes bytes m0 _ g (Goes x m1 _ l (Declines _ d))) = absurd (never (no_key_declines _ m1 r d.1))
  init_asks_both size m told (Goes bytes m0 _ g (Goes x m1 _ l (Goes key m2 _ k rest))) =
      let there : IsTrue m1.told = subst (λ (o : Outside). IsTrue o.told) (sym l.0) (reads_told _ device m m0 g.0 told) in
      formats_asked x.1 x.0 key m2 a (Says r) rest ∙ k.0.asks there ∙ ap (λ (n : List (List ℕ)). n ++ key_name ∷ []) (same_asked m0 m1 l.0 ∙ g.0.asks told)
      ∙ append_assoc m.asked (device ∷ []) (key_name ∷ [])

  inits_ask_both : inits device key_name b a (Says r) → Asks (device ∷ key_name ∷ []) b a
  inits_ask_both (Declines _ d) told = absurd (never (declining r _ _ d.1.says tt))
  inits_ask_both (Goes size m _ g rest) told =
      init_asks_both size m (subst IsTrue (sym (ap (λ (o : Outside). o.told) g.0.beside)) told) rest
      ∙ ap (λ (l : List (List ℕ)). l ++ (device ∷ key_name ∷ [])) (ap (λ (o : Outside). o.asked) g.0.beside)

init_faults : (size : ℕ) (device key_name : List ℕ) (m a : Outside) → IsTrue m.told → inits_as size device key_name m a (FaultOf objects.Flash) → a.asked ≡ m.asked ++ (device ∷ key_name ∷ [])
init_faults size device key_name m a told (Faults _ f) = absurd f
init_faults size device key_name m a told (Goes bytes m0 _ g (Faults _ f)) = absurd f
init_faults size device key_name m a told (Goes bytes m0 _ g (Goes x m1 _ l (Faults _ f))) = absurd f
init_faults size device key_name m a told (Goes bytes m0 _ g (Goes x m1 _ l (Goes key m2 _ k rest))) =
    let there : IsTrue m1.told = subst (λ (o : Outside). IsTrue o.told) (sym l.0) (reads_told _ device m m0 g.0 told) in
    formats_asked x.1 x.0 key m2 a (FaultOf objects.Flash) rest ∙ k.0.asks there ∙ ap (λ (n : List (List ℕ)). n ++ key_name ∷ []) (same_asked m0 m1 l.0 ∙ g.0.asks told)
    ∙ append_assoc m.asked (device ∷ []) (key_name ∷ [])

inits_fault : (device key_name : List ℕ) (b a : Outside) → inits device key_name b a (FaultOf objects.Flash) → Asks [] b a ⊎ Asks (device ∷ key_name ∷ []) b a
inits_fault device key_name b a (Faults _ f) = inl (λ told. ap (λ (o : Outside). o.asked) f.beside ∙ sym (append-nil b.asked))
inits_fault device key_name b a (Goes size m _ g rest) =
    inr (λ told. init_faults size device key_name m a (subst IsTrue (sym (ap (λ (o : Outside). o.told) g.0.beside)) told) rest
    ∙ ap (λ (l : List (List ℕ)). l ++ (device ∷ key_name ∷ [])) (ap (λ (o : Outside). o.asked) g.0.beside))

pub init_laws : InitLaws
init_laws = record {
  only = λ device key_name b a r answer. inits_says device key_name b a r answer;
  always = λ device key_name b a r q told told_too says answer. one_init device key_name b told told_too r q says (inits_says device key_name b a q answer);
  ready = λ device key_name b a r told answer done. of_done device key_name b a r told done (inits_ends device key_name b a r answer);
  still = λ device key_name b a r answer never. of_other device key_name b a r never (inits_ends device key_name b a r answer);
  starved = λ device key_name b a answer. inits_starve device key_name b a answer;
  asks = λ device key_name b a e answer. inits_ask device key_name b a e answer;
  asks_both = λ device key_name b a r answer done. inits_ask_both device key_name b a r done answer;
  faults = λ device key_name b a answer. inits_fault device key_name b a answer;
} where
  of_done : (device key_name : List ℕ) (b a : Outside) (r : Reply) → IsTrue b.flash.told → r.outcome ≡ outcomes.Done
      → (Declining r.outcome × IsStill b.flash a.flash) ⊎ ((r.outcome ≡ outcomes.Done) × (IsTrue b.flash.told → IsReady device key_name b a)) → IsReady device key_name b a
  of_done device key_name b a r told done (inl d) = absurd (subst Declining done d.0)
  of_done device key_name b a r told done (inr is) = is.1 told

  of_other : (device key_name : List ℕ) (b a : Outside) (r : Reply) → (r.outcome ≡ outcomes.Done → ⊥)
      → (Declining r.outcome × IsStill b.flash a.flash) ⊎ ((r.outcome ≡ outcomes.Done) × (IsTrue b.flash.told → IsReady device key_name b a)) → IsStill b.flash a.flash
  of_other device key_name b a r never (inl d) = d.1
  of_other device key_name b a r never (inr is) = absurd (never is.0)

-- ---- `run status`

-- reads give at the start as they gave then
config_here : (f g : Flashed) → IsStill f g → (config : Config) → (IsTrue g.told → ConfigOf g.size g.reads config)
    → IsTrue f.told → ConfigOf f.size f.reads config
config_here f g still config holds t =
    subst (λ (n : ℕ). ConfigOf n f.reads config) still.size
    (subst (λ (l : List ℕ). ConfigOf g.size l config) (still.reads t) (holds (subst IsTrue (sym still.told) t)))

record_here : (frame : Frame) (f g : Flashed) → IsStill f g → (o : Option Record) → (IsTrue g.told → RecordOf frame (head_of frame g.reads) o)
    → IsTrue f.told → RecordOf frame (head_of frame f.reads) o
record_here frame f g still o holds t = subst (λ (l : List ℕ). RecordOf frame (head_of frame l) o) (still.reads t) (holds (subst IsTrue (sym still.told) t))

lines_here : (f g : Flashed) → IsStill f g → (layout : List Entry) (active lines : List ℕ) → (IsTrue g.told → lines ≡ component_lines 0 layout active g.reads)
    → IsTrue f.told → lines ≡ component_lines 0 layout active f.reads
lines_here f g still layout active lines holds t =
    subst (λ (l : List ℕ). lines ≡ component_lines 0 layout active l) (still.reads t) (holds (subst IsTrue (sym still.told) t))

status_says : (b a : Outside) (r : Reply) → tells_status b a (Says r) → StatusSays b r
status_says b a r (Declines _ d) = AtConfig d.1
status_says b a r (Goes config m0 _ g (Declines _ d)) =
    AtRecord config g.1 (record { none = record_here config.2 b.flash m0.flash g.0.still None d.1.none; says = d.1.says })
status_says b a r (Goes config m0 _ g (Goes installed m1 _ h (Declines _ d))) = absurd d.1
status_says b a r (Goes config m0 _ g (Goes installed m1 _ h (Goes lines m2 _ l (Ends _ same says)))) =
    AtLines config installed lines g.1 (record_here config.2 b.flash m0.flash g.0.still (Some installed) h.1)
    (lines_here b.flash m1.flash (still_then _ _ _ g.0.still h.0.still) config.0 installed.active lines l.1) says

status_still : (b a : Outside) (r : Reply) → tells_status b a (Says r) → IsStill b.flash a.flash
status_still b a r (Declines _ d) = d.0.still
status_still b a r (Goes config m0 _ g (Declines _ d)) = still_then _ _ _ g.0.still d.0.still
status_still b a r (Goes config m0 _ g (Goes installed m1 _ h (Declines _ d))) = absurd d.1
status_still b a r (Goes config m0 _ g (Goes installed m1 _ h (Goes lines m2 _ l (Ends _ same says)))) =
    subst (λ (o : Outside). IsStill b.flash o.flash) (sym same) (still_then _ _ _ g.0.still (still_then _ _ _ h.0.still l.0.still))

pub status_laws : Rattle.flash_layout.specs.ConfigLaws.OneAnswer → Rattle.rollback_record.specs.RecordLaws.OneAnswer → StatusLaws
status_laws configs records = record {
  only = λ b a r answer. status_says b a r answer;
  always = λ b a r q told says answer. one_status configs records b told r q says (status_says b a q answer);
  still = λ b a r answer. status_still b a r answer;
}
