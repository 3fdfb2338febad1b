-- An update whose record was read first: what holds since the read holds since before it.
use Rattle.std.proofs.Common.{◌≡◌, ◌⊎◌, inl, inr, ℕ, List, [], Bor, length, Option, Some, None, option_map, sym, subst}
use Rattle.std.specs.Option.{option_copied}
use Rattle.std.specs.Prelude.{IfSome}
use Rattle.suit_commands.specs.Tree.{PlanTree}
use Rattle.suit_edge.specs.Flash.{Flash, IsFlash, IsSame, IsSettled, Now, Passes}
use Rattle.suit_edge.specs.FlashLaws.{joined, same_flash_then, weakens}
use Rattle.suit_envelope.specs.WrapperParts.{WrapperSays}
use Rattle.suit_params.specs.declared.digest.Digest.{Digest}
use Rattle.flash_layout.specs.declared.frame.Frame.{Frame}
use Rattle.flash_layout.specs.declared.key.Key.{Key}
use Rattle.flash_layout.specs.declared.layout.Entry.{Entry}
use Rattle.flash_layout.specs.declared.layout.Memory.TheVariants as memory
use Rattle.flash_layout.specs.declared.place.Places.{Places}
use Rattle.flash_layout.specs.declared.slot.Record.{Record}
use Rattle.flash_layout.specs.Configs.{ConfigOf, Configured}
use Rattle.flash_layout.specs.Frames.{head_of}
use Rattle.flash_layout.specs.Layouts.{IsLayout}
use Rattle.rollback_record.specs.declared.spare.RecordPages.{RecordPages}
use Rattle.rollback_record.specs.Committing.{HasPages, HasSpare}
use Rattle.rollback_record.specs.HeadRecord.{IsLoadable, RecordOf}
use Rattle.rollback_record.specs.RecordLaws.{OneAnswer}
use Rattle.rollback_record.proofs.SettledLaws.{each_sound}
use Rattle.rollback_record.specs.SoundFlash.{Follows, Settled, Sound}
use Rattle.rollback_record.specs.SoundLaws.{SoundLaws}
use Rattle.update_proc.specs.declared.update_end.UpdateEnd.{UpdateEnd}
use Rattle.update_proc.specs.declared.update_end.UpdateEnd.TheVariants as ends
use Rattle.update_proc.specs.Moments.{IsNew, IsOld, KeepsContents, placed_on}
use Rattle.update_proc.specs.Offered.{ForOffer}
use Rattle.update_proc.specs.Records.{new_record}
use Rattle.update_proc.specs.Updates.{KeepsUpdate, KeptSo, LeftSo, WholeSo}
use Rattle.rollback_record.proofs.HeadSince.{follows_now}
use Rattle.update_proc.proofs.WholeUpdate.{listed, settled_head, settled_slots}

none : Entry
none = record { identifier = []; memory = memory.Ram; slots = 0; starts = []; capacity = 0; vendor = None; class = None; device = None }

-- ---- one record

as_loaded : (o : Option (Bor Record)) (loaded : Option Record) → option_copied o ≡ loaded → option_map (λ r. r.now) o ≡ loaded
as_loaded None loaded same = same
as_loaded (Some r) loaded same = same

-- the record that is handed on is the one that was read
pub recorded_as : (frame : Frame) (head : List ℕ) (o : Option (Bor Record)) (loaded : Option Record) → option_copied o ≡ loaded → RecordOf frame head loaded
    → RecordOf frame head (option_map (λ r. r.now) o)
recorded_as frame head o loaded same is = subst (λ (p : Option Record). RecordOf frame head p) (sym (as_loaded o loaded same)) is

pub loadable_as : (frame : Frame) (o : Option (Bor Record)) (loaded : Option Record) → option_copied o ≡ loaded → IfSome loaded (IsLoadable frame)
    → IfSome (option_map (λ r. r.now) o) (IsLoadable frame)
loadable_as frame o loaded same is = subst (λ (p : Option Record). IfSome p (IsLoadable frame)) (sym (as_loaded o loaded same)) is

-- and so is the page beside it
pub spare_as : (frame : Frame) (head : List ℕ) (o : Option (Bor Record)) (pages : RecordPages) → option_copied o ≡ pages.held → HasPages frame head pages
    → HasSpare frame head (option_map (λ r. r.now) o) pages.spare
spare_as frame head o pages same is = subst (λ (p : Option Record). HasSpare frame head p pages.spare) (sym (as_loaded o pages.held same)) is.spare

-- a property of the record that was read and the digest that was stated holds of each such
pub for_offer : (one : OneAnswer) (frame : Frame) (image wrapper : List ℕ) (P : Option Record → Digest → Type 0) (held : Option Record) (stated : Digest)
    → RecordOf frame (head_of frame image) held → ((digest : Digest) (blocks : List (List ℕ)) → WrapperSays wrapper digest blocks → stated ≡ digest)
    → P held stated → ForOffer frame image wrapper P
for_offer one frame image wrapper P held stated is says p other digest blocks there said =
    subst (λ (o : Option Record). P o digest) (one frame (head_of frame image) held other is there)
    (subst (λ (d : Digest). P held d) (says digest blocks said) p)

-- ---- what was kept

pub kept_from : (K L S T : Type 0) → (K → L) → (S → T) → (answer : UpdateEnd) → KeptSo K S answer → KeptSo L T answer
kept_from K L S T k s (ends.Installed r) is = k is
kept_from K L S T k s (ends.Condition place) is = k is
kept_from K L S T k s (ends.Stopped place cause) is = k is
kept_from K L S T k s ends.FlashFault (inl is) = inl (s is)
kept_from K L S T k s ends.FlashFault (inr is) = inr (k is)
kept_from K L S T k s _ is = s is

pub whole_from : (K L S T : Type 0) → (S → T) → (K → L) → (answer : UpdateEnd) → WholeSo S K answer → WholeSo T L answer
whole_from K L S T s k (ends.Installed r) is = k is
whole_from K L S T s k ends.FlashFault (inl is) = inl (s is)
whole_from K L S T s k ends.FlashFault (inr is) = inr (k is)
whole_from K L S T s k _ is = s is

-- ---- from before the read

module _ (a b c : Flash) (same : IsSame a b) where
  -- a property of each image since
  pub since_read : (P : List ℕ → Type 0) → ((image : List ℕ) → Now a image → P image) → Passes b c P → Passes a c P
  since_read P here run = joined a b c P (weakens a b (Now a) P here same.images) run

  pub sound_from : Settled a → Passes b c Sound → Passes a c Sound
  sound_from settled run = since_read Sound (each_sound a settled) run

  pub follows_from : SoundLaws → Settled a → Passes b c (Follows b.reads) → Passes a c (Follows a.reads)
  follows_from laws settled run =
      since_read (Follows a.reads) (follows_now laws a settled)
      (subst (λ (l : List ℕ). Passes b c (Follows l)) same.reads run)

  pub settled_from : (size : ℕ) → IsFlash b size → IsSame b c ⊎ IsSettled c → IsSame a c ⊎ IsSettled c
  settled_from size law (inl is) = inl (same_flash_then a b c size law same is)
  settled_from size law (inr is) = inr is

  module _ (frame : Frame) (size : ℕ) (law : IsFlash a size) (layout : List Entry) (allowed : IsLayout frame size layout) (places : Places) (tree : PlanTree)
      (held : Option Record) (key : Key) (config : ConfigOf size a.reads (Configured layout key frame)) (settled : Settled a)
      (was : RecordOf frame (head_of frame a.reads) held) (bytes : List ℕ) (sequence : ℕ) (digest : Digest) where
    config_a : ConfigOf (length a.reads) a.reads (Configured layout key frame)
    config_a = subst (λ (n : ℕ). ConfigOf n a.reads (Configured layout key frame)) (sym law.fits) config

    -- an image that a power loss then may have left has the old record and the old contents
    old_now : (numbers : List ℕ) (image : List ℕ) → Now a image → IsOld (placed_on frame layout places tree) numbers held a.reads image
    old_now numbers image now = record {
      record_is = subst (λ (h : List ℕ). RecordOf frame h held) (sym (settled_head frame layout key a settled config_a image now)) was;
      contents = λ i n slot is not. settled_slots frame layout key a settled config_a (listed frame size layout allowed config.typed.entries none) image now i n slot is;
    }

    old_from : (numbers : List ℕ) → Passes b c (IsOld (placed_on frame layout places tree) numbers held b.reads) → Passes a c (IsOld (placed_on frame layout places tree) numbers held a.reads)
    old_from numbers run =
        since_read (IsOld (placed_on frame layout places tree) numbers held a.reads) (old_now numbers)
        (subst (λ (l : List ℕ). Passes b c (IsOld (placed_on frame layout places tree) numbers held l)) same.reads run)

    pub keeps_from : (Then Done : List ℕ → Type 0) → ((made : List ℕ) → Then made → Done made) → (answer : UpdateEnd)
        → KeepsUpdate (placed_on frame layout places tree) Then held (λ numbers. new_record frame held b.reads bytes sequence digest numbers) b c answer
        → KeepsUpdate (placed_on frame layout places tree) Done held (λ numbers. new_record frame held a.reads bytes sequence digest numbers) a c answer
    keeps_from Then Done done answer k = record {
      numbers = k.numbers;
      chosen = k.chosen;
      accepted = k.accepted;
      made = k.made;
      others = subst (λ (l : List ℕ). KeepsContents layout places tree k.numbers l k.made) same.reads k.others;
      whole = whole_from _ _ _ _ (old_from k.numbers) (done k.made) answer k.whole;
      any_moment =
          since_read (λ image. IsOld (placed_on frame layout places tree) k.numbers held a.reads image ⊎ IsNew frame layout (new_record frame held a.reads bytes sequence digest k.numbers) k.made image)
          (λ image now. inl (old_now k.numbers image now))
          (subst (λ (l : List ℕ). Passes b c (λ image. IsOld (placed_on frame layout places tree) k.numbers held l image ⊎ IsNew frame layout (new_record frame held l bytes sequence digest k.numbers) k.made image))
          same.reads k.any_moment);
      left = subst (λ (l : List ℕ). LeftSo (λ r. r ≡ new_record frame held l bytes sequence digest k.numbers) (IsOld (placed_on frame layout places tree) k.numbers held l c.reads)
          (IsNew frame layout (new_record frame held l bytes sequence digest k.numbers) k.made c.reads) answer) same.reads k.left;
    }
