-- The images a power loss during a command may leave.
use Rattle.std.proofs.Common.{◌≡◌, ℕ, List, Option, Some, inl, inr, sym, subst}
use Rattle.suit_edge.specs.Flash.{Flash, Now, Passes, IsFlash, IsSame}
use Rattle.suit_edge.specs.FlashLaws.{starts, weakens, joined, each_now, image_on}
use Rattle.flash_layout.specs.declared.frame.Frame.{Frame}
use Rattle.flash_layout.specs.declared.key.Key.{Key}
use Rattle.flash_layout.specs.declared.layout.Entry.{Entry}
use Rattle.flash_layout.specs.Formats.{IsBlankOrFormatted}
use Rattle.rollback_record.specs.Migrating.{OutsideMigration}
use Rattle.suit_cli.specs.Words.{Task, RunInit, RunUpdate, RunBoot, RunMigrate}
use Rattle.suit_cli.specs.Outside.{Outside, Flashed, with_flash}
use Rattle.suit_cli.specs.Inputs.{longest_device, IsRead, IsKey}
use Rattle.suit_cli.specs.Devices.{IsDevice, key_of}
use Rattle.suit_cli.specs.Formatting.{IsShut, MayBe, MayFormat, MayLeave}
use Rattle.suit_cli.specs.Program.{MayBeLeft}

-- no call
pub still : (a : Flash) → Passes a a (Now a)
still a = starts a (Now a) (λ image now. now)

-- ---- by the words

-- the images of the start, of all words
pub start_left : (task : Option Task) (before : Outside) (a : Flash) → Passes a a (MayBeLeft task before a)
start_left task before a = weakens a a (Now a) (MayBeLeft task before a) (λ image now. of_task task image now) (still a) where
  of_task : (t : Option Task) (image : List ℕ) → Now a image → MayBeLeft t before a image
  of_task (Some (RunInit device key_name)) image now = inl now
  of_task (Some (RunUpdate name uris)) image now = tt
  of_task (Some RunBoot) image now = tt
  of_task (Some (RunMigrate base)) image now = image_on (OutsideMigration base) a image now
  of_task _ image now = now

-- ---- `run init`

-- before the format
pub not_yet : (P : List ℕ → Type 0) (a b : Flash) → Passes a b (Now a) → Passes a b (MayBe a P)
not_yet P a b run = weakens a b (Now a) (MayBe a P) (λ image now. inl now) run

-- the key by its bytes
pub way_by_key : (frame : Frame) (extent : ℕ) (layout : List Entry) (x y : Key) → x ≡ y → (a b : Flash) → Passes a b (MayBe a (IsBlankOrFormatted frame extent layout x a))
    → Passes a b (MayBe a (IsBlankOrFormatted frame extent layout y a))
way_by_key frame extent layout x y same a b run = subst (λ (k : Key). Passes a b (MayBe a (IsBlankOrFormatted frame extent layout k a))) same run

-- the format by what was read
pub formats_by : (size extent : ℕ) (device key_name bytes key : List ℕ) (layout : List Entry) (frame : Frame) (before : Outside) (a b : Flash) → size ≡ extent
    → IsRead longest_device device before bytes → IsDevice size bytes layout frame → IsKey key_name before key
    → Passes a b (MayBe a (IsBlankOrFormatted frame extent layout (key_of key) a)) → Passes a b (MayBe a (MayFormat size device key_name before a))
formats_by size extent device key_name bytes key layout frame before a b same read describes has_key run =
    weakens a b (MayBe a (IsBlankOrFormatted frame extent layout (key_of key) a)) (MayBe a (MayFormat size device key_name before a)) (λ image may. of_image image may) run
  where
    of_image : (image : List ℕ) → MayBe a (IsBlankOrFormatted frame extent layout (key_of key) a) image → MayBe a (MayFormat size device key_name before a) image
    of_image image (inl now) = inl now
    of_image image (inr way) = inr (record {
      bytes = bytes;
      layout = layout;
      frame = frame;
      key = key;
      holds = read;
      describes = describes;
      has_key = has_key;
      blank_or_formatted = subst (λ (n : ℕ). IsBlankOrFormatted frame n layout (key_of key) a image) (sym same) way;
    })

-- behind the look at the gate
module _ (device key_name : List ℕ) (before : Outside) (seen : Flashed) (a b c : Flash) (law : IsFlash b before.flash.size) (same : IsSame a b) (shut : IsShut before.flash) (size : ℕ) (is : size ≡ before.flash.size) where
  earlier : (image : List ℕ) → Now b image → Now a image
  earlier image now = each_now a b before.flash.size (Now a) law same.images image now

  as_before : (image : List ℕ) → MayFormat size device key_name (with_flash before seen) b image → MayFormat before.flash.size device key_name before a image
  as_before image way = record {
    bytes = way.bytes;
    layout = way.layout;
    frame = way.frame;
    key = way.key;
    holds = record { holds = way.holds.holds; fits = way.holds.fits };
    describes = subst (λ (n : ℕ). IsDevice n way.bytes way.layout way.frame) is way.describes;
    has_key = record { read = record { holds = way.has_key.read.holds; fits = way.has_key.read.fits }; some = way.has_key.some };
    blank_or_formatted = λ blank. subst (λ (n : ℕ). IsBlankOrFormatted way.frame n way.layout (key_of way.key) b image) is way.blank_or_formatted (λ first now. blank first (earlier first now));
  }

  of_image : (image : List ℕ) → MayBe b (MayFormat size device key_name (with_flash before seen) b) image → MayLeave device key_name before a image
  of_image image (inl now) = inl (earlier image now)
  of_image image (inr way) = inr (shut, as_before image way)

  pub formats_later : Passes b c (MayBe b (MayFormat size device key_name (with_flash before seen) b)) → Passes a c (MayLeave device key_name before a)
  formats_later run =
      joined a b c (MayLeave device key_name before a) (weakens a b (Now a) (MayLeave device key_name before a) (λ image now. inl now) same.images)
      (weakens b c (MayBe b (MayFormat size device key_name (with_flash before seen) b)) (MayLeave device key_name before a) of_image run)
