-- Laws of what the bytes in a record's bank start.
use Rattle.std.specs.Prelude.{◌≡◌, ℕ, List}
use Rattle.std.specs.List.{AllByRecursion}
use Rattle.det_cbor.specs.DataItem.{IsByte}
use Rattle.suit_envelope.specs.Envelopes.{EnvelopeSays}
use Rattle.suit_manifest.specs.declared.manifest.Manifest.{Manifest}
use Rattle.flash_layout.specs.declared.key.Key.{Key}
use Rattle.flash_layout.specs.declared.layout.Entry.{Entry}
use Rattle.flash_layout.specs.declared.slot.Record.{Record}
use Rattle.rollback_record.specs.SoundFlash.{IsInstalled, key_bytes}
use Rattle.invoke_proc.specs.declared.boot_end.BootEnd.{BootEnd}
use Rattle.invoke_proc.specs.Starting.{IsDeclined, IsStarted}

pub record BootLaws : Type 0 where
  -- bytes are declined for at most one reason
  pub one : (layout : List Entry) (key bytes : List ℕ) (a b : BootEnd) → AllByRecursion IsByte bytes
      → IsDeclined layout key bytes a → IsDeclined layout key bytes b → a ≡ b
  -- bytes that start a manifest are not declined
  pub none : (layout : List Entry) (key bytes : List ℕ) (said : EnvelopeSays) (manifest : Manifest)
      (end : BootEnd)
      → AllByRecursion IsByte bytes
      → IsStarted layout key bytes said manifest → IsDeclined layout key bytes end → ⊥
  -- bytes start one manifest only
  pub same : (layout : List Entry) (key bytes : List ℕ) (said other : EnvelopeSays)
      (manifest next : Manifest)
      → AllByRecursion IsByte bytes
      → IsStarted layout key bytes said manifest → IsStarted layout key bytes other next → (said ≡ other) × (manifest ≡ next)
  -- an installed envelope is started
  pub installed :
      (layout : List Entry) (key : Key) (bytes : List ℕ) (r : Record)
      (is : IsInstalled layout key bytes r)
      → (said : EnvelopeSays) × IsStarted layout (key_bytes key) bytes said is.said
