-- The state between the stages of `run init`.
use Rattle.std.proofs.Common.{◌≡◌, ℕ, ◌≤◌, List, [], ◌∷◌, length, sym, subst, refl, arith, Result, Ok, Err}
use Rattle.std.specs.Prelude.{◌≢◌, IfOk, IsTrue, Some, String, codes, string_bytes}
use Rattle.std.specs.Str.{IsUtf8}
use Rattle.std.specs.declared.alloc.AllocError.{AllocError}
use Rattle.std.specs.declared.alloc.Global.{Global}
use Rattle.serde_json.specs.Data.{Data}
use Rattle.serde_json.specs.Read.{read}
use Rattle.flash_layout.specs.declared.frame.Frame.{Frame}
use Rattle.flash_layout.specs.declared.layout.Entry.{Entry}
use Rattle.flash_layout.specs.declared.layout_fault.LayoutFault.{LayoutFault}
use Rattle.flash_layout.specs.declared.layout_fault.LayoutFault.TheVariants as faults
use Rattle.flash_layout.specs.Formats.{HasOpenGate}
use Rattle.flash_layout.specs.LayoutFaults.{IsFaultOf, IsLayoutOf, RefusesLayout}
use Rattle.suit_cli.specs.declared.reply.Reply.{Reply}
use Rattle.suit_cli.specs.declared.reply.Stop.{Stop}
use Rattle.suit_cli.specs.declared.reply.Stop.TheVariants as stops
use Rattle.suit_cli.specs.declared.reply.Outcome.TheVariants as outcomes
use Rattle.flash_layout.specs.declared.key.Key.{Key}
use Rattle.suit_cli.specs.Outside.{Outside, Flashed, Looks, with_flash}
use Rattle.suit_cli.specs.Replies.{Makes, refused_by, stop_of}
use Rattle.suit_cli.specs.Stages.{Ending, Does, Finds, ending_of}
use Rattle.suit_cli.specs.Formatting.{formatting, formats}
use Rattle.suit_cli.specs.Inputs.{IsRead, IsKey}
use Rattle.suit_cli.proofs.Chains.{stopped}
use Rattle.suit_cli.proofs.SameFiles.{key_here}
use Rattle.suit_cli.specs.Json.{json_in}
use Rattle.suit_cli.specs.Devices.{IsFaultLine, IsNoJson, IsNoLayout, device_in}

-- ---- a description

module _ (size : ℕ) (x y : List ℕ) (same : x ≡ y) (result : Result (List Entry × Frame) Stop) where
  pub device_of : Finds (device_in size x) result → Finds (device_in size y) result
  device_of finds = subst (λ (b : List ℕ). Finds (device_in size b) result) same finds

-- only a fault that has a line is told
fault_stands : (size : ℕ) (d : Data) (fault : LayoutFault) (line : List ℕ) → IsFaultOf size d fault → IsFaultLine fault line → RefusesLayout size d fault
fault_stands size d (faults.BadField pointer) line is tells = is
fault_stands size d (faults.BadHex pointer) line is tells = is
fault_stands size d (faults.BadUuid pointer) line is tells = is
fault_stands size d (faults.TooMany n) line is tells = is
fault_stands size d (faults.TwoAlike i j) line is tells = is
fault_stands size d (faults.Overlap i j) line is tells = is
fault_stands size d (faults.Outside i) line is tells = is
fault_stands size d faults.BaseOutside line is tells = is
fault_stands size d (faults.BaseOverlap i) line is tells = is
fault_stands size d faults.NoMemory line is tells = absurd tells

pub layout_there : (size : ℕ) (bytes : List ℕ) (d : Data) (layout : List Entry) (frame : Frame) → IsUtf8 bytes → read bytes ≡ Some d → IsLayoutOf size d layout frame
    → (here : Outside) → Does (device_in size bytes) here here (Ok (layout, frame))
layout_there size bytes d layout frame utf8 reads is here = (refl, record { utf8 = utf8; value = d; reads = reads; describes = is })

-- it is no JSON
pub no_device_text : (size : ℕ) (bytes : List ℕ) (here : Outside) (stop : Stop) → Does (json_in bytes) here here (Err stop) → Does (device_in size bytes) here here (Err stop)
no_device_text size bytes here (stops.Declined reply) d = (d.0, IsNoJson d.1.unread d.1.says)
no_device_text size bytes here (stops.Fault object) d = d
no_device_text size bytes here stops.NoMemory d = d

pub no_layout_there : (size : ℕ) (bytes : List ℕ) (d : Data) (fault : LayoutFault) (line : Result (String Global) AllocError) → IsUtf8 bytes → read bytes ≡ Some d
    → IsFaultOf size d fault → IfOk line (λ t. IsFaultLine fault (string_bytes t)) → (here : Outside) → Does (device_in size bytes) here here (Err (refused_by line))
no_layout_there size bytes d fault (Ok line) utf8 reads is tells here = (refl, IsNoLayout d fault utf8 reads (fault_stands size d fault (string_bytes line) is tells) (record { outcome_is = refl; line = tells }))
no_layout_there size bytes d fault (Err e) utf8 reads is tells here = refl

-- ---- a key

pub some_bytes : (key : List ℕ) → key ≢ [] → 1 ≤ length key
some_bytes [] some = absurd (some refl)
some_bytes (byte ∷ bytes) some = omega arith

-- ---- the format

pub looks_self : (o : Outside) → Looks o o
looks_self o = record { beside = refl; still = record { told = refl; size = refl; reads = λ t. refl }; faults = refl }

-- a gate is open after all, which was told unless memory ran out
pub in_use_there : (frame : Frame) (layout : List Entry) (key : Key) (before after : Outside) → Looks before after → (IsTrue before.flash.told → HasOpenGate before.flash.reads)
    → (made : Result Reply AllocError) (stop : Stop) → Makes made outcomes.NotBlank (codes "not blank\n") → stop ≡ stop_of made
    → formats frame layout key before after (ending_of (Err stop))
in_use_there frame layout key before after looks opened made stop says is =
    subst (λ (s : Stop). formats frame layout key before after (ending_of (Err s))) (sym is) (stopped (formatting frame layout key) _ before after (stop_of made) (of_made made says))
  where
    of_made : (m : Result Reply AllocError) → Makes m outcomes.NotBlank (codes "not blank\n") → Does (formatting frame layout key) before after (Err (stop_of m))
    of_made (Ok reply) told = (looks, record { opened = opened; says = told })
    of_made (Err e) told = looks

pub by_key : (frame : Frame) (layout : List Entry) (x y : Key) → x ≡ y → (before after : Outside) (ending : Ending) → formats frame layout x before after ending → formats frame layout y before after ending
by_key frame layout x y same before after ending told = subst (λ (k : Key). formats frame layout k before after ending) same told

-- ---- the same files beside another flash

pub as_seen : (before : Outside) (f : Flashed) (limit : ℕ) (name bytes : List ℕ) → IsRead limit name (with_flash before f) bytes → IsRead limit name before bytes
as_seen before f limit name bytes read = record { holds = read.holds; fits = read.fits }

pub key_seen : (before m : Outside) (f : Flashed) → m.told ≡ before.told → (IsTrue before.told → m.files ≡ before.files) → (name key : List ℕ) → IsKey name (with_flash m f) key → IsKey name before key
key_seen before m f told files name key is =
    key_here m before told files name key (record { read = record { holds = is.read.holds; fits = is.read.fits }; some = is.some })
