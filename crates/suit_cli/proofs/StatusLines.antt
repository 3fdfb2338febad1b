-- The stages of `run status`.
use Rattle.std.proofs.Common.{◌≡◌, ◌<◌, ◌+◌, ◌++◌, ◌∷◌, ◌∙◌, ℕ, List, length, drop, get_or, drop-cons, add-one, suc, ap, sym, subst, append_assoc, None, Result, Ok, Err}
use Rattle.std.specs.Prelude.{IsTrue, codes, slice_index}
use Rattle.std.specs.Result.{IsErrAnd}
use Rattle.std.specs.declared.alloc.AllocError.{AllocError}
use Rattle.suit_edge.specs.Flash.{Flash, IsFlash, IsSame}
use Rattle.suit_edge.specs.FlashLaws.{same_flash_then}
use Rattle.flash_layout.specs.declared.frame.Frame.{Frame}
use Rattle.flash_layout.specs.declared.layout.Entry.{Entry}
use Rattle.flash_layout.specs.declared.slot.Record.{Record}
use Rattle.flash_layout.specs.Configs.{ConfigOf, Blank}
use Rattle.flash_layout.specs.Frames.{head_of}
use Rattle.rollback_record.specs.HeadRecord.{RecordOf}
use Rattle.suit_cli.specs.declared.reply.Object.TheVariants as objects
use Rattle.suit_cli.specs.declared.reply.Outcome.TheVariants as outcomes
use Rattle.suit_cli.specs.declared.reply.Reply.{Reply}
use Rattle.suit_cli.specs.declared.reply.Stop.{Stop}
use Rattle.suit_cli.specs.declared.reply.Stop.TheVariants as stops
use Rattle.suit_cli.specs.Outside.{Outside, Looks, IsStill, with_flash}
use Rattle.suit_cli.specs.Replies.{Makes, stop_of}
use Rattle.suit_cli.specs.Stages.{Does}
use Rattle.suit_cli.specs.Installed.{FlashCounts, IsBlank, component_line, component_lines, config_in, lines_in, record_in}

-- ---- the configuration

-- there is none, which was told unless memory ran out
pub blank_there : (before after : Outside) → Looks before after → (IsTrue before.flash.told → ConfigOf before.flash.size before.flash.reads Blank)
    → (made : Result Reply AllocError) (stop : Stop) → Makes made outcomes.Unconfigured (codes "blank\n") → stop ≡ stop_of made → Does config_in before after (Err stop)
blank_there before after looks blank made stop says is = subst (λ (s : Stop). Does config_in before after (Err s)) (sym is) (of_made made says)
  where
    of_made : (m : Result Reply AllocError) → Makes m outcomes.Unconfigured (codes "blank\n") → Does config_in before after (Err (stop_of m))
    of_made (Ok reply) told = (looks, IsBlank blank told)
    of_made (Err e) told = looks

-- ---- the record

-- there is none, which was told unless memory ran out
pub nothing_there : (frame : Frame) (before after : Outside) → Looks before after → (IsTrue before.flash.told → RecordOf frame (head_of frame before.flash.reads) None)
    → (made : Result Reply AllocError) (stop : Stop) → Makes made outcomes.NothingInstalled (codes "nothing installed\n") → stop ≡ stop_of made → Does (record_in frame) before after (Err stop)
nothing_there frame before after looks none made stop says is = subst (λ (s : Stop). Does (record_in frame) before after (Err s)) (sym is) (of_made made says)
  where
    of_made : (m : Result Reply AllocError) → Makes m outcomes.NothingInstalled (codes "nothing installed\n") → Does (record_in frame) before after (Err (stop_of m))
    of_made (Ok reply) told = (looks, record { none = none; says = told })
    of_made (Err e) told = looks

-- ---- lines of the components

-- of one layout
pub lines_of : (x y : List Entry) → x ≡ y → (installed : Record) (result : Result (List ℕ) Stop) (before after : Outside) → Does (lines_in x installed) before after result
    → Does (lines_in y installed) before after result
lines_of x y same installed result before after does = subst (λ (l : List Entry). Does (lines_in l installed) before after result) same does

-- one more line, by what reads gave at the start
pub line_more : (text shown new whole : List ℕ) (i : ℕ) (layout : List Entry) (e : Entry) (active start image : List ℕ) → i < length layout → e ≡ get_or layout i e
    → image ≡ start → shown ≡ component_line i e (slice_index active i) image → new ≡ text ++ shown
    → text ++ component_lines i (drop i layout) active start ≡ whole → new ++ component_lines (i + 1) (drop (i + 1) layout) active start ≡ whole
line_more text shown new whole i layout e active start image within at same line is so_far =
    ap (λ (t : List ℕ). t ++ component_lines (i + 1) (drop (i + 1) layout) active start) (is ∙ ap (λ (l : List ℕ). text ++ l) (line ∙ ap (λ (m : List ℕ). component_line i e (slice_index active i) m) same))
    ∙ append_assoc text (component_line i e (slice_index active i) start) (component_lines (i + 1) (drop (i + 1) layout) active start)
    ∙ ap (λ (l : List Entry). text ++ component_lines i l active start) (sym next)
    ∙ so_far
  where
    next : drop i layout ≡ e ∷ drop (i + 1) layout
    next = drop-cons layout i e within ∙ ap (λ (x : Entry). x ∷ drop (suc i) layout) (sym at) ∙ ap (λ (n : ℕ). e ∷ drop n layout) (sym (add-one i))

-- the flash alone may fail
module _ (layout : List Entry) (installed : Record) (before after : Outside) (beside : after ≡ with_flash before after.flash) (still : IsStill before.flash after.flash) where
  of_stop : (stop : Stop) → FlashCounts {A = Unit {0}} (Err stop) before.flash.faults after.flash.faults → Does (lines_in layout installed) before after (Err stop)
  of_stop (stops.Declined reply) counts = absurd counts
  of_stop (stops.Fault objects.Host) counts = absurd counts
  of_stop (stops.Fault objects.Flash) counts = record { beside = beside; still = still; faulted = counts }
  of_stop stops.NoMemory counts = record { beside = beside; still = still; faults = counts }

  pub no_lines_there : (result : Result (List ℕ) Stop) (stop : Stop) → IsErrAnd result (λ e. e ≡ stop) → FlashCounts {A = Unit {0}} (Err stop) before.flash.faults after.flash.faults
      → Does (lines_in layout installed) before after result
  no_lines_there (Ok lines) stop is counts = absurd is
  no_lines_there (Err other) stop is counts = subst (λ (s : Stop). Does (lines_in layout installed) before after (Err s)) (sym is) (of_stop stop counts)

-- ---- the flash

-- looked at once more, behind two looks
pub same_twice : (a b c d : Flash) (m n : ℕ) → IsFlash b m → IsFlash c n → IsSame a b → IsSame b c → IsSame c d → IsSame a d
same_twice a b c d m n one two first second third = same_flash_then a c d n two (same_flash_then a b c m one first second) third
