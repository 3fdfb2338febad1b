-- The clauses of a boot about the flash, from those of its stages.
use Rattle.std.proofs.Common.{◌≡◌, ◌⊎◌, inl, inr, ⊎_elim, ℕ, List, Option, Some, refl, sym, subst}
use Rattle.step_machine.specs.Devices.{device_at}
use Rattle.suit_edge.specs.Flash.{Flash, IsFlash, IsSame, IsSettled}
use Rattle.suit_edge.specs.FlashLaws.{keeps_same, keeps_then, same_flash_then}
use Rattle.suit_edge.specs.declared.launch.Launch.{Launch}
use Rattle.suit_envelope.specs.Envelopes.{EnvelopeSays, map_entries}
use Rattle.suit_envelope.specs.Payloads.{HasPayloads, integrated_payloads}
use Rattle.suit_envelope.specs.Said.{EnvelopeOf, said_by}
use Rattle.suit_manifest.specs.declared.manifest.Manifest.{Manifest}
use Rattle.manifest_view.specs.Views.{manifest_of}
use Rattle.suit_manifest.specs.Procedures.{invocation_tree}
use Rattle.path_model.specs.declared.cause.Cause.TheVariants as causes
use Rattle.flash_layout.specs.declared.frame.Frame.{Frame}
use Rattle.flash_layout.specs.declared.key.Key.{Key}
use Rattle.flash_layout.specs.declared.layout.Entry.{Entry}
use Rattle.flash_layout.specs.declared.slot.Record.{Record}
use Rattle.rollback_record.specs.SoundFlash.{key_bytes}
use Rattle.admission.specs.declared.refusal.NotStartable.{NotStartable}
use Rattle.admission.specs.declared.starting.Start.{Start}
use Rattle.admission.specs.Starting.{IsNotStartable, IsStartable}
use Rattle.step_machine.specs.declared.plan_end.PlanEnd.{PlanEnd}
use Rattle.step_machine.specs.declared.plan_end.PlanEnd.TheVariants as plays
use Rattle.step_machine.specs.PlanRuns.{OutsideTargets}
use Rattle.invoke_proc.specs.declared.bank.NoBank.{NoBank}
use Rattle.invoke_proc.specs.declared.bank.NoBank.TheVariants as banks
use Rattle.invoke_proc.specs.declared.boot_end.BootEnd.{BootEnd}
use Rattle.invoke_proc.specs.declared.boot_end.BootEnd.TheVariants as ends
use Rattle.invoke_proc.specs.Banks.{IsNoBank, bank_in, record_in, without_bank}
use Rattle.invoke_proc.specs.Booting.{Answers, IfUnfaulted, IsStartEnd, KeepsBoot, KeepsOthers, KeptSo, PlayedSo, PlaysBoot, PlaysOn, Starts}
use Rattle.invoke_proc.specs.Starting.{IsDeclined, IsStarted, declined_as}
use Rattle.invoke_proc.proofs.BankSays.{declined}

-- ---- where no envelope is read

pub none_answers : (frame : Frame) (layout : List Entry) (key : Key) (reads : List ℕ) (fault : NoBank) → IsNoBank frame reads fault → Answers frame layout key reads (without_bank fault)
none_answers frame layout key reads banks.NothingInstalled is = is
none_answers frame layout key reads banks.FlashFault is = is

pub none_plays : (P : PlanEnd → Type 0) (Same : Type 0) (launches : List Launch) (fault : NoBank) → Same → PlayedSo P Same launches launches (without_bank fault)
none_plays P Same launches banks.NothingInstalled same = refl
none_plays P Same launches banks.FlashFault same = inl (refl, same)

-- ---- of any answer

pub always : (P : Type 0) (answer : BootEnd) → P → IfUnfaulted answer P
always P (ends.Stopped place causes.FlashFault) p = tt
always P ends.FlashFault p = tt
always P _ p = p

pub played_as : (P Q : PlanEnd → Type 0) (Same Also : Type 0) (launched now : List Launch) (answer : BootEnd) → ((end : PlanEnd) → P end → Q end) → (Same → Also) → PlayedSo P Same launched now answer
    → PlayedSo Q Also launched now answer
played_as P Q Same Also launched now ends.Ended to also p = to plays.Done p
played_as P Q Same Also launched now ends.NothingInstalled to also p = p
played_as P Q Same Also launched now (ends.BadBank r) to also p = p
played_as P Q Same Also launched now (ends.NotAuthentic l) to also p = p
played_as P Q Same Also launched now (ends.UnknownComponent i) to also p = p
played_as P Q Same Also launched now (ends.Condition place) to also p = to (plays.ConditionFailed place) p
played_as P Q Same Also launched now (ends.Stopped place cause) to also p = to (plays.DirectiveFailed place cause) p
played_as P Q Same Also launched now ends.FlashFault to also p = ⊎_elim (λ none. inl (none.0, also none.1)) (λ some. inr (some.0, to some.0 some.1, some.2)) p

pub kept_as : (P Q R S : Type 0) (answer : BootEnd) → (P → Q) → (R → S) → KeptSo P R answer → KeptSo Q S answer
kept_as P Q R S ends.Ended to also p = to p
kept_as P Q R S ends.NothingInstalled to also p = also p
kept_as P Q R S (ends.BadBank r) to also p = also p
kept_as P Q R S (ends.NotAuthentic l) to also p = also p
kept_as P Q R S (ends.UnknownComponent i) to also p = also p
kept_as P Q R S (ends.Condition place) to also p = to p
kept_as P Q R S (ends.Stopped place cause) to also p = to p
kept_as P Q R S ends.FlashFault to also p = ⊎_elim (λ same. inl (also same)) (λ kept. inr (to kept)) p

-- ---- where it is declined

module _ (frame : Frame) (layout : List Entry) (key : Key) (reads : List ℕ) (r : Record) (recorded : record_in frame reads (Some r)) where
  declined_answers : (end : BootEnd) → IsDeclined layout (key_bytes key) (bank_in frame reads r) end → Answers frame layout key reads end
  declined_answers (ends.BadBank refusal) is = (r, recorded, is)
  declined_answers (ends.NotAuthentic l) is = (r, recorded, is)
  declined_answers (ends.UnknownComponent i) is = (r, recorded, is)
  declined_answers _ is = absurd is

  pub refused_answers : (word bytes : List ℕ) (refusal : NotStartable) (end : BootEnd) → word ≡ key_bytes key → bytes ≡ bank_in frame reads r → end ≡ declined_as refusal
      → IsNotStartable layout word bytes refusal → Answers frame layout key reads end
  refused_answers word bytes refusal end key_is bytes_is end_is refused =
      subst (λ (e : BootEnd). Answers frame layout key reads e) (sym end_is)
      (declined_answers (declined_as refusal)
      (subst (λ (b : List ℕ). IsDeclined layout (key_bytes key) b (declined_as refusal)) bytes_is
      (subst (λ (k : List ℕ). IsDeclined layout k bytes (declined_as refusal)) key_is (declined layout word bytes refusal refused))))

  -- ---- where something is started

  module _ (m : Manifest) (starts : Starts frame layout key reads r m) where
    pub start_answers : (end : BootEnd) → IsStartEnd end → Answers frame layout key reads end
    start_answers ends.Ended is = (r, m, starts)
    start_answers (ends.Condition place) is = (r, m, starts)
    start_answers (ends.Stopped place cause) is = (r, m, starts)
    start_answers ends.FlashFault is = tt
    start_answers _ is = absurd is

-- ---- from the moment before the bank was read

pub started_from : (frame : Frame) (layout : List Entry) (key : Key) (reads word bytes : List ℕ) (r : Record) (start : Start) → record_in frame reads (Some r) → word ≡ key_bytes key
    → bytes ≡ bank_in frame reads r → IsStartable layout word bytes (said_by start.envelope) (manifest_of start.manifest) start.places → Starts frame layout key reads r (manifest_of start.manifest)
started_from frame layout key reads word bytes r start recorded key_is bytes_is is = record {
  recorded = recorded;
  said = said_by start.envelope;
  started = subst (λ (l : List ℕ). IsStarted layout (key_bytes key) l (said_by start.envelope) (manifest_of start.manifest)) bytes_is
      (subst (λ (k : List ℕ). IsStarted layout k bytes (said_by start.envelope) (manifest_of start.manifest)) key_is (start.places, is));
}

pub payloads_in : (bytes : List ℕ) (said : EnvelopeSays) → EnvelopeOf bytes said → (payloads : List (List ℕ × List ℕ)) × HasPayloads bytes payloads
payloads_in bytes said envelope = (integrated_payloads (map_entries envelope.says_so.map), record { said = said; envelope = envelope; are = refl })

pub plays_boot : (frame : Frame) (layout : List Entry) (key : Key) (files : List ℕ → Option (List ℕ)) (reads before after : List ℕ) (launched now : List Launch) (r : Record) (m : Manifest)
    → Starts frame layout key reads r m → before ≡ reads
    → (end : PlanEnd) → PlaysOn layout m r.active files (device_at before launched) (device_at after now) end → PlaysBoot frame layout key files (device_at reads launched) (device_at after now) end
plays_boot frame layout key files reads before after launched now r m starts read end on = record {
  installed = r;
  manifest = m;
  starts = starts;
  on = subst (λ (l : List ℕ). PlaysOn layout m r.active files (device_at l launched) (device_at after now) end) read on;
}

pub keeps_boot : (frame : Frame) (layout : List Entry) (key : Key) (r : Record) (m : Manifest) (a b c : Flash) (size : ℕ) → IsFlash b size → IsSame a b
    → Starts frame layout key a.reads r m → KeepsOthers layout m r.active b c → KeepsBoot frame layout key a c
keeps_boot frame layout key r m a b c size law same starts others = record {
  installed = r;
  manifest = m;
  starts = starts;
  others = record {
    standings = others.standings;
    stand = others.stand;
    keeps =
        let K = OutsideTargets (invocation_tree m) others.standings in
        keeps_then K a b c size law (keeps_same K a b same) others.keeps;
  };
}

pub settled_from : (a b c : Flash) (size : ℕ) → IsFlash b size → IsSame a b → IsSame b c ⊎ IsSettled c → IsSame a c ⊎ IsSettled c
settled_from a b c size law same end = ⊎_elim (λ still. inl (same_flash_then a b c size law same still)) (λ settled. inr settled) end
