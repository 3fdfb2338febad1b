-- The answer to a procedure that was played.
use Rattle.std.proofs.Common.{◌≡◌, inr, ⊎_elim, ℕ, List, [], Option, sym, subst}
use Rattle.std.proofs.lemmas.List.{ext_get_or}
use Rattle.suit_edge.specs.Flash.{Flash, ImageOn, IsFlash, IsSame, Keeps, Now}
use Rattle.suit_edge.specs.FlashLaws.{keeps_same, keeps_then, same_flash_then, weakens}
use Rattle.suit_edge.specs.Ranges.{SameOn}
use Rattle.suit_edge.specs.declared.launch.Launch.{Launch}
use Rattle.suit_commands.specs.Tree.{PlanTree}
use Rattle.suit_manifest.specs.declared.manifest.Manifest.{Manifest}
use Rattle.suit_manifest.specs.Procedures.{invocation_tree}
use Rattle.path_model.specs.declared.cause.Cause.TheVariants as causes
use Rattle.flash_layout.specs.declared.layout.Entry.{Entry}
use Rattle.flash_slots.specs.RamContents.{Held, empty_ram}
use Rattle.step_machine.specs.declared.plan_end.PlanEnd.{PlanEnd}
use Rattle.step_machine.specs.declared.plan_end.PlanEnd.TheVariants as plays
use Rattle.step_machine.specs.declared.spot.Standing.{Standing}
use Rattle.step_machine.specs.Devices.{contents_of, device_at}
use Rattle.path_model.specs.Settings.{steady}
use Rattle.step_machine.specs.PlanRuns.{Counts, EndCounts, OutsideTargets, PlaysPlan, counts_of, setting_of}
use Rattle.step_machine.proofs.Counting.{failed_behind, not_fallen}
use Rattle.invoke_proc.specs.declared.boot_end.BootEnd.{BootEnd}
use Rattle.invoke_proc.specs.declared.boot_end.BootEnd.TheVariants as ends
use Rattle.invoke_proc.specs.Booting.{IfUnfaulted, IsStartEnd, KeepsOthers, KeptSo, PlayedSo, PlaysOn, SettledSo, StandActive, end_of}
use Rattle.invoke_proc.specs.Counting.{BootCounts}
use Rattle.invoke_proc.proofs.WritingSteps.{WritesNothing}

-- ---- counts

boot_counts : (end : PlanEnd) (a b : Counts) → EndCounts end a b → BootCounts (end_of end) a b
boot_counts plays.Done a b is = is
boot_counts (plays.ConditionFailed place) a b is = is
boot_counts (plays.DirectiveFailed place cause) a b is = is

-- ---- consequences of a settled procedure

module _ (end : PlanEnd) (answer : BootEnd) (d e : ℕ) (settled : SettledSo end answer d e) where
  pub counts_after : (h b l i m : ℕ) → EndCounts end (counts_of h b l) (counts_of i d m) → BootCounts answer (counts_of h b l) (counts_of i e m)
  counts_after h b l i m is =
      ⊎_elim (λ same. subst (λ (a : BootEnd). BootCounts a (counts_of h b l) (counts_of i e m)) (sym same.0)
      (boot_counts end (counts_of h b l) (counts_of i e m) (subst (λ (n : ℕ). EndCounts end (counts_of h b l) (counts_of i n m)) (sym same.1) is)))
      (λ fault. subst (λ (a : BootEnd). BootCounts a (counts_of h b l) (counts_of i e m)) (sym fault.1)
      (failed_behind h b l i d m e (not_fallen end (counts_of h b l) (counts_of i d m) is) fault.2))
      settled

  start_end : (end : PlanEnd) → IsStartEnd (end_of end)
  start_end plays.Done = tt
  start_end (plays.ConditionFailed place) = tt
  start_end (plays.DirectiveFailed place cause) = tt

  pub starts_after : IsStartEnd answer
  starts_after = ⊎_elim (λ same. subst IsStartEnd (sym same.0) (start_end end)) (λ fault. subst IsStartEnd (sym fault.1) tt) settled

  played_end : (P : PlanEnd → Type 0) (Same : Type 0) (launched now : List Launch) (end : PlanEnd) → P end → PlayedSo P Same launched now (end_of end)
  played_end P Same launched now plays.Done p = p
  played_end P Same launched now (plays.ConditionFailed place) p = p
  played_end P Same launched now (plays.DirectiveFailed place cause) p = p

  pub plays_after : (P : PlanEnd → Type 0) (Same : Type 0) (launched now : List Launch) → P end → PlayedSo P Same launched now answer
  plays_after P Same launched now p =
      ⊎_elim (λ same. subst (PlayedSo P Same launched now) (sym same.0) (played_end P Same launched now end p)) (λ fault. subst (PlayedSo P Same launched now) (sym fault.1) (inr (end, p, fault.0))) settled

  kept_end : (Kept Same : Type 0) (end : PlanEnd) → Kept → KeptSo Kept Same (end_of end)
  kept_end Kept Same plays.Done k = k
  kept_end Kept Same (plays.ConditionFailed place) k = k
  kept_end Kept Same (plays.DirectiveFailed place cause) k = k

  pub kept_after : (Kept Same : Type 0) → Kept → KeptSo Kept Same answer
  kept_after Kept Same k =
      ⊎_elim (λ same. subst (KeptSo Kept Same) (sym same.0) (kept_end Kept Same end k)) (λ fault. subst (KeptSo Kept Same) (sym fault.1) (inr k)) settled

-- a property without a fault of the flash is weakened
pub unfaulted : (P Q : Type 0) (answer : BootEnd) → (P → Q) → IfUnfaulted answer P → IfUnfaulted answer Q
unfaulted P Q (ends.Stopped place causes.FlashFault) to p = tt
unfaulted P Q ends.FlashFault to p = tt
unfaulted P Q _ to p = to p

-- ---- the play, from the world that it was played on

pub plays_on : (layout : List Entry) (manifest : Manifest) (active : List ℕ) (uris : List (List ℕ × List ℕ)) (files : List ℕ → Option (List ℕ))
    (before between after : List ℕ) (launched now : List Launch) (end : PlanEnd) (standings : List Standing) (ram left : List Held)
    → StandActive layout manifest.components active standings → ram ≡ empty_ram layout → uris ≡ [] → after ≡ between
    → (plan : PlanTree) → plan ≡ invocation_tree manifest
    → (given : ℕ → List ℕ → Option (List ℕ)) → given ≡ steady files
    → PlaysPlan plan (setting_of standings [] uris given) end (contents_of standings ram before) (contents_of standings left between) launched now
    → PlaysOn layout manifest active files (device_at before launched) (device_at after now) end
plays_on layout manifest active uris files before between after launched now end standings ram left stand none words same plan is given gives played = record {
  standings = standings;
  stand = stand;
  ram = left;
  plays =
      subst (λ (l : List ℕ). PlaysPlan (invocation_tree manifest) (setting_of standings [] [] (steady files)) end (contents_of standings (empty_ram layout) before) (contents_of standings left l) launched now) (sym same)
      (subst (λ (r : List Held). PlaysPlan (invocation_tree manifest) (setting_of standings [] [] (steady files)) end (contents_of standings r before) (contents_of standings left between) launched now) none
      (subst (λ (u : List (List ℕ × List ℕ)). PlaysPlan (invocation_tree manifest) (setting_of standings [] u (steady files)) end (contents_of standings ram before) (contents_of standings left between) launched now) words
      (subst (λ (t : PlanTree). PlaysPlan t (setting_of standings [] uris (steady files)) end (contents_of standings ram before) (contents_of standings left between) launched now) is
      (subst (λ (f : ℕ → List ℕ → Option (List ℕ)). PlaysPlan plan (setting_of standings [] uris f) end (contents_of standings ram before) (contents_of standings left between) launched now) gives played))));
}

pub keeps_on : (layout : List Entry) (manifest : Manifest) (active : List ℕ) (standings : List Standing) (a b c : Flash) (size : ℕ) → IsFlash b size
    → StandActive layout manifest.components active standings → (plan : PlanTree) → plan ≡ invocation_tree manifest → Keeps (OutsideTargets plan standings) a b → IsSame b c
    → KeepsOthers layout manifest active a c
keeps_on layout manifest active standings a b c size law stand plan is kept same = record {
  standings = standings;
  stand = stand;
  keeps = keeps_then (OutsideTargets (invocation_tree manifest) standings) a b c size law (subst (λ (t : PlanTree). Keeps (OutsideTargets t standings) a b) is kept) (keeps_same (OutsideTargets (invocation_tree manifest) standings) b c same);
}

-- ---- a procedure that writes nothing

-- all places are kept
kept_same : (K : ℕ → Type 0) → ((i : ℕ) → K i) → (a b : Flash) → Keeps K a b → IsSame a b
kept_same K all a b kept = record {
  reads = same_bytes a.reads b.reads kept.reads;
  images = weakens a b (ImageOn K a) (Now a) (λ image on. subst (Now a) (sym (same_bytes on.from image on.same)) on.was) kept.images;
}
  where
    same_bytes : (old new : List ℕ) → SameOn K old new → new ≡ old
    same_bytes old new same = ext_get_or 0 new old same.size (λ i lt. same.same i (all i))

pub unwritten : (plan : PlanTree) (standings : List Standing) (a b c : Flash) (size : ℕ) → IsFlash b size → Keeps (OutsideTargets plan standings) a b → IsSame b c → WritesNothing plan → IsSame a c
unwritten plan standings a b c size law kept same none =
    same_flash_then a b c size law (kept_same (OutsideTargets plan standings) (λ i k d lt target. absurd (none k target)) a b kept) same
