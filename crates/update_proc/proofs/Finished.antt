-- The answer of an update, by how its procedure ended and by what came behind it.
use Rattle.std.proofs.Common.{◌≡◌, ◌⊎◌, inl, inr, ⊎_elim, ◌<◌, ℕ, ◌-◌, ◌^◌, ◌++◌, Bool, true, List, Option, Some, None, IfSome, refl, sym, ◌∙◌, ap, subst, arith}
use Rattle.std.specs.Prelude.{◌≢◌, IsTrue}
use Rattle.suit_edge.specs.declared.launch.Launch.{Launch}
use Rattle.suit_params.specs.declared.digest.Digest.{Digest}
use Rattle.path_model.specs.declared.cause.Cause.{Cause}
use Rattle.path_model.specs.declared.cause.Cause.TheVariants as causes
use Rattle.flash_layout.specs.declared.frame.Frame.{Frame}
use Rattle.flash_layout.specs.declared.layout.Entry.{Entry}
use Rattle.flash_layout.specs.declared.slot.Record.{Record}
use Rattle.flash_layout.specs.Slots.{slot_content}
use Rattle.flash_layout.specs.Frames.{head_of}
use Rattle.rollback_record.specs.Committing.{HasHeldOrNew}
use Rattle.rollback_record.specs.HeadRecord.{IsLoadable, RecordOf}
use Rattle.suit_edge.specs.Ranges.{SameOn}
use Rattle.suit_edge.specs.RangeLaws.{same_start}
use Rattle.rollback_record.specs.Judging.{IsAcceptable}
use Rattle.rollback_record.specs.RecordLaws.{OneAnswer}
use Rattle.rollback_record.specs.SoundFlash.{IsNoEarlier}
use Rattle.step_machine.specs.declared.plan_end.PlanEnd.{PlanEnd}
use Rattle.step_machine.specs.declared.plan_end.PlanEnd.TheVariants as plays
use Rattle.step_machine.specs.declared.spot.Standing.{Standing}
use Rattle.step_machine.specs.Devices.{DeviceAt, contents_of, device_at}
use Rattle.step_machine.specs.PlanRuns.{Counts, EndCounts, GivesAs, IsUnfaulted, PlaysPlan, counts_of, setting_of}
use Rattle.step_machine.proofs.Counting.{failed_behind, not_fallen}
use Rattle.step_machine.specs.Worlds.{IsChoice, StandAs}
use Rattle.suit_commands.specs.Tree.{PlanTree}
use Rattle.flash_layout.specs.declared.place.Places.{Places}
use Rattle.flash_slots.specs.RamContents.{Held, empty_ram}
use Rattle.update_proc.specs.Choices.{AreChosen, active_slots}
use Rattle.update_proc.specs.declared.update_end.UpdateEnd.{UpdateEnd}
use Rattle.update_proc.specs.declared.update_end.UpdateEnd.TheVariants as ends
use Rattle.update_proc.specs.Ends.{FinishedSo, IfInstalled, IfStopped, IfTold, IfUnfaulted, IsEnd, IsRefusal, IsUnbegun, JudgedSo, SettledSo, StoppedSo, UpdateCounts}
use Rattle.update_proc.specs.Installing.{BesideHead, IsNotWorn}
use Rattle.update_proc.specs.Moments.{HasContentsOf, Placed, placed_on}
use Rattle.update_proc.specs.Records.{next_generation}
use Rattle.update_proc.specs.Updates.{Hosted, hosted, KeptSo, LaunchesBy, PlayedSo, PlaysUpdate, sources}

-- ---- acceptance

pub not_worn : (frame : Frame) (held : Option Record) (sequence : ℕ) (digest : Digest) → IfSome held (IsLoadable frame) → IsAcceptable sequence digest held → IfSome held IsNotWorn
not_worn frame None sequence digest few is = tt
not_worn frame (Some r) sequence digest few is = below r.generation few.typed.generation is.1
  where
    below : (n : ℕ) → n < 2 ^ 64 → n ≢ 2 ^ 64 - 1 → n < 2 ^ 64 - 1
    below n low other = omega (arith, low, other)

pub no_earlier : (held : Option Record) (new : Record) (sequence : ℕ) (digest : Digest) → new.sequence ≡ sequence → new.digest ≡ digest → IsAcceptable sequence digest held → IfSome held (λ r. IsNoEarlier r new)
no_earlier None new sequence digest number same is = tt
no_earlier (Some r) new sequence digest number same is = record {
  number = omega (arith, number, is.0.number);
  same = λ equal. sym (same ∙ is.0.same (sym number ∙ sym equal));
}

-- a record has another generation than the one before it
abbrev generation_of : Option Record → ℕ
generation_of None = 0
generation_of (Some r) = r.generation

no_loop : (held : Option Record) (n : ℕ) → n ≡ next_generation held → generation_of held ≡ n → ⊥
no_loop None n is same = omega (arith, is, same)
no_loop (Some r) n is same = omega (arith, is, same)

pub not_held : (one : OneAnswer) (frame : Frame) (head : List ℕ) (held : Option Record) (new : Record) → new.generation ≡ next_generation held → RecordOf frame head held → RecordOf frame head (Some new) → ⊥
not_held one frame head held new is old now = no_loop held new.generation is (ap generation_of (one frame head held (Some new) old now))

-- ---- counts

end_counts : (end : PlanEnd) (answer : UpdateEnd) (a b : Counts) → IsEnd end answer → EndCounts end a b → UpdateCounts answer a b
end_counts plays.Done answer a b (r, same) is = subst (λ (x : UpdateEnd). UpdateCounts x a b) (sym same) is
end_counts (plays.ConditionFailed place) answer a b same is = subst (λ (x : UpdateEnd). UpdateCounts x a b) (sym same) is
end_counts (plays.DirectiveFailed place cause) answer a b same is = subst (λ (x : UpdateEnd). UpdateCounts x a b) (sym same) is

start_end : (end : PlanEnd) (answer : UpdateEnd) → IsEnd end answer → IsRefusal answer → ⊥
start_end plays.Done answer (r, same) is = subst IsRefusal same is
start_end (plays.ConditionFailed place) answer same is = subst IsRefusal same is
start_end (plays.DirectiveFailed place cause) answer same is = subst IsRefusal same is

-- what a procedure left was synced, in which the flash did not fail
pub settled_so : (end : PlanEnd) (stop answer : UpdateEnd) (d e : ℕ) → IsEnd end stop → IsUnfaulted end → SettledSo stop answer d e → FinishedSo end answer d e
settled_so end stop answer d e is unfaulted settled =
    ⊎_elim (λ same. inl (subst (IsEnd end) (sym same.0) is, same.1)) (λ fault. inr (unfaulted, fault.0, fault.1)) settled

-- a directive that failed, where what it left was synced
pub stopped_so : (place : ℕ) (cause : Cause) (answer : UpdateEnd) (d e : ℕ) → StoppedSo place cause answer d e → FinishedSo (plays.DirectiveFailed place cause) answer d e
stopped_so place causes.FlashFault answer d e is = inl is
stopped_so place causes.Missing answer d e is = settled_so (plays.DirectiveFailed place causes.Missing) (ends.Stopped place causes.Missing) answer d e refl tt is
stopped_so place causes.SelfCopy answer d e is = settled_so (plays.DirectiveFailed place causes.SelfCopy) (ends.Stopped place causes.SelfCopy) answer d e refl tt is
stopped_so place causes.TooLarge answer d e is = settled_so (plays.DirectiveFailed place causes.TooLarge) (ends.Stopped place causes.TooLarge) answer d e refl tt is
stopped_so place causes.Absent answer d e is = settled_so (plays.DirectiveFailed place causes.Absent) (ends.Stopped place causes.Absent) answer d e refl tt is
stopped_so place causes.HostFault answer d e is = settled_so (plays.DirectiveFailed place causes.HostFault) (ends.Stopped place causes.HostFault) answer d e refl tt is
stopped_so place causes.LaunchFault answer d e is = settled_so (plays.DirectiveFailed place causes.LaunchFault) (ends.Stopped place causes.LaunchFault) answer d e refl tt is

-- ---- consequences of an end

-- some end has P, where the procedure's has
left_end : (P : UpdateEnd → Type 0) (end : PlanEnd) (answer : UpdateEnd) → ((r : Record) → answer ≡ ends.Installed r → end ≡ plays.Done → P (ends.Installed r))
    → ((place : ℕ) → answer ≡ ends.Condition place → end ≡ plays.ConditionFailed place → P (ends.Condition place))
    → ((place : ℕ) (cause : Cause) → answer ≡ ends.Stopped place cause → end ≡ plays.DirectiveFailed place cause → P (ends.Stopped place cause)) → IsEnd end answer → P answer
left_end P plays.Done answer done condition stopped (r, same) = subst P (sym same) (done r same refl)
left_end P (plays.ConditionFailed place) answer done condition stopped same = subst P (sym same) (condition place same refl)
left_end P (plays.DirectiveFailed place cause) answer done condition stopped same = subst P (sym same) (stopped place cause same refl)

module _ (end : PlanEnd) (answer : UpdateEnd) (d e : ℕ) (finished : FinishedSo end answer d e) where
  pub counts_after : (h b l i m : ℕ) → EndCounts end (counts_of h b l) (counts_of i d m) → UpdateCounts answer (counts_of h b l) (counts_of i e m)
  counts_after h b l i m is = ⊎_elim
      (λ so. end_counts end answer (counts_of h b l) (counts_of i e m) so.0 (subst (λ (n : ℕ). EndCounts end (counts_of h b l) (counts_of i n m)) (sym so.1) is))
      (λ fault. subst (λ (a : UpdateEnd). UpdateCounts a (counts_of h b l) (counts_of i e m)) (sym fault.1)
      (failed_behind h b l i d m e (not_fallen end (counts_of h b l) (counts_of i d m) is) fault.2))
      finished

  pub starts_after : IsRefusal answer → ⊥
  starts_after = ⊎_elim (λ so. start_end end answer so.0) (λ fault. subst IsRefusal fault.1) finished

  -- P holds of the answer, where it does of each that may come
  pub after : (P : UpdateEnd → Type 0) → ((r : Record) → answer ≡ ends.Installed r → end ≡ plays.Done → P (ends.Installed r))
      → ((place : ℕ) → answer ≡ ends.Condition place → end ≡ plays.ConditionFailed place → P (ends.Condition place))
      → ((place : ℕ) (cause : Cause) → answer ≡ ends.Stopped place cause → end ≡ plays.DirectiveFailed place cause → P (ends.Stopped place cause)) → (IsUnfaulted end → P ends.FlashFault) → P answer
  after P done condition stopped fault_is = ⊎_elim (λ so. left_end P end answer done condition stopped so.0) (λ fault. subst P (sym fault.1) (fault_is fault.0)) finished

-- a property without a fault of the flash is weakened
pub unfaulted : (P Q : Type 0) (answer : UpdateEnd) → (P → Q) → IfUnfaulted answer P → IfUnfaulted answer Q
unfaulted P Q (ends.Stopped place causes.FlashFault) to p = tt
unfaulted P Q ends.FlashFault to p = tt
unfaulted P Q _ to p = to p

-- ---- what was stopped is as before

pub stopped_at : (end : PlanEnd) (place : ℕ) (P : Type 0) → IfStopped end P → end ≡ plays.ConditionFailed place → P
stopped_at end place P is same = subst (λ (e : PlanEnd). IfStopped e P) same is

pub stopped_by : (end : PlanEnd) (place : ℕ) (cause : Cause) (P : Type 0) → IfStopped end P → end ≡ plays.DirectiveFailed place cause → P
stopped_by end place cause P is same = subst (λ (e : PlanEnd). IfStopped e P) same is

-- it was stopped, or done
pub stopped_or_done : (end : PlanEnd) (P Stays Did : Type 0) → IfStopped end P → (P → Stays) → (end ≡ plays.Done → Did) → Stays ⊎ Did
stopped_or_done plays.Done P Stays Did is stays did = inr (did refl)
stopped_or_done (plays.ConditionFailed place) P Stays Did is stays did = inl (stays is)
stopped_or_done (plays.DirectiveFailed place cause) P Stays Did is stays did = inl (stays is)

pub any_stopped : (end : PlanEnd) (P : Type 0) → P → IfStopped end P
any_stopped plays.Done P p = tt
any_stopped (plays.ConditionFailed place) P p = p
any_stopped (plays.DirectiveFailed place cause) P p = p

-- and that was told
pub any_told : (answer : UpdateEnd) (P : Type 0) → P → IfTold answer P
any_told (ends.Installed r) P p = tt
any_told (ends.Lower a b) P p = tt
any_told (ends.OtherDigest a b) P p = tt
any_told ends.Worn P p = tt
any_told (ends.Condition place) P p = p
any_told (ends.Stopped place cause) P p = p
any_told ends.FlashFault P p = tt
any_told ends.NoMemory P p = tt

pub told_at : (answer : UpdateEnd) (place : ℕ) (P : Type 0) → IfTold answer P → answer ≡ ends.Condition place → P
told_at answer place P is same = subst (λ (a : UpdateEnd). IfTold a P) same is

pub told_by : (answer : UpdateEnd) (place : ℕ) (cause : Cause) (P : Type 0) → IfTold answer P → answer ≡ ends.Stopped place cause → P
told_by answer place cause P is same = subst (λ (a : UpdateEnd). IfTold a P) same is

pub installed_as : (answer : UpdateEnd) (r : Record) (P : Record → Type 0) → IfInstalled answer P → answer ≡ ends.Installed r → P r
installed_as answer r P is same = subst (λ (a : UpdateEnd). IfInstalled a P) same is

pub reads_same : (layout : List Entry) (made after : List ℕ) → after ≡ made → HasContentsOf layout made after
reads_same layout made after same i n slot is = ap (λ (l : List ℕ). slot_content slot l) same

-- ---- the play, from the world that it was played on

-- a play on a host
abbrev Runs : PlanTree → List Standing → List (List ℕ × List ℕ) → List (List ℕ × List ℕ) → Hosted → PlanEnd → List (List ℕ) → List (List ℕ) → List Launch → List Launch → Type 0
Runs tree standings payloads words host end before after launched now =
    (given : ℕ → List ℕ → Option (List ℕ)) × GivesAs host.told words host.files given
    × (plays : PlaysPlan tree (setting_of standings payloads words given) end before after launched now) × (IsTrue host.told → host.now ≡ host.before ++ plays.asks)

pub plays_update : (frame : Frame) (layout : List Entry) (places : Places) (tree : PlanTree) (held : Option Record) (payloads words uris : List (List ℕ × List ℕ)) (host : Hosted)
    (before made : List ℕ) (launched now : List Launch) (end : PlanEnd) (numbers : List ℕ) (standings : List Standing) (ram left : List Held)
    → AreChosen layout places tree (active_slots held) numbers → IsChoice layout (record { number = numbers }) → StandAs layout places (record { number = numbers }) standings → ram ≡ empty_ram layout → words ≡ uris
    → (program : PlanTree) → program ≡ tree → Runs program standings payloads words host end (contents_of standings ram before) (contents_of standings left made) launched now
    → PlaysUpdate (placed_on frame layout places tree) held (sources payloads uris host) (device_at before launched) (device_at made now) end
plays_update frame layout places tree held payloads words uris host before made launched now end numbers standings ram left chosen choice stand none same program is played_so =
    let played = subst (λ (x : PlanTree). Runs x standings payloads words host end (contents_of standings ram before) (contents_of standings left made) launched now) is played_so in
    let run = subst (λ (r : List Held). Runs tree standings payloads uris host end (contents_of standings r before) (contents_of standings left made) launched now) none
    (subst (λ (u : List (List ℕ × List ℕ)). Runs tree standings payloads u host end (contents_of standings ram before) (contents_of standings left made) launched now) same played) in
    record {
      numbers = numbers;
      chosen = chosen;
      choice = choice;
      standings = standings;
      stand = stand;
      ram = left;
      given = run.0;
      gives = run.1;
      plays = run.2;
      asks = run.3;
    }

-- of a host that tells
pub told_plays : (on : Placed) (held : Option Record) (payloads uris : List (List ℕ × List ℕ)) (told : Bool) (files : List ℕ → Option (List ℕ)) (since later : List (List ℕ))
    (before now : DeviceAt) (end : PlanEnd) (host : IsTrue told)
    → PlaysUpdate on held (sources payloads uris (hosted told files since later)) before now end
    → PlaysUpdate on held (sources payloads uris (hosted true files since later)) before now end
told_plays on held payloads uris told files since later before now end host p = record {
  numbers = p.numbers;
  chosen = p.chosen;
  choice = p.choice;
  standings = p.standings;
  stand = p.stand;
  ram = p.ram;
  given = p.given;
  gives = λ any. p.gives (inl host);
  plays = p.plays;
  asks = λ any. p.asks host;
}

-- ---- before anything was launched or written

pub refused_unbegun : (answer : UpdateEnd) → IsRefusal answer → IsUnbegun answer
refused_unbegun (ends.Lower m n) is = tt
refused_unbegun (ends.OtherDigest m n) is = tt
refused_unbegun ends.Worn is = tt
refused_unbegun (ends.Installed r) is = elim is [ ]
refused_unbegun (ends.Condition place) is = elim is [ ]
refused_unbegun (ends.Stopped place cause) is = elim is [ ]
refused_unbegun ends.FlashFault is = elim is [ ]
refused_unbegun ends.NoMemory is = elim is [ ]

pub unbegun_counts : (answer : UpdateEnd) (a : Counts) → IsUnbegun answer → UpdateCounts answer a a
unbegun_counts (ends.Lower m n) a is = refl
unbegun_counts (ends.OtherDigest m n) a is = refl
unbegun_counts ends.Worn a is = refl
unbegun_counts (ends.Installed r) a is = elim is [ ]
unbegun_counts (ends.Condition place) a is = elim is [ ]
unbegun_counts (ends.Stopped place cause) a is = elim is [ ]
unbegun_counts ends.FlashFault a is = elim is [ ]
unbegun_counts ends.NoMemory a is = refl

pub unbegun_kept : (Kept Same : Type 0) (answer : UpdateEnd) → IsUnbegun answer → Same → KeptSo Kept Same answer
unbegun_kept Kept Same (ends.Lower m n) is same = same
unbegun_kept Kept Same (ends.OtherDigest m n) is same = same
unbegun_kept Kept Same ends.Worn is same = same
unbegun_kept Kept Same (ends.Installed r) is same = elim is [ ]
unbegun_kept Kept Same (ends.Condition place) is same = elim is [ ]
unbegun_kept Kept Same (ends.Stopped place cause) is same = elim is [ ]
unbegun_kept Kept Same ends.FlashFault is same = elim is [ ]
unbegun_kept Kept Same ends.NoMemory is same = same

pub unbegun_played : (Plays : List ℕ → PlanEnd → Type 0) (Same : Type 0) (layout : List Entry) (image : List ℕ) (launched : List Launch) (answer : UpdateEnd) → IsUnbegun answer → PlayedSo Plays Same layout image launched launched answer
unbegun_played Plays Same layout image launched (ends.Lower m n) is = refl
unbegun_played Plays Same layout image launched (ends.OtherDigest m n) is = refl
unbegun_played Plays Same layout image launched ends.Worn is = refl
unbegun_played Plays Same layout image launched (ends.Installed r) is = elim is [ ]
unbegun_played Plays Same layout image launched (ends.Condition place) is = elim is [ ]
unbegun_played Plays Same layout image launched (ends.Stopped place cause) is = elim is [ ]
unbegun_played Plays Same layout image launched ends.FlashFault is = elim is [ ]
unbegun_played Plays Same layout image launched ends.NoMemory is = refl

pub unbegun_settled : (P : Type 0) (answer : UpdateEnd) → IsUnbegun answer → P → IfUnfaulted answer P
unbegun_settled P (ends.Lower m n) is p = p
unbegun_settled P (ends.OtherDigest m n) is p = p
unbegun_settled P ends.Worn is p = p
unbegun_settled P (ends.Installed r) is p = elim is [ ]
unbegun_settled P (ends.Condition place) is p = elim is [ ]
unbegun_settled P (ends.Stopped place cause) is p = elim is [ ]
unbegun_settled P ends.FlashFault is p = elim is [ ]
unbegun_settled P ends.NoMemory is p = p

pub accepted_judged : (sequence : ℕ) (digest : Digest) (held : Option Record) (answer : UpdateEnd) → (IsRefusal answer → ⊥) → IsAcceptable sequence digest held → JudgedSo sequence digest held answer
accepted_judged sequence digest held (ends.Installed r) is so = so
accepted_judged sequence digest held (ends.Condition place) is so = so
accepted_judged sequence digest held (ends.Stopped place cause) is so = so
accepted_judged sequence digest held ends.FlashFault is so = tt
accepted_judged sequence digest held ends.NoMemory is so = so
accepted_judged sequence digest held (ends.Lower m n) is so = absurd (is tt)
accepted_judged sequence digest held (ends.OtherDigest m n) is so = absurd (is tt)
accepted_judged sequence digest held ends.Worn is so = absurd (is tt)

-- ---- reads as before

module _ (frame : Frame) (held : Option Record) (a d : List ℕ) (same : d ≡ a) where
  pub held_as : RecordOf frame (head_of frame a) held → RecordOf frame (head_of frame d) held
  held_as is = subst (λ (l : List ℕ). RecordOf frame (head_of frame l) held) (sym same) is

  pub as_held : RecordOf frame (head_of frame a) held → {new : Record} → HasHeldOrNew frame held new d
  as_held is = inl (held_as is)

pub as_read : (frame : Frame) (a d : List ℕ) → d ≡ a → SameOn (BesideHead frame) a d
as_read frame a d same = subst (λ (l : List ℕ). SameOn (BesideHead frame) a l) (sym same) (same_start (BesideHead frame) a)

-- ---- launches

pub some_play : (Plays : List ℕ → PlanEnd → Type 0) (Same : Type 0) (layout : List Entry) (after : List ℕ) (launched now : List Launch) (answer : UpdateEnd) → PlayedSo Plays Same layout after launched now answer
    → (now ≡ launched) ⊎ ((made : List ℕ) × (end : PlanEnd) × Plays made end)
some_play Plays Same layout after launched now (ends.Installed r) is = inr (is.made, plays.Done, is.plays)
some_play Plays Same layout after launched now (ends.Condition place) is = inr (is.made, plays.ConditionFailed place, is.plays)
some_play Plays Same layout after launched now (ends.Stopped place cause) is = inr (is.made, plays.DirectiveFailed place cause, is.plays)
some_play Plays Same layout after launched now ends.FlashFault is = ⊎_elim (λ none. inl none.0) (λ play. inr (play.0, play.1, play.2)) is
some_play Plays Same layout after launched now (ends.Lower m n) is = inl is
some_play Plays Same layout after launched now (ends.OtherDigest m n) is = inl is
some_play Plays Same layout after launched now ends.Worn is = inl is
some_play Plays Same layout after launched now ends.NoMemory is = inl is

-- beside the record that was read
pub launched_by : (frame : Frame) (Plays : Option Record → List ℕ → PlanEnd → Type 0) (Same : Type 0) (layout : List Entry) (image after : List ℕ) (launched now : List Launch) (answer : UpdateEnd) (held : Option Record)
    → RecordOf frame (head_of frame image) held → PlayedSo (Plays held) Same layout after launched now answer → LaunchesBy frame Plays image launched now
launched_by frame Plays Same layout image after launched now answer held is played = of_some (some_play (Plays held) Same layout after launched now answer played) where
  of_some : (now ≡ launched) ⊎ ((made : List ℕ) × (end : PlanEnd) × Plays held made end) → LaunchesBy frame Plays image launched now
  of_some (inl same) = inl same
  of_some (inr (made, end, play)) = inr (held, is, made, end, play)
