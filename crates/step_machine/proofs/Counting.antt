-- No count of faults falls while a procedure runs, nor where the flash fails behind it.
use Rattle.std.proofs.Common.{◌≡◌, ◌≤◌, ℕ, ap, arith}
use Rattle.suit_edge.specs.Faults.{Faulted}
use Rattle.path_model.specs.declared.cause.Cause.{Cause}
use Rattle.path_model.specs.declared.cause.Cause.TheVariants as causes
use Rattle.step_machine.specs.declared.plan_end.PlanEnd.{PlanEnd}
use Rattle.step_machine.specs.declared.plan_end.PlanEnd.TheVariants as ends
use Rattle.step_machine.specs.PlanRuns.{Counts, CountsFor, EndCounts, FlashFailed, counts_of}

abbrev pub NotFallen : Counts → Counts → Type 0
NotFallen before now = (before.host ≤ now.host) × (before.disk ≤ now.disk) × (before.launcher ≤ now.launcher)

kept_counts : (a b : Counts) → b ≡ a → NotFallen a b
kept_counts a b same = (omega (arith, ap (λ (c : Counts). c.host) same), omega (arith, ap (λ (c : Counts). c.disk) same), omega (arith, ap (λ (c : Counts). c.launcher) same))

for_cause : (cause : Cause) (a b : Counts) → CountsFor cause a b → NotFallen a b
for_cause causes.Missing a b is = kept_counts a b is
for_cause causes.SelfCopy a b is = kept_counts a b is
for_cause causes.TooLarge a b is = kept_counts a b is
for_cause causes.Absent a b is = kept_counts a b is
for_cause causes.HostFault a b is = (is.0.later, omega (arith, is.1), omega (arith, is.2))
for_cause causes.FlashFault a b is = (omega (arith, is.0), is.1.later, is.2)
for_cause causes.LaunchFault a b is = (omega (arith, is.0), is.1, is.2.later)

pub not_fallen : (end : PlanEnd) (a b : Counts) → EndCounts end a b → NotFallen a b
not_fallen ends.Done a b is = kept_counts a b is
not_fallen (ends.ConditionFailed place) a b is = kept_counts a b is
not_fallen (ends.DirectiveFailed place cause) a b is = for_cause cause a b is

pub failed_behind : (h d l i e m f : ℕ) → NotFallen (counts_of h d l) (counts_of i e m) → Faulted e f → FlashFailed (counts_of h d l) (counts_of i f m)
failed_behind h d l i e m f not fault = (not.0, record { later = omega (arith, not.1, fault.later); rose = λ short. omega (arith, not.1, fault.rose short) }, not.2)
