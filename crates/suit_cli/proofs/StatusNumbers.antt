-- Each status is a number of the table.
use Rattle.std.proofs.Common.{◌≡◌, ◌≤◌, ℕ, zero, suc, refl, arith}
use Rattle.std.specs.Prelude.{◌≢◌}
use Rattle.path_model.specs.declared.cause.Cause.{Cause}
use Rattle.path_model.specs.declared.cause.Cause.TheVariants as causes
use Rattle.invoke_proc.specs.declared.boot_end.BootEnd.{BootEnd}
use Rattle.invoke_proc.specs.declared.boot_end.BootEnd.TheVariants as boots
use Rattle.update_proc.specs.declared.update_end.UpdateEnd.{UpdateEnd}
use Rattle.update_proc.specs.declared.update_end.UpdateEnd.TheVariants as updates
use Rattle.suit_cli.specs.declared.reply.Object.TheVariants as objects
use Rattle.suit_cli.specs.declared.reply.Outcome.{Outcome}
use Rattle.suit_cli.specs.declared.reply.Outcome.TheVariants as outcomes
use Rattle.suit_cli.specs.Booting.{boot_status}
use Rattle.suit_cli.specs.Coming.{Ended, Answered, Booted, Updated, ended_status}
use Rattle.suit_cli.specs.Launching.{cause_status}
use Rattle.suit_cli.specs.Stages.{Ending, Says, FaultOf, NoMemory}
use Rattle.suit_cli.specs.Statuses.{ending_status, status_of}
use Rattle.suit_cli.specs.Updating.{update_status}

-- 0, 1, or another
pub by_status : {P : Type 0} (n : ℕ) → (n ≡ 0 → P) → (n ≡ 1 → P) → (n ≢ 0 → n ≢ 1 → P) → P
by_status zero none one other = none refl
by_status (suc zero) none one other = one refl
by_status (suc (suc n)) none one other = other (λ e. omega (arith, e)) (λ e. omega (arith, e))

of_outcome : (outcome : Outcome) → status_of outcome ≤ 22
of_outcome outcomes.Done = omega arith
of_outcome outcomes.Unsafe = omega arith
of_outcome outcomes.Usage = omega arith
of_outcome outcomes.Refused = omega arith
of_outcome outcomes.NotAuthentic = omega arith
of_outcome outcomes.TooWide = omega arith
of_outcome outcomes.Unconfigured = omega arith
of_outcome outcomes.NotBlank = omega arith
of_outcome outcomes.NothingInstalled = omega arith
of_outcome outcomes.Severed = omega arith
of_outcome outcomes.Differs = omega arith
of_outcome outcomes.UnknownComponent = omega arith
of_outcome outcomes.Absent = omega arith
of_outcome outcomes.TooLong = omega arith
of_outcome outcomes.SecondLayout = omega arith

of_ending : (ending : Ending) → ending_status ending ≤ 22
of_ending (Says reply) = of_outcome reply.outcome
of_ending (FaultOf objects.Host) = omega arith
of_ending (FaultOf objects.Flash) = omega arith
of_ending NoMemory = omega arith

of_cause : (cause : Cause) → cause_status cause ≤ 22
of_cause causes.Missing = omega arith
of_cause causes.SelfCopy = omega arith
of_cause causes.TooLarge = omega arith
of_cause causes.Absent = omega arith
of_cause causes.HostFault = omega arith
of_cause causes.FlashFault = omega arith
of_cause causes.LaunchFault = omega arith

of_boot : (end : BootEnd) → boot_status end ≤ 22
of_boot boots.Ended = omega arith
of_boot boots.NothingInstalled = omega arith
of_boot (boots.BadBank refusal) = omega arith
of_boot (boots.NotAuthentic lacking) = omega arith
of_boot (boots.UnknownComponent component) = omega arith
of_boot (boots.Condition place) = omega arith
of_boot (boots.Stopped place cause) = of_cause cause
of_boot boots.FlashFault = omega arith

of_update : (end : UpdateEnd) → update_status end ≤ 22
of_update (updates.Installed installed) = omega arith
of_update (updates.Lower recorded offered) = omega arith
of_update (updates.OtherDigest recorded offered) = omega arith
of_update updates.Worn = omega arith
of_update (updates.Condition place) = omega arith
of_update (updates.Stopped place cause) = of_cause cause
of_update updates.FlashFault = omega arith
of_update updates.NoMemory = omega arith

pub of_ended : (ended : Ended) → ended_status ended ≤ 22
of_ended (Answered ending) = of_ending ending
of_ended (Booted end lines) = of_boot end
of_ended (Updated end lines) = of_update end
