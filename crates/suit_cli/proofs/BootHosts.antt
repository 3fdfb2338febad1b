-- `run boot` never ends with status 7. It is given no names of files.
use Rattle.std.proofs.Common.{◌≡◌, ℕ, List, Some, sym, subst, ◌∙◌, arith}
use Rattle.std.proofs.lemmas.Option.{same_Some}
use Rattle.std.specs.Prelude.{IsTrue}
use Rattle.path_model.specs.declared.cause.Cause.{Cause}
use Rattle.path_model.specs.declared.cause.Cause.TheVariants as causes
use Rattle.invoke_proc.specs.declared.boot_end.BootEnd.{BootEnd}
use Rattle.invoke_proc.specs.declared.boot_end.BootEnd.TheVariants as ends
use Rattle.invoke_proc.specs.Booting.{NeverHost}
use Rattle.suit_cli.specs.declared.reply.Object.TheVariants as objects
use Rattle.suit_cli.specs.Words.{Task, RunBoot, task_of}
use Rattle.suit_cli.specs.Outside.{Outside}
use Rattle.suit_cli.specs.Stages.{Ending, Says, FaultOf, NoMemory, Goes, Faults}
use Rattle.suit_cli.specs.Statuses.{ending_status}
use Rattle.suit_cli.specs.Commands.{begins_boot, does}
use Rattle.suit_cli.specs.Launching.{Launching, cause_status}
use Rattle.suit_cli.specs.Booting.{Boots, boot_status}
use Rattle.suit_cli.specs.Program.{answers}
use Rattle.suit_cli.proofs.Running.{not_seven}

-- ---- in stages

begins_without : (b a : Outside) → begins_boot b a (FaultOf objects.Host) → ⊥
begins_without b a (Goes config m _ held rest) = elim rest [ ]
begins_without b a (Faults _ f) = f

answers_without : (words : List (List ℕ)) → task_of words ≡ Some RunBoot → (b a : Outside) → answers words b a (FaultOf objects.Host) → ⊥
answers_without words word b a (Goes task c _ g rest) =
    begins_without c a (subst (λ (t : Task). does t c a (FaultOf objects.Host)) (same_Some task RunBoot (sym g.1 ∙ word)) rest)
answers_without words word b a (Faults _ f) = f

pub stages_without : (words : List (List ℕ)) → task_of words ≡ Some RunBoot → (b a : Outside) (e : Ending) → answers words b a e → ending_status e ≡ 7 → ⊥
stages_without words word b a (Says r) answer seven = not_seven r.outcome seven
stages_without words word b a (FaultOf objects.Host) answer seven = answers_without words word b a answer
stages_without words word b a (FaultOf objects.Flash) answer seven = omega (arith, seven)
stages_without words word b a NoMemory answer seven = omega (arith, seven)

-- ---- in the boot

stopped_without : (place : ℕ) (cause : Cause) → NeverHost (ends.Stopped place cause) → cause_status cause ≡ 7 → ⊥
stopped_without place causes.HostFault never seven = never
stopped_without place _ never seven = omega (arith, seven)

ends_without : (end : BootEnd) → NeverHost end → boot_status end ≡ 7 → ⊥
ends_without (ends.Stopped place cause) never seven = stopped_without place cause never seven
ends_without _ never seven = omega (arith, seven)

pub boots_without : (l m : Launching) (b a : Outside) (end : BootEnd) (lines : List ℕ) → Boots l m b a end lines → IsTrue b.flash.told → IsTrue l.told
    → boot_status end ≡ 7 → ⊥
boots_without l m b a end lines u flash_told launcher_told seven =
    ends_without end (u.boot.no_host (subst IsTrue (sym u.held.0.still.told) flash_told) launcher_told) seven
