-- What was launched is safe, only a boot that ended is done, and none is stopped by the host.
use Rattle.std.specs.Prelude.{ℕ, List, [], ◌∷◌, ◌++◌, ◌≡◌, ◌⊎◌, map}
use Rattle.std.specs.List.{AllByRecursion}
use Rattle.std.proofs.Common.{◌∙◌, inl, inr, refl, subst, sym}
use Rattle.boot_c.specs.BootAnswers.{IsAnswer, IsUntold, boot_answer}
use Rattle.invoke_proc.specs.Booting.{GainsSafe, NeverHost}
use Rattle.invoke_proc.specs.declared.boot_end.BootEnd.{BootEnd}
use Rattle.invoke_proc.specs.declared.boot_end.BootEnd.TheVariants as ends
use Rattle.path_model.specs.PlayLaws.{HasItsDigest}
use Rattle.path_model.specs.declared.cause.Cause.TheVariants as causes
use Rattle.step_machine.specs.Invoking.{launched_as}
use Rattle.suit_answers.specs.declared.answer.Answer.{Answer}
use Rattle.suit_answers.specs.declared.answer.Answer.TheVariants as answers
use Rattle.suit_edge.specs.declared.launch.Launch.{Launch}

-- one launch that was gained
pub one_safe : (before now : List Launch) (x : Launch) → before ≡ [] → now ≡ x ∷ [] → GainsSafe before now → HasItsDigest (launched_as x)
one_safe before now x none is gains =
    let all = subst (λ (b : List Launch). now ≡ b ++ gains.gained) none gains.added in
    (subst (λ (l : List Launch). AllByRecursion HasItsDigest (map launched_as l)) (sym all ∙ is) gains.safe).0

-- only a boot that ended is done
pub only_ended : (end : BootEnd) → boot_answer end ≡ answers.Done → end ≡ ends.Ended
only_ended ends.Ended e = refl
only_ended ends.NothingInstalled e = absurd cc
only_ended (ends.BadBank refusal) e = absurd cc
only_ended (ends.NotAuthentic lacking) e = absurd cc
only_ended (ends.UnknownComponent component) e = absurd cc
only_ended (ends.Condition place) e = absurd cc
only_ended (ends.Stopped place causes.Missing) e = absurd cc
only_ended (ends.Stopped place causes.SelfCopy) e = absurd cc
only_ended (ends.Stopped place causes.TooLarge) e = absurd cc
only_ended (ends.Stopped place causes.Absent) e = absurd cc
only_ended (ends.Stopped place causes.HostFault) e = absurd cc
only_ended (ends.Stopped place causes.FlashFault) e = absurd cc
only_ended (ends.Stopped place causes.LaunchFault) e = absurd cc
only_ended ends.FlashFault e = absurd cc

-- no end but that one is told as a fault of the host
never_host : (end : BootEnd) → NeverHost end → boot_answer end ≡ answers.HostFault → ⊥
never_host ends.Ended never e = absurd cc
never_host ends.NothingInstalled never e = absurd cc
never_host (ends.BadBank refusal) never e = absurd cc
never_host (ends.NotAuthentic lacking) never e = absurd cc
never_host (ends.UnknownComponent component) never e = absurd cc
never_host (ends.Condition place) never e = absurd cc
never_host (ends.Stopped place causes.Missing) never e = absurd cc
never_host (ends.Stopped place causes.SelfCopy) never e = absurd cc
never_host (ends.Stopped place causes.TooLarge) never e = absurd cc
never_host (ends.Stopped place causes.Absent) never e = absurd cc
never_host (ends.Stopped place causes.HostFault) never e = never
never_host (ends.Stopped place causes.FlashFault) never e = absurd cc
never_host (ends.Stopped place causes.LaunchFault) never e = absurd cc
never_host ends.FlashFault never e = absurd cc

told_no_host : (answer : Answer) (end : BootEnd) (launches : List Launch) → NeverHost end → (answer ≡ boot_answer end) ⊎ IsUntold answer end launches → answer ≡ answers.HostFault → ⊥
told_no_host answer end launches never (inl told) e = never_host end never (sym told ∙ e)
told_no_host answer end launches never (inr untold) e = let launch = untold.0 in absurd cc

pub no_host : (flash : List ℕ) (answer : Answer) → IsAnswer flash answer → answer ≡ answers.HostFault → ⊥
no_host flash answer (inl none) e = let unconfigured = none.0 in absurd cc
no_host flash answer (inr (inl fault)) e = absurd cc
no_host flash answer (inr (inr (inl memory))) e = absurd cc
no_host flash answer (inr (inr (inr ended))) e = told_no_host answer ended.end ended.launches ended.played.never ended.told e
