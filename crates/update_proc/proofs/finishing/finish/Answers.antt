use Rattle.std.proofs.Common.{inr, refl, sym, subst}
use Rattle.step_machine.specs.declared.plan_end.PlanEnd.{PlanEnd}
use Rattle.step_machine.specs.declared.plan_end.PlanEnd.TheVariants as plays
use Rattle.update_proc.specs.declared.update_end.UpdateEnd.TheVariants as ends
use Rattle.update_proc.specs.Ends.{FinishedSo}
use Rattle.suit_edge.specs.FlashLaws.{weakens}
use Rattle.update_proc.proofs.Finished.{any_stopped, any_told, as_held, as_read, settled_so, stopped_so}
use Rattle.update_proc.proofs.finishing.finish.Goals as goal

pub returns-in-Ok-clause-any_moment : goal.returns-in-Ok-clause-any_moment
returns-in-Ok-clause-any_moment g c t = weakens _ _ _ _ (λ image is. inr is) (c.install.ensures.any_moment t)

pub returns-in-Err-clause-any_moment : goal.returns-in-Err-clause-any_moment
returns-in-Err-clause-any_moment g c t = weakens _ _ _ _ (λ image is. inr is) (c.install.ensures.any_moment t)

pub returns-in-Ok-clause-sound : goal.returns-in-Ok-clause-sound
returns-in-Ok-clause-sound g c t firm sound may = weakens _ _ _ _ (λ image is. inr is) (c.install.ensures.sound t firm sound may)

pub returns-in-Err-clause-sound : goal.returns-in-Err-clause-sound
returns-in-Err-clause-sound g c t firm sound may = weakens _ _ _ _ (λ image is. inr is) (c.install.ensures.sound t firm sound may)

pub returns-in-ConditionFailed-clause-reads : goal.returns-in-ConditionFailed-clause-reads
returns-in-ConditionFailed-clause-reads g c t = as_held c.args.frame _ _ _ (c.settle.ensures.read.same t).reads (c.requires.held t)

pub returns-in-Ok-clause-follows : goal.returns-in-Ok-clause-follows
returns-in-Ok-clause-follows g c t firm sound sure = weakens _ _ _ _ (λ image is. inr is) (c.install.ensures.follows t firm sound sure)

pub returns-in-Err-clause-follows : goal.returns-in-Err-clause-follows
returns-in-Err-clause-follows g c t firm sound sure = weakens _ _ _ _ (λ image is. inr is) (c.install.ensures.follows t firm sound sure)

pub returns-in-ConditionFailed-clause-behind : goal.returns-in-ConditionFailed-clause-behind
returns-in-ConditionFailed-clause-behind g c t = as_read c.args.frame _ _ (c.settle.ensures.read.same t).reads

pub returns-in-DirectiveFailed-clause-reads : goal.returns-in-DirectiveFailed-clause-reads
returns-in-DirectiveFailed-clause-reads g c t = as_held c.args.frame _ _ _ (c.stop.ensures.read.same t).reads (c.requires.held t)

pub returns-in-DirectiveFailed-clause-behind : goal.returns-in-DirectiveFailed-clause-behind
returns-in-DirectiveFailed-clause-behind g c t = as_read c.args.frame _ _ (c.stop.ensures.read.same t).reads

pub returns-in-ConditionFailed-clause-stays : goal.returns-in-ConditionFailed-clause-stays
returns-in-ConditionFailed-clause-stays g c t = any_told _ _ (c.settle.ensures.read.same t).reads

pub returns-in-DirectiveFailed-clause-stays : goal.returns-in-DirectiveFailed-clause-stays
returns-in-DirectiveFailed-clause-stays g c t = any_told _ _ (c.stop.ensures.read.same t).reads

pub returns-in-ConditionFailed-clause-still : goal.returns-in-ConditionFailed-clause-still
returns-in-ConditionFailed-clause-still g c t = any_stopped c.args.end _ (c.settle.ensures.read.same t).images

pub returns-in-DirectiveFailed-clause-still : goal.returns-in-DirectiveFailed-clause-still
returns-in-DirectiveFailed-clause-still g c t = any_stopped c.args.end _ (c.stop.ensures.read.same t).images

pub returns-in-ConditionFailed-clause-answer : goal.returns-in-ConditionFailed-clause-answer
returns-in-ConditionFailed-clause-answer g c =
    subst (λ (end : PlanEnd). FinishedSo end c.settle.result (g.D.Disk.faults c.args.disk.now) (g.D.Disk.faults c.settle.new.disk)) (sym c.in-ConditionFailed.is)
    (settled_so (plays.ConditionFailed c.in-ConditionFailed.place) (ends.Condition c.in-ConditionFailed.place) c.settle.result _ _ refl tt c.settle.ensures.read.counts)

pub returns-in-DirectiveFailed-clause-answer : goal.returns-in-DirectiveFailed-clause-answer
returns-in-DirectiveFailed-clause-answer g c =
    subst (λ (end : PlanEnd). FinishedSo end c.stop.result (g.D.Disk.faults c.args.disk.now) (g.D.Disk.faults c.stop.new.disk)) (sym c.in-DirectiveFailed.is)
    (stopped_so c.in-DirectiveFailed.place c.in-DirectiveFailed.cause c.stop.result _ _ c.stop.ensures.read.counts)

pub slice_bounds-install-end : goal.slice_bounds-install-end
slice_bounds-install-end g c = refl
