use Rattle.std.proofs.Common.{◌≡◌, true, false, refl, ap, sym, ◌∙◌}
use Rattle.path_checker.proofs.InnerSteps.{soft_more, soft_same, hard_more, hard_same}
use Rattle.path_checker.proofs.judge_plan.inner.split_one.Goals as goal

pub returns-in_ok-push : goal.returns-in_ok-push
returns-in_ok-push c =
    let soft : c.args.stop.soft_failure ≡ true = sym (ap (λ f. f.soft_failure) c.stop.view_is) ∙ c.if-stop.true in
    record {
      soft = soft_more c.args.outer.now c.args.next.now.items c.push.new.self.items c.args.stop _ soft c.in_ok-resume.ensures c.in_ok-push.ensures.items;
      hard = hard_same c.args.outer.now c.args.failed.now c.args.stop soft;
    }

pub returns-in_ok-add : goal.returns-in_ok-add
returns-in_ok-add c =
    let hard : c.args.stop.soft_failure ≡ false = sym (ap (λ f. f.soft_failure) c.stop.view_is) ∙ c.if-stop.false in
    record {
      soft = soft_same c.args.outer.now c.args.next.now.items c.args.stop hard;
      hard = hard_more c.args.outer.now c.args.failed.now c.add.new.self c.args.stop _ hard (rw (← c.stop-else-stop.view_is, ← c.outer.view_is) refl) c.in_ok-add.ensures;
    }
