use Rattle.std.proofs.Common.{false, Some, sym, subst}
use Rattle.path_checker.specs.Exploring.{In}
use Rattle.path_checker.specs.Forking.{Tells}
use Rattle.path_checker.proofs.Outside.{tells_other}
use Rattle.path_checker.proofs.judge_plan.known.Known.tells.Goals as goal

pub returns-then-is_among : goal.returns-then-is_among
returns-then-is_among g c =
    let among : In c.args.wanted.now c.self.inside.others.items = subst (λ xs. In c.args.wanted.now xs) c.deref.ensures.value (c.is_among.ensures.0 c.if-is_among.true) in
    subst (λ k. Tells k c.args.wanted.now (Some false)) c.self.view_is (subst (λ v. Tells (v, c.self.inside.others.items) c.args.wanted.now (Some false)) (sym c.in-None.is) (tells_other c.self.inside.others.items c.args.wanted.now among))
