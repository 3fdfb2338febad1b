use Rattle.std.proofs.Common.{List, sym, subst}
use Rattle.path_checker.specs.Matches.{Match, SameMembers}
use Rattle.path_checker.proofs.judge_plan.matches.Matches.pack.Goals as goal

pub returns : goal.returns
returns c = subst (λ (ms : List Match). SameMembers ms c.args.self.now) (sym c.drop.view_is) c.in_ok-once.ensures
