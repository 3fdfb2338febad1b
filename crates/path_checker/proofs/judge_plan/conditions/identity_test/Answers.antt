use Rattle.std.proofs.Common.{ap, Some, None}
use Rattle.std.proofs.lemmas.Result.{on_ok_weaker}
use Rattle.path_checker.proofs.OwnTests.{Adds-identity, Adds-no_own}
use Rattle.path_checker.proofs.judge_plan.conditions.identity_test.Goals as goal

pub returns-in-Some : goal.returns-in-Some
returns-in-Some c = on_ok_weaker c.own_test.result (λ adds. Adds-identity c.args.kind c.args.place c.args.component c.args.k c.k.inside.params (Some c.in-Some.own) c.args.next.now.items c.own_test.new.next.items c.args.failed.now c.own_test.new.failed c.requires.kinds (ap (λ k. k.state.parameters) c.k.view_is) c.in-Some.ensures adds) c.own_test.ensures

pub returns-in-None : goal.returns-in-None
returns-in-None c = on_ok_weaker c.stop.result (λ ended. Adds-identity c.args.kind c.args.place c.args.component c.args.k c.k.inside.params None c.args.next.now.items c.args.next.now.items c.args.failed.now c.stop.new.failed c.requires.kinds (ap (λ k. k.state.parameters) c.k.view_is) c.in-None.ensures (Adds-no_own c.args.kind c.args.place c.args.component c.args.k c.args.next.now.items c.args.failed.now c.stop.new.failed ended)) c.stop.ensures
