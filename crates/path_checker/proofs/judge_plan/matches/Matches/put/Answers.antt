use Rattle.std.proofs.lemmas.Result.{on_ok_weaker}
use Rattle.path_checker.specs.Matches.{match_of}
use Rattle.path_checker.proofs.MatchLaws.{same_over}
use Rattle.path_checker.proofs.judge_plan.matches.Matches.put.Goals as goal

pub returns : goal.returns
returns c = on_ok_weaker c.push.result (λ pushed. same_over (match_of c.args.own.now) c.push.new.self c.pack.new.self c.args.self.now pushed c.in_ok-pack.ensures) c.push.ensures
