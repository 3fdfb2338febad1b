use Rattle.std.proofs.Common.{◌≡◌, ◌+◌, ◌/◌, suc, sym, ◌∙◌, arith}
use Rattle.suit_commands.specs.WaysOnce.{counted}
use Rattle.suit_commands.proofs.WaysLaws.{repeated_even, repeated_odd}
use Rattle.suit_commands.proofs.WaysSteps.{start_capped}
use Rattle.suit_commands.proofs.ways.Ways.+repeated.Goals as goal

pub returns-then-times-eq0 : goal.returns-then-times-eq0
returns-then-times-eq0 t c = rw c.if-times-eq0.true (c.start.ensures ∙ sym start_capped)

pub returns-then-times-eq0-2 : goal.returns-then-times-eq0-2
returns-then-times-eq0-2 t c =
    let twice : c.args.times ≡ c.args.times / 2 + c.args.times / 2 = omega arith in
    repeated_even c.args.times (c.args.times / 2) (counted c.args.self) (counted c.repeated-half.result) _ twice c.repeated-half.ensures c.then-even.ensures

pub returns : goal.returns
returns t c =
    let twice : c.args.times ≡ suc (c.args.times / 2 + c.args.times / 2) = omega arith in
    repeated_odd c.args.times (c.args.times / 2) (counted c.args.self) (counted c.repeated-half.result) (counted c.then-even.result) _ twice c.repeated-half.ensures c.then-even.ensures c.then.ensures
