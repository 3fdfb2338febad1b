use Rattle.std.proofs.Common.{◌+◌, ◌*◌}
use Rattle.suit_commands.proofs.Capping.{plus_is, times_is, three_is}
use Rattle.suit_commands.proofs.numbers.measured.Goals as goal

pub returns : goal.returns
returns c = record {
  work = three_is (λ m n. m + n) plus_is _ _ _ _ c.of-shared.ensures.work c.of.ensures.work c.of-2.ensures.work c.of-3.ensures.work c.then-first.ensures.work c.then-second.ensures.work c.then-third.ensures.work c.then.ensures.work c.then-2.ensures.work;
  on = three_is (λ m n. m * n) times_is _ _ _ _ c.of-shared.ensures.on c.of.ensures.on c.of-2.ensures.on c.of-3.ensures.on c.then-first.ensures.on c.then-second.ensures.on c.then-third.ensures.on c.then.ensures.on c.then-2.ensures.on;
}
