use Rattle.std.proofs.Common.{◌≡◌, ◌+◌, ◌++◌, length, replicate}
use Rattle.flash_layout.proofs.page.Page.put_zeros.Given as goal

abbrev pub invariant-loop : goal.invariant-loop
invariant-loop g l = record {
  bytes : l.self ≡ l.fn.self ++ replicate l.counter 0;
  long : length l.self ≡ length l.fn.self + l.counter;
}
