use Rattle.std.proofs.Common.{◌≡◌, ◌<◌, ◌≤◌, ℕ, get_or, bit_and}
use Rattle.nor_flash.proofs.memory_nor.clear.Given as goal

abbrev pub invariant-loop-i : goal.invariant-loop-i
invariant-loop-i l = record {
  cleared : (k : ℕ) → k < l.i → get_or l.room k 0 ≡ bit_and (get_or l.initial.room k 0) (get_or l.bytes k 0);
  rest : (k : ℕ) → l.i ≤ k → get_or l.room k 0 ≡ get_or l.initial.room k 0;
}
