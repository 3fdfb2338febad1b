use Rattle.std.proofs.Common.{◌≡◌, ◌<◌, ◌≤◌, ℕ, ◌%◌, ◌==◌, if◌then◌else◌, get_or}
use Rattle.nor_flash.proofs.memory_nor.spoil.Given as goal

abbrev pub invariant-loop-i : goal.invariant-loop-i
invariant-loop-i l = record {
  spoiled : (k : ℕ) → k < l.i → get_or l.room k 0 ≡ (if k % 2 == 0 then 85 else get_or l.initial.room k 0);
  rest : (k : ℕ) → l.i ≤ k → get_or l.room k 0 ≡ get_or l.initial.room k 0;
}
