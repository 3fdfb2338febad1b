use Rattle.std.proofs.Common.{◌≡◌, ◌+◌, ◌-◌, ◌≤◌, ◌++◌, length, IsTrue}
use Rattle.suit_edge.proofs.take.take_rest.Given as goal

-- the bytes taken so far came before those that are left, and are counted as pulled
abbrev pub invariant-loop-front : goal.invariant-loop-front
invariant-loop-front g l =
    let h = g.H.Host in
    record {
      files : IsTrue h.told → h.file l.host ≡ h.file l.fn.host;
      parts : IsTrue h.told → h.rest l.fn.host ≡ l.taken ++ h.rest l.host;
      pulled : IsTrue h.told → h.pulled l.host ≡ h.pulled l.fn.host + length l.taken;
      asked : IsTrue h.told → h.asked l.host ≡ h.asked l.fn.host;
      counts : h.faults l.host ≡ h.faults l.fn.host;
      fits : length l.taken ≤ l.limit;
      room : length l.front ≡ 512;
    }

abbrev pub decreases-loop-front : goal.decreases-loop-front
decreases-loop-front g l = (l.limit + 1) - length l.taken

abbrev pub invariant-loop-taken : goal.invariant-loop-taken
invariant-loop-taken g l =
    let h = g.H.Host in
    record {
      files : IsTrue h.told → h.file l.host ≡ h.file l.fn.host;
      parts : IsTrue h.told → h.rest l.fn.host ≡ l.taken ++ h.rest l.host;
      pulled : IsTrue h.told → h.pulled l.host ≡ h.pulled l.fn.host + length l.taken;
      asked : IsTrue h.told → h.asked l.host ≡ h.asked l.fn.host;
      counts : h.faults l.host ≡ h.faults l.fn.host;
      fits : length l.taken ≤ l.limit;
      room : length l.piece ≡ 4096;
    }

abbrev pub decreases-loop-taken : goal.decreases-loop-taken
decreases-loop-taken g l = (l.limit + 1) - length l.taken
