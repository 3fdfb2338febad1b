use Rattle.std.proofs.Common.{◌≡◌, ◌≤◌, ℕ, true, below_more}
use Rattle.flash_layout.specs.Overlaps.{ShareNone}
use Rattle.flash_layout.proofs.first_faults.first_shared.Goals as goal

pub loop-j-preserved : goal.loop-j-preserved
loop-j-preserved c k from below =
    let clear : c.share_none.result ≡ true = cc in
    below_more (λ (l : ℕ). c.args.i ≤ l → ShareNone c.args.entries.now c.args.i l) c.loop-j.j (λ l lt le. c.loop-j.invariant l le lt) (λ _. c.share_none.ensures.0 clear) k below from
