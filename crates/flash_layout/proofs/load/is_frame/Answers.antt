use Rattle.std.proofs.Common.{arith}
use Rattle.flash_layout.specs.Frames.{Second}
use Rattle.flash_layout.specs.FirstFrame.{second_parts}
use Rattle.flash_layout.proofs.load.is_frame.Goals as goal

pub returns-then-frame-eq2 : goal.returns-then-frame-eq2
returns-then-frame-eq2 c = (
  λ yes. let base = c.is_base.ensures.0 yes in Second c.if-frame-eq2.true base.0 base.1 (omega (arith, base.1, c.ranges.size)),
  λ is. c.is_base.ensures.1 (second_parts c.args.size c.args.frame is c.if-frame-eq2.true),
)
