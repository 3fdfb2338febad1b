use Rattle.std.proofs.lemmas.Bool.{iff_false}
use Rattle.flash_layout.specs.LayoutFaults.{BaseAway, Over}
use Rattle.flash_layout.proofs.describing.judge_base.Goals as goal

pub returns-then-not-is_base_inside : goal.returns-then-not-is_base_inside
returns-then-not-is_base_inside c = BaseAway (iff_false c.is_base_inside.ensures c.if-not-is_base_inside.true)

pub returns-in-Some : goal.returns-in-Some
returns-in-Some c = Over c.in-Some.component (c.is_base_inside.ensures.0 c.if-not-is_base_inside.false) c.in-Some.ensures

pub returns-in-None : goal.returns-in-None
returns-in-None c = record { inside = c.is_base_inside.ensures.0 c.if-not-is_base_inside.false; clear = c.in-None.ensures }
