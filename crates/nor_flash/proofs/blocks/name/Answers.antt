use Rattle.std.proofs.Common.{ap, ◌∙◌}
use Rattle.std.specs.Int.{w64, from_be_bytes}
use Rattle.nor_flash.specs.Blocks.{name_in}
use Rattle.nor_flash.proofs.blocks.name.Goals as goal

pub returns-in-Done-clause-exact : goal.returns-in-Done-clause-exact
unfolding name_in
returns-in-Done-clause-exact g c t = c.from_be_bytes.ensures ∙ ap (from_be_bytes w64) (c.in-Done.ensures.bytes t)
