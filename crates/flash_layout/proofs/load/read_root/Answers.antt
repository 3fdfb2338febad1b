use Rattle.std.proofs.Common.{◌∙◌, ap}
use Rattle.flash_layout.specs.Roots.{frame_by}
use Rattle.flash_layout.proofs.load.read_root.Goals as goal

pub returns-in-Done-clause-told : goal.returns-in-Done-clause-told
returns-in-Done-clause-told g c t = c.frame_by.ensures ∙ ap frame_by (c.in-Done.ensures.bytes t)
