use Rattle.std.proofs.Common.{ap, subst, arith}
use Rattle.suit_edge.specs.Flash.{Grows, Keeps}
use Rattle.nor_flash.specs.Blocks.{OutsideBlock}
use Rattle.nor_flash.specs.MemoryNor.{NorState, memory_nor}
use Rattle.nor_flash.proofs.NorSteps.{erased_exact, spares_exact}
use Rattle.nor_flash.proofs.memory_nor.MemoryNorNor.erase.Goals as goal

pub returns-clause-erased : goal.returns-clause-erased
returns-clause-erased c told =
    erased_exact _ _ c.erase_block.result c.args.block (omega (arith, c.requires, ap (λ (d : NorState). d.blocks) c.self.view_is)) c.erase_block.ensures.exact

pub returns-clause-keeps : goal.returns-clause-keeps
returns-clause-keeps c told =
    subst (λ (d : NorState). Keeps (OutsideBlock c.args.block) (memory_nor d) (memory_nor c.erase_block.new.self)) c.self.view_is
    (spares_exact _ _ _ c.erase_block.result c.erase_block.ensures.exact).0

pub returns-clause-grows : goal.returns-clause-grows
returns-clause-grows c told =
    subst (λ (d : NorState). Grows (memory_nor d) (memory_nor c.erase_block.new.self)) c.self.view_is
    (spares_exact _ _ _ c.erase_block.result c.erase_block.ensures.exact).1
