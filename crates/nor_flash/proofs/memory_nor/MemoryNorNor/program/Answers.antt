use Rattle.nor_flash.proofs.NorSteps.{cleared_exact, spares_exact}
use Rattle.nor_flash.proofs.memory_nor.MemoryNorNor.program.Goals as goal

pub returns-clause-cleared : goal.returns-clause-cleared
returns-clause-cleared c told = cleared_exact _ _ c.program_at.result c.args.place c.args.bytes.now c.requires.fits c.program_at.ensures.exact

pub returns-clause-keeps : goal.returns-clause-keeps
returns-clause-keeps c told = (spares_exact _ _ _ c.program_at.result c.program_at.ensures.exact).0

pub returns-clause-grows : goal.returns-clause-grows
returns-clause-grows c told = (spares_exact _ _ _ c.program_at.result c.program_at.ensures.exact).1
