use Rattle.std.proofs.Common.{Result, Ok, Err}
use Rattle.std.specs.Prelude.{IfErr}
use Rattle.flash_layout.proofs.Spellings.{put_long}
use Rattle.flash_layout.proofs.spelling.put_strings.Goals as goal

whatever : {A E : Type 0} (r : Result A E) (P : Type 0) → P → IfErr r (λ _. P)
whatever (Ok a) P p = tt
whatever (Err e) P p = p

pub returns-in_err-put_string-clause-err : goal.returns-in_err-put_string-clause-err
returns-in_err-put_string-clause-err c = whatever c.from_residual.result _
    (put_long c.args.out.now.items c.loop-part.out.items c.args.parts.now c.loop-part.part-index c.part-item.result c.part-item.result c.loop-part-test.true c.part-item.is c.loop-part.invariant c.in_err-put_string.ensures.err)
