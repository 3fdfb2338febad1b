use Rattle.std.proofs.Common.{Result, Ok, Err}
use Rattle.std.specs.Prelude.{IfErr}
use Rattle.std.proofs.lemmas.Result.{IfOk-weaker, IfErr-weaker}
use Rattle.suit_envelope.proofs.AuthenticLaws.{scan_says, scan_never, first_never}
use Rattle.suit_envelope.proofs.authenticity.macs.Goals as goal

whatever : {A E : Type 0} (r : Result A E) (P : Type 0) → P → IfErr r (λ _. P)
whatever (Ok a) P p = tt
whatever (Err e) P p = p

pub returns-clause-says : goal.returns-clause-says
returns-clause-says c = IfOk-weaker c.scan.result _ _
    (λ answer h. scan_says c.args.wrapper.now c.args.key.now c.bytes_left.result.now c.in_ok-content.content c.in_ok-content.rest c.count.result answer c.in_ok-content.ensures c.count.ensures c.bytes_left.ensures h)
    c.scan.ensures.says

pub returns-clause-read : goal.returns-clause-read
returns-clause-read c = IfErr-weaker c.scan.result _ _
    (λ refusal never. scan_never c.args.wrapper.now c.in_ok-content.content c.in_ok-content.rest c.count.result c.in_ok-content.ensures c.count.ensures never)
    c.scan.ensures.read

pub returns-in_err-content-clause-read : goal.returns-in_err-content-clause-read
returns-in_err-content-clause-read c = whatever c.from_residual.result _ (first_never c.args.wrapper.now c.in_err-content.field-0.0 c.in_err-content.ensures)
