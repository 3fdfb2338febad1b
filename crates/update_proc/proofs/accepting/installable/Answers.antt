use Rattle.std.proofs.lemmas.Result.{err_from_is_err_and}
use Rattle.update_proc.proofs.Finished.{refused_unbegun}
use Rattle.update_proc.proofs.accepting.installable.Goals as goal

pub returns-in_err-accept-clause-unbegun : goal.returns-in_err-accept-clause-unbegun
returns-in_err-accept-clause-unbegun c =
    let p = err_from_is_err_and c.from_residual.result c.from_residual.ensures.1 in
    rw (p.1, p.2) (refused_unbegun c.in_err-accept.field-0.0 c.in_err-accept.ensures.refused)

pub returns-in_err-accept-clause-judged : goal.returns-in_err-accept-clause-judged
returns-in_err-accept-clause-judged c =
    let p = err_from_is_err_and c.from_residual.result c.from_residual.ensures.1 in
    rw (p.1, p.2) c.in_err-accept.ensures.judged

pub returns-in-Err-clause-judged : goal.returns-in-Err-clause-judged
returns-in-Err-clause-judged c = c.in_ok-accept.ensures.accepted
