use Rattle.std.proofs.lemmas.Result.{err_from_is_err_and}
use Rattle.serde_json.specs.View.{view}
use Rattle.author.proofs.OneFault.{by_components, fault_of_fields}
use Rattle.author.proofs.describing.judged.Goals as goal

pub returns-in_err-parts : goal.returns-in_err-parts
returns-in_err-parts c =
    let p = err_from_is_err_and c.from_residual.result c.from_residual.ensures.1 in
    rw (p.1, p.2) (fault_of_fields (view c.args.value.now) _ (rw c.new-none.ensures at c.in_err-parts.ensures))

pub returns : goal.returns
returns c = by_components (view c.args.value.now) c.in_ok-parts.parts c.judge_components.result (rw c.new-none.ensures at c.in_ok-parts.ensures) c.judge_components.ensures
