use Rattle.std.proofs.lemmas.Result.{err_from_is_err_and}
use Rattle.serde_json.specs.View.{view}
use Rattle.flash_layout.proofs.OneLayout.{fault_of_entries, fault_of_fields}
use Rattle.flash_layout.proofs.Wholes.{described_whole, whole_slots}
use Rattle.flash_layout.proofs.describing.read_layout.Goals as goal

pub returns-in_err-layout-clause-refused : goal.returns-in_err-layout-clause-refused
returns-in_err-layout-clause-refused c =
    let p = err_from_is_err_and c.from_residual.result c.from_residual.ensures.1 in
    rw (p.1, p.2) (fault_of_fields c.args.size (view c.args.value.now) _ c.in_err-layout.ensures)

pub judge-requires : goal.judge-requires
judge-requires c =
    let is = c.in_ok-layout in
    whole_slots is.layout (described_whole (view c.args.value.now) is.layout is.frame is.ensures).whole

pub returns-in_err-judge-clause-refused : goal.returns-in_err-judge-clause-refused
returns-in_err-judge-clause-refused c =
    let is = c.in_ok-layout in
    let p = err_from_is_err_and c.from_residual-in_err-judge.result c.from_residual-in_err-judge.ensures.1 in
    rw (p.1, p.2) (fault_of_entries c.args.size (view c.args.value.now) is.layout is.frame _ is.ensures c.in_err-judge.ensures)
