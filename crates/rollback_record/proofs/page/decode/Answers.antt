use Rattle.std.proofs.Common.{Some, ap, subst, sym, ◌∙◌}
use Rattle.flash_layout.specs.declared.slot.Record.{Record}
use Rattle.rollback_record.specs.RecordPage.{IsPageBeside}
use Rattle.rollback_record.proofs.Fields.{beside_read, some_never, some_same}
use Rattle.rollback_record.proofs.page.decode.Goals as goal

pub returns-in-None-clause-every : goal.returns-in-None-clause-every
returns-in-None-clause-every c r is = some_never r (c.in-None.ensures ∙ beside_read c.args.frame c.args.slots.now c.args.page.now r is)

pub returns-in-Some-clause-every : goal.returns-in-Some-clause-every
returns-in-Some-clause-every c r is =
    let same = some_same c.in-Some.installed r (c.in-Some.ensures ∙ beside_read c.args.frame c.args.slots.now c.args.page.now r is) in
    c.judged.ensures.every (subst (IsPageBeside c.args.frame c.args.slots.now c.args.page.now) (sym same) is) ∙ ap (λ (x : Record). Some x) same
