use Rattle.std.proofs.Common.{◌∙◌, Err, ap, arith, refl, subst, sym}
use Rattle.std.proofs.lemmas.Result.{err_from_is_err_and}
use Rattle.suit_params.specs.Reading.{only_from}
use Rattle.suit_cli.specs.declared.reply.Stop.{Stop}
use Rattle.suit_cli.specs.Diagnosing.{item_in}
use Rattle.suit_cli.specs.Outside.{Outside}
use Rattle.suit_cli.specs.Stages.{Does}
use Rattle.suit_cli.proofs.Diagnosing.{is_item, refused_item}
use Rattle.suit_cli.proofs.diag.item_in.Goals as goal

pub decoded-requires : goal.decoded-requires
decoded-requires c = is_item c.args.bytes.now _ (λ i. omega (arith, c.type_inv.bytes i)) (c.in-Ok.ensures ∙ ap only_from c.new.ensures)

pub returns-in_err-decoded-in-Ok : goal.returns-in_err-decoded-in-Ok
returns-in_err-decoded-in-Ok c here = let p = err_from_is_err_and c.from_residual.result c.from_residual.ensures.1 in rw (p.1, p.2) refl

pub returns-in_ok-decoded-in-Ok : goal.returns-in_ok-decoded-in-Ok
returns-in_ok-decoded-in-Ok c here = (refl, c.in_ok-decoded-in-Ok.ensures)

pub returns-in-Err : goal.returns-in-Err
returns-in-Err c =
    subst (λ (stop : Stop). (here : Outside) → Does (item_in c.args.bytes.now) here here (Err stop)) (sym c.declined.ensures)
    (refused_item c.args.bytes.now c.in-Err.refusal c.refused.result (λ i. omega (arith, c.type_inv.bytes i)) (c.in-Err.ensures ∙ ap only_from c.new.ensures) c.refused.ensures)
