use Rattle.std.proofs.Common.{subst}
use Rattle.admission.specs.declared.refusal.NotAdmitted.{NotAdmitted}
use Rattle.suit_cli.specs.Refusals.{StopsAs}
use Rattle.suit_cli.proofs.Refused.{opening_stops}
use Rattle.suit_cli.proofs.accept.opened_in.Goals as goal

pub returns-in-Ok : goal.returns-in-Ok
returns-in-Ok c = record {
  are_bytes = c.in-Ok.ensures.opened.within.spell.are_bytes;
  envelope = c.in-Ok.ensures.opened.within.spell.envelope;
  is_short = c.in-Ok.ensures.opened.within.short;
  manifest = c.in-Ok.ensures.opened.says;
  wrapper = c.in-Ok.ensures.wrapper;
  whole = c.in-Ok.ensures.whole;
  places = c.in-Ok.ensures.places;
}

pub returns-in-Err : goal.returns-in-Err
returns-in-Err c =
    opening_stops c.args.bytes.now c.in-Err.refusal c.refusal_stop.result c.in-Err.ensures.refused
    (subst (λ (r : NotAdmitted). StopsAs r c.refusal_stop.result) c.from.ensures c.refusal_stop.ensures)
