use Rattle.std.proofs.Common.{subst}
use Rattle.admission.specs.declared.refusal.NotAdmitted.{NotAdmitted}
use Rattle.suit_cli.specs.Refusals.{StopsAs}
use Rattle.suit_cli.proofs.accept.lack.Goals as goal

pub returns : goal.returns
returns c = subst (λ (r : NotAdmitted). StopsAs r c.refusal_stop.result) c.from.ensures c.refusal_stop.ensures
