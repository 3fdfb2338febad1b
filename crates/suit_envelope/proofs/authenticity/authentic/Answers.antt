use Rattle.suit_envelope.proofs.AuthenticYes.{yes_is_authentic, authentic_is_yes}
use Rattle.suit_envelope.proofs.OneAuthenticity.{tells_difference}
use Rattle.suit_envelope.proofs.authenticity.authentic.Goals as goal

pub returns-clause-yes : goal.returns-clause-yes
returns-clause-yes c = yes_is_authentic c.args.envelope.now.wrapper.now c.args.envelope.now.manifest.now c.args.key.now c.answer.result c.answer.ensures c.requires

pub returns-clause-every_yes : goal.returns-clause-every_yes
returns-clause-every_yes c = authentic_is_yes c.args.envelope.now.wrapper.now c.args.envelope.now.manifest.now c.args.key.now c.answer.result c.answer.ensures

pub returns-clause-differs : goal.returns-clause-differs
returns-clause-differs c =
    let has = c.requires in
    tells_difference has.0 has.1 c.args.envelope.now.manifest.now c.args.key.now c.answer.result (c.answer.ensures has.0 has.1 has.2)
