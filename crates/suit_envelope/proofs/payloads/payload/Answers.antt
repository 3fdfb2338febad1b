use Rattle.suit_envelope.proofs.PayloadLaws.{every_found, found_there}
use Rattle.suit_envelope.proofs.payloads.payload.Goals as goal

pub returns-clause-found : goal.returns-clause-found
returns-clause-found c = found_there (λ s. s.now) c.args.envelope.now.whole.now c.args.key.now c.look_up.result c.look_up.ensures

pub returns-clause-every_payload : goal.returns-clause-every_payload
returns-clause-every_payload c = λ payloads content has there.
    every_found c.args.envelope.now.whole.now payloads c.args.key.now content _ has (c.look_up.ensures payloads has) there
