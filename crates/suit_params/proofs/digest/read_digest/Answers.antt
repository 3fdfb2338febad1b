use Rattle.suit_params.proofs.DigestAnswers.{ok_takes, err_refuses, every_digest, every_refusal}
use Rattle.suit_params.proofs.digest.read_digest.Goals as goal

pub returns-clause-ok : goal.returns-clause-ok
returns-clause-ok c = ok_takes _ _ c.digest_ahead.result c.digest_ahead.ensures.bytes c.digest_ahead.ensures.exact

pub returns-clause-refused : goal.returns-clause-refused
returns-clause-refused c = err_refuses _ _ c.digest_ahead.result c.digest_ahead.ensures.bytes c.digest_ahead.ensures.exact

pub returns-clause-every_digest : goal.returns-clause-every_digest
returns-clause-every_digest c = every_digest _ _ c.digest_ahead.result c.digest_ahead.ensures.bytes c.digest_ahead.ensures.exact

pub returns-clause-every_refusal : goal.returns-clause-every_refusal
returns-clause-every_refusal c = every_refusal _ _ c.digest_ahead.result c.digest_ahead.ensures.bytes c.digest_ahead.ensures.exact
