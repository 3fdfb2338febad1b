use Rattle.step_machine.proofs.payloads.fill_with.Goals as goal

pub returns-in-Ok-clause-any_moment : goal.returns-in-Ok-clause-any_moment
returns-in-Ok-clause-any_moment g c t = c.empty.ensures.any_moment t c.args.payload.now

pub returns-in-Err-clause-any_moment : goal.returns-in-Err-clause-any_moment
returns-in-Err-clause-any_moment g c t = c.empty.ensures.any_moment t c.args.payload.now
