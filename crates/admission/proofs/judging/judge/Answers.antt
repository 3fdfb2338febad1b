use Rattle.suit_manifest.specs.Procedures.{invocation_tree, update_tree}
use Rattle.admission.proofs.Exact.{not_safe_exactly, safe_exactly}
use Rattle.admission.proofs.judging.judge.Goals as goal

pub returns-clause-every_safe : goal.returns-clause-every_safe
returns-clause-every_safe c =
    safe_exactly c.admission_laws.ensures.judging (update_tree c.args.manifest.now c.args.members) (invocation_tree c.args.manifest.now) c.judge_in_turn.result c.judge_in_turn.ensures.refused

pub returns-clause-every_refusal : goal.returns-clause-every_refusal
returns-clause-every_refusal c =
    not_safe_exactly c.admission_laws.ensures.judging (update_tree c.args.manifest.now c.args.members) (invocation_tree c.args.manifest.now) c.judge_in_turn.result c.judge_in_turn.ensures.safe c.judge_in_turn.ensures.refused
