use Rattle.author.specs.Held.{value_of}
use Rattle.author.proofs.TooLongFacts.{exceeds}
use Rattle.author.proofs.made_envelope.certain_limit.Goals as goal

pub returns-in-LongManifest-clause-told : goal.returns-in-LongManifest-clause-told
returns-in-LongManifest-clause-told c =
    exceeds (value_of c.args.description.now) c.args.files.now c.args.key.now c.args.description.now.accepted (rw c.in-LongManifest.is at c.in_ok-judge_contents.ensures)
