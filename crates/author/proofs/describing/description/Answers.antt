use Rattle.std.proofs.lemmas.Result.{IfOk-weaker}
use Rattle.serde_json.specs.View.{view}
use Rattle.author.specs.Faults.{IsDescription}
use Rattle.author.proofs.OneFault.{refused_for}
use Rattle.author.proofs.describing.description.Goals as goal

pub returns-clause-every_fault : goal.returns-clause-every_fault
returns-clause-every_fault c f r =
    let d = view c.args.value.now in
    refused_for d f c.read_description.result (IfOk-weaker c.read_description.result _ (λ p. IsDescription d) (λ p h. h.accepted) c.read_description.ensures.ok) c.read_description.ensures.refused r
