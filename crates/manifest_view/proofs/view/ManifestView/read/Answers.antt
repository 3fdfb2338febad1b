use Rattle.std.proofs.Common.{arith}
use Rattle.manifest_view.proofs.ViewAnswers.{says, some, few, refuses, every_said, every_refused}
use Rattle.manifest_view.proofs.view.ManifestView.read.Goals as goal

pub returns-clause-ok : goal.returns-clause-ok
returns-clause-ok c = says c.args.place c.args.bytes.now c.lend_manifest.result (λ i. omega (arith, c.type_inv.bytes i)) c.lend_manifest.ensures

pub returns-clause-refused : goal.returns-clause-refused
returns-clause-refused c = refuses c.args.place c.args.bytes.now c.lend_manifest.result (λ i. omega (arith, c.type_inv.bytes i)) c.lend_manifest.ensures

pub returns-clause-every_manifest : goal.returns-clause-every_manifest
returns-clause-every_manifest c = every_said c.args.place c.args.bytes.now c.lend_manifest.result (λ i. omega (arith, c.type_inv.bytes i)) c.lend_manifest.ensures

pub returns-clause-every_refusal : goal.returns-clause-every_refusal
returns-clause-every_refusal c = every_refused c.args.place c.args.bytes.now c.lend_manifest.result (λ i. omega (arith, c.type_inv.bytes i)) c.lend_manifest.ensures

pub returns-clause-some : goal.returns-clause-some
returns-clause-some c = some c.args.place c.args.bytes.now c.lend_manifest.result (returns-clause-ok c)

pub returns-clause-few : goal.returns-clause-few
returns-clause-few c = few c.args.place c.args.bytes.now c.lend_manifest.result (returns-clause-ok c)
