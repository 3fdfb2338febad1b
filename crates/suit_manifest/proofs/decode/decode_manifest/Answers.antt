use Rattle.std.proofs.Common.{arith}
use Rattle.suit_manifest.proofs.ManifestAnswers.{ok_says, ok_some, ok_few, err_refuses, every_manifest, every_refusal}
use Rattle.suit_manifest.proofs.decode.decode_manifest.Goals as goal

pub returns-clause-ok : goal.returns-clause-ok
returns-clause-ok c = ok_says c.args.place c.args.bytes.now c.whole_manifest.result (λ i. omega (arith, c.type_inv.bytes i)) c.whole_manifest.ensures

pub returns-clause-refused : goal.returns-clause-refused
returns-clause-refused c = err_refuses c.args.place c.args.bytes.now c.whole_manifest.result (λ i. omega (arith, c.type_inv.bytes i)) c.whole_manifest.ensures

pub returns-clause-every_manifest : goal.returns-clause-every_manifest
returns-clause-every_manifest c = every_manifest c.args.place c.args.bytes.now c.whole_manifest.result (λ i. omega (arith, c.type_inv.bytes i)) c.whole_manifest.ensures

pub returns-clause-every_refusal : goal.returns-clause-every_refusal
returns-clause-every_refusal c = every_refusal c.args.place c.args.bytes.now c.whole_manifest.result (λ i. omega (arith, c.type_inv.bytes i)) c.whole_manifest.ensures

pub returns-clause-some : goal.returns-clause-some
returns-clause-some c = ok_some c.args.place c.args.bytes.now c.whole_manifest.result (returns-clause-ok c)

pub returns-clause-few : goal.returns-clause-few
returns-clause-few c = ok_few c.args.place c.args.bytes.now c.whole_manifest.result (returns-clause-ok c)
