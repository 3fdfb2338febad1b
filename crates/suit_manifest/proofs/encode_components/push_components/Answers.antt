use Rattle.std.proofs.Common.{length, ap, ◌∙◌}
use Rattle.suit_commands.proofs.SequenceSpelled.{array_written}
use Rattle.suit_manifest.specs.Components.{identifier_items}
use Rattle.suit_manifest.proofs.ManifestValid.{identifiers_counted}
use Rattle.suit_manifest.proofs.encode_components.push_components.Goals as goal

pub returns-clause-ok : goal.returns-clause-ok
returns-clause-ok c =
    let ids = c.args.components.now in
    array_written c.args.out.now c.push_count.new.out c.push_identifiers.new.out (length c.as_slice-identifiers.result.now) (identifier_items ids)
    (ap length c.as_slice-identifiers.ensures ∙ identifiers_counted ids) c.in_ok-push_count.ensures.ok (rw (← c.as_slice-identifiers.ensures) c.in_ok-push_identifiers.ensures.ok)
