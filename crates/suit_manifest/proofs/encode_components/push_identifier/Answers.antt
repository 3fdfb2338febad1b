use Rattle.std.proofs.Common.{length, ap, ◌∙◌}
use Rattle.suit_commands.proofs.SequenceSpelled.{array_written}
use Rattle.suit_manifest.specs.Components.{string_items}
use Rattle.suit_manifest.proofs.ManifestValid.{parts_counted}
use Rattle.suit_manifest.proofs.encode_components.push_identifier.Goals as goal

pub returns-clause-ok : goal.returns-clause-ok
returns-clause-ok c =
    let id = c.args.identifier.now in
    array_written c.args.out.now c.push_count.new.out c.push_parts.new.out (length c.as_slice-parts.result.now) (string_items id)
    (ap length c.as_slice-parts.ensures ∙ parts_counted id) c.in_ok-push_count.ensures.ok (rw (← c.as_slice-parts.ensures) c.in_ok-push_parts.ensures.ok)
