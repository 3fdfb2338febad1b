use Rattle.std.proofs.Common.{◌∷◌, [], ◌+◌, ap, ◌∙◌}
use Rattle.std.proofs.lemmas.List.{length-append}
use Rattle.suit_manifest.specs.ComponentsReading.{identifier_at}
use Rattle.suit_manifest.proofs.ElementSteps.{all_step}
use Rattle.suit_manifest.proofs.components.read_identifiers.Goals as goal

pub loop-preserved : goal.loop-preserved
loop-preserved c =
    rw c.in_ok-push.ensures.ok (
      all_step identifier_at c.loop.ids c.args.count c.loop.counter c.loop.items c.read_item.new.cursor c.in_ok-item.item c.in_ok-read_identifier.field-0 _ c.loop-test.true c.in_ok-item.ensures.exact c.in_ok-read_identifier.ensures c.loop.invariant.0,
      length-append c.loop.ids (c.in_ok-read_identifier.field-0 ∷ []) ∙ ap (λ n. n + 1) c.loop.invariant.1,
    )
