use Rattle.std.proofs.Common.{◌∙◌, sym, subst}
use Rattle.std.specs.Prelude.{IsOk}
use Rattle.det_cbor.specs.Position.{Position}
use Rattle.suit_manifest.specs.Elements.{all_from}
use Rattle.suit_manifest.specs.ComponentsReading.{identifier_at}
use Rattle.manifest_view.proofs.Elements.{is_ok, all_length}
use Rattle.manifest_view.proofs.components.lend_identifiers.Goals as goal

pub returns-clause-all : goal.returns-clause-all
returns-clause-all c =
    all_length identifier_at c.args.count c.same_place-again.result
    (subst (λ (p : Position). IsOk (all_from identifier_at c.args.count p)) (c.same_place-again.ensures.same ∙ sym c.same_place-again.ensures.copied) (is_ok _ _ c.in_ok-judge_identifiers.ensures))
