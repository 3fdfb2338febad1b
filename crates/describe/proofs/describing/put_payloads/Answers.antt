use Rattle.std.proofs.Common.{◌≡◌, OnOk, Option, option_map, map, ap, subst, ◌∙◌}
use Rattle.std.specs.Prelude.{codes}
use Rattle.serde_json.specs.Data.{Data}
use Rattle.serde_json.specs.View.{view, members_view}
use Rattle.suit_envelope.specs.PayloadListing.{said_payload}
use Rattle.describe.specs.Describing.{with_field}
use Rattle.describe.specs.PayloadData.{payloads_data}
use Rattle.describe.proofs.describing.put_payloads.Goals as goal

pub returns : goal.returns
returns c = λ payloads has.
    let same : option_map view c.in_ok-value.value ≡ payloads_data payloads =
    c.in_ok-value.ensures ∙ ap (λ ps. payloads_data (map said_payload ps)) c.as_slice.ensures.value ∙ ap payloads_data (c.in_ok-payloads.ensures payloads has) in
    subst (λ (v : Option Data). OnOk c.put_field.result (members_view c.put_field.new.object.entries ≡ with_field (codes "payloads") v (members_view c.args.object.now.entries))) same c.put_field.ensures
