use Rattle.std.proofs.Common.{◌∙◌, Result, Ok, subst, ap}
use Rattle.std.specs.Prelude.{IsOk}
use Rattle.det_cbor.specs.HeadReading.{◌>>=◌}
use Rattle.det_cbor.specs.Position.{Position}
use Rattle.suit_params.specs.declared.digest.Digest.{Digest}
use Rattle.suit_params.specs.declared.refusal.Refusal.{Refusal}
use Rattle.suit_params.specs.DigestReading.{digest_at}
use Rattle.suit_cursor.proofs.Known.{first_ok}
use Rattle.suit_cursor.proofs.Taken.{content_goes}
use Rattle.suit_cursor.proofs.taking.take_digest.Goals as goal

pub whole_digest-requires : goal.whole_digest-requires
whole_digest-requires c =
    first_ok (digest_at c.take_held-content.result) _
    (subst (λ (r : Result (Digest × Position) Refusal). IsOk r) (content_goes c.args.map.now c.take_held-content.result c.take_held-content.new.map c.take_held-content.ensures c.are_bytes.ensures c.requires) c.requires)

pub returns : goal.returns
returns c =
    content_goes c.args.map.now c.take_held-content.result c.take_held-content.new.map c.take_held-content.ensures c.are_bytes.ensures c.requires
    ∙ ap (λ (r : Result Digest Refusal). r >>= λ d. Ok (d, c.take_held-content.new.map)) c.whole_digest.ensures
