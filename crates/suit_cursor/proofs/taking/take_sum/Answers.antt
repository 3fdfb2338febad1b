use Rattle.std.proofs.Common.{◌∙◌, ℕ, List, Result, Ok, ap, sym}
use Rattle.det_cbor.specs.HeadReading.{◌>>=◌}
use Rattle.det_cbor.specs.Position.{Position}
use Rattle.suit_params.specs.declared.digest.Digest.{Digest}
use Rattle.suit_params.specs.declared.refusal.Refusal.{Refusal}
use Rattle.suit_params.specs.DigestBytes.{digest_by}
use Rattle.suit_params.specs.DigestReading.{digest_with}
use Rattle.suit_cursor.proofs.taking.take_sum.Goals as goal

pub returns : goal.returns
returns c =
    let kind = c.args.kind in
    ap (λ (n : ℕ). digest_with kind n c.args.item.now) (sym c.size.ensures.is)
    ∙ ap (λ (r : Result (List ℕ × Position) Refusal). r >>= λ b. Ok (digest_by kind b.0, b.1)) c.bytes-bytes.ensures.exact
    ∙ ap (λ (d : Digest). Ok (d, c.bytes-bytes.new.self)) (sym c.new.ensures)
