use Rattle.std.proofs.Common.{◌++◌, ◌∙◌, ℕ, List, ap, drop, length, replicate}
use Rattle.std.proofs.lemmas.List.{drop-replicate}
use Rattle.hmac_mac0.proofs.key.filled.Goals as goal

pub returns : goal.returns
returns g c =
    let size = length c.args.key.now in
    ap (λ (l : List ℕ). l ++ drop size (replicate g.row.SIZE 0)) c.copy_from_slice.ensures.after ∙ ap (λ (l : List ℕ). c.args.key.now ++ l) (drop-replicate size g.row.SIZE 0)
