use Rattle.std.proofs.Common.{◌++◌, ◌-◌, ◌∙◌, ℕ, List, ap, drop, length, replicate}
use Rattle.std.proofs.lemmas.List.{drop-replicate}
use Rattle.suit_params.proofs.digest.Digest.padded.Goals as goal

pub returns : goal.returns
returns c =
    let size = length c.bytes-bytes.result.now in
    ap (λ (l : List ℕ). l ++ drop size (replicate 64 0)) c.copy_from_slice.ensures.after
    ∙ ap (λ (l : List ℕ). c.bytes-bytes.result.now ++ l) (drop-replicate size 64 0)
    ∙ ap (λ (l : List ℕ). l ++ replicate (64 - length l) 0) c.bytes-bytes.ensures.is
