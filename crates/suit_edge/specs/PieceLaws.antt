-- Bytes that are written piece by piece.
use Rattle.std.proofs.Common.{◌≡◌, ◌≤◌, ℕ, ◌+◌, ◌-◌, List, ◌++◌, length, take, drop, sym, ◌∙◌, ap, arith, length-drop}
use Rattle.std.proofs.Math.Seq.{take-add}
use Rattle.std.proofs.lemmas.List.{length-take-le}
use Rattle.suit_edge.specs.Ranges.{Outside, written}
use Rattle.suit_edge.specs.Flash.{Flash, Keeps, IsFlash}
use Rattle.suit_edge.specs.RangeLaws.{written-written, outside_within}
use Rattle.suit_edge.specs.FlashLaws.{keeps_fewer, keeps_then}

module _ (bytes : List ℕ) (place done n : ℕ) (within : done + n ≤ length bytes) where
  piece : List ℕ
  piece = take (done + n - done) (drop done bytes)

  length-piece : length piece ≡ n
  unfolding piece
  length-piece = omega (arith, length-take-le (done + n - done) (drop done bytes) (omega (arith, length-drop done bytes)))

  -- what was written so far, and one piece more
  pub piece_written : (start reads new : List ℕ) → place + length bytes ≤ length start
      → reads ≡ written start place (take done bytes)
      → new ≡ written reads (place + done) (take (done + n - done) (drop done bytes)) → new ≡ written start place (take (done + n) bytes)
  unfolding piece
  piece_written start reads new fits so_far wrote =
      let front : length (take done bytes) ≡ done = length-take-le done bytes (omega arith) in
      let count : done + n - done ≡ n = omega arith in
      let at : place + done ≡ place + length (take done bytes) = omega (arith, front) in
      wrote ∙ ap (λ (l : List ℕ). written l (place + done) piece) so_far
      ∙ ap (λ (k : ℕ). written (written start place (take done bytes)) k piece) at
      ∙ written-written start place (take done bytes) piece (omega (arith, front, length-piece))
      ∙ ap (λ (k : ℕ). written start place (take done bytes ++ take k (drop done bytes))) count
      ∙ ap (written start place) (sym (take-add done n bytes))

  -- everything outside the range is left alone
  pub piece_kept : (a b c : Flash) (size : ℕ) → IsFlash b size
      → Keeps (Outside place (length bytes)) a b
      → Keeps (Outside (place + done) (length (take (done + n - done) (drop done bytes)))) b c → Keeps (Outside place (length bytes)) a c
  unfolding piece
  piece_kept a b c size law so_far kept =
      keeps_then (Outside place (length bytes)) a b c size law so_far
      (keeps_fewer (Outside place (length bytes)) (Outside (place + done) (length piece)) (outside_within (place + done) (length piece) place (length bytes) (omega arith) (omega (arith, length-piece))) b c kept)
