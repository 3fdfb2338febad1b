-- Comparing a range of a disk with bytes, piece by piece.
use Rattle.std.proofs.Common.{◌≡◌, ◌<◌, ◌≤◌, ℕ, ◌+◌, ◌-◌, List, ◌++◌, length, take, drop, get_or, refl, sym, ◌∙◌, ap, arith}
use Rattle.std.specs.List.{slice_range}
use Rattle.std.proofs.Math.Seq.{take-add}
use Rattle.std.proofs.lemmas.List.{take_all, drop-drop, ext_get_or}
use Rattle.std.proofs.lemmas.List.Edits.{length-between, get_or-between}

module _ (reads bytes : List ℕ) (place done count : ℕ) where
  -- the disk holds one more piece
  pub one_more : (read : List ℕ)
      → read ≡ slice_range reads (place + done) (place + done + count)
      → read ≡ slice_range bytes done (done + count)
      → take done (drop place reads) ≡ take done bytes
      → take (done + count) (drop place reads) ≡ take (done + count) bytes
  one_more read at same before =
      let of_bytes : done + count - done ≡ count = omega arith in
      let of_reads : place + done + count - (place + done) ≡ count = omega arith in
      take-add done count (drop place reads)
      ∙ ap (λ (l : List ℕ). l ++ take count (drop done (drop place reads))) before
      ∙ ap (λ (l : List ℕ). take done bytes ++ l)
      (ap (take count) (drop-drop done place reads) ∙ sym (ap (λ (k : ℕ). take k (drop (place + done) reads)) of_reads) ∙ sym at ∙ same ∙ ap (λ (k : ℕ). take k (drop done bytes)) of_bytes)
      ∙ sym (take-add done count bytes)

  -- if the range holds the bytes, it holds each piece of them
  pub each_piece : place + length bytes ≤ length reads → done + count ≤ length bytes
      → slice_range reads place (place + length bytes) ≡ bytes
      → slice_range reads (place + done) (place + done + count) ≡ slice_range bytes done (done + count)
  each_piece fits within whole =
      let size = length-between reads (place + done) (place + done + count) (omega (arith, fits, within)) in
      ext_get_or 0 (slice_range reads (place + done) (place + done + count)) (slice_range bytes done (done + count))
      (size ∙ omega (arith, length-between bytes done (done + count) within))
      (λ i h.
      let low : i < count = omega (arith, size, h) in
      get_or-between reads (place + done) (place + done + count) i 0 (omega (arith, low))
      ∙ ap (λ (k : ℕ). get_or reads k 0) (omega arith)
      ∙ sym (get_or-between reads place (place + length bytes) (done + i) 0 (omega (arith, low, within)))
      ∙ ap (λ (l : List ℕ). get_or l (done + i) 0) whole
      ∙ sym (get_or-between bytes done (done + count) i 0 (omega (arith, low))))
