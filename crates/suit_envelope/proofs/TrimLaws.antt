-- The trimmed envelope, piece by piece.
use Rattle.std.proofs.Common.{◌≡◌, ℕ, ◌+◌, ◌<◌, ◌≤◌, ◌^◌, List, [], ◌++◌, length, refl, sym, ap, ◌∙◌, append_assoc, arith}
use Rattle.std.proofs.lemmas.List.{append-nil, length-append}
use Rattle.det_cbor.specs.Heads.{head_bytes}
use Rattle.det_cbor.specs.DataItem.{ByteString, spell}
use Rattle.det_cbor.specs.ArgumentLaws.{head_small, head_8, head_16, head_32, head_64}
use Rattle.suit_envelope.specs.Trimmed.{trimmed}

pub trimmed_parts : (wrapper manifest : List ℕ) → (([] ++ (head_bytes 6 107 ++ head_bytes 5 2)) ++ (head_bytes 0 2 ++ spell (ByteString wrapper))) ++ (head_bytes 0 3 ++ spell (ByteString manifest)) ≡ trimmed wrapper manifest
unfolding trimmed
trimmed_parts wrapper manifest = simp (append_assoc, append-nil)

pub trimmed_long : (wrapper manifest : List ℕ) → length (trimmed wrapper manifest) ≡ 5 + (length (spell (ByteString wrapper)) + length (spell (ByteString manifest)))
trimmed_long wrapper manifest =
    let tag : length (head_bytes 6 107) ≡ 2 = rw (head_8 6 107 (omega arith) (omega arith)) refl in
    let map : length (head_bytes 5 2) ≡ 1 = rw (head_small 5 2 (omega arith)) refl in
    let two : length (head_bytes 0 2) ≡ 1 = rw (head_small 0 2 (omega arith)) refl in
    let three : length (head_bytes 0 3) ≡ 1 = rw (head_small 0 3 (omega arith)) refl in
    ap length (sym (trimmed_parts wrapper manifest))
    ∙ omega (
      arith,
      length-append (([] ++ (head_bytes 6 107 ++ head_bytes 5 2)) ++ (head_bytes 0 2 ++ spell (ByteString wrapper))) (head_bytes 0 3 ++ spell (ByteString manifest)),
      length-append ([] ++ (head_bytes 6 107 ++ head_bytes 5 2)) (head_bytes 0 2 ++ spell (ByteString wrapper)),
      length-append [] (head_bytes 6 107 ++ head_bytes 5 2),
      length-append (head_bytes 6 107) (head_bytes 5 2),
      length-append (head_bytes 0 2) (spell (ByteString wrapper)),
      length-append (head_bytes 0 3) (spell (ByteString manifest)),
    )

pub string_long : (content : List ℕ) → length (spell (ByteString content)) ≡ length (head_bytes 2 (length content)) + length content
string_long content = length-append (head_bytes 2 (length content)) content

pub long_small : (n : ℕ) → n < 24 → length (head_bytes 2 n) ≡ 1
long_small n lt = rw (head_small 2 n lt) refl

pub long_8 : (n : ℕ) → 24 ≤ n → n < 2 ^ 8 → length (head_bytes 2 n) ≡ 2
long_8 n ge lt = rw (head_8 2 n ge lt) refl

pub long_16 : (n : ℕ) → 2 ^ 8 ≤ n → n < 2 ^ 16 → length (head_bytes 2 n) ≡ 3
long_16 n ge lt = rw (head_16 2 n ge lt) refl

pub long_32 : (n : ℕ) → 2 ^ 16 ≤ n → n < 2 ^ 32 → length (head_bytes 2 n) ≡ 5
long_32 n ge lt = rw (head_32 2 n ge lt) refl

pub long_64 : (n : ℕ) → 2 ^ 32 ≤ n → n < 2 ^ 64 → length (head_bytes 2 n) ≡ 9
long_64 n ge lt = rw (head_64 2 n ge lt) refl
