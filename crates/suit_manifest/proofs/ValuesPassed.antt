-- A value of a map that was judged is skipped by reading its head.
use Rattle.std.proofs.Common.{◌≡◌, ℕ, ◌-◌, List, ◌++◌, length, Ok, refl, ap, arith}
use Rattle.std.proofs.lemmas.List.{length-append}
use Rattle.det_cbor.specs.Heads.{head_bytes}
use Rattle.det_cbor.specs.DataItem.{DataItem, UnsignedInteger, ByteString, TextString, spell, IsValidWithin}
use Rattle.det_cbor.specs.Position.{Position}
use Rattle.suit_params.specs.Reading.{inside}
use Rattle.suit_params.specs.HeadLaws.{item_head_read, bytes_again, after}
use Rattle.suit_envelope.proofs.KeyLaws.{inner_read}
use Rattle.suit_manifest.specs.MapReading.{up_to, value_from}

up_to_read : (p q : Position) (taken rest : List ℕ) → p.left ≡ taken ++ rest → q.left ≡ rest → up_to p q ≡ Ok (record { left = taken; place = p.place }, after p taken rest)
up_to_read p q taken rest is same =
    let long : length p.left - length q.left ≡ length taken = omega (arith, ap length is, ap length same, length-append taken rest) in
    rw (long, bytes_again p taken rest is) refl

pub value_read : (levels : ℕ) (p : Position) (x : DataItem) (rest : List ℕ) → IsValidWithin levels x → p.left ≡ spell x ++ rest → value_from p ≡ Ok (inside p x, after p (spell x) rest)
unfolding value_from
value_read levels p (UnsignedInteger n) rest valid is =
    let x = UnsignedInteger n in
    rw (item_head_read levels p x rest valid is) (up_to_read p (after p (spell x) rest) (spell x) rest is refl)
value_read levels p (ByteString bytes) rest valid is =
    let x = ByteString bytes in
    let q = after p (head_bytes 2 (length bytes)) (bytes ++ rest) in
    rw (item_head_read levels p x rest valid is, bytes_again q bytes rest refl) (up_to_read p (after q bytes rest) (spell x) rest is refl)
value_read levels p (TextString text) rest valid is =
    let x = TextString text in
    let q = after p (head_bytes 3 (length text)) (text ++ rest) in
    rw (item_head_read levels p x rest valid is, bytes_again q text rest refl) (up_to_read p (after q text rest) (spell x) rest is refl)
value_read levels p x rest valid is = rw (item_head_read levels p x rest valid is) (inner_read levels p x rest valid is)
