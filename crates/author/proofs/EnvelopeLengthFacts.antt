-- An envelope is longer than the contents that stand in it.
use Rattle.std.proofs.Common.{◌≡◌, ℕ, ◌+◌, ◌-◌, ◌<◌, ◌≤◌, ◌^◌, List, [], ◌∷◌, ◌++◌, length, min, drop, Option, Some, None, ap, arith}
use Rattle.std.proofs.lemmas.List.{drop_all, length-append}
use Rattle.det_cbor.specs.DataItem.{UnsignedInteger, ByteString, TextString, DataPairs, pair_count, spell, spell_pairs}
use Rattle.det_cbor.specs.Heads.{head_bytes}
use Rattle.suit_envelope.specs.Making.{member_then, payload_pairs, pairs_made}
use Rattle.suit_envelope.specs.declared.parts.EnvelopeParts.{EnvelopeParts}
use Rattle.author.specs.EnvelopeLengths.{member_length, payloads_length, contents_length}
use Rattle.author.specs.MadeEnvelopes.{made_bytes, trimmed_bytes, ExceedsLimit, Trimmed, Whole}

pub none_left : (list : List (List ℕ × List ℕ)) (i : ℕ) → length list ≤ i → payloads_length (drop i list) ≡ 0
none_left list i h = ap payloads_length (drop_all i list h)

string_longer : (content : List ℕ) → length content ≤ length (spell (ByteString content))
string_longer content = omega (arith, length-append (head_bytes 2 (length content)) content)

module _ (key value others : List ℕ) where
  pair_length : length (key ++ (value ++ others)) ≡ length key + (length value + length others)
  pair_length = omega (arith, length-append key (value ++ others), length-append value others)

payloads_longer : (ps : List (List ℕ × List ℕ)) → payloads_length ps ≤ length (spell_pairs (payload_pairs ps))
payloads_longer [] = omega arith
payloads_longer (p ∷ ps) =
    omega (arith, payloads_longer ps, string_longer p.1, pair_length (spell (TextString p.0)) (spell (ByteString p.1)) (spell_pairs (payload_pairs ps)))

member_longer : (key : ℕ) (o : Option (List ℕ)) (ps : DataPairs) → member_length o + length (spell_pairs ps) ≤ length (spell_pairs (member_then key o ps))
member_longer key None ps = omega arith
member_longer key (Some content) ps =
    omega (arith, string_longer content, pair_length (spell (UnsignedInteger key)) (spell (ByteString content)) (spell_pairs ps))

pub envelope_longer : (parts : EnvelopeParts) → contents_length parts ≤ length (made_bytes parts)
envelope_longer parts =
    let payloads = payload_pairs parts.payloads in
    let text = member_then 23 parts.text payloads in
    let install = member_then 20 parts.install text in
    let members = member_then 16 parts.payload_fetch install in
    let manifest = spell (ByteString parts.manifest) ++ spell_pairs members in
    let second = spell (UnsignedInteger 3) ++ manifest in
    let first = spell (ByteString parts.wrapper) ++ second in
    let pairs = spell (UnsignedInteger 2) ++ first in
    let head = head_bytes 5 (pair_count (pairs_made parts)) in
    omega (
      arith,
      payloads_longer parts.payloads,
      member_longer 23 parts.text payloads,
      member_longer 20 parts.install text,
      member_longer 16 parts.payload_fetch install,
      length-append (spell (ByteString parts.manifest)) (spell_pairs members),
      length-append (spell (UnsignedInteger 3)) manifest,
      length-append (spell (ByteString parts.wrapper)) second,
      length-append (spell (UnsignedInteger 2)) first,
      length-append head pairs,
      length-append (head_bytes 6 107) (head ++ pairs),
    )

pub trimmed_exceeds : (parts : EnvelopeParts) (n : ℕ) → n ≡ min (length (trimmed_bytes parts)) (2 ^ 64 - 1) → 65536 < n → ExceedsLimit parts 65536
trimmed_exceeds parts n counted long = Trimmed (omega (arith, counted, long))

pub trimmed_fits : (parts : EnvelopeParts) (n : ℕ) → n ≡ min (length (trimmed_bytes parts)) (2 ^ 64 - 1) → n ≤ 65536 → length (trimmed_bytes parts) ≤ 65536
trimmed_fits parts n counted short = omega (arith, counted, short)

pub contents_exceed : (parts : EnvelopeParts) (n : ℕ) → length (trimmed_bytes parts) ≤ 65536 → n ≡ min (contents_length parts) (2 ^ 64 - 1) → 1048576 < n → ExceedsLimit parts 1048576
contents_exceed parts n short counted long = Whole short (omega (arith, counted, long, envelope_longer parts))
