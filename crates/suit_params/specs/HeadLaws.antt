-- The head of an item at a position, and the parts that follow it.
use Rattle.std.proofs.Common.{◌≡◌, ℕ, ◌+◌, ◌-◌, false, ltb, List, ◌++◌, length, Ok, refl, ap, ◌∙◌, append_assoc, arith}
use Rattle.std.proofs.lemmas.Bool.{le-ltb}
use Rattle.std.proofs.lemmas.List.{take_at, drop_at, length-append}
use Rattle.det_cbor.specs.DataItem.{DataItem, spell, IsValidWithin}
use Rattle.det_cbor.specs.ItemHeads.{item_head, item_spelled, value_fits}
use Rattle.det_cbor.specs.ItemOrder.{spell_parts}
use Rattle.det_cbor.specs.HeadSpelling.{spelled}
use Rattle.det_cbor.specs.HeadReading.{head_at}
use Rattle.det_cbor.specs.Position.{Position}
use Rattle.det_cbor.proofs.Heads.{head_again}
use Rattle.suit_params.specs.Reading.{found_head, head_from, bytes_from}

-- the position after these bytes, with this rest
abbrev pub after : Position → List ℕ → List ℕ → Position
after p taken rest = record { left = rest; place = p.place + length taken }

pub item_head_read : (levels : ℕ) (p : Position) (x : DataItem) (rest : List ℕ)
    → IsValidWithin levels x → p.left ≡ spell x ++ rest
    → head_from p ≡ Ok (item_head x, after p (spelled (item_head x)) (spell_parts x ++ rest))
unfolding head_from
item_head_read levels p x rest valid is =
    let front = spelled (item_head x) in
    let parts : p.left ≡ front ++ (spell_parts x ++ rest) = is ∙ ap (λ (l : List ℕ). l ++ rest) (item_spelled x) ∙ append_assoc front (spell_parts x) rest in
    let read : head_at p.left ≡ Ok (item_head x, spell_parts x ++ rest) = ap head_at parts ∙ head_again (item_head x) (spell_parts x ++ rest) (value_fits levels x valid) in
    let place : p.place + (length p.left - length (spell_parts x ++ rest)) ≡ p.place + length front = omega (arith, ap length parts, length-append front (spell_parts x ++ rest)) in
    ap (found_head p) read ∙ ap (λ (n : ℕ). Ok (item_head x, record { left = spell_parts x ++ rest; place = n })) place

pub bytes_again : (p : Position) (taken rest : List ℕ) → p.left ≡ taken ++ rest
    → bytes_from (length taken) p ≡ Ok (taken, after p taken rest)
unfolding bytes_from
bytes_again p taken rest is =
    let long : ltb (length p.left) (length taken) ≡ false = le-ltb _ _ (omega (arith, ap length is, length-append taken rest)) in
    rw (long, is, take_at taken rest (length taken) refl, drop_at taken rest (length taken) refl) refl
