-- Identifiers that are spelled part by part.
use Rattle.std.proofs.Common.{◌≡◌, ℕ, ◌+◌, ◌<◌, List, [], ◌∷◌, ◌++◌, length, get_or, drop, refl, sym, ap, ◌∙◌, add-one, drop-cons, arith}
use Rattle.std.proofs.lemmas.List.{length-append}
use Rattle.det_cbor.specs.Heads.{head_bytes}
use Rattle.det_cbor.specs.DataItem.{item_count, spell_items}
use Rattle.suit_params.specs.Identifiers.{string_items, spelled_id}

pub count_of : (parts : List (List ℕ)) → item_count (string_items parts) ≡ length parts
count_of [] = refl
count_of (part ∷ parts) = omega (arith, count_of parts)

-- the head, and then the parts
pub spelled_parts : (parts : List (List ℕ)) → spelled_id parts ≡ head_bytes 4 (length parts) ++ spell_items (string_items parts)
unfolding spelled_id
spelled_parts parts = rw (count_of parts) refl

-- bytes whose front is too long are too long
pub too_long : (out part rest whole : List ℕ) → out ++ (part ++ rest) ≡ whole → 64 < length out + length part → 64 < length whole
too_long out part rest whole is long = omega (arith, long, length-append out (part ++ rest), length-append part rest, ap length is)

-- ---- an identifier, its head first

pub head_long : (id parts : List (List ℕ)) (out : List ℕ) → out ≡ [] → parts ≡ id → 64 < length out + length (head_bytes 4 (length parts)) → 64 < length (spelled_id id)
head_long id parts out none same long =
    omega (arith, long, ap length none, ap (λ (l : List (List ℕ)). length (spelled_id l)) same, ap length (spelled_parts parts), length-append (head_bytes 4 (length parts)) (spell_items (string_items parts)))

pub parts_spelled : (id parts : List (List ℕ)) (out headed done : List ℕ) → out ≡ [] → parts ≡ id → headed ≡ out ++ head_bytes 4 (length parts) → done ≡ headed ++ spell_items (string_items parts) → done ≡ spelled_id id
parts_spelled id parts out headed done none same head is =
    let front : headed ≡ head_bytes 4 (length parts) = head ∙ ap (λ (l : List ℕ). l ++ head_bytes 4 (length parts)) none in
    is ∙ ap (λ (l : List ℕ). l ++ spell_items (string_items parts)) front ∙ sym (spelled_parts parts) ∙ ap spelled_id same

pub parts_long : (id parts : List (List ℕ)) (out headed : List ℕ) → out ≡ [] → parts ≡ id → headed ≡ out ++ head_bytes 4 (length parts) → 64 < length headed + length (spell_items (string_items parts)) → 64 < length (spelled_id id)
parts_long id parts out headed none same head long =
    let whole = parts_spelled id parts out headed (headed ++ spell_items (string_items parts)) none same head refl in
    omega (arith, long, ap length whole, length-append headed (spell_items (string_items parts)))

-- a part that is too long
pub put_long : (start out : List ℕ) (parts : List (List ℕ)) (i : ℕ) (d part : List ℕ) → i < length parts → part ≡ get_or parts i d
    → out ++ spell_items (string_items (drop i parts)) ≡ start ++ spell_items (string_items parts)
    → 64 < length out + length (head_bytes 2 (length part) ++ part) → 64 < length start + length (spell_items (string_items parts))
put_long start out parts i d part lt is so_far long =
    let there : spell_items (string_items (drop i parts)) ≡ (head_bytes 2 (length part) ++ part) ++ spell_items (string_items (drop (i + 1) parts)) = rw (add-one, drop-cons parts i d lt, is) refl in
    let whole = ap (λ (l : List ℕ). out ++ l) (sym there) ∙ so_far in
    omega (arith, too_long out (head_bytes 2 (length part) ++ part) (spell_items (string_items (drop (i + 1) parts))) (start ++ spell_items (string_items parts)) whole long, length-append start (spell_items (string_items parts)))
