-- An item that is written is read back.
use Rattle.std.proofs.Common.{◌≡◌, ℕ, zero, suc, ◌+◌, ◌-◌, ◌^◌, ◌<◌, ◌≤◌, ◌==◌, true, false, List, [], ◌∷◌, ◌++◌, length, Option, Some, None, refl, sym, ap, subst, ◌∙◌, append_assoc, arith}
use Rattle.std.specs.Prelude.{codes, decimal, nat_lt, nat_le}
use Rattle.std.proofs.lemmas.Bool.{and_parts, ne_eqb, leb-true, lt-ltb, le-leb}
use Rattle.std.proofs.lemmas.Str.{is_utf8-from_IsUtf8}
use Rattle.std.proofs.lemmas.List.{length-append, append-nil}
use Rattle.std.specs.Str.{is_utf8}
use Rattle.hex.specs.Hex.{encode_lower}
use Rattle.det_cbor.specs.DataItem.{DataItem, UnsignedInteger, NegativeInteger, ByteString, TextString, ArrayOf, MapOf, TaggedItem, Boolean, NullItem, DataItems, NoItems, ItemThen, DataPairs, NoPairs, PairThen, item_count, pair_count, spell, IsValidWithin, AreValidWithin, ArePairsWithin}
use Rattle.det_cbor.specs.DataLists.{items_of, pairs_of}
use Rattle.cbor_diag.specs.declared.quoted.Quoted.TheVariants as quoted
use Rattle.cbor_diag.specs.Notation.{notation_of, items_notation, later_items, pairs_notation, later_pairs, escaped}
use Rattle.cbor_diag.specs.Reading.{◌>>=◌, Read, Reader, after, past, is_digit, number_at, quoted_at, items_by, pairs_by, numbered_of, numbered_at, item_with, item_at}
use Rattle.cbor_diag.specs.Answers.{Notates, OneItem}
use Rattle.cbor_diag.proofs.Numbers.{NoDigit, number_again, BeginsWithDigit, begins_with_digit}
use Rattle.cbor_diag.proofs.Strings.{bytes_again, text_again}

-- what can follow an item
abbrev pub IsEnd : List ℕ → Type 0
IsEnd [] = Unit {0}
IsEnd (b ∷ text) = (is_digit b ≡ false) × ((b == 40) ≡ false)

abbrev pub ReadsAgain : ℕ → Reader → Type 0
ReadsAgain levels read = (x : DataItem) (rest : List ℕ) → IsValidWithin levels x → IsEnd rest → read (notation_of x ++ rest) ≡ Some (x, rest)

no_digit : (rest : List ℕ) → IsEnd rest → NoDigit rest
no_digit [] end = tt
no_digit (b ∷ rest) end = end.0

no_open : (rest : List ℕ) → IsEnd rest → after (codes "(") rest ≡ None
no_open [] end = refl
no_open (b ∷ rest) end = rw end.1 refl

-- ---- how an item begins

-- the text does not begin with a closing bracket or brace
pub record Begins (text : List ℕ) : Type 0 where
  pub first : ℕ
  pub others : List ℕ
  pub is : text ≡ first ∷ others
  pub bracket : (first == 93) ≡ false
  pub brace : (first == 125) ≡ false

digit_begins : (n : ℕ) (rest : List ℕ) → n ≤ 2 ^ 64 → Begins (decimal n ++ rest)
digit_begins n rest le =
    let b = begins_with_digit n rest le in
    let small : b.first ≤ 57 = leb-true b.first 57 (and_parts (nat_le 48 b.first) (nat_le b.first 57) b.digit).1 in
    record { first = b.first; others = b.others; is = b.is; bracket = ne_eqb b.first 93 (λ e. omega (arith, small, e)); brace = ne_eqb b.first 125 (λ e. omega (arith, small, e)) }

begins : (levels : ℕ) (x : DataItem) (rest : List ℕ) → IsValidWithin levels x → Begins (notation_of x ++ rest)
begins levels (UnsignedInteger n) rest valid = digit_begins n rest (omega (arith, valid))
begins levels (NegativeInteger n) rest valid = record { first = 45; others = decimal (suc n) ++ rest; is = refl; bracket = refl; brace = refl }
begins levels (ByteString bytes) rest valid = record { first = 104; others = _; is = refl; bracket = refl; brace = refl }
begins levels (TextString bytes) rest valid = record { first = 34; others = _; is = refl; bracket = refl; brace = refl }
begins levels (ArrayOf xs) rest valid = record { first = 91; others = _; is = refl; bracket = refl; brace = refl }
begins levels (MapOf ps) rest valid = record { first = 123; others = _; is = refl; bracket = refl; brace = refl }
begins levels (TaggedItem tag x) rest valid =
    let behind = (codes "(" ++ (notation_of x ++ codes ")")) ++ rest in
    subst Begins (sym (append_assoc (decimal tag) (codes "(" ++ (notation_of x ++ codes ")")) rest)) (digit_begins tag behind (omega (arith, valid.1)))
begins levels (Boolean false) rest valid = record { first = 102; others = _; is = refl; bracket = refl; brace = refl }
begins levels (Boolean true) rest valid = record { first = 116; others = _; is = refl; bracket = refl; brace = refl }
begins levels NullItem rest valid = record { first = 110; others = _; is = refl; bracket = refl; brace = refl }

no_bracket : (text : List ℕ) → Begins text → after (codes "]") text ≡ None
no_bracket text b = let other = b.bracket in rw (b.is, other) refl

no_brace : (text : List ℕ) → Begins text → after (codes "}") text ≡ None
no_brace text b = let other = b.brace in rw (b.is, other) refl

-- no notation is empty
not_empty : (levels : ℕ) (x : DataItem) → IsValidWithin levels x → 1 ≤ length (notation_of x)
not_empty levels x valid =
    let b = begins levels x [] valid in
    let long : length (notation_of x ++ []) ≡ length (b.first ∷ b.others) = ap length b.is in
    omega (arith, long, length-append (notation_of x) [])

-- ---- arrays

abbrev pub list_of : DataItems → List DataItem
list_of NoItems = []
list_of (ItemThen x xs) = x ∷ list_of xs

items_of-list_of : (xs : DataItems) → items_of (list_of xs) ≡ xs
items_of-list_of NoItems = refl
items_of-list_of (ItemThen x xs) = ap (ItemThen x) (items_of-list_of xs)

-- an item that was read before the others
abbrev with_first : {A : Type 0} → A → Read (List A) → Read (List A)
with_first x r = r >>= λ o. Some (x ∷ o.0, o.1)

after_items : (xs : DataItems) (rest : List ℕ) → IsEnd (later_items xs ++ (codes "]" ++ rest))
after_items NoItems rest = (refl, refl)
after_items (ItemThen x xs) rest = (refl, refl)

one_item : (levels : ℕ) (read : Reader) → ReadsAgain levels read → (x : DataItem) (behind : List ℕ) (count : ℕ) → IsValidWithin levels x → IsEnd behind
    → items_by read (suc count) (notation_of x ++ behind) ≡ with_first x (items_by read count (past (codes ", ") behind))
one_item levels read law x behind count valid end =
    let unclosed : after (codes "]") (notation_of x ++ behind) ≡ None = no_bracket _ (begins levels x behind valid) in
    let one : read (notation_of x ++ behind) ≡ Some (x, behind) = law x behind valid end in
    rw (unclosed, one) refl

later_again : (levels : ℕ) (read : Reader) → ReadsAgain levels read → (xs : DataItems) (rest : List ℕ) (count : ℕ) → AreValidWithin levels xs → item_count xs < count
    → items_by read count (past (codes ", ") (later_items xs ++ (codes "]" ++ rest))) ≡ Some (list_of xs, rest)
later_again levels read law xs rest zero valid lt = absurd (omega arith)
later_again levels read law NoItems rest (suc count) valid lt = refl
later_again levels read law (ItemThen x xs) rest (suc count) valid lt =
    let behind = later_items xs ++ (codes "]" ++ rest) in
    let others : items_by read count (past (codes ", ") behind) ≡ Some (list_of xs, rest) = later_again levels read law xs rest count valid.1 (omega arith) in
    ap (items_by read (suc count)) (append_assoc (notation_of x) (later_items xs) (codes "]" ++ rest))
    ∙ one_item levels read law x behind count valid.0 (after_items xs rest) ∙ ap (with_first x) others

length-later_items : (xs : DataItems) → item_count xs ≤ length (later_items xs)
length-later_items NoItems = omega arith
length-later_items (ItemThen x xs) = omega (arith, length-append (notation_of x) (later_items xs), length-later_items xs)

items_by_again : (levels : ℕ) (read : Reader) → ReadsAgain levels read → (xs : DataItems) (rest : List ℕ) (count : ℕ) → AreValidWithin levels xs → item_count xs < count
    → items_by read count (items_notation xs ++ (codes "]" ++ rest)) ≡ Some (list_of xs, rest)
items_by_again levels read law xs rest zero valid lt = absurd (omega arith)
items_by_again levels read law NoItems rest (suc count) valid lt = refl
items_by_again levels read law (ItemThen x xs) rest (suc count) valid lt =
    let behind = later_items xs ++ (codes "]" ++ rest) in
    let others : items_by read count (past (codes ", ") behind) ≡ Some (list_of xs, rest) = later_again levels read law xs rest count valid.1 (omega arith) in
    ap (items_by read (suc count)) (append_assoc (notation_of x) (later_items xs) (codes "]" ++ rest))
    ∙ one_item levels read law x behind count valid.0 (after_items xs rest) ∙ ap (with_first x) others

length-items : (levels : ℕ) (xs : DataItems) → AreValidWithin levels xs → item_count xs ≤ length (items_notation xs)
length-items levels NoItems valid = omega arith
length-items levels (ItemThen x xs) valid = omega (arith, length-append (notation_of x) (later_items xs), length-later_items xs, not_empty levels x valid.0)

items_again : (levels : ℕ) (read : Reader) → ReadsAgain levels read → (xs : DataItems) (rest : List ℕ) → AreValidWithin levels xs
    → items_by read (length (items_notation xs ++ (codes "]" ++ rest))) (items_notation xs ++ (codes "]" ++ rest)) ≡ Some (list_of xs, rest)
items_again levels read law xs rest valid =
    items_by_again levels read law xs rest (length (items_notation xs ++ (codes "]" ++ rest))) valid
    (omega (arith, length-append (items_notation xs) (codes "]" ++ rest), length-items levels xs valid))

-- ---- maps

abbrev pub pair_list_of : DataPairs → List (DataItem × DataItem)
pair_list_of NoPairs = []
pair_list_of (PairThen key value ps) = (key, value) ∷ pair_list_of ps

pairs_of-pair_list_of : (ps : DataPairs) → pairs_of (pair_list_of ps) ≡ ps
pairs_of-pair_list_of NoPairs = refl
pairs_of-pair_list_of (PairThen key value ps) = ap (PairThen key value) (pairs_of-pair_list_of ps)

after_pairs : (ps : DataPairs) (rest : List ℕ) → IsEnd (later_pairs ps ++ (codes "}" ++ rest))
after_pairs NoPairs rest = (refl, refl)
after_pairs (PairThen key value ps) rest = (refl, refl)

one_pair : (levels : ℕ) (read : Reader) → ReadsAgain levels read → (key value : DataItem) (behind : List ℕ) (count : ℕ) → IsValidWithin levels key → IsValidWithin levels value → IsEnd behind
    → pairs_by read (suc count) (notation_of key ++ (codes ": " ++ (notation_of value ++ behind))) ≡ with_first (key, value) (pairs_by read count (past (codes ", ") behind))
one_pair levels read law key value behind count key_valid value_valid end =
    let after_key = codes ": " ++ (notation_of value ++ behind) in
    let unclosed : after (codes "}") (notation_of key ++ after_key) ≡ None = no_brace _ (begins levels key after_key key_valid) in
    let one : read (notation_of key ++ after_key) ≡ Some (key, after_key) = law key after_key key_valid (refl, refl) in
    let two : read (notation_of value ++ behind) ≡ Some (value, behind) = law value behind value_valid end in
    rw (unclosed, one, two) refl

regroup : (key value later rest : List ℕ) → (key ++ (codes ": " ++ (value ++ later))) ++ rest ≡ key ++ (codes ": " ++ (value ++ (later ++ rest)))
regroup key value later rest = append_assoc key (codes ": " ++ (value ++ later)) rest ∙ ap (λ (l : List ℕ). key ++ (codes ": " ++ l)) (append_assoc value later rest)

later_pairs_again : (levels : ℕ) (read : Reader) → ReadsAgain levels read → (before : Option (List ℕ)) (ps : DataPairs) (rest : List ℕ) (count : ℕ) → ArePairsWithin levels before ps → pair_count ps < count
    → pairs_by read count (past (codes ", ") (later_pairs ps ++ (codes "}" ++ rest))) ≡ Some (pair_list_of ps, rest)
later_pairs_again levels read law before ps rest zero valid lt = absurd (omega arith)
later_pairs_again levels read law before NoPairs rest (suc count) valid lt = refl
later_pairs_again levels read law before (PairThen key value ps) rest (suc count) valid lt =
    let behind = later_pairs ps ++ (codes "}" ++ rest) in
    let others : pairs_by read count (past (codes ", ") behind) ≡ Some (pair_list_of ps, rest) = later_pairs_again levels read law (Some (spell key)) ps rest count valid.3 (omega arith) in
    ap (pairs_by read (suc count)) (regroup (notation_of key) (notation_of value) (later_pairs ps) (codes "}" ++ rest))
    ∙ one_pair levels read law key value behind count valid.0 valid.2 (after_pairs ps rest) ∙ ap (with_first (key, value)) others

pairs_by_again : (levels : ℕ) (read : Reader) → ReadsAgain levels read → (ps : DataPairs) (rest : List ℕ) (count : ℕ) → ArePairsWithin levels None ps → pair_count ps < count
    → pairs_by read count (pairs_notation ps ++ (codes "}" ++ rest)) ≡ Some (pair_list_of ps, rest)
pairs_by_again levels read law ps rest zero valid lt = absurd (omega arith)
pairs_by_again levels read law NoPairs rest (suc count) valid lt = refl
pairs_by_again levels read law (PairThen key value ps) rest (suc count) valid lt =
    let behind = later_pairs ps ++ (codes "}" ++ rest) in
    let others : pairs_by read count (past (codes ", ") behind) ≡ Some (pair_list_of ps, rest) = later_pairs_again levels read law (Some (spell key)) ps rest count valid.3 (omega arith) in
    ap (pairs_by read (suc count)) (regroup (notation_of key) (notation_of value) (later_pairs ps) (codes "}" ++ rest))
    ∙ one_pair levels read law key value behind count valid.0 valid.2 (after_pairs ps rest) ∙ ap (with_first (key, value)) others

-- a pair takes more than one byte
length-pair : (key value later : List ℕ) → 2 + length later ≤ length (key ++ (codes ": " ++ (value ++ later)))
length-pair key value later = omega (arith, length-append key (codes ": " ++ (value ++ later)), length-append value later)

length-later_pairs : (ps : DataPairs) → pair_count ps ≤ length (later_pairs ps)
length-later_pairs NoPairs = omega arith
length-later_pairs (PairThen key value ps) = omega (arith, length-pair (notation_of key) (notation_of value) (later_pairs ps), length-later_pairs ps)

length-pairs : (ps : DataPairs) → pair_count ps ≤ length (pairs_notation ps)
length-pairs NoPairs = omega arith
length-pairs (PairThen key value ps) = omega (arith, length-pair (notation_of key) (notation_of value) (later_pairs ps), length-later_pairs ps)

pairs_again : (levels : ℕ) (read : Reader) → ReadsAgain levels read → (ps : DataPairs) (rest : List ℕ) → ArePairsWithin levels None ps
    → pairs_by read (length (pairs_notation ps ++ (codes "}" ++ rest))) (pairs_notation ps ++ (codes "}" ++ rest)) ≡ Some (pair_list_of ps, rest)
pairs_again levels read law ps rest valid =
    pairs_by_again levels read law ps rest (length (pairs_notation ps ++ (codes "}" ++ rest))) valid
    (omega (arith, length-append (pairs_notation ps) (codes "}" ++ rest), length-pairs ps))

-- ---- items

abbrev PartsReadAgain : ℕ → Option Reader → Type 0
PartsReadAgain levels None = 16 ≤ levels
PartsReadAgain levels (Some read) = ReadsAgain (levels + 1) read

-- a text that begins with a digit is that of a number or a tag
numbered : (parts : Option Reader) (text : List ℕ) → BeginsWithDigit text → item_with parts text ≡ numbered_at parts text
numbered parts text b =
    let digit : is_digit b.first ≡ true = b.digit in
    let step : item_with parts (b.first ∷ b.others) ≡ numbered_at parts (b.first ∷ b.others) = rw digit refl in
    subst (λ (l : List ℕ). item_with parts l ≡ numbered_at parts l) (sym b.is) step

with_digits : (parts : Option Reader) (n : ℕ) (rest : List ℕ) → n ≤ 2 ^ 64 → NoDigit rest → item_with parts (decimal n ++ rest) ≡ numbered_of parts (n, rest)
with_digits parts n rest le end = numbered parts (decimal n ++ rest) (begins_with_digit n rest le) ∙ rw (number_again n rest le end) refl

unsigned_again : (parts : Option Reader) (n : ℕ) (rest : List ℕ) → n < 2 ^ 64 → IsEnd rest → item_with parts (decimal n ++ rest) ≡ Some (UnsignedInteger n, rest)
unsigned_again parts n rest lt end =
    let small : nat_lt n (2 ^ 64) ≡ true = lt-ltb _ _ lt in
    with_digits parts n rest (omega arith) (no_digit rest end) ∙ rw (small, no_open rest end) refl

negative_again : (parts : Option Reader) (n : ℕ) (rest : List ℕ) → n < 2 ^ 64 → IsEnd rest → item_with parts (codes "-" ++ (decimal (suc n) ++ rest)) ≡ Some (NegativeInteger n, rest)
negative_again parts n rest lt end =
    let number : number_at 0 (decimal (suc n) ++ rest) ≡ Some (suc n, rest) = number_again (suc n) rest (omega arith) (no_digit rest end) in
    let some : (suc n == 0) ≡ false = ne_eqb _ _ (λ e. absurd (omega arith)) in
    let small : nat_le (suc n) (2 ^ 64) ≡ true = le-leb _ _ (omega arith) in
    let value : suc n - 1 ≡ n = omega arith in
    rw (number, some, small, value) refl

tagged_again : (levels : ℕ) (read : Reader) → ReadsAgain (levels + 1) read → (tag : ℕ) (x : DataItem) (rest : List ℕ) → tag < 2 ^ 64 → IsValidWithin (levels + 1) x
    → item_with (Some read) (decimal tag ++ (codes "(" ++ (notation_of x ++ (codes ")" ++ rest)))) ≡ Some (TaggedItem tag x, rest)
tagged_again levels read law tag x rest lt valid =
    let small : nat_lt tag (2 ^ 64) ≡ true = lt-ltb _ _ lt in
    let inner : read (notation_of x ++ (codes ")" ++ rest)) ≡ Some (x, codes ")" ++ rest) = law x (codes ")" ++ rest) valid (refl, refl) in
    with_digits (Some read) tag (codes "(" ++ (notation_of x ++ (codes ")" ++ rest))) (omega arith) refl ∙ rw (small, inner) refl

whole_again : (levels : ℕ) (parts : Option Reader) → PartsReadAgain levels parts → ReadsAgain levels (item_with parts)
whole_again levels parts law (UnsignedInteger n) rest valid end = unsigned_again parts n rest valid end
whole_again levels parts law (NegativeInteger n) rest valid end = negative_again parts n rest valid end
whole_again levels parts law (ByteString bytes) rest valid end =
    let string : quoted_at quoted.Bytes (encode_lower bytes ++ (codes "'" ++ rest)) ≡ Some (bytes, rest) = bytes_again bytes rest valid.1 in
    ap (λ (l : List ℕ). item_with parts (codes "h'" ++ l)) (append_assoc (encode_lower bytes) (codes "'") rest) ∙ rw string refl
whole_again levels parts law (TextString bytes) rest valid end =
    let string : quoted_at quoted.Text (escaped bytes ++ (codes "\"" ++ rest)) ≡ Some (bytes, rest) = text_again bytes rest valid.0.1 in
    let utf8 : is_utf8 bytes ≡ true = is_utf8-from_IsUtf8 bytes valid.1 in
    ap (λ (l : List ℕ). item_with parts (codes "\"" ++ l)) (append_assoc (escaped bytes) (codes "\"") rest) ∙ rw (string, utf8) refl
whole_again levels None law (ArrayOf xs) rest valid end = let lt : levels < 16 = valid.0 in absurd (omega arith)
whole_again levels None law (MapOf ps) rest valid end = let lt : levels < 16 = valid.0 in absurd (omega arith)
whole_again levels None law (TaggedItem tag x) rest valid end = let lt : levels < 16 = valid.0 in absurd (omega arith)
whole_again levels (Some read) law (ArrayOf xs) rest valid end =
    let items : items_by read (length (items_notation xs ++ (codes "]" ++ rest))) (items_notation xs ++ (codes "]" ++ rest)) ≡ Some (list_of xs, rest) = items_again (levels + 1) read law xs rest valid.2 in
    ap (λ (l : List ℕ). item_with (Some read) (codes "[" ++ l)) (append_assoc (items_notation xs) (codes "]") rest)
    ∙ rw items (ap (λ (ys : DataItems). Some (ArrayOf ys, rest)) (items_of-list_of xs))
whole_again levels (Some read) law (MapOf ps) rest valid end =
    let pairs : pairs_by read (length (pairs_notation ps ++ (codes "}" ++ rest))) (pairs_notation ps ++ (codes "}" ++ rest)) ≡ Some (pair_list_of ps, rest) = pairs_again (levels + 1) read law ps rest valid.2 in
    ap (λ (l : List ℕ). item_with (Some read) (codes "{" ++ l)) (append_assoc (pairs_notation ps) (codes "}") rest)
    ∙ rw pairs (ap (λ (qs : DataPairs). Some (MapOf qs, rest)) (pairs_of-pair_list_of ps))
whole_again levels (Some read) law (TaggedItem tag x) rest valid end =
    ap (item_with (Some read)) (append_assoc (decimal tag) (codes "(" ++ (notation_of x ++ codes ")")) rest ∙ ap (λ (l : List ℕ). decimal tag ++ (codes "(" ++ l)) (append_assoc (notation_of x) (codes ")") rest))
    ∙ tagged_again levels read law tag x rest valid.1 valid.2
whole_again levels parts law (Boolean false) rest valid end = refl
whole_again levels parts law (Boolean true) rest valid end = refl
whole_again levels parts law NullItem rest valid end = refl

-- an item inside `levels` levels, read with those that are left
pub reads_again : (left levels : ℕ) → left + levels ≡ 16 → ReadsAgain levels (item_at left)
unfolding item_at
reads_again zero levels e = whole_again levels None (omega arith)
reads_again (suc left) levels e = whole_again levels (Some (item_at left)) (reads_again left (levels + 1) (omega arith))

-- the notation of an item is read back as the item
pub notation_again : (x : DataItem) (text : List ℕ) → Notates x text → item_at 16 text ≡ Some (x, [])
notation_again x text n =
    let whole : notation_of x ++ [] ≡ notation_of x = append-nil (notation_of x) in
    ap (item_at 16) (n.is ∙ sym whole) ∙ reads_again 16 0 (omega arith) x [] n.valid tt

abbrev item_of : DataItem → Read DataItem → DataItem
item_of other (Some r) = r.0
item_of other None = other

pub same_read : (x y : DataItem) (rest behind : List ℕ) → ◌≡◌ {A = Read DataItem} (Some (x, rest)) (Some (y, behind)) → x ≡ y
same_read x y rest behind e = ap (item_of x) e

pub one_item_of : OneItem
one_item_of x y text first second = same_read x y [] [] (sym (notation_again x text first) ∙ notation_again y text second)
