-- An item that is spelled is read back.
use Rattle.std.proofs.Common.{◌≡◌, ℕ, zero, suc, ◌+◌, ◌<◌, ◌≤◌, true, false, ltb, List, [], ◌∷◌, ◌++◌, length, Option, Some, None, Ok, Err, refl, sym, ap, subst, ◌∙◌, append_assoc, arith}
use Rattle.std.specs.Str.{IsUtf8}
use Rattle.std.specs.declared.cmp.Ordering.{Ordering}
use Rattle.std.specs.declared.cmp.Ordering.TheVariants.{Less, Equal, Greater}
use Rattle.std.specs.Ordering.{is_lt, nat_cmp}
use Rattle.std.specs.Cmp.Lexicographic.{slice_cmp}
use Rattle.std.proofs.lemmas.Bool.{le-ltb}
use Rattle.std.proofs.lemmas.Str.{is_utf8-from_IsUtf8}
use Rattle.std.proofs.lemmas.List.{take_at, drop_at, append-nil, length-append}
use Rattle.det_cbor.specs.declared.head.Head.{Head}
use Rattle.det_cbor.specs.declared.head.HeadKind.TheVariants as kinds
use Rattle.det_cbor.specs.DataItem.{DataItem, UnsignedInteger, NegativeInteger, ByteString, TextString, ArrayOf, MapOf, TaggedItem, Boolean, NullItem, DataItems, NoItems, ItemThen, DataPairs, NoPairs, PairThen, item_count, pair_count, spell, spell_items, spell_pairs, IsAbove, IsValidWithin, AreValidWithin, ArePairsWithin}
use Rattle.det_cbor.specs.DataLists.{items_of, pairs_of}
use Rattle.det_cbor.specs.Faults.{last_key}
use Rattle.det_cbor.specs.HeadSpelling.{spelled, IsValueOf}
use Rattle.det_cbor.specs.HeadReading.{◌>>=◌, head_at}
use Rattle.det_cbor.specs.ItemReading.{Read, Reader, string_at, text_at, items_by, read_of, ascending, in_order, pairs_by, body_with, item_with, item_at}
use Rattle.det_cbor.proofs.Heads.{head_again}
use Rattle.det_cbor.specs.ArgumentLaws.{head_small}
use Rattle.det_cbor.proofs.ItemTakes.{read_of_front}

abbrev pub ReadsAgain : ℕ → Reader → Type 0
ReadsAgain levels read = (x : DataItem) (rest : List ℕ) → IsValidWithin levels x → read (spell x ++ rest) ≡ Ok (x, rest)

-- ---- strings

pub string_again : (bytes rest : List ℕ) → string_at (length bytes) (bytes ++ rest) ≡ Ok (bytes, rest)
string_again bytes rest =
    let long : ltb (length (bytes ++ rest)) (length bytes) ≡ false = le-ltb _ _ (omega (arith, length-append bytes rest)) in
    rw (long, take_at bytes rest (length bytes) refl, drop_at bytes rest (length bytes) refl) refl

pub text_again : (bytes rest : List ℕ) → IsUtf8 bytes → text_at (length bytes) (bytes ++ rest) ≡ Ok (bytes, rest)
text_again bytes rest text = rw (string_again bytes rest, is_utf8-from_IsUtf8 bytes text) refl

-- ---- arrays

abbrev pub list_of : DataItems → List DataItem
list_of NoItems = []
list_of (ItemThen x xs) = x ∷ list_of xs

pub items_of-list_of : (xs : DataItems) → items_of (list_of xs) ≡ xs
items_of-list_of NoItems = refl
items_of-list_of (ItemThen x xs) = ap (ItemThen x) (items_of-list_of xs)

-- the part that was read before, in front of the others
abbrev pub with_front : {A : Type 0} → List A → Read (List A) → Read (List A)
with_front front r = r >>= λ o. Ok (front ++ o.0, o.1)

nothing_before : {A : Type 0} (r : Read (List A)) → r ≡ with_front [] r
nothing_before (Ok o) = refl
nothing_before (Err s) = refl

regroup : {A : Type 0} (x : A) (xs : List A) (r : Read (List A)) → with_front (x ∷ []) (with_front xs r) ≡ with_front (x ∷ xs) r
regroup x xs (Ok o) = refl
regroup x xs (Err s) = refl

-- the items at the front are read first, whatever follows
pub items_first : (levels : ℕ) (read : Reader) → ReadsAgain levels read → (xs : DataItems) (more : ℕ) (rest : List ℕ) → AreValidWithin levels xs
    → items_by read (item_count xs + more) (spell_items xs ++ rest) ≡ with_front (list_of xs) (items_by read more rest)
items_first levels read law NoItems more rest valid = let none : 0 + more ≡ more = omega arith in rw none (nothing_before (items_by read more rest))
items_first levels read law (ItemThen x xs) more rest valid =
    let count : (item_count xs + 1) + more ≡ suc (item_count xs + more) = omega arith in
    let first : read (spell x ++ (spell_items xs ++ rest)) ≡ Ok (x, spell_items xs ++ rest) = law x (spell_items xs ++ rest) valid.0 in
    let others : items_by read (item_count xs + more) (spell_items xs ++ rest) ≡ with_front (list_of xs) (items_by read more rest) = items_first levels read law xs more rest valid.1 in
    rw (count, append_assoc (spell x) (spell_items xs) rest, first, others) (regroup x (list_of xs) (items_by read more rest))

pub items_again : (levels : ℕ) (read : Reader) → ReadsAgain levels read → (xs : DataItems) (rest : List ℕ) → AreValidWithin levels xs → items_by read (item_count xs) (spell_items xs ++ rest) ≡ Ok (list_of xs, rest)
items_again levels read law xs rest valid =
    let all : item_count xs + 0 ≡ item_count xs = omega arith in
    subst (λ (n : ℕ). items_by read n (spell_items xs ++ rest) ≡ Ok (list_of xs, rest)) all
    (items_first levels read law xs 0 rest valid ∙ ap (λ (l : List DataItem). Ok (l, rest)) (append-nil (list_of xs)))

-- ---- maps

abbrev pub pair_list_of : DataPairs → List (DataItem × DataItem)
pair_list_of NoPairs = []
pair_list_of (PairThen key value ps) = (key, value) ∷ pair_list_of ps

pub pairs_of-pair_list_of : (ps : DataPairs) → pairs_of (pair_list_of ps) ≡ ps
pairs_of-pair_list_of NoPairs = refl
pairs_of-pair_list_of (PairThen key value ps) = ap (PairThen key value) (pairs_of-pair_list_of ps)

ascending_again : (o : Ordering) → is_lt o ≡ true → ascending o ≡ Ok tt
ascending_again Less e = refl
ascending_again Equal e = absurd cc
ascending_again Greater e = absurd cc

pub in_order_again : (before : Option (List ℕ)) (key : List ℕ) → IsAbove before key → in_order before key ≡ Ok tt
in_order_again None key above = refl
in_order_again (Some before) key above = ascending_again (slice_cmp nat_cmp before key) above

-- the pairs at the front are read first, whatever follows
pub pairs_first : (levels : ℕ) (read : Reader) → ReadsAgain levels read → (before : Option (List ℕ)) (ps : DataPairs) (more : ℕ) (rest : List ℕ) → ArePairsWithin levels before ps
    → pairs_by read before (pair_count ps + more) (spell_pairs ps ++ rest) ≡ with_front (pair_list_of ps) (pairs_by read (last_key before ps) more rest)
pairs_first levels read law before NoPairs more rest valid = let none : 0 + more ≡ more = omega arith in rw none (nothing_before (pairs_by read before more rest))
pairs_first levels read law before (PairThen key value ps) more rest valid =
    let count : (pair_count ps + 1) + more ≡ suc (pair_count ps + more) = omega arith in
    let after_value = spell_pairs ps ++ rest in
    let after_key = spell value ++ after_value in
    let whole : (spell key ++ (spell value ++ spell_pairs ps)) ++ rest ≡ spell key ++ after_key = simp append_assoc in
    let first : read (spell key ++ after_key) ≡ Ok (key, after_key) = law key after_key valid.0 in
    let front : read_of (spell key ++ after_key) after_key ≡ spell key = read_of_front (spell key) after_key in
    let sorted : in_order before (spell key) ≡ Ok tt = in_order_again before (spell key) valid.1 in
    let second : read after_key ≡ Ok (value, after_value) = law value after_value valid.2 in
    let others : pairs_by read (Some (spell key)) (pair_count ps + more) after_value ≡ with_front (pair_list_of ps) (pairs_by read (last_key (Some (spell key)) ps) more rest) = pairs_first levels read law (Some (spell key)) ps more rest valid.3 in
    rw (count, whole, first, front, sorted, second, others) (regroup (key, value) (pair_list_of ps) (pairs_by read (last_key (Some (spell key)) ps) more rest))

pub pairs_again : (levels : ℕ) (read : Reader) → ReadsAgain levels read → (ps : DataPairs) (rest : List ℕ) → ArePairsWithin levels None ps → pairs_by read None (pair_count ps) (spell_pairs ps ++ rest) ≡ Ok (pair_list_of ps, rest)
pairs_again levels read law ps rest valid =
    let all : pair_count ps + 0 ≡ pair_count ps = omega arith in
    subst (λ (n : ℕ). pairs_by read None n (spell_pairs ps ++ rest) ≡ Ok (pair_list_of ps, rest)) all
    (pairs_first levels read law None ps 0 rest valid ∙ ap (λ (l : List (DataItem × DataItem)). Ok (l, rest)) (append-nil (pair_list_of ps)))

-- ---- items

abbrev pub PartsReadAgain : ℕ → Option Reader → Type 0
PartsReadAgain levels None = 16 ≤ levels
PartsReadAgain levels (Some read) = ReadsAgain (levels + 1) read

-- an item made of a head and what follows it
pub headed : (parts : Option Reader) (h : Head) (inner rest : List ℕ) → IsValueOf h.kind h.value → item_with parts ((spelled h ++ inner) ++ rest) ≡ body_with parts ((spelled h ++ inner) ++ rest) h.value (inner ++ rest) h.kind
headed parts h inner rest fits =
    let bytes = (spelled h ++ inner) ++ rest in
    let read : head_at bytes ≡ Ok (h, inner ++ rest) = ap head_at (append_assoc (spelled h) inner rest) ∙ head_again h (inner ++ rest) fits in
    rw read refl

pub headed_alone : (parts : Option Reader) (h : Head) (rest : List ℕ) → IsValueOf h.kind h.value → item_with parts (spelled h ++ rest) ≡ body_with parts (spelled h ++ rest) h.value rest h.kind
headed_alone parts h rest fits = let read : head_at (spelled h ++ rest) ≡ Ok (h, rest) = head_again h rest fits in rw read refl

whole_again : (levels : ℕ) (parts : Option Reader) → PartsReadAgain levels parts → ReadsAgain levels (item_with parts)
whole_again levels parts law (UnsignedInteger n) rest valid = headed_alone parts (record { kind = kinds.Unsigned; value = n }) rest valid
whole_again levels parts law (NegativeInteger n) rest valid = headed_alone parts (record { kind = kinds.Negative; value = n }) rest valid
whole_again levels parts law (ByteString bytes) rest valid = headed parts (record { kind = kinds.Bytes; value = length bytes }) bytes rest valid.0 ∙ rw (string_again bytes rest) refl
whole_again levels parts law (TextString bytes) rest valid = headed parts (record { kind = kinds.Text; value = length bytes }) bytes rest valid.0.0 ∙ rw (text_again bytes rest valid.1) refl
whole_again levels None law (ArrayOf xs) rest valid = let lt : levels < 16 = valid.0 in absurd (omega arith)
whole_again levels None law (MapOf ps) rest valid = let lt : levels < 16 = valid.0 in absurd (omega arith)
whole_again levels None law (TaggedItem tag x) rest valid = let lt : levels < 16 = valid.0 in absurd (omega arith)
whole_again levels (Some read) law (ArrayOf xs) rest valid =
    headed (Some read) (record { kind = kinds.Array; value = item_count xs }) (spell_items xs) rest valid.1
    ∙ rw (items_again (levels + 1) read law xs rest valid.2) (ap (λ (ys : DataItems). Ok (ArrayOf ys, rest)) (items_of-list_of xs))
whole_again levels (Some read) law (MapOf ps) rest valid =
    headed (Some read) (record { kind = kinds.Map; value = pair_count ps }) (spell_pairs ps) rest valid.1
    ∙ rw (pairs_again (levels + 1) read law ps rest valid.2) (ap (λ (qs : DataPairs). Ok (MapOf qs, rest)) (pairs_of-pair_list_of ps))
whole_again levels (Some read) law (TaggedItem tag x) rest valid =
    headed (Some read) (record { kind = kinds.Tag; value = tag }) (spell x) rest valid.1 ∙ rw (law x rest valid.2) refl
whole_again levels parts law (Boolean false) rest valid = ap (λ (l : List ℕ). item_with parts (l ++ rest)) (sym (head_small 7 20 (omega arith))) ∙ headed_alone parts (record { kind = kinds.Bool; value = 0 }) rest (omega arith)
whole_again levels parts law (Boolean true) rest valid = ap (λ (l : List ℕ). item_with parts (l ++ rest)) (sym (head_small 7 21 (omega arith))) ∙ headed_alone parts (record { kind = kinds.Bool; value = 1 }) rest (omega arith)
whole_again levels parts law NullItem rest valid = ap (λ (l : List ℕ). item_with parts (l ++ rest)) (sym (head_small 7 22 (omega arith))) ∙ headed_alone parts (record { kind = kinds.Null; value = 0 }) rest refl

pub item_again : (k levels : ℕ) → levels + k ≡ 16 → ReadsAgain levels (item_at k)
unfolding item_at
item_again zero levels sum x rest valid = whole_again levels None (omega arith) x rest valid
item_again (suc k) levels sum x rest valid =
    let deeper : (levels + 1) + k ≡ 16 = omega arith in
    whole_again levels (Some (item_at k)) (item_again k (levels + 1) deeper) x rest valid
