-- An item that is faulty is refused for that reason, at that place.
use Rattle.std.proofs.Common.{◌≡◌, ℕ, zero, suc, ◌+◌, ◌-◌, ◌^◌, ◌<◌, ◌≤◌, true, false, ltb, List, ◌++◌, length, Option, Some, None, Ok, Err, refl, ap, subst, ◌∙◌, append_assoc, arith, inl, inr}
use Rattle.std.specs.Str.{IsUtf8, is_utf8}
use Rattle.std.proofs.lemmas.Bool.{cases_lt, lt-ltb}
use Rattle.std.proofs.lemmas.List.{length-append}
use Rattle.det_cbor.specs.declared.head.HeadKind.TheVariants as kinds
use Rattle.det_cbor.specs.declared.reason.Reason.{Reason}
use Rattle.det_cbor.specs.declared.reason.Reason.TheVariants.{Truncated, TooDeep, BadText, Repeated, Order}
use Rattle.det_cbor.specs.declared.reason.Stop.{Stop}
use Rattle.det_cbor.specs.DataItem.{DataItem, DataItems, DataPairs, item_count, pair_count, spell, spell_items, spell_pairs, IsAbove, IsValidWithin, AreValidWithin, ArePairsWithin}
use Rattle.det_cbor.specs.Faults.{last_key, StartsMap, FirstParts, OfArray, OfMap, OfKey, OfTag, Faulty, FaultyHead, DeepHead, ShortString, NoText, FaultyPart, SameKey, LowKey}
use Rattle.det_cbor.specs.Heads.{head_bytes}
use Rattle.det_cbor.specs.HeadReading.{head_at, place_in}
use Rattle.det_cbor.specs.ItemReading.{Reader, stop_at, string_at, items_by, read_of, ascending, in_order, pairs_by, item_with, item_at}
use Rattle.det_cbor.proofs.BadHeads.{bad_head}
use Rattle.det_cbor.proofs.Utf8.{bad_utf8}
use Rattle.det_cbor.proofs.KeyOrder.{same_key, below_is_above}
use Rattle.det_cbor.proofs.ItemTakes.{read_of_front}
use Rattle.det_cbor.proofs.ItemAgain.{ReadsAgain, with_front, pair_list_of, items_first, pairs_first, in_order_again, string_again, headed, headed_alone, item_again}
use Rattle.det_cbor.proofs.ItemFaults.{stop_place}

-- the reader stops for a reason, at a place
pub record StopsAt (read : Reader) (bytes : List ℕ) (place : ℕ) (reason : Reason) : Type 0 where
  pub left : ℕ
  pub sum : place + left ≡ length bytes
  pub is : read bytes ≡ Err (record { left = left; reason = reason })

abbrev pub RefusesFaulty : ℕ → Reader → Type 0
RefusesFaulty levels read = (bytes : List ℕ) (place : ℕ) (reason : Reason) → Faulty levels bytes place reason → StopsAt read bytes place reason

abbrev pub PartsRefuse : ℕ → Option Reader → Type 0
PartsRefuse levels None = 16 ≤ levels
PartsRefuse levels (Some read) = (levels < 16) × ReadsAgain (levels + 1) read × RefusesFaulty (levels + 1) read

-- a refusal at the head, or at the end of a truncated input
stops_here : (read : Reader) (bytes : List ℕ) (place : ℕ) (reason : Reason) → place ≡ place_in bytes reason → read bytes ≡ Err (stop_at bytes reason) → StopsAt read bytes place reason
stops_here read bytes place reason at is =
    let stop = stop_place bytes reason in
    let same : stop_at bytes reason ≡ record { left = (stop_at bytes reason).left; reason = reason } = ap (λ (r : Reason). record { left = (stop_at bytes reason).left; reason = r }) stop.1 in
    record { left = (stop_at bytes reason).left; sum = ap (λ (n : ℕ). n + (stop_at bytes reason).left) at ∙ stop.0; is = is ∙ ap Err same }

-- ---- arrays and maps whose next part is refused

array_refused : (levels : ℕ) (read : Reader) → ReadsAgain levels read → (count : ℕ) (before : DataItems) (rest : List ℕ) (s : Stop) → item_count before < count → AreValidWithin levels before → read rest ≡ Err s
    → items_by read count (spell_items before ++ rest) ≡ Err s
array_refused levels read law count before rest s more valid e =
    let m = count - (item_count before + 1) in
    let split : item_count before + suc m ≡ count = omega arith in
    subst (λ (n : ℕ). items_by read n (spell_items before ++ rest) ≡ Err s) split (items_first levels read law before (suc m) rest valid ∙ rw e refl)

map_refused : (levels : ℕ) (read : Reader) → ReadsAgain levels read → (count : ℕ) (before : DataPairs) (rest : List ℕ) (s : Stop) → pair_count before < count → ArePairsWithin levels None before
    → ((n : ℕ) → pairs_by read (last_key None before) (suc n) rest ≡ Err s) → pairs_by read None count (spell_pairs before ++ rest) ≡ Err s
map_refused levels read law count before rest s more valid e =
    let m = count - (pair_count before + 1) in
    let split : pair_count before + suc m ≡ count = omega arith in
    let next : pairs_by read (last_key None before) (suc m) rest ≡ Err s = e m in
    subst (λ (n : ℕ). pairs_by read None n (spell_pairs before ++ rest) ≡ Err s) split (pairs_first levels read law None before (suc m) rest valid ∙ ap (with_front (pair_list_of before)) next)

key_refused : (read : Reader) (start : Option (List ℕ)) (n : ℕ) (rest : List ℕ) (s : Stop) → read rest ≡ Err s → pairs_by read start (suc n) rest ≡ Err s
key_refused read start n rest s e = rw e refl

value_refused : (levels : ℕ) (read : Reader) → ReadsAgain levels read → (start : Option (List ℕ)) (n : ℕ) (key : DataItem) (rest : List ℕ) (s : Stop) → IsValidWithin levels key → IsAbove start (spell key) → read rest ≡ Err s
    → pairs_by read start (suc n) (spell key ++ rest) ≡ Err s
value_refused levels read law start n key rest s valid above e =
    let first : read (spell key ++ rest) ≡ Ok (key, rest) = law key rest valid in
    let front : read_of (spell key ++ rest) rest ≡ spell key = read_of_front (spell key) rest in
    let sorted : in_order start (spell key) ≡ Ok tt = in_order_again start (spell key) above in
    rw (first, front, sorted, e) refl

order_refused : (levels : ℕ) (read : Reader) → ReadsAgain levels read → (start : Option (List ℕ)) (n : ℕ) (key : DataItem) (rest : List ℕ) (reason : Reason) → IsValidWithin levels key → in_order start (spell key) ≡ Err reason
    → pairs_by read start (suc n) (spell key ++ rest) ≡ Err (stop_at (spell key ++ rest) reason)
order_refused levels read law start n key rest reason valid e =
    let first : read (spell key ++ rest) ≡ Ok (key, rest) = law key rest valid in
    let front : read_of (spell key ++ rest) rest ≡ spell key = read_of_front (spell key) rest in
    rw (first, front, e) refl

-- a map whose pairs are refused
in_map : (levels : ℕ) (read : Reader) → ReadsAgain (levels + 1) read → (before : DataPairs) (front rest : List ℕ) (s : Stop) → StartsMap (levels + 1) before front
    → ((n : ℕ) → pairs_by read (last_key None before) (suc n) rest ≡ Err s) → item_with (Some read) (front ++ rest) ≡ Err s
in_map levels read law before front rest s starts e =
    ap (λ (l : List ℕ). item_with (Some read) (l ++ rest)) starts.is
    ∙ headed (Some read) (record { kind = kinds.Map; value = starts.count }) (spell_pairs before) rest starts.fits
    ∙ rw (map_refused (levels + 1) read law starts.count before rest s starts.more starts.valid e) refl

part_refused : (levels : ℕ) (read : Reader) → ReadsAgain (levels + 1) read → (front rest : List ℕ) (s : Stop) → FirstParts (levels + 1) front → read rest ≡ Err s → item_with (Some read) (front ++ rest) ≡ Err s
part_refused levels read law front rest s (OfArray count before fits more valid) e =
    headed (Some read) (record { kind = kinds.Array; value = count }) (spell_items before) rest fits ∙ rw (array_refused (levels + 1) read law count before rest s more valid e) refl
part_refused levels read law front rest s (OfMap before f starts) e = in_map levels read law before f rest s starts (λ n. key_refused read (last_key None before) n rest s e)
part_refused levels read law front rest s (OfKey before f key starts valid above) e =
    ap (item_with (Some read)) (append_assoc f (spell key) rest)
    ∙ in_map levels read law before f (spell key ++ rest) s starts (λ n. value_refused (levels + 1) read law (last_key None before) n key rest s valid above e)
part_refused levels read law front rest s (OfTag tag fits) e = headed_alone (Some read) (record { kind = kinds.Tag; value = tag }) rest fits ∙ rw e refl

-- ---- heads that are refused

nesting : (P : ℕ → Type 0) → P 4 → P 5 → P 6 → (n : ℕ) → 4 ≤ n → n ≤ 6 → P n
nesting P p4 p5 p6 n ge le =
    elim (cases_lt n 5) [
      | inl a ↦ let is : 4 ≡ n = omega arith in subst P is p4
      | inr a ↦ elim (cases_lt n 6) [
        | inl b ↦ let is : 5 ≡ n = omega arith in subst P is p5
        | inr b ↦ let is : 6 ≡ n = omega arith in subst P is p6
      ]
    ]

strings : (P : ℕ → Type 0) → P 2 → P 3 → (n : ℕ) → 2 ≤ n → n ≤ 3 → P n
strings P p2 p3 n ge le =
    elim (cases_lt n 3) [
      | inl a ↦ let is : 2 ≡ n = omega arith in subst P is p2
      | inr a ↦ let is : 3 ≡ n = omega arith in subst P is p3
    ]

string_short : (count : ℕ) (rest : List ℕ) → length rest < count → string_at count rest ≡ Err Truncated
string_short count rest lt = let short : ltb (length rest) count ≡ true = lt-ltb _ _ lt in rw short refl

short_refused : (parts : Option Reader) (major count : ℕ) (rest : List ℕ) → 2 ≤ major → major ≤ 3 → count < 2 ^ 64 → length rest < count
    → item_with parts (head_bytes major count ++ rest) ≡ Err (stop_at (head_bytes major count ++ rest) Truncated)
short_refused parts major count rest ge le fits short =
    strings (λ (m : ℕ). item_with parts (head_bytes m count ++ rest) ≡ Err (stop_at (head_bytes m count ++ rest) Truncated))
    (headed_alone parts (record { kind = kinds.Bytes; value = count }) rest fits ∙ rw (string_short count rest short) refl)
    (headed_alone parts (record { kind = kinds.Text; value = count }) rest fits ∙ rw (string_short count rest short) refl)
    major ge le

deep_refused : (major argument : ℕ) (rest : List ℕ) → 4 ≤ major → major ≤ 6 → argument < 2 ^ 64
    → item_with None (head_bytes major argument ++ rest) ≡ Err (stop_at (head_bytes major argument ++ rest) TooDeep)
deep_refused major argument rest ge le fits =
    nesting (λ (m : ℕ). item_with None (head_bytes m argument ++ rest) ≡ Err (stop_at (head_bytes m argument ++ rest) TooDeep))
    (headed_alone None (record { kind = kinds.Array; value = argument }) rest fits)
    (headed_alone None (record { kind = kinds.Map; value = argument }) rest fits)
    (headed_alone None (record { kind = kinds.Tag; value = argument }) rest fits)
    major ge le

text_refused : (parts : Option Reader) (text rest : List ℕ) → length text < 2 ^ 64 → ¬ (IsUtf8 text)
    → item_with parts (head_bytes 3 (length text) ++ (text ++ rest)) ≡ Err (stop_at (head_bytes 3 (length text) ++ (text ++ rest)) BadText)
text_refused parts text rest fits other =
    let bad : is_utf8 text ≡ false = bad_utf8 text other in
    headed_alone parts (record { kind = kinds.Text; value = length text }) (text ++ rest) fits ∙ rw (string_again text rest, bad) refl

-- ---- items

whole_refused : (levels : ℕ) (parts : Option Reader) → PartsRefuse levels parts → RefusesFaulty levels (item_with parts)
whole_refused levels parts law bytes place reason (FaultyHead l b p r bad) =
    let refused = bad_head b p r bad in
    let read : head_at b ≡ Err r = refused.read in
    stops_here (item_with parts) b p r refused.place (rw read refl)
whole_refused levels None law bytes place reason (DeepHead l major argument rest full ge le fits) = stops_here (item_with None) (head_bytes major argument ++ rest) 0 TooDeep refl (deep_refused major argument rest ge le fits)
whole_refused levels (Some read) law bytes place reason (DeepHead l major argument rest full ge le fits) = let lt : l < 16 = law.0 in absurd (omega arith)
whole_refused levels parts law bytes place reason (ShortString l major count rest ge le fits short) =
    stops_here (item_with parts) (head_bytes major count ++ rest) (length (head_bytes major count ++ rest)) Truncated refl (short_refused parts major count rest ge le fits short)
whole_refused levels parts law bytes place reason (NoText l text rest fits other) = stops_here (item_with parts) (head_bytes 3 (length text) ++ (text ++ rest)) 0 BadText refl (text_refused parts text rest fits.0 other)
whole_refused levels None law bytes place reason (FaultyPart l front rest at r lt first fault) = absurd (omega arith)
whole_refused levels None law bytes place reason (SameKey l before front key rest lt starts valid last) = absurd (omega arith)
whole_refused levels None law bytes place reason (LowKey l before front key rest last lt starts valid last-is low) = absurd (omega arith)
whole_refused levels (Some read) law bytes place reason (FaultyPart l front rest at r lt first fault) =
    let inner = law.2 rest at r fault in
    let sum = inner.sum in
    record { left = inner.left; sum = omega (arith, length-append front rest); is = part_refused l read law.1 front rest (record { left = inner.left; reason = r }) first inner.is }
whole_refused levels (Some read) law bytes place reason (SameKey l before front key rest lt starts valid last) =
    let order : in_order (last_key None before) (spell key) ≡ Err Repeated = ap (λ (o : Option (List ℕ)). in_order o (spell key)) last ∙ ap ascending (same_key (spell key)) in
    record { left = length (spell key ++ rest); sum = omega (arith, length-append front (spell key ++ rest)); is = in_map l read law.1 before front (spell key ++ rest) _ starts (λ n. order_refused (l + 1) read law.1 (last_key None before) n key rest Repeated valid order) }
whole_refused levels (Some read) law bytes place reason (LowKey l before front key rest last lt starts valid last-is low) =
    let order : in_order (last_key None before) (spell key) ≡ Err Order = ap (λ (o : Option (List ℕ)). in_order o (spell key)) last-is ∙ ap ascending (below_is_above last (spell key) low) in
    record { left = length (spell key ++ rest); sum = omega (arith, length-append front (spell key ++ rest)); is = in_map l read law.1 before front (spell key ++ rest) _ starts (λ n. order_refused (l + 1) read law.1 (last_key None before) n key rest Order valid order) }

-- readers that answer alike stop alike
alike : (read other : Reader) (bytes : List ℕ) (place : ℕ) (reason : Reason) → read bytes ≡ other bytes → StopsAt other bytes place reason → StopsAt read bytes place reason
alike read other bytes place reason e stops = record { left = stops.left; sum = stops.sum; is = e ∙ stops.is }

pub item_refused : (k levels : ℕ) → levels + k ≡ 16 → RefusesFaulty levels (item_at k)
unfolding item_at
item_refused zero levels sum bytes place reason fault = alike (item_at zero) (item_with None) bytes place reason refl (whole_refused levels None (omega arith) bytes place reason fault)
item_refused (suc k) levels sum bytes place reason fault =
    let deeper : (levels + 1) + k ≡ 16 = omega arith in
    alike (item_at (suc k)) (item_with (Some (item_at k))) bytes place reason refl (whole_refused levels (Some (item_at k)) (omega arith, item_again k (levels + 1) deeper, item_refused k (levels + 1) deeper) bytes place reason fault)
