-- Reading an item, level by level and part by part.
use Rattle.std.proofs.Common.{◌≡◌, ℕ, zero, suc, ◌+◌, ◌-◌, ◌<◌, List, [], ◌∷◌, ◌++◌, Option, Some, None, Ok, Err, refl, sym, ap, ◌∙◌, append_assoc, arith}
use Rattle.det_cbor.specs.DataItem.{DataItem}
use Rattle.det_cbor.specs.HeadReading.{◌>>=◌}
use Rattle.det_cbor.specs.ItemReading.{Read, Reader, stopped, items_by, read_of, in_order, pairs_by, item_with, item_at, level_below, reader_at}
use Rattle.det_cbor.proofs.ItemAgain.{with_front}

pub item_at_is : (levels : ℕ) (bytes : List ℕ) → item_at levels bytes ≡ item_with (reader_at levels) bytes
unfolding item_at
item_at_is zero bytes = refl
item_at_is (suc levels) bytes = refl

pub level_left : {A : Type 0} (made : ℕ → A) (levels : ℕ) → 0 < levels → level_below made levels ≡ Some (made (levels - 1))
level_left made zero lt = absurd (omega arith)
level_left made (suc levels) lt = let e : suc levels - 1 ≡ levels = omega arith in rw e refl

pub no_level_left : {A : Type 0} (made : ℕ → A) (levels : ℕ) → levels ≡ 0 → level_below made levels ≡ None
no_level_left made zero e = refl
no_level_left made (suc levels) e = absurd (omega arith)

-- one more part is read
one_more : {A : Type 0} (front : List A) (x : A) (r : Read (List A)) → with_front front (r >>= λ o. Ok (x ∷ o.0, o.1)) ≡ with_front (front ++ x ∷ []) r
one_more {A} front x (Ok o) = ap (λ (l : List A). Ok (l, o.1)) (sym (append_assoc front (x ∷ []) o.0))
one_more front x (Err s) = refl

-- one more item was read
pub items_step : (read : Reader) (front : List DataItem) (count i : ℕ) (bytes : List ℕ) (x : DataItem) (after : List ℕ) (total : Read (List DataItem)) → i < count → read bytes ≡ Ok (x, after)
    → with_front front (items_by read (count - i) bytes) ≡ total → with_front (front ++ x ∷ []) (items_by read (count - (i + 1)) after) ≡ total
items_step read front count i bytes x after total lt e so_far =
    let one : count - i ≡ suc (count - (i + 1)) = omega arith in
    let step : with_front front (items_by read (count - i) bytes) ≡ with_front (front ++ x ∷ []) (items_by read (count - (i + 1)) after) = rw (one, e) (one_more front x (items_by read (count - (i + 1)) after)) in
    sym step ∙ so_far

-- one more pair was read
pub pairs_step : (read : Reader) (front : List (DataItem × DataItem)) (before : Option (List ℕ)) (count i : ℕ) (bytes spelled : List ℕ) (key value : DataItem) (after_key after : List ℕ) (total : Read (List (DataItem × DataItem))) → i < count
    → read bytes ≡ Ok (key, after_key) → spelled ≡ read_of bytes after_key → Ok tt ≡ stopped bytes (in_order before spelled) → read after_key ≡ Ok (value, after)
    → with_front front (pairs_by read before (count - i) bytes) ≡ total → with_front (front ++ (key, value) ∷ []) (pairs_by read (Some spelled) (count - (i + 1)) after) ≡ total
pairs_step read front before count i bytes spelled key value after_key after total lt first spelled-is sorted second so_far =
    let one : count - i ≡ suc (count - (i + 1)) = omega arith in
    let step : with_front front (pairs_by read before (count - i) bytes) ≡ with_front (front ++ (key, value) ∷ []) (pairs_by read (Some spelled) (count - (i + 1)) after) =
    rw (one, first, ← spelled-is, ← sorted, second) (one_more front (key, value) (pairs_by read (Some spelled) (count - (i + 1)) after)) in
    sym step ∙ so_far
