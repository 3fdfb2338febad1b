-- Reading one element after another.
use Rattle.std.proofs.Common.{◌≡◌, ℕ, suc, ◌+◌, ◌-◌, ◌*◌, ◌<◌, List, [], ◌∷◌, ◌++◌, take, drop, Result, Ok, Err, refl, sym, ap, ◌∙◌, append_assoc, arith}
use Rattle.std.specs.List.{slice_range}
use Rattle.std.proofs.lemmas.List.{drop-drop}
use Rattle.det_cbor.specs.HeadReading.{◌>>=◌}
use Rattle.det_cbor.specs.Position.{Position}
use Rattle.suit_params.specs.declared.refusal.Refusal.{Refusal}
use Rattle.suit_params.specs.declared.refusal.Fault.{Fault}
use Rattle.suit_params.specs.declared.refusal.Fault.TheVariants.{Refused, NoMemory}
use Rattle.suit_params.specs.Answering.{Gives}
use Rattle.suit_params.specs.Reading.{content_from}
use Rattle.flash_layout.specs.declared.layout.Entry.{Entry}
use Rattle.flash_layout.specs.PageReading.{parts_from, entry_at, entries_at}

-- the elements read before, in front of those that are read
abbrev pub with_front : {A : Type 0} → List A → Result (List A) Refusal → Result (List A) Refusal
with_front front (Ok rest) = Ok (front ++ rest)
with_front front (Err r) = Err r

one_more : {A : Type 0} (front : List A) (a : A) (r : Result (List A) Refusal) → with_front front (r >>= λ rest. Ok (a ∷ rest)) ≡ with_front (front ++ a ∷ []) r
one_more {A} front a (Ok rest) = ap (λ (l : List A). Ok l) (sym (append_assoc front (a ∷ []) rest))
one_more front a (Err r) = refl

-- ---- byte strings

pub parts_step : (front : List (List ℕ)) (count done : ℕ) (at next inner : Position) (a : List ℕ) (total : Result (List (List ℕ)) Refusal)
    → done < count → Ok (inner, next) ≡ content_from at → a ≡ inner.left
    → with_front front (parts_from (count - done) at) ≡ total → with_front (front ++ a ∷ []) (parts_from (count - (done + 1)) next) ≡ total
parts_step front count done at next inner a total lt content is so_far =
    let one : count - done ≡ suc (count - (done + 1)) = omega arith in
    let step : with_front front (parts_from (count - done) at) ≡ with_front (front ++ a ∷ []) (parts_from (count - (done + 1)) next) =
    rw (one, ← content, is) (one_more front inner.left (parts_from (count - (done + 1)) next)) in
    sym step ∙ so_far

-- ---- components

pub entries_step : (front : List Entry) (count done : ℕ) (at next : List ℕ) (e : Entry) (total : Result (List Entry) Refusal)
    → done < count → entry_at (take 142 at) ≡ Ok e → next ≡ drop 142 at
    → with_front front (entries_at (count - done) at) ≡ total → with_front (front ++ e ∷ []) (entries_at (count - (done + 1)) next) ≡ total
entries_step front count done at next e total lt is rest so_far =
    let one : count - done ≡ suc (count - (done + 1)) = omega arith in
    let step : with_front front (entries_at (count - done) at) ≡ with_front (front ++ e ∷ []) (entries_at (count - (done + 1)) next) =
    rw (one, is, rest) (one_more front e (entries_at (count - (done + 1)) (drop 142 at))) in
    sym step ∙ so_far

pub entries_bad : (front : List Entry) (count done : ℕ) (at : List ℕ) (r : Refusal) (total : Result (List Entry) Refusal)
    → done < count → entry_at (take 142 at) ≡ Err r → with_front front (entries_at (count - done) at) ≡ total → total ≡ Err r
entries_bad front count done at r total lt bad so_far =
    let one : count - done ≡ suc (count - (done + 1)) = omega arith in
    let step : with_front front (entries_at (count - done) at) ≡ Err r = rw (one, bad) refl in
    sym so_far ∙ step

-- the place of a component in a list of bytes
pub entry_place : (bytes : List ℕ) (i : ℕ) → slice_range bytes (142 * i) (142 * i + 142) ≡ take 142 (drop (142 * i) bytes)
entry_place bytes i = let n : 142 * i + 142 - 142 * i ≡ 142 = omega arith in rw n refl

pub next_place : (bytes : List ℕ) (i : ℕ) → drop (142 * (i + 1)) bytes ≡ drop 142 (drop (142 * i) bytes)
next_place bytes i = let n : 142 * (i + 1) ≡ 142 * i + 142 = omega arith in rw n (sym (drop-drop 142 (142 * i) bytes))

pub entries_fault : (front : List Entry) (count i : ℕ) (bytes : List ℕ) (fault : Fault) → i < count → Gives {X = Entry} (λ e. e) (Err fault) (entry_at (slice_range bytes (142 * i) (142 * i + 142)))
    → with_front front (entries_at (count - i) (drop (142 * i) bytes)) ≡ entries_at count bytes → Gives {X = List Entry} (λ l. l) (Err fault) (entries_at count bytes)
entries_fault front count i bytes (Refused r) lt bad so_far = entries_bad front count i (drop (142 * i) bytes) r (entries_at count bytes) lt (rw (entry_place bytes i) at bad) so_far
entries_fault front count i bytes NoMemory lt bad so_far = tt

pub entries_next : (front : List Entry) (count i : ℕ) (bytes : List ℕ) (e : Entry) → i < count → entry_at (slice_range bytes (142 * i) (142 * i + 142)) ≡ Ok e
    → with_front front (entries_at (count - i) (drop (142 * i) bytes)) ≡ entries_at count bytes
    → with_front (front ++ e ∷ []) (entries_at (count - (i + 1)) (drop (142 * (i + 1)) bytes)) ≡ entries_at count bytes
entries_next front count i bytes e lt is so_far =
    entries_step front count i (drop (142 * i) bytes) (drop (142 * (i + 1)) bytes) e (entries_at count bytes) lt (sym (ap entry_at (entry_place bytes i)) ∙ is) (next_place bytes i) so_far
