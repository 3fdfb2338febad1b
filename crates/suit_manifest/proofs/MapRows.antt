-- Maps that are written as rows: what is under a number, and that they are valid.
use Rattle.std.proofs.Common.{◌≡◌, ◌⊎◌, ℕ, ◌+◌, ◌<◌, ◌≤◌, ◌^◌, Bool, true, false, List, [], ◌∷◌, length, Option, Some, None, refl, ap, ◌∙◌, arith, inl, inr}
use Rattle.std.specs.Prelude.{◌==◌, if◌then◌else◌, IfSome}
use Rattle.std.specs.List.{AllByRecursion}
use Rattle.std.proofs.lemmas.Bool.{eqb-true}
use Rattle.det_cbor.specs.DataItem.{DataItem, UnsignedInteger, MapOf, DataPairs, pair_count, spell, IsValid, IsValidWithin, ArePairsWithin}
use Rattle.suit_params.specs.Refusing.{Says}
use Rattle.suit_params.proofs.ParamOrder.{above_number}
use Rattle.suit_commands.specs.Selections.{Among}
use Rattle.suit_envelope.specs.Envelopes.{entries}
use Rattle.suit_manifest.specs.Maps.{entry_under, IsKeyAmong, SaysUnder}
use Rattle.suit_manifest.specs.ManifestMaking.{Row, pair_then, row_pairs, after_row, place_among}

-- numbers ascend from this one on
abbrev pub Ascend : ℕ → List Row → Type 0
Ascend low [] = Unit {0}
Ascend low (r ∷ rs) = (low ≤ r.0) × Ascend (r.0 + 1) rs

-- the value under a number
abbrev pub value_among : ℕ → List Row → Option DataItem
value_among n [] = None
value_among n (r ∷ rs) = if r.0 == n then r.1 else value_among n rs

either : (b : Bool) → (b ≡ true) ⊎ (b ≡ false)
either true = inl refl
either false = inr refl

other_number : (a b : ℕ) → b < a → (a == b) ≡ false
other_number a b lt = elim (either (a == b)) [
  | inl e ↦ absurd (omega (arith, lt, eqb-true a b e))
  | inr e ↦ e
]

-- ---- an optional pair

entry_skipped : (n key place : ℕ) (value : Option DataItem) (ps : DataPairs) → (key == n) ≡ false → entry_under n (entries place (pair_then key value ps)) ≡ entry_under n (entries (after_row place key value) ps)
entry_skipped n key place None ps e = refl
entry_skipped n key place (Some x) ps e = rw e refl

entry_found : (n key place : ℕ) (x : DataItem) (ps : DataPairs) → (key == n) ≡ true
    → entry_under n (entries place (pair_then key (Some x) ps)) ≡ Some (record { key = UnsignedInteger key; key_place = place; value = x; value_place = place + length (spell (UnsignedInteger key)) })
entry_found n key place x ps e = rw e refl

-- ---- values said under a number

said_by : {A : Type 0} (form : Says A) (n key place : ℕ) (value : Option DataItem) (ps : DataPairs) (later : Option DataItem) (later_place : ℕ) (x : DataItem) (said : A) (b : Bool)
    → (key == n) ≡ b → (if b then value else later) ≡ Some x → form (if b then place + length (spell (UnsignedInteger key)) else later_place) x said
    → (later ≡ Some x → form later_place x said → SaysUnder n form (entries (after_row place key value) ps) said)
    → SaysUnder n form (entries place (pair_then key value ps)) said
said_by form n key place value ps later later_place x said true e is so rest =
    record {
      entry = record { key = UnsignedInteger key; key_place = place; value = x; value_place = place + length (spell (UnsignedInteger key)) };
      there = ap (λ (v : Option DataItem). entry_under n (entries place (pair_then key v ps))) is ∙ entry_found n key place x ps e;
      says_so = so;
    }
said_by form n key place value ps later later_place x said false e is so rest =
    let r : SaysUnder n form (entries (after_row place key value) ps) said = rest is so in
    record { entry = r.entry; there = entry_skipped n key place value ps e ∙ r.there; says_so = r.says_so }

pub says_among : {A : Type 0} (form : Says A) (n place : ℕ) (rows : List Row) (x : DataItem) (said : A) → value_among n rows ≡ Some x → form (place_among n place rows) x said → SaysUnder n form (entries place (row_pairs rows)) said
says_among form n place [] x said is so = absurd cc
says_among form n place (r ∷ rs) x said is so =
    said_by form n r.0 place r.1 (row_pairs rs) (value_among n rs) (place_among n (after_row place r.0 r.1) rs) x said (r.0 == n) refl is so
    (λ f g. says_among form n (after_row place r.0 r.1) rs x said f g)

-- ---- numbers under which there is nothing

absent_below : (n low place : ℕ) (rows : List Row) → n < low → Ascend low rows → entry_under n (entries place (row_pairs rows)) ≡ None
absent_below n low place [] lt up = refl
absent_below n low place (r ∷ rs) lt up =
    entry_skipped n r.0 place r.1 (row_pairs rs) (other_number r.0 n (omega (arith, lt, up.0)))
    ∙ absent_below n (r.0 + 1) (after_row place r.0 r.1) rs (omega (arith, lt, up.0)) up.1

absent_by : (n key place : ℕ) (value : Option DataItem) (ps : DataPairs) (later : Option DataItem) (b : Bool) → (key == n) ≡ b → (if b then value else later) ≡ None
    → (key ≡ n → entry_under n (entries place ps) ≡ None) → (later ≡ None → entry_under n (entries (after_row place key value) ps) ≡ None)
    → entry_under n (entries place (pair_then key value ps)) ≡ None
absent_by n key place value ps later true e is above rest = ap (λ (v : Option DataItem). entry_under n (entries place (pair_then key v ps))) is ∙ above (eqb-true key n e)
absent_by n key place value ps later false e is above rest = entry_skipped n key place value ps e ∙ rest is

pub absent_among : (n low place : ℕ) (rows : List Row) → Ascend low rows → value_among n rows ≡ None → entry_under n (entries place (row_pairs rows)) ≡ None
absent_among n low place [] up is = refl
absent_among n low place (r ∷ rs) up is =
    absent_by n r.0 place r.1 (row_pairs rs) (value_among n rs) (r.0 == n) refl is
    (λ same. absent_below n (r.0 + 1) place rs (omega (arith, same)) up.1)
    (λ none. absent_among n (r.0 + 1) (after_row place r.0 r.1) rs up.1 none)

-- ---- keys

pair_known : (keys : List ℕ) (key place : ℕ) (value : Option DataItem) (ps : DataPairs) → Among key keys → ((at : ℕ) → AllByRecursion (IsKeyAmong keys) (entries at ps))
    → AllByRecursion (IsKeyAmong keys) (entries place (pair_then key value ps))
pair_known keys key place None ps among rest = rest place
pair_known keys key place (Some x) ps among rest = ((key, among, refl), rest _)

pub rows_known : (keys : List ℕ) (place : ℕ) (rows : List Row) → AllByRecursion (λ r. Among r.0 keys) rows → AllByRecursion (IsKeyAmong keys) (entries place (row_pairs rows))
rows_known keys place [] all = tt
rows_known keys place (r ∷ rs) all = pair_known keys r.0 place r.1 (row_pairs rs) all.0 (λ at. rows_known keys at rs all.1)

-- ---- the map is valid

abbrev pub RowFits : Row → Type 0
RowFits r = (r.0 < 2 ^ 64) × IfSome r.1 (IsValidWithin 1)

ascend_lower : (a b : ℕ) (rows : List Row) → a ≤ b → Ascend b rows → Ascend a rows
ascend_lower a b [] le up = tt
ascend_lower a b (r ∷ rs) le up = (omega (arith, le, up.0), up.1)

pair_fits : (before key : ℕ) (value : Option DataItem) (ps : DataPairs) → before < key → before < 2 ^ 64 → key < 2 ^ 64 → IfSome value (IsValidWithin 1)
    → ArePairsWithin 1 (Some (spell (UnsignedInteger key))) ps → ArePairsWithin 1 (Some (spell (UnsignedInteger before))) ps
    → ArePairsWithin 1 (Some (spell (UnsignedInteger before))) (pair_then key value ps)
pair_fits before key None ps lt before_small key_small fits after rest = rest
pair_fits before key (Some x) ps lt before_small key_small fits after rest = (key_small, above_number before key before_small key_small lt, fits, after)

rows_fit : (before : ℕ) (rows : List Row) → before < 2 ^ 64 → Ascend (before + 1) rows → AllByRecursion RowFits rows → ArePairsWithin 1 (Some (spell (UnsignedInteger before))) (row_pairs rows)
rows_fit before [] small up all = tt
rows_fit before (r ∷ rs) small up all =
    pair_fits before r.0 r.1 (row_pairs rs) (omega (arith, up.0)) small all.0.0 all.0.1
    (rows_fit r.0 rs all.0.0 up.1 all.1)
    (rows_fit before rs small (ascend_lower (before + 1) (r.0 + 1) rs (omega (arith, up.0)) up.1) all.1)

first_fits : (key : ℕ) (value : Option DataItem) (ps : DataPairs) → key < 2 ^ 64 → IfSome value (IsValidWithin 1) → ArePairsWithin 1 (Some (spell (UnsignedInteger key))) ps → ArePairsWithin 1 None ps
    → ArePairsWithin 1 None (pair_then key value ps)
first_fits key None ps small fits after rest = rest
first_fits key (Some x) ps small fits after rest = (small, tt, fits, after)

all_fit : (low : ℕ) (rows : List Row) → Ascend low rows → AllByRecursion RowFits rows → ArePairsWithin 1 None (row_pairs rows)
all_fit low [] up all = tt
all_fit low (r ∷ rs) up all = first_fits r.0 r.1 (row_pairs rs) all.0.0 all.0.1 (rows_fit r.0 rs all.0.0 up.1 all.1) (all_fit (r.0 + 1) rs up.1 all.1)

pair_counted : (key : ℕ) (value : Option DataItem) (ps : DataPairs) → pair_count (pair_then key value ps) ≤ pair_count ps + 1
pair_counted key None ps = omega arith
pair_counted key (Some x) ps = omega arith

rows_counted : (rows : List Row) → pair_count (row_pairs rows) ≤ length rows
rows_counted [] = omega arith
rows_counted (r ∷ rs) = omega (arith, pair_counted r.0 r.1 (row_pairs rs), rows_counted rs)

pub map_valid : (low : ℕ) (rows : List Row) → length rows < 16 → Ascend low rows → AllByRecursion RowFits rows → IsValid (MapOf (row_pairs rows))
map_valid low rows few up all = (omega arith, omega (arith, few, rows_counted rows), all_fit low rows up all)
