-- The pairs of a map, taken one after another.
use Rattle.std.proofs.Common.{◌≡◌, ℕ, ◌-◌, Bool, true, false, eqb, List, ◌++◌, Option, Some, Ok, refl, subst, ◌∙◌, append_assoc, arith}
use Rattle.std.specs.Prelude.{option_map}
use Rattle.std.proofs.lemmas.Bool.{ne_eqb}
use Rattle.det_cbor.specs.DataItem.{DataItem, UnsignedInteger, DataPairs, NoPairs, PairThen, pair_count, spell, spell_pairs, IsValidWithin, ArePairsWithin}
use Rattle.det_cbor.specs.HeadSpelling.{spelled}
use Rattle.det_cbor.specs.ItemOrder.{spell_parts}
use Rattle.det_cbor.specs.Position.{Position}
use Rattle.det_cbor.specs.ItemHeads.{item_head}
use Rattle.suit_params.specs.HeadLaws.{item_head_read, after}
use Rattle.suit_envelope.specs.Envelopes.{Entry, entries, is_number}
use Rattle.suit_manifest.specs.declared.pairs.Pairs.{Pairs}
use Rattle.suit_manifest.specs.MapReading.{key_is, take_from, end_from, value_of}
use Rattle.suit_manifest.proofs.Picked.{head_under, rest_after, ending}
use Rattle.suit_manifest.proofs.ValuesPassed.{value_read}

-- the pairs of these entries are left
pub record AreLeft (levels : ℕ) (es : List Entry) (s : Pairs) : Type 0 where
  pub pairs : DataPairs
  pub before : Option (List ℕ)
  pub rest : List ℕ
  pub valid : ArePairsWithin levels before pairs
  pub bytes : s.map.left ≡ spell_pairs pairs ++ rest
  pub are : entries s.map.place pairs ≡ es
  pub count : s.left ≡ pair_count pairs

pub record Took (n levels : ℕ) (es : List Entry) (s : Pairs) : Type 0 where
  pub next : Pairs
  pub is : take_from n s ≡ Ok (option_map value_of (head_under n es), next)
  pub left : AreLeft levels (rest_after n es) next

-- what reading a key says of whether it is the number
record Told (n : ℕ) (p : Position) (key : DataItem) (rest : List ℕ) : Type 0 where
  behind : Position
  told : key_is n p ≡ Ok (is_number n key, behind)
  passed : is_number n key ≡ true → behind ≡ after p (spell key) rest

key_told : (n levels : ℕ) (p : Position) (key : DataItem) (rest : List ℕ) → IsValidWithin levels key → p.left ≡ spell key ++ rest → Told n p key rest
unfolding key_is
key_told n levels p (UnsignedInteger m) rest valid is = record { behind = after p (spell (UnsignedInteger m)) rest; told = rw (item_head_read levels p (UnsignedInteger m) rest valid is) refl; passed = λ e. refl }
key_told n levels p x rest valid is = record { behind = after p (spelled (item_head x)) (spell_parts x ++ rest); told = rw (item_head_read levels p x rest valid is) refl; passed = λ e. absurd cc }

take_pairs : (n levels : ℕ) (before : Option (List ℕ)) (ps : DataPairs) (rest : List ℕ) (s : Pairs) → ArePairsWithin levels before ps → s.map.left ≡ spell_pairs ps ++ rest → s.left ≡ pair_count ps → Took n levels (entries s.map.place ps) s
take_pairs n levels before NoPairs rest s valid is count = record { next = s; is = rw count refl; left = record { pairs = NoPairs; before = before; rest = rest; valid = tt; bytes = is; are = refl; count = count } }
take_pairs n levels before (PairThen key value ps) rest s valid is count = by_test (is_number n key) refl
  where
    es : List Entry
    es = entries s.map.place (PairThen key value ps)

    some : eqb s.left 0 ≡ false
    some = ne_eqb s.left 0 (λ none. absurd (omega (arith, none, count)))

    after_value : List ℕ
    after_value = spell_pairs ps ++ rest

    after_key : List ℕ
    after_key = spell value ++ after_value

    whole : s.map.left ≡ spell key ++ after_key
    whole = is ∙ simp append_assoc

    by_test : (t : Bool) → is_number n key ≡ t → Took n levels (entries s.map.place (PairThen key value ps)) s
    by_test false e =
        let told = key_told n levels s.map key after_key valid.0 whole in
        record {
          next = s;
          is = rw (some, told.told, e) refl;
          left = rw e (record { pairs = PairThen key value ps; before = before; rest = rest; valid = valid; bytes = is; are = refl; count = count });
        }
    by_test true e =
        let told = key_told n levels s.map key after_key valid.0 whole in
        let q = after s.map (spell key) after_key in
        record {
          next = record { map = after q (spell value) after_value; left = s.left - 1 };
          is = rw (some, told.told, e, told.passed e, value_read levels q value after_value valid.2 refl) refl;
          left = rw e (record { pairs = ps; before = Some (spell key); rest = rest; valid = valid.3; bytes = refl; are = refl; count = omega (arith, count) });
        }

pub take_read : (n levels : ℕ) (es : List Entry) (s : Pairs) → AreLeft levels es s → Took n levels es s
take_read n levels es s left = subst (λ (l : List Entry). Took n levels l s) left.are (take_pairs n levels left.before left.pairs left.rest s left.valid left.bytes left.count)

-- taking the next number after one that was looked for
pub then_read : (n : ℕ) {m levels : ℕ} {es : List Entry} {s : Pairs} (took : Took m levels es s) → Took n levels (rest_after m es) took.next
then_read n {m} {levels} {es} took = take_read n levels (rest_after m es) took.next took.left

-- the entry that was found, and those that are left
abbrev pub found : {n levels : ℕ} {es : List Entry} {s : Pairs} → Took n levels es s → Option Entry
found {n} {levels} {es} took = head_under n es

abbrev pub others : {n levels : ℕ} {es : List Entry} {s : Pairs} → Took n levels es s → List Entry
others {n} {levels} {es} took = rest_after n es

pub end_read : (levels : ℕ) (es : List Entry) (s : Pairs) → AreLeft levels es s → end_from s ≡ ending es
end_read levels es s left = subst (λ (l : List Entry). end_from s ≡ ending l) left.are (by_pairs left.pairs left.count)
  where
    by_pairs : (ps : DataPairs) → s.left ≡ pair_count ps → end_from s ≡ ending (entries s.map.place ps)
    by_pairs NoPairs count = rw count refl
    by_pairs (PairThen key value ps) count = let some : eqb s.left 0 ≡ false = ne_eqb s.left 0 (λ none. absurd (omega (arith, none, count))) in rw some refl
