-- Counts of items.
use Rattle.std.proofs.Common.{◌≡◌, ◌<◌, ◌≤◌, ℕ, suc, arith, List, [], ◌∷◌, length, refl, ap, ◌∙◌, sym, ◌+◌, add-one}
use Rattle.std.proofs.lemmas.Bool.Decides.{nat_tests}
use Rattle.serde_json.specs.Data.{Data}
use Rattle.author.specs.Elements.{items_in}
use Rattle.author.specs.Descriptions.{capped_count}
use Rattle.serde_json.specs.Events.{items_len}
use Rattle.serde_json.specs.View.{items_view}
use Rattle.serde_json.specs.declared.value.Value.{Value}
use Rattle.det_cbor.specs.DataItem.{item_count}
use Rattle.suit_manifest.specs.Components.{string_items}

pub counted_strings : (parts : List (List ℕ)) → item_count (string_items parts) ≡ length parts
counted_strings [] = refl
counted_strings (part ∷ parts) = ap (λ n. n + 1) (counted_strings parts) ∙ add-one (length parts)

pub counted_items : (vs : List Value) → items_len (items_view vs) ≡ length vs
counted_items [] = refl
counted_items (v ∷ vs) = ap suc (counted_items vs)

pub capped_items : (vs : List Value) (d : Data) → items_view vs ≡ items_in d → capped_count (items_len (items_in d)) ≡ capped_count (length vs)
capped_items vs d is = ap capped_count (ap items_len (sym is) ∙ counted_items vs)

pub capped_small : (n : ℕ) → n < 4294967295 → capped_count n ≡ n
capped_small n h = grind (arith, nat_tests)

pub capped_large : (n : ℕ) → 4294967295 ≤ n → capped_count n ≡ 4294967295
capped_large n h = grind (arith, nat_tests)
