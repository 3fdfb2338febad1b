use Rattle.std.proofs.Common.{◌≡◌, ℕ, ◌^◌, ◌<◌, ◌≤◌, List, length, get_or, drop}
use Rattle.det_cbor.specs.ArgumentLaws.{IsBytes}
use Rattle.det_cbor.specs.DataItem.{ArrayOf, spell, spell_items}
use Rattle.suit_params.specs.Identifiers.{identifier_items}
use Rattle.flash_layout.specs.Placement.{HasPlace}
use Rattle.flash_layout.proofs.spelled_places.places_spelled.Given as goal

-- the components so far have their places, and the others are left
abbrev pub invariant-loop-k : goal.invariant-loop-k
invariant-loop-k l = record {
  left : (ids : List (List (List ℕ))) → l.fn.identifiers ≡ spell (ArrayOf (identifier_items ids))
      → l.items.left ≡ spell_items (identifier_items (drop l.k ids));
  count : (ids : List (List (List ℕ))) → l.fn.identifiers ≡ spell (ArrayOf (identifier_items ids)) → l.count ≡ length ids;
  each : (ids : List (List (List ℕ))) → l.fn.identifiers ≡ spell (ArrayOf (identifier_items ids))
      → (j : ℕ) → j < l.k → (d : List (List ℕ)) → HasPlace l.entries (get_or ids j d) (get_or l.layout_index j 0);
  rest : (j : ℕ) → l.k ≤ j → get_or l.layout_index j 0 ≡ 0;
  long : length l.layout_index ≡ 8;
  bytes : IsBytes l.items.left;
  room : length l.items.left < 2 ^ 64;
}
