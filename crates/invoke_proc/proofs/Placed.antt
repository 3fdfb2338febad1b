-- Components that a layout has are at places of it.
use Rattle.std.proofs.Common.{◌≡◌, ◌⊎◌, inl, inr, ◌<◌, ◌≤◌, ℕ, List, [], length, get_or, map, refl, sym, subst, arith}
use Rattle.std.specs.List.{range_with_len}
use Rattle.std.proofs.lemmas.Bool.{cases_lt}
use Rattle.std.proofs.lemmas.List.{get_or_default, get_or_past}
use Rattle.std.proofs.lemmas.List.FromFn.{length-map-range_with_len, get_or-map-range_with_len}
use Rattle.flash_layout.specs.declared.layout.Entry.{Entry}
use Rattle.flash_layout.specs.declared.place.Places.{Places}
use Rattle.flash_layout.specs.Placement.{ArePlaces, HasPlace}
use Rattle.rollback_record.specs.SoundFlash.{HasEach}

module _ (layout : List Entry) (ids : List (List (List ℕ))) (each : HasEach layout ids) where
  place : (k : ℕ) → (k < length ids) ⊎ (length ids ≤ k) → ℕ
  place k (inl lt) = (each k [] lt).0
  place k (inr past) = 0

  has_place : (k : ℕ) (r : (k < length ids) ⊎ (length ids ≤ k)) → k < length ids → HasPlace layout (get_or ids k []) (place k r)
  unfolding place
  has_place k (inl is) lt = (each k [] is).1
  has_place k (inr past) lt = absurd (omega (arith, past, lt))

  abbrev index : ℕ → ℕ
  index k = place k (cases_lt k (length ids))

  abbrev places : Places
  places = record { count = length ids; layout_index = map index (range_with_len 0 (length ids)) }

  place_at : (k : ℕ) → k < length ids → get_or places.layout_index k 0 ≡ index k
  place_at k lt = get_or-map-range_with_len index 0 (length ids) k k 0 lt (omega arith)

  pub placed : (p : Places) × ArePlaces layout ids p
  placed = (
    places,
    record {
      count = refl;
      each = λ k d lt. subst (λ (id : List (List ℕ)). HasPlace layout id (get_or places.layout_index k 0)) (get_or_default ids k [] d lt)
          (subst (λ (i : ℕ). HasPlace layout (get_or ids k []) i) (sym (place_at k lt)) (has_place k (cases_lt k (length ids)) lt));
      rest = λ k le. get_or_past places.layout_index k 0 (omega (arith, length-map-range_with_len index 0 (length ids), le));
    },
  )
