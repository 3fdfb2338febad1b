-- Contents in working memory: one of them changes, and all others stay.
use Rattle.std.proofs.Common.{◌≡◌, ◌≢◌, ◌<◌, ℕ, zero, suc, List, [], ◌∷◌, length, map, get_or, refl, ◌∙◌, ap, arith}
use Rattle.flash_layout.specs.declared.layout.Entry.{Entry}
use Rattle.flash_slots.specs.RamContents.{Held, IsRamOf, empty_ram, held_by, holding, ram_capacity}

pub made : (layout : List Entry) → IsRamOf layout (empty_ram layout)
made [] = refl
made (e ∷ rest) = ap (λ (l : List ℕ). ram_capacity e ∷ l) (made rest)

same_room : (ram : List Held) (i : ℕ) (content : List ℕ) → map (λ held. held.capacity) (holding ram i content) ≡ map (λ held. held.capacity) ram
same_room [] i content = refl
same_room (held ∷ rest) zero content = refl
same_room (held ∷ rest) (suc i) content = ap (λ (l : List ℕ). held.capacity ∷ l) (same_room rest i content)

pub stays : (layout : List Entry) (ram : List Held) (i : ℕ) (content : List ℕ) → IsRamOf layout ram → IsRamOf layout (holding ram i content)
stays layout ram i content is = same_room ram i content ∙ is

-- if two lists are equal, so are their first elements and their rests
one_list : (x y : ℕ) (xs ys : List ℕ) → x ∷ xs ≡ y ∷ ys → xs ≡ ys
one_list x y xs ys e = cc

one_first : (x y : ℕ) (xs ys : List ℕ) → x ∷ xs ≡ y ∷ ys → x ≡ y
one_first x y xs ys e = cc

not_none : (x : ℕ) (xs : List ℕ) → [] ≡ x ∷ xs → ⊥
not_none x xs e = cc

none_not : (x : ℕ) (xs : List ℕ) → x ∷ xs ≡ [] → ⊥
none_not x xs e = cc

pub few : (layout : List Entry) (ram : List Held) → IsRamOf layout ram → length ram ≡ length layout
few [] [] is = refl
few [] (held ∷ rest) is = absurd (none_not _ _ is)
few (e ∷ layout) [] is = absurd (not_none _ _ is)
few (e ∷ layout) (held ∷ rest) is = ap suc (few layout rest (one_list _ _ _ _ is))

pub room : (layout : List Entry) (ram : List Held) (i : ℕ) (d : Entry) → IsRamOf layout ram → i < length layout → (held_by ram i).capacity ≡ ram_capacity (get_or layout i d)
room [] ram i d is inside = absurd (omega (arith, inside))
room (e ∷ layout) [] i d is inside = absurd (not_none _ _ is)
room (e ∷ layout) (held ∷ rest) zero d is inside = one_first _ _ _ _ is
room (e ∷ layout) (held ∷ rest) (suc i) d is inside = room layout rest i d (one_list _ _ _ _ is) (omega (arith, inside))

pub itself : (ram : List Held) (i : ℕ) (content : List ℕ) → i < length ram → (held_by (holding ram i content) i).content ≡ content
itself [] i content inside = absurd (omega (arith, inside))
itself (held ∷ rest) zero content inside = refl
itself (held ∷ rest) (suc i) content inside = itself rest i content (omega (arith, inside))

pub others : (ram : List Held) (i j : ℕ) (content : List ℕ) → i ≢ j → held_by (holding ram i content) j ≡ held_by ram j
others [] i j content ne = refl
others (held ∷ rest) zero zero content ne = absurd (ne refl)
others (held ∷ rest) zero (suc j) content ne = refl
others (held ∷ rest) (suc i) zero content ne = refl
others (held ∷ rest) (suc i) (suc j) content ne = others rest i j content (λ e. ne (ap suc e))
