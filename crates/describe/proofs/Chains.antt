-- Fields that are put in whatever order, in the order of their keys: how they are found there.
use Rattle.std.proofs.Common.{◌≡◌, ℕ, Bool, true, false, ◌&&◌, List, [], ◌∷◌, Option, Some, None, Ordering, Less, Equal, Greater, nat_cmp, refl, ap, ◌∙◌}
use Rattle.std.specs.Cmp.Lexicographic.{slice_cmp}
use Rattle.std.specs.Ordering.{match_ordering}
use Rattle.serde_json.specs.Data.{Data, Members, no_members, member, put}
use Rattle.serde_json.specs.Find.{get_member}
use Rattle.describe.specs.Describing.{Field, with_field, with_fields}

abbrev pub chained : List ℕ → Option Data → Members → Members
chained k None ms = ms
chained k (Some d) ms = member k d ms

abbrev pub chain : List Field → Members
chain [] = no_members
chain (f ∷ fs) = chained f.0 f.1 (chain fs)

-- a key stands below those of all fields
abbrev pub is_below : List ℕ → List Field → Bool
is_below k [] = true
is_below k (f ∷ fs) = match_ordering (slice_cmp nat_cmp k f.0) (is_below k fs) false false

-- a field in its place, among others whose keys ascend
abbrev pub placed : List ℕ → Option Data → List Field → List Field
placed k v [] = (k, v) ∷ []
placed k v (f ∷ fs) = match_ordering (slice_cmp nat_cmp k f.0) ((k, v) ∷ f ∷ fs) ((k, v) ∷ f ∷ fs) (f ∷ placed k v fs)

-- its key is another, and those after its place are above it
abbrev pub fits : List ℕ → List Field → Bool
fits k [] = true
fits k (f ∷ fs) = match_ordering (slice_cmp nat_cmp k f.0) (is_below k fs) false (fits k fs)

abbrev pub all_placed : List Field → List Field → List Field
all_placed [] rows = rows
all_placed (f ∷ fs) rows = all_placed fs (placed f.0 f.1 rows)

abbrev pub all_fit : List Field → List Field → Bool
all_fit [] rows = true
all_fit (f ∷ fs) rows = fits f.0 rows && all_fit fs (placed f.0 f.1 rows)

-- ---- a field is put before all others

first_at : (o : Ordering) (k l : List ℕ) (d : Data) (v : Option Data) (fs : List Field) → slice_cmp nat_cmp k l ≡ o → match_ordering o (is_below k fs) false false ≡ true
    → (is_below k fs ≡ true → put k d (chain fs) ≡ member k d (chain fs)) → put k d (chained l v (chain fs)) ≡ member k d (chained l v (chain fs))
first_at Less k l d None fs e h later = later h
first_at Less k l d (Some x) fs e h later = rw e refl
first_at Equal k l d v fs e h later = absurd cc
first_at Greater k l d v fs e h later = absurd cc

put_first : (k : List ℕ) (d : Data) (fs : List Field) → is_below k fs ≡ true → put k d (chain fs) ≡ member k d (chain fs)
put_first k d [] h = refl
put_first k d (f ∷ fs) h = first_at (slice_cmp nat_cmp k f.0) k f.0 d f.1 fs refl h (put_first k d fs)

-- ---- a field is put in its place

placed_at : (o : Ordering) (k l : List ℕ) (v w : Option Data) (fs rest : List Field) → slice_cmp nat_cmp k l ≡ o → match_ordering o (is_below k fs) false (fits k fs) ≡ true
    → (fits k fs ≡ true → with_field k v (chain fs) ≡ chain rest)
    → with_field k v (chained l w (chain fs)) ≡ chain (match_ordering o ((k, v) ∷ (l, w) ∷ fs) ((k, v) ∷ (l, w) ∷ fs) ((l, w) ∷ rest))
placed_at Less k l None w fs rest e h later = refl
placed_at Less k l (Some d) w fs rest e h later = first_at Less k l d w fs e h (put_first k d fs)
placed_at Equal k l v w fs rest e h later = absurd cc
placed_at Greater k l None w fs rest e h later = ap (chained l w) (later h)
placed_at Greater k l (Some d) None fs rest e h later = later h
placed_at Greater k l (Some d) (Some x) fs rest e h later = rw e (ap (member l x) (later h))

field_placed : (k : List ℕ) (v : Option Data) (fs : List Field) → fits k fs ≡ true → with_field k v (chain fs) ≡ chain (placed k v fs)
field_placed k None [] h = refl
field_placed k (Some d) [] h = refl
field_placed k v (f ∷ fs) h = placed_at (slice_cmp nat_cmp k f.0) k f.0 v f.1 fs (placed k v fs) refl h (field_placed k v fs)

both_true : (a b : Bool) → (a && b) ≡ true → (a ≡ true) × (b ≡ true)
both_true true true h = (refl, refl)
both_true true false h = absurd cc
both_true false b h = absurd cc

pub fields_placed : (fs rows : List Field) → all_fit fs rows ≡ true → with_fields fs (chain rows) ≡ chain (all_placed fs rows)
fields_placed [] rows h = refl
fields_placed (f ∷ fs) rows h =
    let both = both_true (fits f.0 rows) (all_fit fs (placed f.0 f.1 rows)) h in
    ap (with_fields fs) (field_placed f.0 f.1 rows both.0) ∙ fields_placed fs (placed f.0 f.1 rows) both.1

-- ---- values under a key

abbrev pub or_later : Option Data → Option Data → Option Data
or_later (Some d) later = Some d
or_later None later = later

abbrev pub found : List ℕ → List Field → Option Data
found k [] = None
found k (f ∷ fs) = match_ordering (slice_cmp nat_cmp k f.0) (found k fs) (or_later f.1 (found k fs)) (found k fs)

found_at : (o : Ordering) (k l : List ℕ) (v : Option Data) (fs : List Field) → slice_cmp nat_cmp k l ≡ o → get_member k (chain fs) ≡ found k fs
    → get_member k (chained l v (chain fs)) ≡ match_ordering o (found k fs) (or_later v (found k fs)) (found k fs)
found_at Less k l None fs e later = later
found_at Less k l (Some d) fs e later = rw e later
found_at Equal k l None fs e later = later
found_at Equal k l (Some d) fs e later = rw e refl
found_at Greater k l None fs e later = later
found_at Greater k l (Some d) fs e later = rw e later

pub get_chain : (k : List ℕ) (fs : List Field) → get_member k (chain fs) ≡ found k fs
get_chain k [] = refl
get_chain k (f ∷ fs) = found_at (slice_cmp nat_cmp k f.0) k f.0 f.1 fs refl (get_chain k fs)

pub or_none : (v : Option Data) → or_later v None ≡ v
or_none (Some d) = refl
or_none None = refl
