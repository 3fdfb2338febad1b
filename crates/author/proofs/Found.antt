-- The value that was read last under a key of an object is the one that is found there, where no key stands twice.
use Rattle.std.proofs.Common.{◌≡◌, List, ℕ, Bool, true, false, cond, Option, Some, None, Ordering, Less, Equal, Greater, refl, sym, ap, subst, ◌∙◌}
use Rattle.std.specs.Str.{bytes_eq}
use Rattle.std.specs.Ordering.{nat_cmp, match_ordering, is_eq}
use Rattle.std.specs.Cmp.Lexicographic.{slice_cmp}
use Rattle.std.proofs.lemmas.Map.Text.{is_eq-slice_cmp}
use Rattle.std.proofs.lemmas.Slice.Eq.{bytes_eq-Decides}
use Rattle.det_cbor.proofs.KeyOrder.{same_key}
use Rattle.serde_json.specs.Data.{Data, Members, no_members, member}
use Rattle.serde_json.specs.Find.{get_member}
use Rattle.json_fields.specs.Objects.{Takes, members_of}
use Rattle.json_fields.specs.Pointers.{key_token}
use Rattle.author.specs.KeysOnce.{HasKeysOnce, AreKeysOnce}
use Rattle.author.proofs.Keeps.{Holds, WasRead, holds_bind, holds_under}

-- ---- one key

pub found_here : (name : List ℕ) (d : Data) (ms : Members) → get_member name (member name d ms) ≡ Some d
found_here name d ms = ap (λ o. match_ordering o (get_member name ms) (Some d) (get_member name ms)) (same_key name)

either : (o : Ordering) (a b : Option Data) → is_eq o ≡ false → match_ordering o a b a ≡ a
either Less a b e = refl
either Equal a b e = absurd cc
either Greater a b e = refl

not_same : (k name : List ℕ) (b : Bool) → bytes_eq name k ≡ b → bytes_eq k name ≡ false → b ≡ false
not_same k name true e other =
    let same : name ≡ k = (bytes_eq-Decides name k).0 e in
    let itself : bytes_eq k name ≡ true = (bytes_eq-Decides k name).1 (sym same) in
    absurd cc
not_same k name false e other = refl

pub found_later : (name k : List ℕ) (d : Data) (ms : Members) → bytes_eq k name ≡ false → get_member name (member k d ms) ≡ get_member name ms
found_later name k d ms e = either (slice_cmp nat_cmp name k) _ _ (is_eq-slice_cmp name k ∙ not_same k name _ refl e)

-- ---- the last one

abbrev pub pick : List ℕ → List ℕ → Data → Option Data → Option Data
pick k name d old = cond (bytes_eq k name) (Some d) old

abbrev pub pick_all : List ℕ → Option Data → Members → Option Data
pick_all name old no_members = old
pick_all name old (member k d ms) = pick_all name (pick k name d old) ms

pick_at : (b : Bool) (name k : List ℕ) (d : Data) (old : Option Data) (ms : Members) → bytes_eq k name ≡ b → get_member name (member k d ms) ≡ None
    → (get_member name ms ≡ None) × (cond b (Some d) old ≡ old)
pick_at true name k d old ms e none =
    let same : k ≡ name = (bytes_eq-Decides k name).0 e in
    let here : get_member name (member k d ms) ≡ Some d = subst (λ (l : List ℕ). get_member name (member l d ms) ≡ Some d) (sym same) (found_here name d ms) in
    absurd cc
pick_at false name k d old ms e none = (sym (found_later name k d ms e) ∙ none, refl)

pick_none : (name : List ℕ) (old : Option Data) (ms : Members) → get_member name ms ≡ None → pick_all name old ms ≡ old
pick_none name old no_members none = refl
pick_none name old (member k d ms) none =
    let at = pick_at (bytes_eq k name) name k d old ms refl none in
    ap (λ o. pick_all name o ms) at.1 ∙ pick_none name old ms at.0

pick_by : (b : Bool) (name k : List ℕ) (d : Data) (ms : Members) → bytes_eq k name ≡ b → get_member k ms ≡ None → (pick_all name None ms ≡ get_member name ms)
    → pick_all name (cond b (Some d) None) ms ≡ get_member name (member k d ms)
pick_by true name k d ms e once later =
    let same : k ≡ name = (bytes_eq-Decides k name).0 e in
    let gone : get_member name ms ≡ None = subst (λ (l : List ℕ). get_member l ms ≡ None) same once in
    pick_none name (Some d) ms gone ∙ sym (subst (λ (l : List ℕ). get_member name (member l d ms) ≡ Some d) (sym same) (found_here name d ms))
pick_by false name k d ms e once later = later ∙ sym (found_later name k d ms e)

pub pick_found : (name : List ℕ) (ms : Members) → AreKeysOnce ms → pick_all name None ms ≡ get_member name ms
pick_found name no_members once = refl
pick_found name (member k d ms) once = pick_by (bytes_eq k name) name k d ms refl once.0 (pick_found name ms once.2)

-- ---- a field that is read of one key

module _ {D : Type 0} (takes : Takes D) (R : Option Data → D → Type 0) (name : List ℕ) (step : (o : Option Data) (t : D) (k : List ℕ) (d : Data) → HasKeysOnce d → R o t → Holds (R (pick k name d o)) (takes t k d)) where
  pick_walk : (ms : Members) (o : Option Data) (t : D) → AreKeysOnce ms → R o t → Holds (R (pick_all name o ms)) (members_of takes t ms)
  pick_walk no_members o t once h = WasRead t h
  pick_walk (member k d ms) o t once h =
      holds_bind (R (pick k name d o)) (R (pick_all name (pick k name d o) ms)) _ _ (holds_under (R (pick k name d o)) (key_token k) (takes t k d) (step o t k d once.1 h)) (λ u g. pick_walk ms (pick k name d o) u once.2 g)

  pub one_found : (ms : Members) (t : D) → AreKeysOnce ms → R None t → Holds (R (get_member name ms)) (members_of takes t ms)
  one_found ms t once h = subst (λ (o : Option Data). Holds (R o) (members_of takes t ms)) (pick_found name ms once) (pick_walk ms None t once h)
