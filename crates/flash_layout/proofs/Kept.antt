-- What holds of each value that is read holds of all that were read.
use Rattle.std.proofs.Common.{◌≡◌, ℕ, suc, Bool, true, false, true≢false, List, [], ◌∷◌, ◌++◌, Option, Some, None, Result, Ok, Err, refl, sym, ap, subst}
use Rattle.std.specs.List.{All}
use Rattle.std.proofs.lemmas.List.Elements.{All-nil, All-cons}
use Rattle.det_cbor.specs.HeadReading.{◌>>=◌}
use Rattle.serde_json.specs.Data.{Data, Items, no_items, item, Members, no_members, member}
use Rattle.serde_json.specs.Find.{as_array, as_object}
use Rattle.json_fields.specs.declared.flaw.Flaw.{Flaw}
use Rattle.json_fields.specs.declared.flaw.FlawKind.{FlawKind}
use Rattle.json_fields.specs.declared.flaw.FlawKind.TheVariants.{Field}
use Rattle.json_fields.specs.Flaws.{under, found_or}
use Rattle.json_fields.specs.Pointers.{index_token, key_token}
use Rattle.json_fields.specs.Arrays.{each_from, array_of}
use Rattle.json_fields.specs.Objects.{Takes, members_of, object_of}

abbrev was_read : {A : Type 0} → Result A Flaw → Bool
was_read (Ok x) = true
was_read (Err f) = false

abbrev flawed_as : {A : Type 0} → Flaw → Result A Flaw
flawed_as f = Err f

abbrev read_as : {A : Type 0} → A → Result A Flaw
read_as x = Ok x

abbrev read_or : {A : Type 0} → A → Result A Flaw → A
read_or other (Ok x) = x
read_or other (Err f) = other

pub err_not_ok : {A : Type 0} (f : Flaw) (y : A) → flawed_as f ≡ read_as y → ⊥
err_not_ok f y e = true≢false (sym (ap was_read e))

pub ok_same : {A : Type 0} (x y : A) → read_as x ≡ read_as y → x ≡ y
ok_same x y e = ap (read_or x) e

pub bind_ok : {A B : Type 0} (r : Result A Flaw) (k : A → Result B Flaw) (y : B) → (r >>= k) ≡ Ok y → (x : A) × (r ≡ Ok x) × (k x ≡ Ok y)
bind_ok (Ok x) k y e = (x, refl, e)
bind_ok (Err f) k y e = absurd (err_not_ok f y e)

pub under_ok : {A : Type 0} (token : List ℕ) (r : Result A Flaw) (y : A) → under token r ≡ Ok y → r ≡ Ok y
under_ok token (Ok x) y e = e
under_ok token (Err f) y e = absurd (err_not_ok (record { kind = f.kind; pointer = token ++ f.pointer }) y e)

pub found_ok : {A : Type 0} (kind : FlawKind) (o : Option A) (y : A) → found_or kind o ≡ Ok y → o ≡ Some y
found_ok kind (Some x) y e = ap Some (ok_same x y e)
found_ok kind None y e = absurd (err_not_ok (record { kind = kind; pointer = [] }) y e)

module _ {D : Type 0} (I : D → Type 0) (takes : Takes D) (each : (t u : D) (key : List ℕ) (d : Data) → I t → takes t key d ≡ Ok u → I u) where
  members_kept : (ms : Members) (t u : D) → I t → members_of takes t ms ≡ Ok u → I u
  members_kept no_members t u h e = subst I (ok_same t u e) h
  members_kept (member key d ms) t u h e =
      let p = bind_ok (under (key_token key) (takes t key d)) (λ more. members_of takes more ms) u e in
      members_kept ms p.0 u (each t p.0 key d h (under_ok (key_token key) (takes t key d) p.0 p.1)) p.2

  pub object_kept : (d : Data) (t u : D) → I t → object_of takes t d ≡ Ok u → I u
  object_kept d t u h e =
      let p = bind_ok (found_or Field (as_object d)) (λ ms. members_of takes t ms) u e in
      members_kept p.0 t u h p.2

module _ {A : Type 0} (P : A → Type 0) (form : Data → Result A Flaw) (each : (d : Data) (x : A) → form d ≡ Ok x → P x) where
  each_kept : (i : ℕ) (ds : Items) (xs : List A) → each_from form i ds ≡ Ok xs → All P xs
  each_kept i no_items xs e = subst (All P) (ok_same [] xs e) (All-nil P)
  each_kept i (item d ds) xs e =
      let p = bind_ok (under (index_token i) (form d)) (λ x. each_from form (suc i) ds >>= λ ys. Ok (x ∷ ys)) xs e in
      let q = bind_ok (each_from form (suc i) ds) (λ ys. Ok (p.0 ∷ ys)) xs p.2 in
      let first : P p.0 = each d p.0 (under_ok (index_token i) (form d) p.0 p.1) in
      subst (All P) (ok_same (p.0 ∷ q.0) xs q.2) (All-cons P p.0 q.0 first (each_kept (suc i) ds q.0 q.1))

  pub array_kept : (d : Data) (xs : List A) → array_of form d ≡ Ok xs → All P xs
  array_kept d xs e =
      let p = bind_ok (found_or Field (as_array d)) (λ ds. each_from form 0 ds) xs e in
      each_kept 0 p.0 xs p.2
