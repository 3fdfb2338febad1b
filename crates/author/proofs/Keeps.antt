-- Properties of all that is read.
use Rattle.std.proofs.Common.{◌≡◌, ℕ, suc, List, [], ◌∷◌, ◌++◌, Bool, true, false, cond, Option, Some, None, Result, Ok, Err, refl, subst}
use Rattle.std.specs.List.{AllByRecursion}
use Rattle.det_cbor.specs.HeadReading.{◌>>=◌}
use Rattle.serde_json.specs.Data.{Data, null, boolean, number, string, array, object, Items, no_items, item, Members, no_members, member}
use Rattle.json_fields.specs.declared.flaw.Flaw.{Flaw}
use Rattle.json_fields.specs.Arrays.{each_from}
use Rattle.json_fields.specs.Flaws.{under}
use Rattle.json_fields.specs.Pointers.{key_token, index_token}
use Rattle.json_fields.specs.Objects.{Takes, members_of, object_of, required}

pub data Holds {A : Type 0} (P : A → Type 0) : Result A Flaw → Type 0 where
  WasRead : (x : A) → P x → Holds P (Ok x)
  WasFlawed : (f : Flaw) → Holds P (Err f)

abbrev OfRead : {A : Type 0} → (A → Type 0) → Result A Flaw → Type 0
OfRead P (Ok x) = P x
OfRead P (Err f) = Unit {0}

of_read : {A : Type 0} (P : A → Type 0) (r : Result A Flaw) → Holds P r → OfRead P r
of_read P _ (WasRead x h) = h
of_read P _ (WasFlawed f) = tt

pub held : {A : Type 0} (P : A → Type 0) (r : Result A Flaw) (x : A) → Holds P r → r ≡ Ok x → P x
held P r x h e = subst (OfRead P) e (of_read P r h)

pub holds_bind : {A B : Type 0} (P : A → Type 0) (Q : B → Type 0) (r : Result A Flaw) (k : A → Result B Flaw) → Holds P r → ((x : A) → P x → Holds Q (k x)) → Holds Q (r >>= k)
holds_bind P Q _ k (WasRead x h) next = next x h
holds_bind P Q _ k (WasFlawed f) next = WasFlawed f

pub holds_then : {A B : Type 0} (Q : B → Type 0) (r : Result A Flaw) (k : A → Result B Flaw) → ((x : A) → Holds Q (k x)) → Holds Q (r >>= k)
holds_then Q (Ok x) k next = next x
holds_then Q (Err f) k next = WasFlawed f

pub holds_under : {A : Type 0} (P : A → Type 0) (token : List ℕ) (r : Result A Flaw) → Holds P r → Holds P (under token r)
holds_under P token _ (WasRead x h) = WasRead x h
holds_under P token _ (WasFlawed f) = WasFlawed (record { kind = f.kind; pointer = token ++ f.pointer })

pub holds_weaker : {A : Type 0} (P Q : A → Type 0) (r : Result A Flaw) → Holds P r → ((x : A) → P x → Q x) → Holds Q r
holds_weaker P Q _ (WasRead x h) weaker = WasRead x (weaker x h)
holds_weaker P Q _ (WasFlawed f) weaker = WasFlawed f

pub holds_if : {A : Type 0} (P : A → Type 0) (b : Bool) (x : A) (f : Flaw) → (b ≡ true → P x) → Holds P (cond b (Ok x) (Err f))
holds_if P true x f h = WasRead x (h refl)
holds_if P false x f h = WasFlawed f

pub holds_choice : {A : Type 0} (P : A → Type 0) (b : Bool) (r s : Result A Flaw) → (b ≡ true → Holds P r) → (b ≡ false → Holds P s) → Holds P (cond b r s)
holds_choice P true r s h k = h refl
holds_choice P false r s h k = k refl

pub holds_required : {A : Type 0} (key : List ℕ) (o : Option A) → Holds (λ x. o ≡ Some x) (required key o)
holds_required key (Some x) = WasRead x refl
holds_required key None = WasFlawed _

pub holds_members : {D : Type 0} (P : D → Type 0) (takes : Takes D) → ((t : D) (k : List ℕ) (d : Data) → P t → Holds P (takes t k d)) → (ms : Members) (t : D) → P t → Holds P (members_of takes t ms)
holds_members P takes each no_members t h = WasRead t h
holds_members P takes each (member k d ms) t h =
    holds_bind P P _ _ (holds_under P (key_token k) (takes t k d) (each t k d h)) (λ x g. holds_members P takes each ms x g)

pub holds_object : {D : Type 0} (P : D → Type 0) (takes : Takes D) → ((t : D) (k : List ℕ) (d : Data) → P t → Holds P (takes t k d)) → (d : Data) (t : D) → P t → Holds P (object_of takes t d)
holds_object P takes each null t h = WasFlawed _
holds_object P takes each (boolean b) t h = WasFlawed _
holds_object P takes each (number n) t h = WasFlawed _
holds_object P takes each (string s) t h = WasFlawed _
holds_object P takes each (array ds) t h = WasFlawed _
holds_object P takes each (object ms) t h = holds_members P takes each ms t h

pub holds_each : {A : Type 0} (P : A → Type 0) (form : Data → Result A Flaw) → ((d : Data) → Holds P (form d)) → (i : ℕ) (ds : Items) → Holds (AllByRecursion P) (each_from form i ds)
holds_each P form each i no_items = WasRead [] tt
holds_each P form each i (item d ds) =
    holds_bind P (AllByRecursion P) _ _ (holds_under P (index_token i) (form d) (each d)) (λ x h.
    holds_bind (AllByRecursion P) (AllByRecursion P) _ _ (holds_each P form each (suc i) ds) (λ xs hs. WasRead (x ∷ xs) (h, hs)))
