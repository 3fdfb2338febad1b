-- Reading a description with two lists of files: it is flawed alike, or not at all.
use Rattle.std.proofs.Common.{ℕ, List, ◌++◌, Bool, true, false, cond, Result, Ok, Err}
use Rattle.det_cbor.specs.HeadReading.{◌>>=◌}
use Rattle.serde_json.specs.Data.{Data, null, boolean, number, string, array, object, Members, no_members, member}
use Rattle.json_fields.specs.declared.flaw.Flaw.{Flaw}
use Rattle.json_fields.specs.Flaws.{under}
use Rattle.json_fields.specs.Pointers.{key_token}
use Rattle.json_fields.specs.Objects.{Takes, members_of, object_of}

pub data Like {A B : Type 0} (R : A → B → Type 0) : Result A Flaw → Result B Flaw → Type 0 where
  BothRead : (x : A) (y : B) → R x y → Like R (Ok x) (Ok y)
  BothFlawed : (f : Flaw) → Like R (Err f) (Err f)

-- whatever is read
abbrev pub Any : {A B : Type 0} → A → B → Type 0
Any x y = Unit {0}

pub like_same : {A : Type 0} (R : A → A → Type 0) → ((x : A) → R x x) → (r : Result A Flaw) → Like R r r
like_same R same (Ok x) = BothRead x x (same x)
like_same R same (Err f) = BothFlawed f

pub like_any : {A : Type 0} (r : Result A Flaw) → Like {B = A} Any r r
like_any (Ok x) = BothRead x x tt
like_any (Err f) = BothFlawed f

pub like_bind : {A B C D : Type 0} (R : A → B → Type 0) (S : C → D → Type 0) (r : Result A Flaw) (s : Result B Flaw) (k : A → Result C Flaw) (l : B → Result D Flaw)
    → Like R r s → ((x : A) (y : B) → R x y → Like S (k x) (l y)) → Like S (r >>= k) (s >>= l)
like_bind R S _ _ k l (BothRead x y h) next = next x y h
like_bind R S _ _ k l (BothFlawed f) next = BothFlawed f

pub like_then : {A C D : Type 0} (S : C → D → Type 0) (r : Result A Flaw) (k : A → Result C Flaw) (l : A → Result D Flaw) → ((x : A) → Like S (k x) (l x)) → Like S (r >>= k) (r >>= l)
like_then S (Ok x) k l next = next x
like_then S (Err f) k l next = BothFlawed f

pub like_under : {A B : Type 0} (R : A → B → Type 0) (token : List ℕ) (r : Result A Flaw) (s : Result B Flaw) → Like R r s → Like R (under token r) (under token s)
like_under R token _ _ (BothRead x y h) = BothRead x y h
like_under R token _ _ (BothFlawed f) = BothFlawed (record { kind = f.kind; pointer = token ++ f.pointer })

pub like_if : {A B : Type 0} (R : A → B → Type 0) (b : Bool) (r r' : Result A Flaw) (s s' : Result B Flaw) → Like R r s → Like R r' s' → Like R (cond b r r') (cond b s s')
like_if R true r r' s s' h h' = h
like_if R false r r' s s' h h' = h'

pub like_members : {D E : Type 0} (R : D → E → Type 0) (takes : Takes D) (other : Takes E) → ((t : D) (u : E) (k : List ℕ) (d : Data) → R t u → Like R (takes t k d) (other u k d))
    → (ms : Members) (t : D) (u : E) → R t u → Like R (members_of takes t ms) (members_of other u ms)
like_members R takes other each no_members t u h = BothRead t u h
like_members R takes other each (member k d ms) t u h =
    like_bind R R _ _ _ _ (like_under R (key_token k) (takes t k d) (other u k d) (each t u k d h)) (λ x y g. like_members R takes other each ms x y g)

pub like_object : {D E : Type 0} (R : D → E → Type 0) (takes : Takes D) (other : Takes E) → ((t : D) (u : E) (k : List ℕ) (d : Data) → R t u → Like R (takes t k d) (other u k d))
    → (d : Data) (t : D) (u : E) → R t u → Like R (object_of takes t d) (object_of other u d)
like_object R takes other each null t u h = BothFlawed _
like_object R takes other each (boolean b) t u h = BothFlawed _
like_object R takes other each (number n) t u h = BothFlawed _
like_object R takes other each (string s) t u h = BothFlawed _
like_object R takes other each (array ds) t u h = BothFlawed _
like_object R takes other each (object ms) t u h = like_members R takes other each ms t u h
