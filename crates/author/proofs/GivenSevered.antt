-- The severed members of a description are those that it names, each given with its content.
use Rattle.std.proofs.Common.{◌≡◌, ℕ, zero, suc, List, Bool, true, false, cond, Option, Some, None, Ok, ◌⊎◌, inl, inr, refl, ap, sym, subst, ◌∙◌}
use Rattle.std.specs.Prelude.{not, ◌&&◌, codes, option_and_then}
use Rattle.std.specs.Str.{bytes_eq}
use Rattle.std.proofs.lemmas.Slice.Eq.{bytes_eq-Decides}
use Rattle.serde_json.specs.Data.{Data, null, boolean, number, string, array, object, Items, no_items, item}
use Rattle.serde_json.specs.Find.{get_item, as_str}
use Rattle.json_fields.specs.declared.flaw.FlawKind.TheVariants.{Field}
use Rattle.json_fields.specs.Flaws.{flawed, found_or}
use Rattle.json_fields.specs.Pointers.{index_token}
use Rattle.suit_envelope.specs.declared.severed.MemberName.{MemberName}
use Rattle.suit_envelope.specs.declared.severed.MemberName.TheVariants as names
use Rattle.suit_params.specs.declared.digest_kind.DigestKind.{DigestKind}
use Rattle.suit_params.specs.declared.digest_kind.DigestKind.TheVariants.{Sha256}
use Rattle.author.specs.declared.severing.Severed.{Severed}
use Rattle.author.specs.AlgorithmNames.{algorithm_named, algorithm_of}
use Rattle.author.specs.GivenParts.{IsEntry}
use Rattle.author.specs.Severing.{member_named, is_in, kind_in, with_name, one_name, entry_by, entry_of, none_severed, one_severed, severed_from, severed_of}
use Rattle.author.proofs.GivenValues.{same_found}
use Rattle.author.proofs.Keeps.{Holds, WasRead, WasFlawed, holds_bind, holds_under, holds_weaker}

abbrev pub name_text : MemberName → List ℕ
name_text names.PayloadFetch = codes "payload-fetch"
name_text names.Install = codes "install"
name_text names.Text = codes "text"

-- ---- one name

choice_name : (b : Bool) (n m : MemberName) (o : Option MemberName) (P : Type 0) → (b ≡ true → n ≡ m → P) → (o ≡ Some m → P) → cond b (Some n) o ≡ Some m → P
choice_name true n m o P here later e = here refl cc
choice_name false n m o P here later e = later e

named : (text : List ℕ) (n : MemberName) → member_named text ≡ Some n → text ≡ name_text n
named text n e =
    choice_name (bytes_eq text (codes "payload-fetch")) names.PayloadFetch n _ (text ≡ name_text n) (λ b same. (bytes_eq-Decides text (codes "payload-fetch")).0 b ∙ ap name_text same) (λ e1.
    choice_name (bytes_eq text (codes "install")) names.Install n _ (text ≡ name_text n) (λ b same. (bytes_eq-Decides text (codes "install")).0 b ∙ ap name_text same) (λ e2.
    choice_name (bytes_eq text (codes "text")) names.Text n _ (text ≡ name_text n) (λ b same. (bytes_eq-Decides text (codes "text")).0 b ∙ ap name_text same) (λ e3. absurd cc) e2) e1) e

text_named : (n : MemberName) → member_named (name_text n) ≡ Some n
text_named names.PayloadFetch = refl
text_named names.Install = refl
text_named names.Text = refl

same_name : (n m : MemberName) → name_text n ≡ name_text m → n ≡ m
same_name n m e = some_name n m (sym (text_named n) ∙ ap member_named e ∙ text_named m)
  where
    some_name : (a b : MemberName) → Some a ≡ Some b → a ≡ b
    some_name a b e = cc

-- ---- one entry

-- the name of a given member, which is not named yet
record OneName (given s : Severed) (d : Data) (n : MemberName) : Type 0 where
  text : as_str d ≡ Some (name_text n)
  is_given : is_in given n ≡ true
  is_new : is_in s n ≡ false

if_given : (given s : Severed) (d : Data) (n : MemberName) (a b : Bool) → is_in given n ≡ a → is_in s n ≡ b → as_str d ≡ Some (name_text n) → Holds (OneName given s d) (cond (a && not b) (Ok n) (flawed Field))
if_given given s d n true false g h is = WasRead n (record { text = is; is_given = g; is_new = h })
if_given given s d n true true g h is = WasFlawed _
if_given given s d n false b g h is = WasFlawed _

by_text : (o : Option (List ℕ)) → Holds (λ n. o ≡ Some (name_text n)) (found_or Field (option_and_then member_named o))
by_text (Some text) =
    holds_weaker (λ n. member_named text ≡ Some n) (λ n. Some text ≡ Some (name_text n)) _ (same_found Field (member_named text)) (λ n e. ap Some (named text n e))
by_text None = WasFlawed _

one_named : (given s : Severed) (d : Data) → Holds (OneName given s d) (one_name given s d)
one_named given s d =
    holds_bind (λ n. as_str d ≡ Some (name_text n)) (OneName given s d) _ _ (by_text (as_str d)) (λ n is. if_given given s d n (is_in given n) (is_in s n) refl refl is)

-- the name and the hash function stand in the entry
record OneEntry (given s : Severed) (d : Data) (e : MemberName × DigestKind) : Type 0 where
  entry : IsEntry (name_text e.0) e.1 d
  is_given : is_in given e.0 ≡ true
  is_new : is_in s e.0 ≡ false

alone : (d : Data) (n : MemberName) → as_str d ≡ Some (name_text n) → IsEntry (name_text n) Sha256 d
alone (string s) n e = let same : s ≡ name_text n = cc in (same, refl)
alone null n e = absurd cc
alone (boolean b) n e = absurd cc
alone (number x) n e = absurd cc
alone (array ds) n e = absurd cc
alone (object ms) n e = absurd cc

both : (a b : Data) (n : MemberName) (kind : DigestKind) → as_str a ≡ Some (name_text n) → option_and_then algorithm_named (as_str b) ≡ Some kind → IsEntry (name_text n) kind (array (item a (item b no_items)))
both (string s) (string t) n kind e f = let same : s ≡ name_text n = cc in (same, f)
both (string s) null n kind e f = absurd cc
both (string s) (boolean b) n kind e f = absurd cc
both (string s) (number x) n kind e f = absurd cc
both (string s) (array ds) n kind e f = absurd cc
both (string s) (object ms) n kind e f = absurd cc
both null b n kind e f = absurd cc
both (boolean a) b n kind e f = absurd cc
both (number x) b n kind e f = absurd cc
both (array ds) b n kind e f = absurd cc
both (object ms) b n kind e f = absurd cc

name_alone : (given s : Severed) (d : Data) → Holds (OneEntry given s d) (entry_by given s d None)
name_alone given s d =
    holds_bind (OneName given s d) (OneEntry given s d) _ _ (one_named given s d) (λ n is. WasRead (n, Sha256) (record { entry = alone d n is.text; is_given = is.is_given; is_new = is.is_new }))

name_and_kind : (given s : Severed) (a b : Data) → Holds (OneEntry given s (array (item a (item b no_items)))) (entry_by given s (array (item a (item b no_items))) (Some (a, b)))
name_and_kind given s a b =
    let d = array (item a (item b no_items)) in
    holds_bind (OneName given s a) (OneEntry given s d) _ _ (holds_under (OneName given s a) (index_token 0) (one_name given s a) (one_named given s a)) (λ n is.
    holds_bind (λ kind. option_and_then algorithm_named (as_str b) ≡ Some kind) (OneEntry given s d) _ _ (holds_under _ (index_token 1) (algorithm_of b) (same_found Field (option_and_then algorithm_named (as_str b)))) (λ kind f.
    WasRead (n, kind) (record { entry = both a b n kind is.text f; is_given = is.is_given; is_new = is.is_new })))

entry_held : (given s : Severed) (d : Data) → Holds (OneEntry given s d) (entry_of given s d)
entry_held given s (array (item a (item b no_items))) = name_and_kind given s a b
entry_held given s (array no_items) = WasFlawed _
entry_held given s (array (item a no_items)) = WasFlawed _
entry_held given s (array (item a (item b (item c ds)))) = WasFlawed _
entry_held given s (string text) = name_alone given s (string text)
entry_held given s null = WasFlawed _
entry_held given s (boolean b) = WasFlawed _
entry_held given s (number x) = WasFlawed _
entry_held given s (object ms) = WasFlawed _

-- and no others
same_entry : (d : Data) (n m : MemberName) (kind other : DigestKind) → IsEntry (name_text n) kind d → IsEntry (name_text m) other d → (n ≡ m) × (kind ≡ other)
same_entry (string s) n m kind other a b = (same_name n m (sym a.0 ∙ b.0), a.1 ∙ sym b.1)
same_entry (array (item (string s) (item (string t) no_items))) n m kind other a b =
    let same : Some kind ≡ Some other = sym a.1 ∙ b.1 in
    (same_name n m (sym a.0 ∙ b.0), cc)
same_entry (array (item (string s) (item (string t) (item c ds)))) n m kind other a b = absurd a
same_entry (array (item (string s) (item null ds))) n m kind other a b = absurd a
same_entry (array (item (string s) (item (boolean x) ds))) n m kind other a b = absurd a
same_entry (array (item (string s) (item (number x) ds))) n m kind other a b = absurd a
same_entry (array (item (string s) (item (array xs) ds))) n m kind other a b = absurd a
same_entry (array (item (string s) (item (object ms) ds))) n m kind other a b = absurd a
same_entry (array (item (string s) no_items)) n m kind other a b = absurd a
same_entry (array (item null ds)) n m kind other a b = absurd a
same_entry (array (item (boolean x) ds)) n m kind other a b = absurd a
same_entry (array (item (number x) ds)) n m kind other a b = absurd a
same_entry (array (item (array xs) ds)) n m kind other a b = absurd a
same_entry (array (item (object ms) ds)) n m kind other a b = absurd a
same_entry (array no_items) n m kind other a b = absurd a
same_entry null n m kind other a b = absurd a
same_entry (boolean x) n m kind other a b = absurd a
same_entry (number x) n m kind other a b = absurd a
same_entry (object ms) n m kind other a b = absurd a

not_both : {b : Bool} → b ≡ false → b ≡ true → ⊥
not_both f t = let never : true ≡ false = sym t ∙ f in absurd cc

-- ---- one more

-- a member of a set, under this hash function
abbrev pub IsIn : Severed → MemberName → DigestKind → Type 0
IsIn s n kind = (is_in s n ≡ true) × (kind_in s.kinds n ≡ kind)

is_added : (s : Severed) (n : MemberName) (kind : DigestKind) → IsIn (with_name s n kind) n kind
is_added s names.PayloadFetch kind = (refl, refl)
is_added s names.Install kind = (refl, refl)
is_added s names.Text kind = (refl, refl)

-- another one stays as it was
stays : (s : Severed) (n m : MemberName) (kind : DigestKind) → is_in s n ≡ false → is_in s m ≡ true → (is_in (with_name s n kind) m ≡ true) × (kind_in (with_name s n kind).kinds m ≡ kind_in s.kinds m)
stays s names.PayloadFetch names.PayloadFetch kind new h = absurd (not_both new h)
stays s names.PayloadFetch names.Install kind new h = (h, refl)
stays s names.PayloadFetch names.Text kind new h = (h, refl)
stays s names.Install names.PayloadFetch kind new h = (h, refl)
stays s names.Install names.Install kind new h = absurd (not_both new h)
stays s names.Install names.Text kind new h = (h, refl)
stays s names.Text names.PayloadFetch kind new h = (h, refl)
stays s names.Text names.Install kind new h = (h, refl)
stays s names.Text names.Text kind new h = absurd (not_both new h)

added : (s : Severed) (n m : MemberName) (kind other : DigestKind) → IsIn (with_name s n kind) m other → ((n ≡ m) × (kind ≡ other)) ⊎ IsIn s m other
added s names.PayloadFetch names.PayloadFetch kind other h = inl (refl, h.1)
added s names.PayloadFetch names.Install kind other h = inr h
added s names.PayloadFetch names.Text kind other h = inr h
added s names.Install names.PayloadFetch kind other h = inr h
added s names.Install names.Install kind other h = inl (refl, h.1)
added s names.Install names.Text kind other h = inr h
added s names.Text names.PayloadFetch kind other h = inr h
added s names.Text names.Install kind other h = inr h
added s names.Text names.Text kind other h = inl (refl, h.1)

-- the entry of a given member was added
record OneMore (given s : Severed) (d : Data) (r : Severed) : Type 0 where
  name : MemberName
  kind : DigestKind
  entry : IsEntry (name_text name) kind d
  is_given : is_in given name ≡ true
  is_new : is_in s name ≡ false
  is : r ≡ with_name s name kind

one_more : (given s : Severed) (d : Data) → Holds (OneMore given s d) (one_severed given s d)
one_more given s d =
    holds_bind (OneEntry given s d) (OneMore given s d) _ _ (entry_held given s d) (λ e h.
    WasRead _ (record { name = e.0; kind = e.1; entry = h.entry; is_given = h.is_given; is_new = h.is_new; is = refl }))

-- ---- all of them

-- the entry stands among the elements
pub record Listed (ds : Items) (n : MemberName) (kind : DigestKind) : Type 0 where
  pub i : ℕ
  pub entry : Data
  pub at : get_item i ds ≡ Some entry
  pub is : IsEntry (name_text n) kind entry

pub record Added (given s : Severed) (ds : Items) (r : Severed) (n : MemberName) (kind : DigestKind) : Type 0 where
  pub back : IsIn r n kind → IsIn s n kind ⊎ (Listed ds n kind × (is_in given n ≡ true))
  pub stays : IsIn s n kind → IsIn r n kind
  pub listed : Listed ds n kind → IsIn r n kind

behind : (d : Data) (ds : Items) (n : MemberName) (kind : DigestKind) → Listed ds n kind → Listed (item d ds) n kind
behind d ds n kind h = record { i = suc h.i; entry = h.entry; at = h.at; is = h.is }

no_more : (given s : Severed) (n : MemberName) (kind : DigestKind) → Added given s no_items s n kind
no_more given s n kind = record { back = λ h. inl h; stays = λ h. h; listed = λ h. absurd cc }

first_or : (ds : Items) (d entry : Data) (n : MemberName) (kind : DigestKind) (i : ℕ) → get_item i (item d ds) ≡ Some entry → IsEntry (name_text n) kind entry → IsEntry (name_text n) kind d ⊎ Listed ds n kind
first_or ds d entry n kind zero e is = let same : entry ≡ d = cc in inl (subst (λ (x : Data). IsEntry (name_text n) kind x) same is)
first_or ds d entry n kind (suc i) e is = inr (record { i = i; entry = entry; at = e; is = is })

then_more : (given s t r : Severed) (d : Data) (ds : Items) (n : MemberName) (kind : DigestKind) → OneMore given s d t → Added given t ds r n kind → Added given s (item d ds) r n kind
then_more given s t r d ds n kind one more = record {
  back = λ h. elim (more.back h) [
    | inl before ↦ elim (added s one.name n one.kind kind (subst (λ (x : Severed). IsIn x n kind) one.is before)) [
      | inl same ↦ inr (record { i = 0; entry = d; at = refl; is = subst (λ (k : DigestKind). IsEntry (name_text n) k d) same.1 (subst (λ (m : MemberName). IsEntry (name_text m) one.kind d) same.0 one.entry) }, ap (is_in given) (sym same.0) ∙ one.is_given)
      | inr there ↦ inl there
    ]
    | inr later ↦ inr (behind d ds n kind later.0, later.1)
  ];
  stays = λ h.
      let kept = stays s one.name n one.kind one.is_new h.0 in
      more.stays (subst (λ (x : Severed). IsIn x n kind) (sym one.is) (kept.0, kept.1 ∙ h.1));
  listed = λ h. elim (first_or ds d h.entry n kind h.i h.at h.is) [
    | inl here ↦
        let same = same_entry d one.name n one.kind kind one.entry here in
        let new : IsIn (with_name s one.name one.kind) one.name one.kind = is_added s one.name one.kind in
        let there : IsIn (with_name s one.name one.kind) n kind = subst (λ (k : DigestKind). IsIn (with_name s one.name one.kind) n k) same.1 (subst (λ (m : MemberName). IsIn (with_name s one.name one.kind) m one.kind) same.0 new) in
        more.stays (subst (λ (x : Severed). IsIn x n kind) (sym one.is) there)
    | inr later ↦ more.listed later
  ];
}

all_added : (given s : Severed) (i : ℕ) (ds : Items) → Holds (λ r. (n : MemberName) (kind : DigestKind) → Added given s ds r n kind) (severed_from given i s ds)
all_added given s i no_items = WasRead s (no_more given s)
all_added given s i (item d ds) =
    holds_bind (OneMore given s d) (λ r. (n : MemberName) (kind : DigestKind) → Added given s (item d ds) r n kind) _ _ (holds_under (OneMore given s d) (index_token i) (one_severed given s d) (one_more given s d)) (λ t one.
    holds_weaker (λ r. (n : MemberName) (kind : DigestKind) → Added given t ds r n kind) (λ r. (n : MemberName) (kind : DigestKind) → Added given s (item d ds) r n kind) _ (all_added given t (suc i) ds) (λ r more n kind. then_more given s t r d ds n kind one (more n kind)))

-- just the entries that stand in an array
pub record NamedBy (given : Severed) (d : Data) (r : Severed) : Type 0 where
  pub entries : Items
  pub array : d ≡ array entries
  pub added : (n : MemberName) (kind : DigestKind) → Added given none_severed entries r n kind

pub severed_named : (given : Severed) (d : Data) → Holds (NamedBy given d) (severed_of given d)
severed_named given (array ds) =
    holds_weaker (λ r. (n : MemberName) (kind : DigestKind) → Added given none_severed ds r n kind) (NamedBy given (array ds)) _ (all_added given none_severed 0 ds) (λ r h. record { entries = ds; array = refl; added = h })
severed_named given null = WasFlawed _
severed_named given (boolean b) = WasFlawed _
severed_named given (number n) = WasFlawed _
severed_named given (string s) = WasFlawed _
severed_named given (object ms) = WasFlawed _
