-- The manifest of a description is one that the grammar allows, where it fits the types of the code.
use Rattle.std.proofs.Common.{◌≡◌, ◌≤◌, ℕ, suc, Bool, true, false, List, [], ◌∷◌, length, Option, Some, None, Ok, Ordering, Less, Equal, Greater, is_eq, true≢false, refl, sym, ap, subst, ◌∙◌, arith}
use Rattle.std.specs.Prelude.{IfSome, IfNone, codes, nat_le, is_some, unwrap_or}
use Rattle.std.specs.List.{AllByRecursion}
use Rattle.std.specs.Str.{bytes_eq}
use Rattle.std.specs.Ordering.{nat_cmp, match_ordering}
use Rattle.std.specs.Cmp.Lexicographic.{slice_cmp}
use Rattle.std.proofs.lemmas.Bool.Decides.{nat_tests}
use Rattle.std.proofs.lemmas.Map.Text.{is_eq-slice_cmp}
use Rattle.std.proofs.lemmas.Slice.Eq.{bytes_eq-Decides}
use Rattle.det_cbor.specs.DataItem.{spell}
use Rattle.det_cbor.specs.HeadReading.{◌>>=◌}
use Rattle.det_cbor.specs.ItemSplitting.{ItemSplitting}
use Rattle.serde_json.specs.Data.{Data, null, boolean, number, string, array, object, Items, no_items, item, Members, no_members, member}
use Rattle.serde_json.specs.Events.{items_len}
use Rattle.serde_json.specs.Find.{get_member, as_object}
use Rattle.json_fields.specs.Arrays.{each_from, array_of}
use Rattle.json_fields.specs.Objects.{members_of, required}
use Rattle.json_fields.specs.Pointers.{key_token, index_token}
use Rattle.suit_params.specs.declared.digest_kind.DigestKind.{DigestKind}
use Rattle.suit_commands.specs.Tree.{SequenceTree}
use Rattle.suit_commands.specs.Allowed.{IsSequence, levels_allowed}
use Rattle.suit_commands.specs.SequenceWriting.{StepsFit}
use Rattle.suit_manifest.specs.declared.manifest.Member.{Member}
use Rattle.suit_manifest.specs.declared.manifest.Member.TheVariants as members
use Rattle.suit_manifest.specs.declared.manifest.TextMember.{TextMember}
use Rattle.suit_manifest.specs.declared.manifest.TextMember.TheVariants as texts
use Rattle.suit_manifest.specs.Components.{IsShort, identifier_item}
use Rattle.suit_manifest.specs.ManifestWriting.{HeldFits, SeveredFits, TextFits, ManifestFits, IsHeldSequence, IsSevered, IsTextMember, IsGrammatical}
use Rattle.author.specs.declared.fields.Described.{Described}
use Rattle.author.specs.declared.fields.Fields.{Fields}
use Rattle.author.specs.Scope.{Scope}
use Rattle.author.specs.Elements.{items_in}
use Rattle.author.specs.Identifiers.{identifier_of, identifiers_of}
use Rattle.author.specs.MadeMembers.{IsAllowedMember}
use Rattle.author.specs.Making.{apart_member, apart_text, made_manifest}
use Rattle.author.specs.Members.{is_one_item, text_member_of, described_member}
use Rattle.author.specs.Descriptions.{capped_count, listed, no_fields, scope_of, takes_field, whole, described}
use Rattle.author.specs.Faults.{AreFewAndApart}
use Rattle.author.proofs.Counts.{capped_small}
use Rattle.author.proofs.Grammar.{sequences}
use Rattle.author.proofs.Keeps.{Holds, WasRead, WasFlawed, held, holds_bind, holds_then, holds_under, holds_if, holds_choice, holds_required}
use Rattle.author.proofs.OneItem.{one_item_spelled}

abbrev Files : Type 0
Files = List (List ℕ × List ℕ)

-- ---- identifiers

abbrev AreIdentifiers : Data → List (List (List ℕ)) → Type 0
AreIdentifiers d ids = (1 ≤ length ids) × AllByRecursion IsShort ids × (length ids ≡ items_len (items_in d))

at_most : (i n : ℕ) → nat_le i n ≡ true → i ≤ n
at_most i n e = grind (arith, nat_tests)

identifier_holds : (d : Data) → Holds IsShort (identifier_of d)
identifier_holds d = holds_then IsShort _ _ (λ id. holds_if IsShort (nat_le (length (spell (identifier_item id))) 64) id _ (at_most _ 64))

abbrev AreShort : Items → List (List (List ℕ)) → Type 0
AreShort ds ids = AllByRecursion IsShort ids × (length ids ≡ items_len ds)

each_holds : (i : ℕ) (ds : Items) → Holds (AreShort ds) (each_from identifier_of i ds)
each_holds i no_items = WasRead [] (tt, refl)
each_holds i (item d ds) =
    holds_bind IsShort (AreShort (item d ds)) _ _ (holds_under IsShort (index_token i) (identifier_of d) (identifier_holds d)) (λ id h.
    holds_bind (AreShort ds) (AreShort (item d ds)) _ _ (each_holds (suc i) ds) (λ ids hs. WasRead (id ∷ ids) ((h, hs.0), ap suc hs.1)))

array_holds : (d : Data) → Holds (AreShort (items_in d)) (array_of identifier_of d)
array_holds null = WasFlawed _
array_holds (boolean b) = WasFlawed _
array_holds (number n) = WasFlawed _
array_holds (string s) = WasFlawed _
array_holds (object ms) = WasFlawed _
array_holds (array ds) = each_holds 0 ds

identifiers_hold : (d : Data) → Holds (AreIdentifiers d) (identifiers_of d)
identifiers_hold d =
    holds_bind (AreShort (items_in d)) (AreIdentifiers d) _ _ (array_holds d) (λ ids h.
    holds_if (AreIdentifiers d) (nat_le 1 (length ids)) ids _ (λ e. (at_most 1 (length ids) e, h.0, h.1)))

-- ---- members, for so many components

abbrev Sequence : Bool → ℕ → SequenceTree → Type 0
Sequence shared count s = StepsFit s → IsSequence shared count levels_allowed s

abbrev IsRead : ℕ → Member → Type 0
IsRead count members.Empty = Unit {0}
IsRead count (members.Here s) = Sequence false count s
IsRead count (members.Apart digest) = Unit {0}

abbrev IsReadText : TextMember → Type 0
IsReadText texts.Empty = Unit {0}
IsReadText (texts.Here content) = is_one_item content ≡ true
IsReadText (texts.Apart digest) = Unit {0}

member_holds : (scope : Scope) (d : Data) → scope.shared ≡ false → Holds (IsRead scope.count) (described_member scope d)
member_holds scope d e =
    holds_choice (IsRead scope.count) (is_some (as_object d)) _ _ (λ k. holds_then (IsRead scope.count) _ _ (λ digest. WasRead _ tt))
    (λ k. holds_bind (Sequence scope.shared scope.count) (IsRead scope.count) _ _ (sequences scope levels_allowed d) (λ s h. WasRead (members.Here s) (subst (λ (b : Bool). Sequence b scope.count s) e h)))

text_holds : (d : Data) → Holds IsReadText (text_member_of d)
text_holds d =
    holds_choice IsReadText (is_some (as_object d)) _ _ (λ k. holds_then IsReadText _ _ (λ digest. WasRead _ tt))
    (λ k. holds_then IsReadText _ _ (λ bytes. holds_if IsReadText (is_one_item bytes) (texts.Here bytes) _ (λ e. e)))

-- ---- the fields that were read

abbrev AreListed : ℕ → List (List (List ℕ)) → Type 0
AreListed count ids = (1 ≤ length ids) × AllByRecursion IsShort ids × (capped_count (length ids) ≡ count)

abbrev AreRead : ℕ → Fields → Type 0
AreRead count t =
    IfSome t.components (AreListed count) × IfSome t.shared (Sequence true count) × IfSome t.validate (Sequence false count) × IfSome t.load (Sequence false count)
    × IfSome t.invoke (Sequence false count) × IsRead count t.payload_fetch × IsRead count t.install × IsReadText t.text

abbrev Kept : Fields → Type 0
Kept t = AreRead t.source.scope.count t

-- until components are read, they are those of the members that are left
abbrev Awaits : Members → Fields → Type 0
Awaits ms t = IfNone t.components (t.source.scope.count ≡ listed (get_member (codes "components") ms))

abbrev KeptWith : Members → Fields → Type 0
KeptWith ms t = Kept t × Awaits ms t

-- ---- the member under the key `components`

pass_by : (o : Ordering) (a b : Option Data) → is_eq o ≡ false → match_ordering o a b a ≡ a
pass_by Less a b e = refl
pass_by Equal a b e = absurd (true≢false e)
pass_by Greater a b e = refl

take_it : (o : Ordering) (a b : Option Data) → is_eq o ≡ true → match_ordering o a b a ≡ b
take_it Less a b e = absurd (true≢false (sym e))
take_it Equal a b e = refl
take_it Greater a b e = absurd (true≢false (sym e))

found_here : (k : List ℕ) (d : Data) (ms : Members) → bytes_eq (codes "components") k ≡ true → get_member (codes "components") (member k d ms) ≡ Some d
found_here k d ms e = take_it (slice_cmp nat_cmp (codes "components") k) (get_member (codes "components") ms) (Some d) (is_eq-slice_cmp (codes "components") k ∙ e)

found_later : (k : List ℕ) (d : Data) (ms : Members) → bytes_eq (codes "components") k ≡ false → get_member (codes "components") (member k d ms) ≡ get_member (codes "components") ms
found_later k d ms e = pass_by (slice_cmp nat_cmp (codes "components") k) (get_member (codes "components") ms) (Some d) (is_eq-slice_cmp (codes "components") k ∙ e)

-- ---- one more member

-- any but `components`
other_holds : (t : Fields) (k : List ℕ) (d : Data) (ms : Members) → bytes_eq k (codes "components") ≡ false → Kept t → Awaits ms t → Holds (KeptWith ms) (takes_field t k d)
other_holds t k d ms other h a =
    holds_choice (KeptWith ms) (bytes_eq k (codes "sequence")) _ _ (λ _. holds_then (KeptWith ms) _ _ (λ x. WasRead _ (h, a))) (λ _.
    holds_choice (KeptWith ms) (bytes_eq k (codes "components")) _ _ (λ is. absurd (true≢false (sym is ∙ other))) (λ _.
    holds_choice (KeptWith ms) (bytes_eq k (codes "reference")) _ _ (λ _. holds_then (KeptWith ms) _ _ (λ x. WasRead _ (h, a))) (λ _.
    holds_choice (KeptWith ms) (bytes_eq k (codes "shared")) _ _ (λ _. holds_bind (Sequence true t.source.scope.count) (KeptWith ms) _ _ (sequences (scope_of t true) levels_allowed d) (λ s g. WasRead _ ((h.0, g, h.2, h.3, h.4, h.5, h.6, h.7), a))) (λ _.
    holds_choice (KeptWith ms) (bytes_eq k (codes "validate")) _ _ (λ _. holds_bind (Sequence false t.source.scope.count) (KeptWith ms) _ _ (sequences (scope_of t false) levels_allowed d) (λ s g. WasRead _ ((h.0, h.1, g, h.3, h.4, h.5, h.6, h.7), a))) (λ _.
    holds_choice (KeptWith ms) (bytes_eq k (codes "load")) _ _ (λ _. holds_bind (Sequence false t.source.scope.count) (KeptWith ms) _ _ (sequences (scope_of t false) levels_allowed d) (λ s g. WasRead _ ((h.0, h.1, h.2, g, h.4, h.5, h.6, h.7), a))) (λ _.
    holds_choice (KeptWith ms) (bytes_eq k (codes "invoke")) _ _ (λ _. holds_bind (Sequence false t.source.scope.count) (KeptWith ms) _ _ (sequences (scope_of t false) levels_allowed d) (λ s g. WasRead _ ((h.0, h.1, h.2, h.3, g, h.5, h.6, h.7), a))) (λ _.
    holds_choice (KeptWith ms) (bytes_eq k (codes "payload-fetch")) _ _ (λ _. holds_bind (IsRead t.source.scope.count) (KeptWith ms) _ _ (member_holds (scope_of t false) d refl) (λ m g. WasRead _ ((h.0, h.1, h.2, h.3, h.4, g, h.6, h.7), a))) (λ _.
    holds_choice (KeptWith ms) (bytes_eq k (codes "install")) _ _ (λ _. holds_bind (IsRead t.source.scope.count) (KeptWith ms) _ _ (member_holds (scope_of t false) d refl) (λ m g. WasRead _ ((h.0, h.1, h.2, h.3, h.4, h.5, g, h.7), a))) (λ _.
    holds_choice (KeptWith ms) (bytes_eq k (codes "text")) _ _ (λ _. holds_bind IsReadText (KeptWith ms) _ _ (text_holds d) (λ m g. WasRead _ ((h.0, h.1, h.2, h.3, h.4, h.5, h.6, g), a))) (λ _.
    holds_choice (KeptWith ms) (bytes_eq k (codes "sever")) _ _ (λ _. holds_then (KeptWith ms) _ _ (λ x. WasRead _ (h, a))) (λ _.
    holds_choice (KeptWith ms) (bytes_eq k (codes "payloads")) _ _ (λ _. holds_then (KeptWith ms) _ _ (λ x. WasRead _ (h, a))) (λ _.
    holds_choice (KeptWith ms) (bytes_eq k (codes "kid")) _ _ (λ _. holds_then (KeptWith ms) _ _ (λ x. WasRead _ (h, a))) (λ _.
    holds_choice (KeptWith ms) (bytes_eq k (codes "mac")) _ _ (λ _. holds_then (KeptWith ms) _ _ (λ x. WasRead _ (h, a))) (λ _.
    holds_choice (KeptWith ms) (bytes_eq k (codes "algorithm")) _ _ (λ _. holds_then (KeptWith ms) _ _ (λ x. WasRead _ (h, a))) (λ _. WasFlawed _)))))))))))))))

first_read : (count : ℕ) (o : Option (List (List (List ℕ)))) (d : Data) (found : Option Data) (ids : List (List (List ℕ))) → IfSome o (AreListed count) → IfNone o (count ≡ listed found)
    → found ≡ Some d → AreIdentifiers d ids → AreListed count (unwrap_or o ids)
first_read count (Some old) d found ids h a is g = h
first_read count None d found ids h a is g = (g.0, g.1, ap capped_count g.2 ∙ sym (a ∙ ap listed is))

components_hold : (t : Fields) (d : Data) (ms : Members) → KeptWith (member (codes "components") d ms) t → Holds (KeptWith ms) (takes_field t (codes "components") d)
components_hold t d ms h =
    holds_bind (AreIdentifiers d) (KeptWith ms) _ _ (identifiers_hold d) (λ ids g.
    let first = first_read t.source.scope.count t.components d (get_member (codes "components") (member (codes "components") d ms)) ids h.0.0 h.1 (found_here (codes "components") d ms refl) g in
    WasRead _ ((first, h.0.1, h.0.2, h.0.3, h.0.4, h.0.5, h.0.6, h.0.7), tt))

passed : (o : Option (List (List (List ℕ)))) (count : ℕ) (k : List ℕ) (d : Data) (ms : Members) → bytes_eq (codes "components") k ≡ false
    → IfNone o (count ≡ listed (get_member (codes "components") (member k d ms))) → IfNone o (count ≡ listed (get_member (codes "components") ms))
passed None count k d ms e h = h ∙ ap listed (found_later k d ms e)
passed (Some ids) count k d ms e h = tt

turned : (k : List ℕ) → bytes_eq (codes "components") k ≡ false → bytes_eq k (codes "components") ≡ false
turned k e = by_test (bytes_eq k (codes "components")) refl
  where
    by_test : (b : Bool) → bytes_eq k (codes "components") ≡ b → b ≡ false
    by_test false is = refl
    by_test true is = absurd (true≢false (sym ((bytes_eq-Decides (codes "components") k).1 (sym ((bytes_eq-Decides k (codes "components")).0 is))) ∙ e))

step_holds : (b : Bool) (t : Fields) (k : List ℕ) (d : Data) (ms : Members) → bytes_eq (codes "components") k ≡ b → KeptWith (member k d ms) t → Holds (KeptWith ms) (takes_field t k d)
step_holds true t k d ms e h =
    let is : codes "components" ≡ k = (bytes_eq-Decides (codes "components") k).0 e in
    subst (λ (l : List ℕ). Holds (KeptWith ms) (takes_field t l d)) is (components_hold t d ms (subst (λ (l : List ℕ). KeptWith (member l d ms) t) (sym is) h))
step_holds false t k d ms e h = other_holds t k d ms (turned k e) h.0 (passed t.components t.source.scope.count k d ms e h.1)

walk : (ms : Members) (t : Fields) → KeptWith ms t → Holds Kept (members_of takes_field t ms)
walk no_members t h = WasRead t h.0
walk (member k d ms) t h =
    holds_bind (KeptWith ms) Kept _ _ (holds_under (KeptWith ms) (key_token k) (takes_field t k d) (step_holds (bytes_eq (codes "components") k) t k d ms refl h)) (λ u g. walk ms u g)

-- ---- the whole description

abbrev Stands : Described → Type 0
Stands p =
    let m = p.manifest in
    let count = capped_count (length m.components) in
    (1 ≤ length m.components) × AllByRecursion IsShort m.components × IfSome m.shared (Sequence true count) × IfSome m.validate (Sequence false count) × IfSome m.load (Sequence false count)
    × IfSome m.invoke (Sequence false count) × IsRead count m.payload_fetch × IsRead count m.install × IsReadText m.text

stands : (t : Fields) (ids : List (List (List ℕ))) (n : ℕ) → Kept t → t.components ≡ Some ids → Stands (whole t ids n)
stands t ids n h is =
    let c = subst (λ (o : Option (List (List (List ℕ)))). IfSome o (AreListed t.source.scope.count)) is h.0 in
    let r = subst (λ (count : ℕ). AreRead count t) (sym c.2) h in
    (c.0, c.1, r.1, r.2, r.3, r.4, r.5, r.6, r.7)

finish : (t : Fields) → Kept t → Holds Stands (required (codes "components") t.components >>= λ ids. required (codes "sequence") t.sequence >>= λ n. Ok (whole t ids n))
finish t h =
    holds_bind (λ ids. t.components ≡ Some ids) Stands _ _ (holds_required (codes "components") t.components) (λ ids is.
    holds_then Stands (required (codes "sequence") t.sequence) _ (λ n. WasRead (whole t ids n) (stands t ids n h is)))

described_stands : (files : Files) (d : Data) → Holds Stands (described files d)
described_stands files null = WasFlawed _
described_stands files (boolean b) = WasFlawed _
described_stands files (number n) = WasFlawed _
described_stands files (string s) = WasFlawed _
described_stands files (array ds) = WasFlawed _
described_stands files (object ms) =
    holds_bind Kept Stands _ _ (walk ms (no_fields files (object ms)) ((tt, tt, tt, tt, tt, tt, tt, tt), refl)) (λ t h. finish t h)

-- ---- the manifest that is made

held_holds : (shared : Bool) (count : ℕ) (o : Option SequenceTree) → IfSome o (Sequence shared count) → IfSome o HeldFits → IfSome o (IsHeldSequence shared count)
held_holds shared count None h fits = tt
held_holds shared count (Some s) h fits = h fits.2.1

severed_holds : (count : ℕ) (b : Bool) (kind : DigestKind) (m : Member) → IsRead count m → SeveredFits (apart_member b kind m) → IsSevered count (apart_member b kind m)
severed_holds count true kind members.Empty h fits = tt
severed_holds count true kind (members.Here s) h fits = tt
severed_holds count true kind (members.Apart digest) h fits = tt
severed_holds count false kind members.Empty h fits = tt
severed_holds count false kind (members.Here s) h fits = h fits.2.1
severed_holds count false kind (members.Apart digest) h fits = tt

text_is : ItemSplitting → (b : Bool) (kind : DigestKind) (t : TextMember) → IsReadText t → TextFits (apart_text b kind t) → IsTextMember (apart_text b kind t)
text_is law true kind texts.Empty h fits = tt
text_is law true kind (texts.Here content) h fits = tt
text_is law true kind (texts.Apart digest) h fits = tt
text_is law false kind texts.Empty h fits = tt
text_is law false kind (texts.Here content) h fits = one_item_spelled law content fits.1 h
text_is law false kind (texts.Apart digest) h fits = tt

pub grammatical : ItemSplitting → (d : Data) (files : Files) (p : Described) → AreFewAndApart p.manifest.components → described files d ≡ Ok p → ManifestFits (made_manifest p) → IsGrammatical (made_manifest p)
grammatical law d files p components is fits =
    let h : Stands p = held Stands (described files d) p (described_stands files d) is in
    let few : length p.manifest.components ≤ 8 = components.few in
    let counted : capped_count (length p.manifest.components) ≡ length p.manifest.components = capped_small (length p.manifest.components) (omega (arith, few)) in
    let n : ℕ = length p.manifest.components in
    record {
      some = h.0;
      few = components.few;
      short = h.1;
      apart = components.apart;
      shared = held_holds true n p.manifest.shared (subst (λ (k : ℕ). IfSome p.manifest.shared (Sequence true k)) counted h.2) fits.common.shared;
      validate = held_holds false n p.manifest.validate (subst (λ (k : ℕ). IfSome p.manifest.validate (Sequence false k)) counted h.3) fits.validate;
      load = held_holds false n p.manifest.load (subst (λ (k : ℕ). IfSome p.manifest.load (Sequence false k)) counted h.4) fits.load;
      invoke = held_holds false n p.manifest.invoke (subst (λ (k : ℕ). IfSome p.manifest.invoke (Sequence false k)) counted h.5) fits.invoke;
      payload_fetch = severed_holds n p.severed.payload_fetch p.severed.kinds.payload_fetch p.manifest.payload_fetch (subst (λ (k : ℕ). IsRead k p.manifest.payload_fetch) counted h.6) fits.payload_fetch;
      install = severed_holds n p.severed.install p.severed.kinds.install p.manifest.install (subst (λ (k : ℕ). IsRead k p.manifest.install) counted h.7) fits.install;
      text = text_is law p.severed.text p.severed.kinds.text p.manifest.text h.8 fits.text;
    }

-- ---- the members that may be severed

member_allowed : (count : ℕ) (m : Member) → IsRead count m → IsAllowedMember count m
member_allowed count members.Empty h = tt
member_allowed count (members.Here s) h = λ fits. h fits.1
member_allowed count (members.Apart digest) h = tt

pub members_allowed : (d : Data) (files : Files) (p : Described) → AreFewAndApart p.manifest.components → described files d ≡ Ok p
    → IsAllowedMember (length p.manifest.components) p.manifest.payload_fetch × IsAllowedMember (length p.manifest.components) p.manifest.install
members_allowed d files p components is =
    let h : Stands p = held Stands (described files d) p (described_stands files d) is in
    let few : length p.manifest.components ≤ 8 = components.few in
    let counted : capped_count (length p.manifest.components) ≡ length p.manifest.components = capped_small (length p.manifest.components) (omega (arith, few)) in (
      member_allowed (length p.manifest.components) p.manifest.payload_fetch (subst (λ (k : ℕ). IsRead k p.manifest.payload_fetch) counted h.6),
      member_allowed (length p.manifest.components) p.manifest.install (subst (λ (k : ℕ). IsRead k p.manifest.install) counted h.7),
    )
