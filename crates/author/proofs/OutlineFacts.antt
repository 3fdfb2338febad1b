-- A manifest is spelled by at least the bytes of the files that stand in it as contents.
use Rattle.std.proofs.Common.{◌≡◌, ◌≤◌, ℕ, ◌+◌, Bool, true, false, List, [], ◌∷◌, ◌++◌, length, Option, Some, None, Result, Ok, Err, refl, sym, ap, subst, arith}
use Rattle.std.specs.Prelude.{codes, is_some}
use Rattle.std.specs.Str.{bytes_eq}
use Rattle.std.proofs.lemmas.List.{length-append}
use Rattle.std.proofs.lemmas.Slice.Eq.{bytes_eq-Decides}
use Rattle.det_cbor.specs.DataItem.{DataItem, UnsignedInteger, ByteString, MapOf, DataPairs, pair_count, spell, spell_pairs}
use Rattle.det_cbor.specs.HeadReading.{◌>>=◌}
use Rattle.det_cbor.specs.Heads.{head_bytes}
use Rattle.serde_json.specs.Data.{Data, null, boolean, number, string, array, object, Members, no_members, member}
use Rattle.serde_json.specs.Find.{as_object}
use Rattle.json_fields.specs.declared.flaw.Flaw.{Flaw}
use Rattle.json_fields.specs.Objects.{members_of, required}
use Rattle.json_fields.specs.Pointers.{key_token}
use Rattle.suit_params.specs.declared.digest_kind.DigestKind.{DigestKind}
use Rattle.suit_commands.specs.Allowed.{levels_allowed}
use Rattle.suit_commands.specs.SequenceMaking.{sequence_item, step_items}
use Rattle.suit_commands.specs.Tree.{SequenceTree}
use Rattle.suit_manifest.specs.ManifestMaking.{pair_then, row_pairs, held_item, severed_item, common_rows, common_item, manifest_rows, manifest_item, Row}
use Rattle.suit_manifest.specs.declared.manifest.Manifest.{Manifest}
use Rattle.suit_manifest.specs.declared.manifest.Member.{Member}
use Rattle.suit_manifest.specs.declared.manifest.Member.TheVariants as members
use Rattle.author.specs.declared.fields.Described.{Described}
use Rattle.author.specs.declared.fields.Fields.{Fields}
use Rattle.author.specs.Contents.{sequence_length}
use Rattle.author.specs.Descriptions.{no_fields, scope_of, field_sequence, takes_field, whole, described}
use Rattle.author.specs.Making.{apart_member, made_manifest}
use Rattle.author.specs.Members.{described_member}
use Rattle.author.specs.Outlines.{Outline, no_values, noted, noted_all, outline_of, severed_by, held_length, member_length, manifest_length}
use Rattle.author.specs.Scope.{Scope}
use Rattle.author.specs.Severing.{given_in, severed_of}
use Rattle.author.proofs.ContentFacts.{Files, size, sequences, string_longer, array_longer}
use Rattle.author.proofs.Keeps.{Holds, WasRead, WasFlawed, held, holds_bind, holds_then, holds_under, holds_choice}

-- ---- members

abbrev tree_size : Option SequenceTree → ℕ
tree_size None = 0
tree_size (Some s) = size s

abbrev pub member_size : Member → ℕ
member_size members.Empty = 0
member_size (members.Here s) = size s
member_size (members.Apart digest) = 0

object_length : (files : Files) (d : Data) → is_some (as_object d) ≡ true → sequence_length files levels_allowed d ≡ 0
object_length files (array ds) e = absurd cc
object_length files _ e = refl

member_holds : (scope : Scope) (d : Data) → Holds (λ m. sequence_length scope.files levels_allowed d ≤ member_size m) (described_member scope d)
member_holds scope d =
    holds_choice (λ m. sequence_length scope.files levels_allowed d ≤ member_size m) (is_some (as_object d)) _ _
    (λ e. holds_then (λ m. sequence_length scope.files levels_allowed d ≤ member_size m) _ _ (λ digest. WasRead _ (omega (arith, object_length scope.files d e))))
    (λ e. holds_bind (λ s. sequence_length scope.files levels_allowed d ≤ size s) (λ m. sequence_length scope.files levels_allowed d ≤ member_size m) _ _ (sequences scope levels_allowed d) (λ s h. WasRead (members.Here s) h))

-- ---- the fields that were read

same_by : {A : Type 0} (r : Result A Flaw) → Holds (λ x. r ≡ Ok x) r
same_by (Ok x) = WasRead x refl
same_by (Err f) = WasFlawed f

module _ (files : Files) (d : Data) where
  abbrev Follows : Outline → Fields → Type 0
  Follows o t =
      (t.source ≡ (no_fields files d).source) × (held_length files o.shared ≤ tree_size t.shared) × (held_length files o.validate ≤ tree_size t.validate) × (held_length files o.load ≤ tree_size t.load)
      × (held_length files o.invoke ≤ tree_size t.invoke) × (held_length files o.payload_fetch ≤ member_size t.payload_fetch) × (held_length files o.install ≤ member_size t.install)
      × (severed_by (given_in d) o.sever ≡ Ok t.severed)

  -- at the key that stands there
  at_key : (o : Outline) (k key : List ℕ) (x : Data) (r : Result Fields Flaw) → bytes_eq k key ≡ true → Holds (Follows (noted o key x)) r → Holds (Follows (noted o k x)) r
  at_key o k key x r e h = subst (λ (l : List ℕ). Holds (Follows (noted o l x)) r) (sym ((bytes_eq-Decides k key).0 e)) h

  in_scope : (t : Fields) (shared : Bool) → t.source ≡ (no_fields files d).source → files ≡ (scope_of t shared).files
  in_scope t shared e = sym (ap (λ s. s.scope.files) e)

  read_sequence : (t : Fields) (shared : Bool) (x : Data) → t.source ≡ (no_fields files d).source → Holds (λ s. sequence_length files levels_allowed x ≤ size s) (field_sequence t shared x)
  read_sequence t shared x e =
      subst (λ (f : Files). Holds (λ s. sequence_length f levels_allowed x ≤ size s) (field_sequence t shared x)) (sym (in_scope t shared e)) (sequences (scope_of t shared) levels_allowed x)

  read_member : (t : Fields) (x : Data) → t.source ≡ (no_fields files d).source → Holds (λ m. sequence_length files levels_allowed x ≤ member_size m) (described_member (scope_of t false) x)
  read_member t x e =
      subst (λ (f : Files). Holds (λ m. sequence_length f levels_allowed x ≤ member_size m) (described_member (scope_of t false) x)) (sym (in_scope t false e)) (member_holds (scope_of t false) x)

  read_severed : (t : Fields) (x : Data) → t.source ≡ (no_fields files d).source → Holds (λ s. severed_of (given_in d) x ≡ Ok s) (severed_of t.source.given x)
  read_severed t x e = rw e (same_by (severed_of (given_in d) x))

  follow : (o : Outline) (t : Fields) (k : List ℕ) (x : Data) → Follows o t → Holds (Follows (noted o k x)) (takes_field t k x)
  follow o t k x h =
      holds_choice (Follows (noted o k x)) (bytes_eq k (codes "sequence")) _ _ (λ e. at_key o k (codes "sequence") x _ e (holds_then (Follows o) _ _ (λ y. WasRead _ h))) (λ _.
      holds_choice (Follows (noted o k x)) (bytes_eq k (codes "components")) _ _ (λ e. at_key o k (codes "components") x _ e (holds_then (Follows o) _ _ (λ y. WasRead _ h))) (λ _.
      holds_choice (Follows (noted o k x)) (bytes_eq k (codes "reference")) _ _ (λ e. at_key o k (codes "reference") x _ e (holds_then (Follows o) _ _ (λ y. WasRead _ h))) (λ _.
      holds_choice (Follows (noted o k x)) (bytes_eq k (codes "shared")) _ _ (λ e. at_key o k (codes "shared") x _ e (holds_bind (λ s. sequence_length files levels_allowed x ≤ size s) (Follows (noted o (codes "shared") x)) _ _ (read_sequence t true x h.0) (λ s g. WasRead _ (h.0, g, h.2, h.3, h.4, h.5, h.6, h.7)))) (λ _.
      holds_choice (Follows (noted o k x)) (bytes_eq k (codes "validate")) _ _ (λ e. at_key o k (codes "validate") x _ e (holds_bind (λ s. sequence_length files levels_allowed x ≤ size s) (Follows (noted o (codes "validate") x)) _ _ (read_sequence t false x h.0) (λ s g. WasRead _ (h.0, h.1, g, h.3, h.4, h.5, h.6, h.7)))) (λ _.
      holds_choice (Follows (noted o k x)) (bytes_eq k (codes "load")) _ _ (λ e. at_key o k (codes "load") x _ e (holds_bind (λ s. sequence_length files levels_allowed x ≤ size s) (Follows (noted o (codes "load") x)) _ _ (read_sequence t false x h.0) (λ s g. WasRead _ (h.0, h.1, h.2, g, h.4, h.5, h.6, h.7)))) (λ _.
      holds_choice (Follows (noted o k x)) (bytes_eq k (codes "invoke")) _ _ (λ e. at_key o k (codes "invoke") x _ e (holds_bind (λ s. sequence_length files levels_allowed x ≤ size s) (Follows (noted o (codes "invoke") x)) _ _ (read_sequence t false x h.0) (λ s g. WasRead _ (h.0, h.1, h.2, h.3, g, h.5, h.6, h.7)))) (λ _.
      holds_choice (Follows (noted o k x)) (bytes_eq k (codes "payload-fetch")) _ _ (λ e. at_key o k (codes "payload-fetch") x _ e (holds_bind (λ m. sequence_length files levels_allowed x ≤ member_size m) (Follows (noted o (codes "payload-fetch") x)) _ _ (read_member t x h.0) (λ m g. WasRead _ (h.0, h.1, h.2, h.3, h.4, g, h.6, h.7)))) (λ _.
      holds_choice (Follows (noted o k x)) (bytes_eq k (codes "install")) _ _ (λ e. at_key o k (codes "install") x _ e (holds_bind (λ m. sequence_length files levels_allowed x ≤ member_size m) (Follows (noted o (codes "install") x)) _ _ (read_member t x h.0) (λ m g. WasRead _ (h.0, h.1, h.2, h.3, h.4, h.5, g, h.7)))) (λ _.
      holds_choice (Follows (noted o k x)) (bytes_eq k (codes "text")) _ _ (λ e. at_key o k (codes "text") x _ e (holds_then (Follows o) _ _ (λ y. WasRead _ h))) (λ _.
      holds_choice (Follows (noted o k x)) (bytes_eq k (codes "sever")) _ _ (λ e. at_key o k (codes "sever") x _ e (holds_bind (λ s. severed_of (given_in d) x ≡ Ok s) (Follows (noted o (codes "sever") x)) _ _ (read_severed t x h.0) (λ s g. WasRead _ (h.0, h.1, h.2, h.3, h.4, h.5, h.6, g)))) (λ _.
      holds_choice (Follows (noted o k x)) (bytes_eq k (codes "payloads")) _ _ (λ e. at_key o k (codes "payloads") x _ e (holds_then (Follows o) _ _ (λ y. WasRead _ h))) (λ _.
      holds_choice (Follows (noted o k x)) (bytes_eq k (codes "kid")) _ _ (λ e. at_key o k (codes "kid") x _ e (holds_then (Follows o) _ _ (λ y. WasRead _ h))) (λ _.
      holds_choice (Follows (noted o k x)) (bytes_eq k (codes "mac")) _ _ (λ e. at_key o k (codes "mac") x _ e (holds_then (Follows o) _ _ (λ y. WasRead _ h))) (λ _.
      holds_choice (Follows (noted o k x)) (bytes_eq k (codes "algorithm")) _ _ (λ e. at_key o k (codes "algorithm") x _ e (holds_then (Follows o) _ _ (λ y. WasRead _ h))) (λ _. WasFlawed _)))))))))))))))

  walk : (ms : Members) (o : Outline) (t : Fields) → Follows o t → Holds (Follows (noted_all o ms)) (members_of takes_field t ms)
  walk no_members o t h = WasRead t h
  walk (member k x ms) o t h =
      holds_bind (Follows (noted o k x)) (Follows (noted_all o (member k x ms))) _ _ (holds_under (Follows (noted o k x)) (key_token k) (takes_field t k x) (follow o t k x h)) (λ u g. walk ms (noted o k x) u g)

  -- ---- the whole description

  pub record Stands (o : Outline) (p : Described) : Type 0 where
    pub shared : held_length files o.shared ≤ tree_size p.manifest.shared
    pub validate : held_length files o.validate ≤ tree_size p.manifest.validate
    pub load : held_length files o.load ≤ tree_size p.manifest.load
    pub invoke : held_length files o.invoke ≤ tree_size p.manifest.invoke
    pub payload_fetch : held_length files o.payload_fetch ≤ member_size p.manifest.payload_fetch
    pub install : held_length files o.install ≤ member_size p.manifest.install
    pub severed : severed_by (given_in d) o.sever ≡ Ok p.severed

  finish : (o : Outline) (t : Fields) → Follows o t → Holds (Stands o) (required (codes "components") t.components >>= λ ids. required (codes "sequence") t.sequence >>= λ n. Ok (whole t ids n))
  finish o t h =
      holds_then (Stands o) (required (codes "components") t.components) _ (λ ids. holds_then (Stands o) (required (codes "sequence") t.sequence) _ (λ n.
      WasRead (whole t ids n) (record { shared = h.1; validate = h.2; load = h.3; invoke = h.4; payload_fetch = h.5; install = h.6; severed = h.7 })))

empty_follows : (files : Files) (d : Data) → Follows files d no_values (no_fields files d)
empty_follows files d = (refl, omega arith, omega arith, omega arith, omega arith, omega arith, omega arith, refl)

described_stands : (files : Files) (d : Data) → Holds (Stands files d (outline_of d)) (described files d)
described_stands files null = WasFlawed _
described_stands files (boolean b) = WasFlawed _
described_stands files (number n) = WasFlawed _
described_stands files (string s) = WasFlawed _
described_stands files (array ds) = WasFlawed _
described_stands files (object ms) =
    let d : Data = object ms in
    holds_bind (Follows files d (outline_of d)) (Stands files d (outline_of d)) _ _ (walk files d ms no_values (no_fields files d) (empty_follows files d)) (λ t h. finish files d (outline_of d) t h)

pub stands : (files : Files) (d : Data) (p : Described) → described files d ≡ Ok p → Stands files d (outline_of d) p
stands files d p is = held (Stands files d (outline_of d)) (described files d) p (described_stands files d) is

-- ---- the spelling of a manifest

abbrev row_size : Option DataItem → ℕ
row_size None = 0
row_size (Some value) = length (spell value)

abbrev rows_size : List Row → ℕ
rows_size [] = 0
rows_size (r ∷ rs) = row_size r.1 + rows_size rs

pair_longer : (key : ℕ) (o : Option DataItem) (ps : DataPairs) → row_size o + length (spell_pairs ps) ≤ length (spell_pairs (pair_then key o ps))
pair_longer key None ps = omega arith
pair_longer key (Some value) ps =
    omega (arith, length-append (spell (UnsignedInteger key)) (spell value ++ spell_pairs ps), length-append (spell value) (spell_pairs ps))

rows_longer : (rows : List Row) → rows_size rows ≤ length (spell_pairs (row_pairs rows))
rows_longer [] = omega arith
rows_longer (r ∷ rs) = omega (arith, rows_longer rs, pair_longer r.0 r.1 (row_pairs rs))

map_longer : (ps : DataPairs) → length (spell_pairs ps) ≤ length (spell (MapOf ps))
map_longer ps = omega (arith, length-append (head_bytes 5 (pair_count ps)) (spell_pairs ps))

held_longer : (o : Option SequenceTree) → tree_size o ≤ row_size (held_item o)
held_longer None = omega arith
held_longer (Some s) = omega (arith, array_longer (step_items s), string_longer (spell (sequence_item s)))

abbrev left_size : Bool → Member → ℕ
left_size true m = 0
left_size false m = member_size m

severed_longer : (b : Bool) (kind : DigestKind) (m : Member) → left_size b m ≤ row_size (severed_item (apart_member b kind m))
severed_longer true kind m = omega arith
severed_longer false kind members.Empty = omega arith
severed_longer false kind (members.Here s) = held_longer (Some s)
severed_longer false kind (members.Apart digest) = omega arith

common_longer : (m : Manifest) → tree_size m.shared ≤ length (spell (ByteString (spell (common_item m))))
common_longer m =
    omega (arith, held_longer m.shared, rows_longer (common_rows m), map_longer (row_pairs (common_rows m)), string_longer (spell (common_item m)))

manifest_longer : (p : Described) → tree_size p.manifest.shared + (tree_size p.manifest.validate + (tree_size p.manifest.load + (tree_size p.manifest.invoke
    + (left_size p.severed.payload_fetch p.manifest.payload_fetch + left_size p.severed.install p.manifest.install)))) ≤ length (spell (manifest_item (made_manifest p)))
manifest_longer p =
    let m : Manifest = made_manifest p in
    omega (
      arith,
      common_longer m,
      held_longer m.validate,
      held_longer m.load,
      held_longer m.invoke,
      severed_longer p.severed.payload_fetch p.severed.kinds.payload_fetch p.manifest.payload_fetch,
      severed_longer p.severed.install p.severed.kinds.install p.manifest.install,
      rows_longer (manifest_rows m),
      map_longer (row_pairs (manifest_rows m)),
    )

left_in : (files : Files) (b : Bool) (o : Option Data) (m : Member) → held_length files o ≤ member_size m → member_length files b o ≤ left_size b m
left_in files true o m h = omega arith
left_in files false o m h = h

pub contents_in : (files : Files) (d : Data) (p : Described) → described files d ≡ Ok p → manifest_length files (outline_of d) p.severed ≤ length (spell (manifest_item (made_manifest p)))
contents_in files d p is =
    let h = stands files d p is in
    let o : Outline = outline_of d in
    omega (
      arith,
      h.shared,
      h.validate,
      h.load,
      h.invoke,
      left_in files p.severed.payload_fetch o.payload_fetch p.manifest.payload_fetch h.payload_fetch,
      left_in files p.severed.install o.install p.manifest.install h.install,
      manifest_longer p,
    )
