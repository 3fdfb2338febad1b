-- The values of a description that is written: no number has a point, and no text stands under the key `file`.
use Rattle.std.proofs.Common.{◌≡◌, ℕ, Bool, true, false, List, [], ◌∷◌, map, Option, Some, None, option_map, Ordering, Less, Equal, Greater, nat_cmp, is_eq, bytes_eq, refl, sym, ap, subst, ◌∙◌}
use Rattle.std.proofs.lemmas.Map.Text.{is_eq-slice_cmp}
use Rattle.std.proofs.lemmas.Slice.Eq.{bytes_eq-Decides}
use Rattle.std.specs.Cmp.Lexicographic.{slice_cmp}
use Rattle.std.specs.List.{AllByRecursion}
use Rattle.std.specs.Ordering.{match_ordering}
use Rattle.std.specs.Prelude.{codes}
use Rattle.serde_json.specs.Data.{Data, null, boolean, number, string, array, object, Items, no_items, item, Members, no_members, member, put}
use Rattle.serde_json.specs.View.{items_of}
use Rattle.serde_json.specs.Written.{has_float, items_have_float, members_have_float}
use Rattle.suit_params.specs.declared.digest_kind.DigestKind.{DigestKind}
use Rattle.suit_params.specs.declared.digest_kind.DigestKind.TheVariants as kinds
use Rattle.suit_params.specs.declared.param.Param.{Param}
use Rattle.suit_params.specs.declared.param.Param.TheVariants as params
use Rattle.suit_commands.specs.declared.selection.Selection.{Selection}
use Rattle.suit_commands.specs.declared.selection.Selection.TheVariants.{One, All, Listed}
use Rattle.suit_commands.specs.Tree.{CommandTree, Test, Act, Index, Override, TryEach, RunSequence, SequenceTree, NoSteps, StepThen, BranchesTree, NoBranches, BranchThen, NullThen}
use Rattle.suit_envelope.specs.Envelopes.{EnvelopeSays}
use Rattle.suit_manifest.specs.declared.manifest.Manifest.{Manifest}
use Rattle.suit_manifest.specs.declared.manifest.Member.{Member}
use Rattle.suit_manifest.specs.declared.manifest.Member.TheVariants as members
use Rattle.suit_manifest.specs.declared.manifest.Members.{Members as ApartMembers}
use Rattle.suit_manifest.specs.declared.manifest.TextMember.{TextMember}
use Rattle.suit_manifest.specs.declared.manifest.TextMember.TheVariants as texts
use Rattle.author.specs.FileNames.{name_under, names_in, names_in_items, names_in_members, once, file_names}
use Rattle.describe.specs.ValueData.{hex_data, number_data, identifier_data}
use Rattle.describe.specs.ParamData.{param_name, value_data, with_params}
use Rattle.describe.specs.CommandData.{selection_data, command_data, step_data, branch_data, sequence_if}
use Rattle.describe.specs.MemberData.{member_data, text_data}
use Rattle.describe.specs.SeverData.{entry_data, severed_names, sever_data}
use Rattle.describe.specs.PayloadData.{payload_data, with_payloads, payloads_data}
use Rattle.describe.specs.Describing.{Field, with_field, with_fields, head_fields, sequence_fields, severable_fields, payload_fields, text_there, severed_in, described_members, described_by}

abbrev mutual
  IsPlain : Data → Type 0
  IsPlain null = Unit {0}
  IsPlain (boolean b) = Unit {0}
  IsPlain (number n) = has_float (number n) ≡ false
  IsPlain (string s) = Unit {0}
  IsPlain (array ds) = ArePlain ds
  IsPlain (object ms) = HoldsPlain ms

  ArePlain : Items → Type 0
  ArePlain no_items = Unit {0}
  ArePlain (item d ds) = IsPlain d × ArePlain ds

  HoldsPlain : Members → Type 0
  HoldsPlain no_members = Unit {0}
  HoldsPlain (member k d ms) = (name_under k d ≡ None) × IsPlain d × HoldsPlain ms

-- ---- what follows

mutual
  no_point : (d : Data) → IsPlain d → has_float d ≡ false
  no_point (number n) h = h
  no_point (array ds) h = no_points ds h
  no_point (object ms) h = no_point_held ms h
  no_point _ h = refl

  no_points : (ds : Items) → ArePlain ds → items_have_float ds ≡ false
  no_points no_items h = refl
  no_points (item d ds) h = rw (no_point d h.0) (no_points ds h.1)

  no_point_held : (ms : Members) → HoldsPlain ms → members_have_float ms ≡ false
  no_point_held no_members h = refl
  no_point_held (member k d ms) h = rw (no_point d h.1) (no_point_held ms h.2)

mutual
  no_name : (d : Data) → IsPlain d → names_in d ≡ []
  no_name (array ds) h = no_names ds h
  no_name (object ms) h = no_name_held ms h
  no_name _ h = refl

  no_names : (ds : Items) → ArePlain ds → names_in_items ds ≡ []
  no_names no_items h = refl
  no_names (item d ds) h = rw (no_name d h.0) (no_names ds h.1)

  no_name_held : (ms : Members) → HoldsPlain ms → names_in_members ms ≡ []
  no_name_held no_members h = refl
  no_name_held (member k d ms) h = rw (h.0, no_name d h.1) (no_name_held ms h.2)

-- ---- objects and arrays

one_key : (k l : List ℕ) → slice_cmp nat_cmp k l ≡ Equal → k ≡ l
one_key k l e = (bytes_eq-Decides k l).0 (sym (is_eq-slice_cmp k l) ∙ ap is_eq e)

put_at : (o : Ordering) (k l : List ℕ) (d e : Data) (ms rest : Members) → slice_cmp nat_cmp k l ≡ o → name_under k d ≡ None → IsPlain d → HoldsPlain (member l e ms) → HoldsPlain rest
    → HoldsPlain (match_ordering o (member k d (member l e ms)) (member l d ms) (member l e rest))
put_at Less k l d e ms rest is none plain held later = (none, plain, held)
put_at Equal k l d e ms rest is none plain held later = (subst (λ (x : List ℕ). name_under x d ≡ None) (one_key k l is) none, plain, held.2)
put_at Greater k l d e ms rest is none plain held later = (held.0, held.1, later)

put_plain : (k : List ℕ) (d : Data) (ms : Members) → name_under k d ≡ None → IsPlain d → HoldsPlain ms → HoldsPlain (put k d ms)
put_plain k d no_members none plain held = (none, plain, tt)
put_plain k d (member l e ms) none plain held =
    put_at (slice_cmp nat_cmp k l) k l d e ms (put k d ms) refl none plain held (put_plain k d ms none plain held.2)

all_plain : {A : Type 0} (form : A → Data) → ((x : A) → IsPlain (form x)) → (xs : List A) → ArePlain (items_of (map form xs))
all_plain form h [] = tt
all_plain form h (x ∷ xs) = (h x, all_plain form h xs)

-- ---- parameters and commands

value_plain : (p : Param) → (name_under (param_name p) (value_data p) ≡ None) × IsPlain (value_data p)
value_plain (params.Slot n) = (refl, refl)
value_plain (params.Size n) = (refl, refl)
value_plain (params.Source i) = (refl, refl)
value_plain _ = (refl, tt)

params_plain : (ps : List Param) (ms : Members) → HoldsPlain ms → HoldsPlain (with_params ps ms)
params_plain [] ms h = h
params_plain (p ∷ ps) ms h =
    let v = value_plain p in
    params_plain ps (put (param_name p) (value_data p) ms) (put_plain (param_name p) (value_data p) ms v.0 v.1 h)

selection_plain : (s : Selection) → IsPlain (selection_data s)
selection_plain (One i) = refl
selection_plain All = tt
selection_plain (Listed is) = all_plain number_data (λ i. refl) is

mutual
  steps_plain : (s : SequenceTree) → ArePlain (step_data s)
  steps_plain NoSteps = tt
  steps_plain (StepThen place command rest) = (command_plain command, steps_plain rest)

  command_plain : (c : CommandTree) → IsPlain (command_data c)
  command_plain (Test kind report) = (tt, (refl, tt))
  command_plain (Act kind report) = (tt, (refl, tt))
  command_plain (Index selection) = (tt, (selection_plain selection, tt))
  command_plain (Override list) = (tt, (params_plain list no_members tt, tt))
  command_plain (TryEach tries) = (tt, (branches_plain tries, tt))
  command_plain (RunSequence inner) = (tt, (steps_plain inner, tt))

  branches_plain : (bs : BranchesTree) → ArePlain (branch_data bs)
  branches_plain NoBranches = tt
  branches_plain (BranchThen inner rest) = (steps_plain inner, branches_plain rest)
  branches_plain (NullThen rest) = (tt, branches_plain rest)

-- ---- payloads, whatever their keys

payload_names : (k content : List ℕ) → name_under k (payload_data content) ≡ None
payload_names k content = by_test (bytes_eq k (codes "file")) refl
  where
    by_test : (b : Bool) → bytes_eq k (codes "file") ≡ b → name_under k (payload_data content) ≡ None
    by_test true e = rw e refl
    by_test false e = rw e refl

payloads_put : (ps : List (List ℕ × List ℕ)) (ms : Members) → HoldsPlain ms → HoldsPlain (with_payloads ps ms)
payloads_put [] ms h = h
payloads_put (p ∷ ps) ms h = payloads_put ps (put p.0 (payload_data p.1) ms) (put_plain p.0 (payload_data p.1) ms (payload_names p.0 p.1) (refl, tt, tt) h)

-- ---- fields

-- a value that may be there
abbrev PlainIf : Option Data → Type 0
PlainIf None = Unit {0}
PlainIf (Some d) = IsPlain d

sequence_plain : (s : Option SequenceTree) → PlainIf (sequence_if s)
sequence_plain None = tt
sequence_plain (Some s) = steps_plain s

reference_plain : (reference : Option (List ℕ)) → PlainIf (option_map (λ text. string text) reference)
reference_plain None = tt
reference_plain (Some text) = tt

member_plain : (x : Member) (apart : Option SequenceTree) → PlainIf (member_data x apart)
member_plain members.Empty apart = tt
member_plain (members.Here s) apart = steps_plain s
member_plain (members.Apart digest) (Some s) = steps_plain s
member_plain (members.Apart digest) None = (refl, tt, tt)

text_plain : (x : TextMember) (apart : Option (List ℕ)) → PlainIf (text_data x apart)
text_plain texts.Empty apart = tt
text_plain (texts.Here content) apart = tt
text_plain (texts.Apart digest) (Some content) = tt
text_plain (texts.Apart digest) None = (refl, tt, tt)

entry_plain : (name : List ℕ) (kind : DigestKind) → IsPlain (entry_data name kind)
entry_plain name kinds.Sha256 = tt
entry_plain name kinds.Sha384 = (tt, (tt, tt))
entry_plain name kinds.Sha512 = (tt, (tt, tt))

names_plain : (fetch install text : Bool) (k l m : DigestKind)
    → PlainIf (sever_data (severed_names (record { payload_fetch = fetch; install = install; text = text; kinds = record { payload_fetch = k; install = l; text = m } })))
names_plain true true true k l m = (entry_plain _ k, (entry_plain _ l, (entry_plain _ m, tt)))
names_plain true true false k l m = (entry_plain _ k, (entry_plain _ l, tt))
names_plain true false true k l m = (entry_plain _ k, (entry_plain _ m, tt))
names_plain true false false k l m = (entry_plain _ k, tt)
names_plain false true true k l m = (entry_plain _ l, (entry_plain _ m, tt))
names_plain false true false k l m = (entry_plain _ l, tt)
names_plain false false true k l m = (entry_plain _ m, tt)
names_plain false false false k l m = tt

payloads_plain : (ps : List (List ℕ × List ℕ)) → PlainIf (payloads_data ps)
payloads_plain [] = tt
payloads_plain (p ∷ ps) = payloads_put (p ∷ ps) no_members tt

field_plain : (k : List ℕ) (v : Option Data) (ms : Members) → bytes_eq k (codes "file") ≡ false → PlainIf v → HoldsPlain ms → HoldsPlain (with_field k v ms)
field_plain k None ms other plain held = held
field_plain k (Some d) ms other plain held = put_plain k d ms (rw other refl) plain held

-- fields none of which is called `file`
abbrev PlainFields : List Field → Type 0
PlainFields fs = AllByRecursion (λ f. (bytes_eq f.0 (codes "file") ≡ false) × PlainIf f.1) fs

fields_plain : (fs : List Field) (ms : Members) → PlainFields fs → HoldsPlain ms → HoldsPlain (with_fields fs ms)
fields_plain [] ms h held = held
fields_plain (f ∷ fs) ms h held = fields_plain fs (with_field f.0 f.1 ms) h.1 (field_plain f.0 f.1 ms h.0.0 h.0.1 held)

module _ (said : EnvelopeSays) (payloads : List (List ℕ × List ℕ)) (m : Manifest) (apart : ApartMembers) where
  head_plain : PlainFields (head_fields m)
  head_plain = ((refl, refl), ((refl, all_plain identifier_data (λ id. all_plain hex_data (λ part. tt) id) m.components), ((refl, reference_plain m.reference), tt)))

  sequences_plain : PlainFields (sequence_fields m)
  sequences_plain = ((refl, sequence_plain m.shared), ((refl, sequence_plain m.validate), ((refl, sequence_plain m.load), ((refl, sequence_plain m.invoke), tt))))

  severable_plain : PlainFields (severable_fields said m apart)
  severable_plain =
      let s = severed_in said m apart in
      ((refl, member_plain m.payload_fetch apart.payload_fetch), ((refl, member_plain m.install apart.install), ((refl, text_plain m.text (text_there said m)), ((refl, names_plain s.payload_fetch s.install s.text s.kinds.payload_fetch s.kinds.install s.kinds.text), tt))))

  members_plain : HoldsPlain (described_members said payloads m apart)
  members_plain =
      let heads = fields_plain (head_fields m) no_members head_plain tt in
      let sequences = fields_plain (sequence_fields m) (with_fields (head_fields m) no_members) sequences_plain heads in
      let severable = fields_plain (severable_fields said m apart) (with_fields (sequence_fields m) (with_fields (head_fields m) no_members)) severable_plain sequences in
      fields_plain (payload_fields payloads) (with_fields (severable_fields said m apart) (with_fields (sequence_fields m) (with_fields (head_fields m) no_members))) ((refl, payloads_plain payloads), tt) severable

  pub no_float : has_float (described_by said payloads m apart) ≡ false
  no_float = no_point_held (described_members said payloads m apart) members_plain

  pub no_files : file_names (described_by said payloads m apart) ≡ []
  no_files = ap (once []) (no_name_held (described_members said payloads m apart) members_plain)
