-- A description is read without the contents of its severed members as it is read with them.
use Rattle.std.proofs.Common.{◌≡◌, ℕ, List, Bool, true, false, cond, Result, Ok, Err, refl, ap, sym, subst, ◌∙◌}
use Rattle.std.specs.Prelude.{codes, is_some}
use Rattle.std.specs.Str.{bytes_eq}
use Rattle.std.proofs.lemmas.Slice.Eq.{bytes_eq-Decides}
use Rattle.det_cbor.specs.HeadReading.{◌>>=◌}
use Rattle.serde_json.specs.Data.{Data, null, boolean, number, string, array, object, Members, no_members, member}
use Rattle.serde_json.specs.Find.{as_object}
use Rattle.json_fields.specs.declared.flaw.Flaw.{Flaw}
use Rattle.json_fields.specs.Flaws.{under}
use Rattle.json_fields.specs.Objects.{members_of, required}
use Rattle.json_fields.specs.Pointers.{key_token}
use Rattle.json_fields.specs.Values.{text_of, hex_of}
use Rattle.suit_params.specs.declared.digest.Digest.{Digest}
use Rattle.suit_params.specs.declared.digest_kind.DigestKind.{DigestKind}
use Rattle.author.specs.declared.severing.MemberKinds.{MemberKinds}
use Rattle.suit_commands.specs.Tree.{SequenceTree}
use Rattle.suit_manifest.specs.declared.manifest.Member.TheVariants as members
use Rattle.author.specs.declared.bare.BareFields.{BareFields}
use Rattle.author.specs.declared.fields.Described.{Described}
use Rattle.author.specs.declared.fields.Fields.{Fields}
use Rattle.author.specs.declared.severing.Severed.{Severed}
use Rattle.author.specs.Bare.{no_content, bare_member, bare, takes_bare, described_bare}
use Rattle.author.specs.Descriptions.{no_fields, scope_of, field_sequence, takes_field, whole, finished, described}
use Rattle.author.specs.Identifiers.{identifiers_of}
use Rattle.author.specs.AlgorithmNames.{algorithm_of}
use Rattle.author.specs.MacNames.{mac_kind_of}
use Rattle.author.specs.Members.{left_out, member_sequence, text_member_of}
use Rattle.author.specs.ParamValues.{number_of}
use Rattle.author.specs.Payloads.{payloads_of}
use Rattle.author.specs.Severing.{severed_of}
use Rattle.author.proofs.Keeps.{Holds, WasRead, WasFlawed, held, holds_bind, holds_under, holds_choice}

abbrev Files : Type 0
Files = List (List ℕ × List ℕ)

abbrev at : Severed → Fields → BareFields
at s f = record { fields = f; severed = s }

abbrev bare_fields : Severed → Fields → Fields
bare_fields s t = record t { payload_fetch = bare_member s.payload_fetch s.kinds.payload_fetch t.payload_fetch; install = bare_member s.install s.kinds.install t.install }

-- the bare reading comes to the same fields
abbrev Same : Severed → Result BareFields Flaw → Fields → Type 0
Same s r u = r ≡ Ok (at s (bare_fields s u))

-- ---- one field

other_step : {A : Type 0} (s : Severed) (b : Bool) (r : Result A Flaw) (g h : A → Fields) → ((a : A) → h a ≡ bare_fields s (g a))
    → Holds (Same s (cond b ((r >>= λ a. Ok (h a)) >>= λ f. Ok (at s f)) ((r >>= λ a. Ok (h a)) >>= λ f. Ok (at s f)))) (r >>= λ a. Ok (g a))
other_step s true (Ok a) g h e = WasRead (g a) (ap (λ f. Ok (at s f)) (e a))
other_step s false (Ok a) g h e = WasRead (g a) (ap (λ f. Ok (at s f)) (e a))
other_step s b (Err f) g h e = WasFlawed f

fetch_step : (t : Fields) (c e x : Bool) (ks : MemberKinds) (b : Bool) (digest : Result Digest Flaw) (commands : Result SequenceTree Flaw)
    → let s : Severed = record { payload_fetch = c; install = e; text = x; kinds = ks } in
    let u : Fields = bare_fields s t in
    let m = cond b (digest >>= λ y. Ok (members.Apart y)) (commands >>= λ w. Ok (members.Here w)) in
    let as_read : Result BareFields Flaw = (m >>= λ y. Ok (record u { payload_fetch = y })) >>= λ f. Ok (at s f) in
    Holds (Same s (cond b as_read (cond c (Ok (at s (record u { payload_fetch = no_content ks.payload_fetch }))) as_read))) (m >>= λ y. Ok (record t { payload_fetch = y }))
fetch_step t true e x ks true (Ok y) commands = WasRead (record t { payload_fetch = members.Apart y }) refl
fetch_step t false e x ks true (Ok y) commands = WasRead (record t { payload_fetch = members.Apart y }) refl
fetch_step t c e x ks true (Err f) commands = WasFlawed f
fetch_step t true e x ks false digest (Ok w) = WasRead (record t { payload_fetch = members.Here w }) refl
fetch_step t false e x ks false digest (Ok w) = WasRead (record t { payload_fetch = members.Here w }) refl
fetch_step t c e x ks false digest (Err f) = WasFlawed f

install_step : (t : Fields) (c e x : Bool) (ks : MemberKinds) (b : Bool) (digest : Result Digest Flaw) (commands : Result SequenceTree Flaw)
    → let s : Severed = record { payload_fetch = c; install = e; text = x; kinds = ks } in
    let u : Fields = bare_fields s t in
    let m = cond b (digest >>= λ y. Ok (members.Apart y)) (commands >>= λ w. Ok (members.Here w)) in
    let as_read : Result BareFields Flaw = (m >>= λ y. Ok (record u { install = y })) >>= λ f. Ok (at s f) in
    Holds (Same s (cond b as_read (cond e (Ok (at s (record u { install = no_content ks.install }))) as_read))) (m >>= λ y. Ok (record t { install = y }))
install_step t c true x ks true (Ok y) commands = WasRead (record t { install = members.Apart y }) refl
install_step t c false x ks true (Ok y) commands = WasRead (record t { install = members.Apart y }) refl
install_step t c e x ks true (Err f) commands = WasFlawed f
install_step t c true x ks false digest (Ok w) = WasRead (record t { install = members.Here w }) refl
install_step t c false x ks false digest (Ok w) = WasRead (record t { install = members.Here w }) refl
install_step t c e x ks false digest (Err f) = WasFlawed f

-- ---- all fields

module _ (s : Severed) (t : Fields) (d : Data) where
  abbrev Step : List ℕ → Fields → Type 0
  Step k u = Same s (takes_bare (at s (bare_fields s t)) k d) u

  -- at the key that stands there
  at_key : (k key : List ℕ) (r : Result Fields Flaw) → bytes_eq k key ≡ true → Holds (Step key) r → Holds (Step k) r
  at_key k key r e h = subst (λ (l : List ℕ). Holds (Step l) r) (sym ((bytes_eq-Decides k key).0 e)) h

  step : (k : List ℕ) → Holds (Step k) (takes_field t k d)
  step k =
      let b : Bool = is_some (as_object d) in
      holds_choice (Step k) (bytes_eq k (codes "sequence")) _ _ (λ e. at_key k (codes "sequence") _ e (other_step s b (number_of d) _ _ (λ x. refl))) (λ _.
      holds_choice (Step k) (bytes_eq k (codes "components")) _ _ (λ e. at_key k (codes "components") _ e (other_step s b (identifiers_of d) _ _ (λ x. refl))) (λ _.
      holds_choice (Step k) (bytes_eq k (codes "reference")) _ _ (λ e. at_key k (codes "reference") _ e (other_step s b (text_of d) _ _ (λ x. refl))) (λ _.
      holds_choice (Step k) (bytes_eq k (codes "shared")) _ _ (λ e. at_key k (codes "shared") _ e (other_step s b (field_sequence t true d) _ _ (λ x. refl))) (λ _.
      holds_choice (Step k) (bytes_eq k (codes "validate")) _ _ (λ e. at_key k (codes "validate") _ e (other_step s b (field_sequence t false d) _ _ (λ x. refl))) (λ _.
      holds_choice (Step k) (bytes_eq k (codes "load")) _ _ (λ e. at_key k (codes "load") _ e (other_step s b (field_sequence t false d) _ _ (λ x. refl))) (λ _.
      holds_choice (Step k) (bytes_eq k (codes "invoke")) _ _ (λ e. at_key k (codes "invoke") _ e (other_step s b (field_sequence t false d) _ _ (λ x. refl))) (λ _.
      holds_choice (Step k) (bytes_eq k (codes "payload-fetch")) _ _
      (λ e. at_key k (codes "payload-fetch") _ e (fetch_step t s.payload_fetch s.install s.text s.kinds b (left_out d) (member_sequence (scope_of t false) d))) (λ _.
      holds_choice (Step k) (bytes_eq k (codes "install")) _ _
      (λ e. at_key k (codes "install") _ e (install_step t s.payload_fetch s.install s.text s.kinds b (left_out d) (member_sequence (scope_of t false) d))) (λ _.
      holds_choice (Step k) (bytes_eq k (codes "text")) _ _ (λ e. at_key k (codes "text") _ e (other_step s b (text_member_of d) _ _ (λ x. refl))) (λ _.
      holds_choice (Step k) (bytes_eq k (codes "sever")) _ _ (λ e. at_key k (codes "sever") _ e (other_step s b (severed_of t.source.given d) _ _ (λ x. refl))) (λ _.
      holds_choice (Step k) (bytes_eq k (codes "payloads")) _ _ (λ e. at_key k (codes "payloads") _ e (other_step s b (payloads_of t.source.scope.files d) _ _ (λ x. refl))) (λ _.
      holds_choice (Step k) (bytes_eq k (codes "kid")) _ _ (λ e. at_key k (codes "kid") _ e (other_step s b (hex_of d) _ _ (λ x. refl))) (λ _.
      holds_choice (Step k) (bytes_eq k (codes "mac")) _ _ (λ e. at_key k (codes "mac") _ e (other_step s b (mac_kind_of d) _ _ (λ x. refl))) (λ _.
      holds_choice (Step k) (bytes_eq k (codes "algorithm")) _ _ (λ e. at_key k (codes "algorithm") _ e (other_step s b (algorithm_of d) _ _ (λ x. refl))) (λ _. WasFlawed _)))))))))))))))

walk : (s : Severed) (ms : Members) (t : Fields) → Holds (Same s (members_of takes_bare (at s (bare_fields s t)) ms)) (members_of takes_field t ms)
walk s no_members t = WasRead t refl
walk s (member k d ms) t =
    let one : Result BareFields Flaw = takes_bare (at s (bare_fields s t)) k d in
    holds_bind (Same s one) (Same s (members_of takes_bare (at s (bare_fields s t)) (member k d ms))) _ _ (holds_under (Same s one) (key_token k) (takes_field t k d) (step s t d k)) (λ u e.
    subst (λ (r : Result BareFields Flaw). Holds (Same s (under (key_token k) r >>= λ y. members_of takes_bare y ms)) (members_of takes_field u ms)) (sym e) (walk s ms u))

-- ---- the description

both_there : (s : Severed) (t : Fields) (r : Result (List (List (List ℕ))) Flaw) (q : Result ℕ Flaw)
    → Holds (λ p. (r >>= λ ids. q >>= λ n. Ok (whole (bare_fields s t) ids n)) ≡ Ok (bare s p)) (r >>= λ ids. q >>= λ n. Ok (whole t ids n))
both_there s t (Ok ids) (Ok n) = WasRead (whole t ids n) refl
both_there s t (Ok ids) (Err f) = WasFlawed f
both_there s t (Err f) q = WasFlawed f

empty : (b : Bool) (kind : DigestKind) → bare_member b kind members.Empty ≡ members.Empty
empty true kind = refl
empty false kind = refl

none_read : (s : Severed) (t : Fields) → t.payload_fetch ≡ members.Empty → t.install ≡ members.Empty → at s (bare_fields s t) ≡ at s t
none_read s t p q =
    let ks : MemberKinds = s.kinds in
    let fetch : bare_member s.payload_fetch ks.payload_fetch t.payload_fetch ≡ t.payload_fetch = ap (bare_member s.payload_fetch ks.payload_fetch) p ∙ empty s.payload_fetch ks.payload_fetch ∙ sym p in
    let install : bare_member s.install ks.install t.install ≡ t.install = ap (bare_member s.install ks.install) q ∙ empty s.install ks.install ∙ sym q in
    ap (λ m. at s (record t { payload_fetch = m; install = bare_member s.install ks.install t.install })) fetch ∙ ap (λ m. at s (record t { install = m })) install

bare_holds : (files : Files) (s : Severed) (d : Data) → Holds (λ p. described_bare files s d ≡ Ok (bare s p)) (described files d)
bare_holds files s null = WasFlawed _
bare_holds files s (boolean b) = WasFlawed _
bare_holds files s (number n) = WasFlawed _
bare_holds files s (string x) = WasFlawed _
bare_holds files s (array ds) = WasFlawed _
bare_holds files s (object ms) =
    let d : Data = object ms in
    let start : Fields = no_fields files d in
    subst (λ (x : BareFields). Holds (λ p. (members_of takes_bare x ms >>= λ t. finished t.fields) ≡ Ok (bare s p)) (described files d)) (none_read s start refl refl)
    (holds_bind (Same s (members_of takes_bare (at s (bare_fields s start)) ms)) (λ p. (members_of takes_bare (at s (bare_fields s start)) ms >>= λ t. finished t.fields) ≡ Ok (bare s p)) _ _ (walk s ms start) (λ t e.
    subst (λ (r : Result BareFields Flaw). Holds (λ p. (r >>= λ y. finished y.fields) ≡ Ok (bare s p)) (finished t)) (sym e)
    (both_there s t (required (codes "components") t.components) (required (codes "sequence") t.sequence))))

pub bare_read : (files : Files) (s : Severed) (d : Data) (p : Described) → described files d ≡ Ok p → described_bare files s d ≡ Ok (bare s p)
bare_read files s d p e = held (λ p. described_bare files s d ≡ Ok (bare s p)) (described files d) p (bare_holds files s d) e
