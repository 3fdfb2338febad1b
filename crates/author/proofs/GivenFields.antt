-- The fields of a description are read of the values that are found in it.
use Rattle.std.proofs.Common.{◌≡◌, ℕ, List, [], Bool, true, false, cond, Option, Some, None, Result, Ok, refl, ap, sym, subst, ◌∙◌}
use Rattle.std.specs.Prelude.{codes, option_and_then}
use Rattle.std.specs.Str.{bytes_eq}
use Rattle.std.proofs.lemmas.Slice.Eq.{bytes_eq-Decides}
use Rattle.det_cbor.specs.HeadReading.{◌>>=◌}
use Rattle.serde_json.specs.Data.{Data, null, boolean, number, string, array, object, Members, no_members, member}
use Rattle.serde_json.specs.Find.{get_member, as_str}
use Rattle.hmac_mac0.specs.declared.mac_kind.MacKind.TheVariants as macs
use Rattle.suit_params.specs.declared.digest_kind.DigestKind.TheVariants as kinds
use Rattle.json_fields.specs.declared.flaw.Flaw.{Flaw}
use Rattle.json_fields.specs.declared.flaw.FlawKind.TheVariants.{Field}
use Rattle.json_fields.specs.Flaws.{found_or}
use Rattle.json_fields.specs.Objects.{members_of, required}
use Rattle.json_fields.specs.Pointers.{key_token}
use Rattle.json_fields.specs.Values.{hex_of}
use Rattle.suit_manifest.specs.declared.manifest.Member.{Member}
use Rattle.suit_manifest.specs.declared.manifest.Member.TheVariants as members
use Rattle.suit_manifest.specs.declared.manifest.TextMember.{TextMember}
use Rattle.suit_manifest.specs.declared.manifest.TextMember.TheVariants as texts
use Rattle.author.specs.declared.fields.Described.{Described}
use Rattle.author.specs.declared.fields.Fields.{Fields}
use Rattle.author.specs.Descriptions.{no_fields, scope_of, takes_field, whole, described}
use Rattle.author.specs.GivenParts.{bytes_spelled, IsMemberOf, IsTextOf, IsAlgorithmOf, IsMacOf, IsHere, IsTextHere}
use Rattle.author.specs.KeysOnce.{HasKeysOnce, AreKeysOnce}
use Rattle.author.specs.AlgorithmNames.{algorithm_of}
use Rattle.author.specs.MacNames.{mac_kind_of}
use Rattle.author.specs.Members.{described_member, text_member_of}
use Rattle.author.specs.Payloads.{payloads_of}
use Rattle.author.specs.Scope.{Scope}
use Rattle.author.specs.Severing.{is_content, none_severed, given_in, severed_of}
use Rattle.author.proofs.Found.{pick, pick_all, pick_found, found_here, found_later}
use Rattle.author.proofs.GivenValues.{Spelled, hex_spelled, same_read}
use Rattle.author.proofs.Keeps.{Holds, WasRead, WasFlawed, held, holds_bind, holds_then, holds_under, holds_choice}

abbrev Files : Type 0
Files = List (List ℕ × List ℕ)

-- ---- the values that were read last

pub record Values : Type 0 where
  pub payloads : Option Data
  pub sever : Option Data
  pub payload_fetch : Option Data
  pub install : Option Data
  pub text : Option Data
  pub kid : Option Data
  pub mac : Option Data
  pub algorithm : Option Data

abbrev pub no_values : Values
no_values = record { payloads = None; sever = None; payload_fetch = None; install = None; text = None; kid = None; mac = None; algorithm = None }

abbrev pub noted : Values → List ℕ → Data → Values
noted o k d = record {
  payloads = pick k (codes "payloads") d o.payloads;
  sever = pick k (codes "sever") d o.sever;
  payload_fetch = pick k (codes "payload-fetch") d o.payload_fetch;
  install = pick k (codes "install") d o.install;
  text = pick k (codes "text") d o.text;
  kid = pick k (codes "kid") d o.kid;
  mac = pick k (codes "mac") d o.mac;
  algorithm = pick k (codes "algorithm") d o.algorithm;
}

abbrev pub noted_all : Values → Members → Values
noted_all o no_members = o
noted_all o (member k d ms) = noted_all (noted o k d) ms

noted_field : (f : Values → Option Data) (name : List ℕ) → ((o : Values) (k : List ℕ) (d : Data) → f (noted o k d) ≡ pick k name d (f o)) → (ms : Members) (o : Values) → f (noted_all o ms) ≡ pick_all name (f o) ms
noted_field f name one no_members o = refl
noted_field f name one (member k d ms) o = noted_field f name one ms (noted o k d) ∙ ap (λ x. pick_all name x ms) (one o k d)

-- ---- how they are read

abbrev pub read_or : {A : Type 0} → A → (Data → Result A Flaw) → Option Data → Result A Flaw
read_or x form None = Ok x
read_or x form (Some d) = form d

abbrev pub kid_of : Data → Result (Option (List ℕ)) Flaw
kid_of d = hex_of d >>= λ kid. Ok (Some kid)

module _ (files : Files) (d : Data) where
  abbrev pub scope : Scope
  scope = scope_of (no_fields files d) false

  -- the fields are read of these values
  abbrev pub Follows : Values → Fields → Type 0
  Follows o t =
      (t.source ≡ (no_fields files d).source) × (read_or [] (payloads_of files) o.payloads ≡ Ok t.payloads) × (read_or none_severed (severed_of (given_in d)) o.sever ≡ Ok t.severed)
      × (read_or members.Empty (described_member scope) o.payload_fetch ≡ Ok t.payload_fetch) × (read_or members.Empty (described_member scope) o.install ≡ Ok t.install)
      × (read_or texts.Empty text_member_of o.text ≡ Ok t.text) × (read_or None kid_of o.kid ≡ Ok t.kid)
      × (read_or macs.Hmac256 mac_kind_of o.mac ≡ Ok t.mac)
      × (read_or kinds.Sha256 algorithm_of o.algorithm ≡ Ok t.algorithm)

  -- at the key that stands there
  at_key : (o : Values) (k key : List ℕ) (x : Data) (r : Result Fields Flaw) → bytes_eq k key ≡ true → Holds (Follows (noted o key x)) r → Holds (Follows (noted o k x)) r
  at_key o k key x r e h = subst (λ (l : List ℕ). Holds (Follows (noted o l x)) r) (sym ((bytes_eq-Decides k key).0 e)) h

  read_payloads : (t : Fields) (x : Data) → t.source ≡ (no_fields files d).source → Holds (λ ps. payloads_of files x ≡ Ok ps) (payloads_of t.source.scope.files x)
  read_payloads t x e = rw e (same_read (payloads_of files x))

  read_severed : (t : Fields) (x : Data) → t.source ≡ (no_fields files d).source → Holds (λ s. severed_of (given_in d) x ≡ Ok s) (severed_of t.source.given x)
  read_severed t x e = rw e (same_read (severed_of (given_in d) x))

  read_member : (t : Fields) (x : Data) → t.source ≡ (no_fields files d).source → Holds (λ m. described_member scope x ≡ Ok m) (described_member (scope_of t false) x)
  read_member t x e = rw e (same_read (described_member scope x))

  follow : (o : Values) (t : Fields) (k : List ℕ) (x : Data) → Follows o t → Holds (Follows (noted o k x)) (takes_field t k x)
  follow o t k x h =
      let P : Fields → Type 0 = Follows (noted o k x) in
      holds_choice P (bytes_eq k (codes "sequence")) _ _ (λ e. at_key o k (codes "sequence") x _ e (holds_then (Follows o) _ _ (λ y. WasRead _ h))) (λ _.
      holds_choice P (bytes_eq k (codes "components")) _ _ (λ e. at_key o k (codes "components") x _ e (holds_then (Follows o) _ _ (λ y. WasRead _ h))) (λ _.
      holds_choice P (bytes_eq k (codes "reference")) _ _ (λ e. at_key o k (codes "reference") x _ e (holds_then (Follows o) _ _ (λ y. WasRead _ h))) (λ _.
      holds_choice P (bytes_eq k (codes "shared")) _ _ (λ e. at_key o k (codes "shared") x _ e (holds_then (Follows o) _ _ (λ y. WasRead _ h))) (λ _.
      holds_choice P (bytes_eq k (codes "validate")) _ _ (λ e. at_key o k (codes "validate") x _ e (holds_then (Follows o) _ _ (λ y. WasRead _ h))) (λ _.
      holds_choice P (bytes_eq k (codes "load")) _ _ (λ e. at_key o k (codes "load") x _ e (holds_then (Follows o) _ _ (λ y. WasRead _ h))) (λ _.
      holds_choice P (bytes_eq k (codes "invoke")) _ _ (λ e. at_key o k (codes "invoke") x _ e (holds_then (Follows o) _ _ (λ y. WasRead _ h))) (λ _.
      holds_choice P (bytes_eq k (codes "payload-fetch")) _ _ (λ e. at_key o k (codes "payload-fetch") x _ e (holds_bind (λ m. described_member scope x ≡ Ok m) (Follows (noted o (codes "payload-fetch") x)) _ _ (read_member t x h.0) (λ m g. WasRead _ (h.0, h.1, h.2, g, h.4, h.5, h.6, h.7, h.8)))) (λ _.
      holds_choice P (bytes_eq k (codes "install")) _ _ (λ e. at_key o k (codes "install") x _ e (holds_bind (λ m. described_member scope x ≡ Ok m) (Follows (noted o (codes "install") x)) _ _ (read_member t x h.0) (λ m g. WasRead _ (h.0, h.1, h.2, h.3, g, h.5, h.6, h.7, h.8)))) (λ _.
      holds_choice P (bytes_eq k (codes "text")) _ _ (λ e. at_key o k (codes "text") x _ e (holds_bind (λ m. text_member_of x ≡ Ok m) (Follows (noted o (codes "text") x)) _ _ (same_read (text_member_of x)) (λ m g. WasRead _ (h.0, h.1, h.2, h.3, h.4, g, h.6, h.7, h.8)))) (λ _.
      holds_choice P (bytes_eq k (codes "sever")) _ _ (λ e. at_key o k (codes "sever") x _ e (holds_bind (λ s. severed_of (given_in d) x ≡ Ok s) (Follows (noted o (codes "sever") x)) _ _ (read_severed t x h.0) (λ s g. WasRead _ (h.0, h.1, g, h.3, h.4, h.5, h.6, h.7, h.8)))) (λ _.
      holds_choice P (bytes_eq k (codes "payloads")) _ _ (λ e. at_key o k (codes "payloads") x _ e (holds_bind (λ ps. payloads_of files x ≡ Ok ps) (Follows (noted o (codes "payloads") x)) _ _ (read_payloads t x h.0) (λ ps g. WasRead _ (h.0, g, h.2, h.3, h.4, h.5, h.6, h.7, h.8)))) (λ _.
      holds_choice P (bytes_eq k (codes "kid")) _ _ (λ e. at_key o k (codes "kid") x _ e (holds_bind (λ kid. hex_of x ≡ Ok kid) (Follows (noted o (codes "kid") x)) _ _ (same_read (hex_of x)) (λ kid g. WasRead _ (h.0, h.1, h.2, h.3, h.4, h.5, ap (λ (r : Result (List ℕ) Flaw). r >>= λ y. Ok (Some y)) g, h.7, h.8)))) (λ _.
      holds_choice P (bytes_eq k (codes "mac")) _ _ (λ e. at_key o k (codes "mac") x _ e (holds_bind (λ m. mac_kind_of x ≡ Ok m) (Follows (noted o (codes "mac") x)) _ _ (same_read (mac_kind_of x)) (λ m g. WasRead _ (h.0, h.1, h.2, h.3, h.4, h.5, h.6, g, h.8)))) (λ _.
      holds_choice P (bytes_eq k (codes "algorithm")) _ _ (λ e. at_key o k (codes "algorithm") x _ e (holds_bind (λ m. algorithm_of x ≡ Ok m) (Follows (noted o (codes "algorithm") x)) _ _ (same_read (algorithm_of x)) (λ m g. WasRead _ (h.0, h.1, h.2, h.3, h.4, h.5, h.6, h.7, g)))) (λ _. WasFlawed _)))))))))))))))

  walk : (ms : Members) (o : Values) (t : Fields) → Follows o t → Holds (Follows (noted_all o ms)) (members_of takes_field t ms)
  walk no_members o t h = WasRead t h
  walk (member k x ms) o t h =
      holds_bind (Follows (noted o k x)) (Follows (noted_all (noted o k x) ms)) _ _ (holds_under (Follows (noted o k x)) (key_token k) (takes_field t k x) (follow o t k x h)) (λ u g. walk ms (noted o k x) u g)

  -- ---- the whole description

  pub record IsReadOf (o : Values) (p : Described) : Type 0 where
    pub payloads : read_or [] (payloads_of files) o.payloads ≡ Ok p.payloads
    pub severed : read_or none_severed (severed_of (given_in d)) o.sever ≡ Ok p.severed
    pub payload_fetch : read_or members.Empty (described_member scope) o.payload_fetch ≡ Ok p.manifest.payload_fetch
    pub install : read_or members.Empty (described_member scope) o.install ≡ Ok p.manifest.install
    pub text : read_or texts.Empty text_member_of o.text ≡ Ok p.manifest.text
    pub kid : read_or None kid_of o.kid ≡ Ok p.kid
    pub mac : read_or macs.Hmac256 mac_kind_of o.mac ≡ Ok p.mac
    pub algorithm : read_or kinds.Sha256 algorithm_of o.algorithm ≡ Ok p.algorithm

  finish : (o : Values) (t : Fields) → Follows o t → Holds (IsReadOf o) (required (codes "components") t.components >>= λ ids. required (codes "sequence") t.sequence >>= λ n. Ok (whole t ids n))
  finish o t h =
      holds_then (IsReadOf o) (required (codes "components") t.components) _ (λ ids. holds_then (IsReadOf o) (required (codes "sequence") t.sequence) _ (λ n.
      WasRead (whole t ids n) (record { payloads = h.1; severed = h.2; payload_fetch = h.3; install = h.4; text = h.5; kid = h.6; mac = h.7; algorithm = h.8 })))

-- ---- the values that are found

once_by : (name k : List ℕ) (b : Bool) (x d : Data) (ms : Members) → bytes_eq k name ≡ b → HasKeysOnce d → (get_member name ms ≡ Some x → HasKeysOnce x) → get_member name (member k d ms) ≡ Some x → HasKeysOnce x
once_by name k true x d ms e inside later is =
    let same : k ≡ name = (bytes_eq-Decides k name).0 e in
    let here : get_member name (member k d ms) ≡ Some d = subst (λ (l : List ℕ). get_member name (member l d ms) ≡ Some d) (sym same) (found_here name d ms) in
    let one : d ≡ x = cc in
    subst HasKeysOnce one inside
once_by name k false x d ms e inside later is = later (sym (found_later name k d ms e) ∙ is)

pub once_inside : (name : List ℕ) (x : Data) (ms : Members) → AreKeysOnce ms → get_member name ms ≡ Some x → HasKeysOnce x
once_inside name x no_members once is = absurd cc
once_inside name x (member k d ms) once is = once_by name k (bytes_eq k name) x d ms refl once.1 (once_inside name x ms once.2) is

-- what is read of a value that is found
module _ {A : Type 0} (empty : A) (form : Data → Result A Flaw) (P : Option Data → A → Type 0) (at_none : P None empty) (at_some : (d : Data) → HasKeysOnce d → Holds (P (Some d)) (form d)) where
  pub read_found : (o : Option Data) (x : A) → ((d : Data) → o ≡ Some d → HasKeysOnce d) → read_or empty form o ≡ Ok x → P o x
  read_found None x once e = let same : empty ≡ x = cc in subst (P None) same at_none
  read_found (Some d) x once e = held (P (Some d)) (form d) x (at_some d (once d refl)) e

pub is_kid : (d : Data) → Holds (λ kid. kid ≡ option_and_then bytes_spelled (as_str d)) (kid_of d)
is_kid d = holds_bind (Spelled d) (λ kid. kid ≡ option_and_then bytes_spelled (as_str d)) _ _ (hex_spelled d) (λ bytes h. WasRead (Some bytes) (sym h))

named : (name : List ℕ) (b c : Bool) → bytes_eq name (codes "hmac256") ≡ b → bytes_eq name (codes "hmac512") ≡ c
    → Holds (IsMacOf (Some (string name))) (found_or Field (cond b (Some macs.Hmac256) (cond c (Some macs.Hmac512) None)))
named name true c e f = WasRead macs.Hmac256 ((bytes_eq-Decides name (codes "hmac256")).0 e)
named name false true e f = WasRead macs.Hmac512 ((bytes_eq-Decides name (codes "hmac512")).0 f)
named name false false e f = WasFlawed _

pub is_mac : (d : Data) → Holds (IsMacOf (Some d)) (mac_kind_of d)
is_mac (string name) = named name (bytes_eq name (codes "hmac256")) (bytes_eq name (codes "hmac512")) refl refl
is_mac null = WasFlawed _
is_mac (boolean b) = WasFlawed _
is_mac (number n) = WasFlawed _
is_mac (array ds) = WasFlawed _
is_mac (object ms) = WasFlawed _

-- ---- and a hash function

algorithm_by : (name : List ℕ) (b c e : Bool) → bytes_eq name (codes "sha256") ≡ b → bytes_eq name (codes "sha384") ≡ c → bytes_eq name (codes "sha512") ≡ e
    → Holds (IsAlgorithmOf (Some (string name))) (found_or Field (cond b (Some kinds.Sha256) (cond c (Some kinds.Sha384) (cond e (Some kinds.Sha512) None))))
algorithm_by name true c e f g h = WasRead kinds.Sha256 ((bytes_eq-Decides name (codes "sha256")).0 f)
algorithm_by name false true e f g h = WasRead kinds.Sha384 ((bytes_eq-Decides name (codes "sha384")).0 g)
algorithm_by name false false true f g h = WasRead kinds.Sha512 ((bytes_eq-Decides name (codes "sha512")).0 h)
algorithm_by name false false false f g h = WasFlawed _

pub is_algorithm : (d : Data) → Holds (IsAlgorithmOf (Some d)) (algorithm_of d)
is_algorithm (string name) = algorithm_by name (bytes_eq name (codes "sha256")) (bytes_eq name (codes "sha384")) (bytes_eq name (codes "sha512")) refl refl refl
is_algorithm null = WasFlawed _
is_algorithm (boolean b) = WasFlawed _
is_algorithm (number n) = WasFlawed _
is_algorithm (array ds) = WasFlawed _
is_algorithm (object ms) = WasFlawed _

pub here_given : (o : Option Data) (m : Member) → is_content o ≡ true → IsMemberOf o m → IsHere m
here_given o (members.Here s) e h = tt
here_given None m e h = absurd cc
here_given (Some (object ms)) m e h = absurd cc
here_given (Some (array ds)) members.Empty e h = absurd h
here_given (Some (array ds)) (members.Apart digest) e h = absurd h
here_given (Some null) members.Empty e h = absurd h
here_given (Some null) (members.Apart digest) e h = absurd h
here_given (Some (boolean b)) members.Empty e h = absurd h
here_given (Some (boolean b)) (members.Apart digest) e h = absurd h
here_given (Some (number n)) members.Empty e h = absurd h
here_given (Some (number n)) (members.Apart digest) e h = absurd h
here_given (Some (string s)) members.Empty e h = absurd h
here_given (Some (string s)) (members.Apart digest) e h = absurd h

pub text_here : (o : Option Data) (m : TextMember) → is_content o ≡ true → IsTextOf o m → IsTextHere m
text_here o (texts.Here content) e h = tt
text_here None m e h = absurd cc
text_here (Some (object ms)) m e h = absurd cc
text_here (Some null) texts.Empty e h = absurd h
text_here (Some null) (texts.Apart digest) e h = absurd h
text_here (Some (boolean b)) texts.Empty e h = absurd h
text_here (Some (boolean b)) (texts.Apart digest) e h = absurd h
text_here (Some (number n)) texts.Empty e h = absurd h
text_here (Some (number n)) (texts.Apart digest) e h = absurd h
text_here (Some (string s)) texts.Empty e h = absurd h
text_here (Some (string s)) (texts.Apart digest) e h = absurd h
text_here (Some (array ds)) texts.Empty e h = absurd h
text_here (Some (array ds)) (texts.Apart digest) e h = absurd h

-- ---- a description that is an object

noted_found : (f : Values → Option Data) (name : List ℕ) → ((o : Values) (k : List ℕ) (d : Data) → f (noted o k d) ≡ pick k name d (f o)) → f no_values ≡ None → (ms : Members) → AreKeysOnce ms
    → f (noted_all no_values ms) ≡ get_member name ms
noted_found f name one none ms once = noted_field f name one ms no_values ∙ ap (λ o. pick_all name o ms) none ∙ pick_found name ms once

pub fields_read : (files : Files) (ms : Members) (p : Described) → described files (object ms) ≡ Ok p → IsReadOf files (object ms) (noted_all no_values ms) p
fields_read files ms p e =
    let d : Data = object ms in
    held (IsReadOf files d (noted_all no_values ms)) (described files d) p
    (holds_bind (Follows files d (noted_all no_values ms)) (IsReadOf files d (noted_all no_values ms)) _ _ (walk files d ms no_values (no_fields files d) (refl, refl, refl, refl, refl, refl, refl, refl, refl)) (λ t h. finish files d (noted_all no_values ms) t h)) e

-- each is read of the value that is found
pub record IsFound (files : Files) (ms : Members) (p : Described) : Type 0 where
  pub payloads : read_or [] (payloads_of files) (get_member (codes "payloads") ms) ≡ Ok p.payloads
  pub severed : read_or none_severed (severed_of (given_in (object ms))) (get_member (codes "sever") ms) ≡ Ok p.severed
  pub payload_fetch : read_or members.Empty (described_member (scope files (object ms))) (get_member (codes "payload-fetch") ms) ≡ Ok p.manifest.payload_fetch
  pub install : read_or members.Empty (described_member (scope files (object ms))) (get_member (codes "install") ms) ≡ Ok p.manifest.install
  pub text : read_or texts.Empty text_member_of (get_member (codes "text") ms) ≡ Ok p.manifest.text
  pub kid : read_or None kid_of (get_member (codes "kid") ms) ≡ Ok p.kid
  pub mac : read_or macs.Hmac256 mac_kind_of (get_member (codes "mac") ms) ≡ Ok p.mac
  pub algorithm : read_or kinds.Sha256 algorithm_of (get_member (codes "algorithm") ms) ≡ Ok p.algorithm

pub is_found : (files : Files) (ms : Members) (p : Described) → AreKeysOnce ms → described files (object ms) ≡ Ok p → IsFound files ms p
is_found files ms p once e =
    let h = fields_read files ms p e in
    record {
      payloads = ap (read_or [] (payloads_of files)) (sym (noted_found (λ o. o.payloads) (codes "payloads") (λ o k d. refl) refl ms once)) ∙ h.payloads;
      severed = ap (read_or none_severed (severed_of (given_in (object ms)))) (sym (noted_found (λ o. o.sever) (codes "sever") (λ o k d. refl) refl ms once)) ∙ h.severed;
      payload_fetch = ap (read_or members.Empty (described_member (scope files (object ms)))) (sym (noted_found (λ o. o.payload_fetch) (codes "payload-fetch") (λ o k d. refl) refl ms once)) ∙ h.payload_fetch;
      install = ap (read_or members.Empty (described_member (scope files (object ms)))) (sym (noted_found (λ o. o.install) (codes "install") (λ o k d. refl) refl ms once)) ∙ h.install;
      text = ap (read_or texts.Empty text_member_of) (sym (noted_found (λ o. o.text) (codes "text") (λ o k d. refl) refl ms once)) ∙ h.text;
      kid = ap (read_or None kid_of) (sym (noted_found (λ o. o.kid) (codes "kid") (λ o k d. refl) refl ms once)) ∙ h.kid;
      mac = ap (read_or macs.Hmac256 mac_kind_of) (sym (noted_found (λ o. o.mac) (codes "mac") (λ o k d. refl) refl ms once)) ∙ h.mac;
      algorithm = ap (read_or kinds.Sha256 algorithm_of) (sym (noted_found (λ o. o.algorithm) (codes "algorithm") (λ o k d. refl) refl ms once)) ∙ h.algorithm;
    }
