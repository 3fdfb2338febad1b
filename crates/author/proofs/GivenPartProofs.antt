-- A description has the parts that stand in its JSON value.
use Rattle.std.proofs.Common.{◌≡◌, ℕ, List, [], true, Option, Some, None, Ok, inl, inr, refl, ap, sym, ◌∙◌}
use Rattle.std.specs.Prelude.{codes, IsTrue, option_and_then}
use Rattle.serde_json.specs.Data.{Data, null, boolean, number, string, array, object, Items, Members}
use Rattle.serde_json.specs.Find.{get_member, get, get_item, as_str}
use Rattle.hmac_mac0.specs.declared.mac_kind.MacKind.TheVariants as macs
use Rattle.suit_params.specs.declared.digest_kind.DigestKind.{DigestKind}
use Rattle.suit_params.specs.declared.digest_kind.DigestKind.TheVariants as kinds
use Rattle.suit_envelope.specs.Payloads.{payload_under}
use Rattle.suit_envelope.specs.declared.severed.MemberName.{MemberName}
use Rattle.suit_envelope.specs.declared.severed.MemberName.TheVariants as names
use Rattle.suit_manifest.specs.declared.manifest.Member.{Member}
use Rattle.suit_manifest.specs.declared.manifest.Member.TheVariants as members
use Rattle.suit_manifest.specs.declared.manifest.TextMember.TheVariants as texts
use Rattle.author.specs.declared.fields.Described.{Described}
use Rattle.author.specs.declared.severing.Severed.{Severed}
use Rattle.author.specs.Descriptions.{described}
use Rattle.author.specs.GivenParts.{bytes_spelled, bytes_under, payload_given, payload_at, IsMemberOf, IsTextOf, IsAlgorithmOf, IsMacOf, IsSeveredOf, SeversBy, HasPartsOf}
use Rattle.author.specs.KeysOnce.{HasKeysOnce, AreKeysOnce}
use Rattle.author.specs.AlgorithmNames.{algorithm_of}
use Rattle.author.specs.MacNames.{mac_kind_of}
use Rattle.author.specs.Members.{described_member, text_member_of}
use Rattle.author.specs.Payloads.{payloads_of}
use Rattle.author.specs.Severing.{is_in, kind_in, none_severed, given_in, severed_of}
use Rattle.author.proofs.GivenFields.{IsFound, scope, read_or, kid_of, is_found, once_inside, read_found, is_algorithm, is_kid, is_mac, here_given, text_here}
use Rattle.author.proofs.GivenMembers.{member_given, text_given}
use Rattle.author.proofs.GivenPayloadProofs.{PayloadIs, under_key}
use Rattle.author.proofs.GivenSevered.{IsIn, name_text, NamedBy, severed_named}
use Rattle.author.proofs.Keeps.{held}

abbrev Files : Type 0
Files = List (List ℕ × List ℕ)

-- ---- severed members

-- the names stand in the value under `sever`, each of a given member
abbrev NamesAre : Severed → Option Data → Severed → Type 0
NamesAre given None s = s ≡ none_severed
NamesAre given (Some d) s = NamedBy given d s

none_in : (n : MemberName) → is_in none_severed n ≡ true → ⊥
none_in names.PayloadFetch e = absurd cc
none_in names.Install e = absurd cc
none_in names.Text e = absurd cc

module _ (ms : Members) (s : Severed) where
  abbrev severs : MemberName → DigestKind → Type 0
  severs n kind = SeversBy (object ms) (name_text n) kind

  named_there : (given : Severed) (o : Option Data) (n : MemberName) → get_member (codes "sever") ms ≡ o → NamesAre given o s → is_in s n ≡ true → severs n (kind_in s.kinds n) × (is_in given n ≡ true)
  named_there given None n is h e = absurd (none_in n (ap (λ (x : Severed). is_in x n) (sym h) ∙ e))
  named_there given (Some d) n is h e = elim ((h.added n (kind_in s.kinds n)).back (e, refl)) [
    | inl before ↦ absurd (none_in n before.0)
    | inr there ↦
        let entry = there.0 in
        (record { entries = h.entries; i = entry.i; array = is ∙ ap Some h.array; entry = entry.entry; at = entry.at; is = entry.is }, there.1)
  ]

  there_named : (given : Severed) (o : Option Data) (n : MemberName) (kind : DigestKind) → get_member (codes "sever") ms ≡ o → NamesAre given o s → severs n kind → IsIn s n kind
  there_named given None n kind is h there = absurd (none_array there.entries (sym is ∙ there.array))
    where
      none_array : (ds : Items) → None ≡ Some (array ds) → ⊥
      none_array ds e = absurd cc
  there_named given (Some d) n kind is h there =
      let both : Some (array h.entries) ≡ Some (array there.entries) = sym (is ∙ ap Some h.array) ∙ there.array in
      let same : h.entries ≡ there.entries = cc in
      (h.added n kind).listed (record { i = there.i; entry = there.entry; at = ap (get_item there.i) same ∙ there.at; is = there.is })

  severed_by : (given : Severed) (n : MemberName) → NamesAre given (get_member (codes "sever") ms) s → IsSeveredOf (object ms) (name_text n) (is_in s n) (kind_in s.kinds n)
  severed_by given n h = record {
    named = λ e. (named_there given _ n refl h e).0;
    severs = λ other there. let is = there_named given _ n other refl h there in (is.0, sym is.1);
  }

-- ---- payloads

-- what stands under a key of a value
abbrev PayloadsAre : Files → Option Data → Files → Type 0
PayloadsAre files o list = (key : List ℕ) → PayloadIs files key (option_and_then (get key) o) (payload_under list key)

payloads_read : (files : Files) (d : Data) (list : Files) → HasKeysOnce d → payloads_of files d ≡ Ok list → PayloadsAre files (Some d) list
payloads_read files d list once e key = held (λ list. PayloadIs files key (get key d) (payload_under list key)) (payloads_of files d) list (under_key files key d once) e

each_is : (files : Files) (key : List ℕ) (o : Option Data) (payload : Option (List ℕ)) (d : Data) → PayloadIs files key o payload → o ≡ Some d → (bytes : List ℕ) × (payload_given files d ≡ Some bytes) × (payload ≡ Some bytes)
each_is files key (Some x) payload d h e = let same : x ≡ d = cc in (h.0, ap (payload_given files) (sym same) ∙ h.1, h.2)
each_is files key None payload d h e = absurd cc

none_is : (files : Files) (key : List ℕ) (o : Option Data) (payload : Option (List ℕ)) → PayloadIs files key o payload → o ≡ None → payload ≡ None
none_is files key None payload h e = h
none_is files key (Some x) payload h e = absurd cc

-- ---- together

module _ (files : Files) (ms : Members) (p : Described) (once : AreKeysOnce ms) (e : described files (object ms) ≡ Ok p) where
  inside : (name : List ℕ) (d : Data) → get_member name ms ≡ Some d → HasKeysOnce d
  inside name d is = once_inside name d ms once is

  found : IsFound files ms p
  found = is_found files ms p once e

  is_severed : NamesAre (given_in (object ms)) (get_member (codes "sever") ms) p.severed
  is_severed =
      read_found none_severed (severed_of (given_in (object ms))) (NamesAre (given_in (object ms))) refl (λ d o. severed_named (given_in (object ms)) d) (get_member (codes "sever") ms) p.severed (inside (codes "sever")) found.severed

  member_is : (name : List ℕ) (m : Member) → read_or members.Empty (described_member (scope files (object ms))) (get_member name ms) ≡ Ok m → IsMemberOf (get_member name ms) m
  member_is name m is =
      read_found members.Empty (described_member (scope files (object ms))) IsMemberOf tt (λ d o. member_given (scope files (object ms)) d o) (get_member name ms) m (inside name) is

  is_text : IsTextOf (get_member (codes "text") ms) p.manifest.text
  is_text = read_found texts.Empty text_member_of IsTextOf tt text_given (get_member (codes "text") ms) p.manifest.text (inside (codes "text")) found.text

  kid_is : p.kid ≡ bytes_under (codes "kid") (object ms)
  kid_is =
      read_found None kid_of (λ o kid. kid ≡ option_and_then bytes_spelled (option_and_then as_str o)) refl (λ d o. is_kid d) (get_member (codes "kid") ms) p.kid (inside (codes "kid")) found.kid

  mac_is : IsMacOf (get_member (codes "mac") ms) p.mac
  mac_is = read_found macs.Hmac256 mac_kind_of IsMacOf tt (λ d o. is_mac d) (get_member (codes "mac") ms) p.mac (inside (codes "mac")) found.mac

  algorithm_is : IsAlgorithmOf (get_member (codes "algorithm") ms) p.algorithm
  algorithm_is = read_found kinds.Sha256 algorithm_of IsAlgorithmOf tt (λ d o. is_algorithm d) (get_member (codes "algorithm") ms) p.algorithm (inside (codes "algorithm")) found.algorithm

  payloads_are : PayloadsAre files (get_member (codes "payloads") ms) p.payloads
  payloads_are =
      payloads_by (get_member (codes "payloads") ms) p.payloads (inside (codes "payloads")) found.payloads
    where
      payloads_by : (o : Option Data) (list : Files) → ((d : Data) → o ≡ Some d → HasKeysOnce d) → read_or [] (payloads_of files) o ≡ Ok list → PayloadsAre files o list
      payloads_by None list inside is key = let none : [] ≡ list = cc in ap (λ x. payload_under x key) (sym none)
      payloads_by (Some d) list inside is key = payloads_read files d list (inside d refl) is key

  given_there : (n : MemberName) → IsTrue (is_in p.severed n) → is_in (given_in (object ms)) n ≡ true
  given_there n h = (named_there ms p.severed (given_in (object ms)) _ n refl is_severed h).1

  pub has_parts : HasPartsOf (object ms) files p
  has_parts =
      let given : Severed = given_in (object ms) in
      let fetch : IsMemberOf (get_member (codes "payload-fetch") ms) p.manifest.payload_fetch = member_is (codes "payload-fetch") p.manifest.payload_fetch found.payload_fetch in
      let install : IsMemberOf (get_member (codes "install") ms) p.manifest.install = member_is (codes "install") p.manifest.install found.install in
      record {
        payloads = record {
          each = λ key d is. each_is files key (payload_at key (object ms)) (payload_under p.payloads key) d (payloads_are key) is;
          no_other = λ key is. none_is files key (payload_at key (object ms)) (payload_under p.payloads key) (payloads_are key) is;
        };
        severed = record {
          payload_fetch = severed_by ms p.severed given names.PayloadFetch is_severed;
          install = severed_by ms p.severed given names.Install is_severed;
          text = severed_by ms p.severed given names.Text is_severed;
          payload_fetch_here = λ h. here_given _ p.manifest.payload_fetch (given_there names.PayloadFetch h) fetch;
          install_here = λ h. here_given _ p.manifest.install (given_there names.Install h) install;
          text_here = λ h. text_here _ p.manifest.text (given_there names.Text h) is_text;
        };
        payload_fetch = fetch;
        install = install;
        text = is_text;
        kid = kid_is;
        mac = mac_is;
        algorithm = algorithm_is;
      }

pub parts : (d : Data) (files : Files) (p : Described) → HasKeysOnce d → described files d ≡ Ok p → HasPartsOf d files p
parts (object ms) files p once e = has_parts files ms p once e
parts null files p once e = absurd cc
parts (boolean b) files p once e = absurd cc
parts (number n) files p once e = absurd cc
parts (string s) files p once e = absurd cc
parts (array ds) files p once e = absurd cc
