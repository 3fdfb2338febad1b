-- What a description gives, by what is found in its JSON value: its payloads, the members that may be severed, the
-- key's identifier, the block's algorithm, and the hash function of the wrapper's digest.
use Rattle.std.specs.Prelude.{◌≡◌, ℕ, Bool, IsTrue, List, codes, Option, Some, None, option_and_then}
use Rattle.std.specs.Result.{result_ok}
use Rattle.serde_json.specs.Data.{Data, string, array, object, Items, no_items, item}
use Rattle.serde_json.specs.Find.{get, get_item, as_str}
use Rattle.hex.specs.Hex.{decode_of}
use Rattle.hmac_mac0.specs.declared.mac_kind.MacKind.{MacKind}
use Rattle.hmac_mac0.specs.declared.mac_kind.MacKind.TheVariants as macs
use Rattle.suit_params.specs.DigestBytes.{as_digest}
use Rattle.suit_params.specs.declared.digest_kind.DigestKind.{DigestKind}
use Rattle.suit_params.specs.declared.digest_kind.DigestKind.TheVariants as kinds
use Rattle.suit_envelope.specs.Payloads.{payload_under}
use Rattle.suit_manifest.specs.declared.manifest.Member.{Member}
use Rattle.suit_manifest.specs.declared.manifest.Member.TheVariants as members
use Rattle.suit_manifest.specs.declared.manifest.TextMember.{TextMember}
use Rattle.suit_manifest.specs.declared.manifest.TextMember.TheVariants as texts
use Rattle.author.specs.declared.fields.Described.{Described}
use Rattle.author.specs.AlgorithmNames.{algorithm_named}
use Rattle.author.specs.Files.{bytes_of}
use Rattle.author.specs.GivenCommands.{HasCommandsOf}

abbrev pub text_under : List ℕ → Data → Option (List ℕ)
text_under key d = option_and_then as_str (get key d)

-- the bytes that hexadecimal digits spell
abbrev pub bytes_spelled : List ℕ → Option (List ℕ)
bytes_spelled digits = result_ok (decode_of digits)

abbrev pub bytes_under : List ℕ → Data → Option (List ℕ)
bytes_under key d = option_and_then bytes_spelled (text_under key d)

-- ---- payloads: `{"file": NAME}` or `{"hex": HEX}` under each key

abbrev pub bytes_given : List (List ℕ × List ℕ) → Option (List ℕ) → Option (List ℕ)
    → Option (List ℕ)
bytes_given files (Some name) None = Some (bytes_of files name)
bytes_given files None (Some digits) = bytes_spelled digits
bytes_given files (Some name) (Some digits) = None
bytes_given files None None = None

abbrev pub payload_given : List (List ℕ × List ℕ) → Data → Option (List ℕ)
payload_given files d =
    bytes_given files (text_under (codes "file") d) (text_under (codes "hex") d)

abbrev pub payload_at : List ℕ → Data → Option Data
payload_at key d = option_and_then (get key) (get (codes "payloads") d)

-- there is a payload under each key that is given, with the bytes that are given for it, and no other
pub record ArePayloadsOf (d : Data) (files payloads : List (List ℕ × List ℕ)) : Type 0 where
  pub each : (key : List ℕ) (given : Data) → payload_at key d ≡ Some given
      → (bytes : List ℕ) × (payload_given files given ≡ Some bytes)
      × (payload_under payloads key ≡ Some bytes)
  pub no_other : (key : List ℕ) → payload_at key d ≡ None → payload_under payloads key ≡ None

-- ---- members: the digest of one that is left out, or else its content

abbrev pub IsMemberOf : Option Data → Member → Type 0
IsMemberOf None members.Empty = Unit {0}
IsMemberOf (Some (array ds)) (members.Here s) = HasCommandsOf ds s
IsMemberOf (Some (object ms)) (members.Apart digest) =
    option_and_then as_digest (bytes_under (codes "digest") (object ms)) ≡ Some digest
IsMemberOf _ _ = ⊥

abbrev pub IsTextOf : Option Data → TextMember → Type 0
IsTextOf None texts.Empty = Unit {0}
IsTextOf (Some (string digits)) (texts.Here content) = bytes_spelled digits ≡ Some content
IsTextOf (Some (object ms)) (texts.Apart digest) =
    option_and_then as_digest (bytes_under (codes "digest") (object ms)) ≡ Some digest
IsTextOf _ _ = ⊥

-- ---- severed members

-- the entry has this name: alone, for SHA-256, or before the name of this hash function
abbrev pub IsEntry : List ℕ → DigestKind → Data → Type 0
IsEntry name kind (string text) = (text ≡ name) × (kind ≡ kinds.Sha256)
IsEntry name kind (array (item (string text) (item (string algorithm) no_items))) =
    (text ≡ name) × (algorithm_named algorithm ≡ Some kind)
IsEntry name kind _ = ⊥

-- the array under `sever` has this name, for this hash function
pub record SeversBy (d : Data) (name : List ℕ) (kind : DigestKind) : Type 0 where
  pub entries : Items
  pub i : ℕ
  pub array : get (codes "sever") d ≡ Some (array entries)
  pub entry : Data
  pub at : get_item i entries ≡ Some entry
  pub is : IsEntry name kind entry

abbrev pub Severs : Data → List ℕ → Type 0
Severs d name = (kind : DigestKind) × SeversBy d name kind

-- the member is given with its content
abbrev pub IsHere : Member → Type 0
IsHere (members.Here s) = Unit {0}
IsHere _ = ⊥

abbrev pub IsTextHere : TextMember → Type 0
IsTextHere (texts.Here content) = Unit {0}
IsTextHere _ = ⊥

-- the member is severed if it is named, by the hash function that is named
pub record IsSeveredOf (d : Data) (name : List ℕ) (severed : Bool) (kind : DigestKind)
    : Type 0 where
  pub named : IsTrue severed → SeversBy d name kind
  pub severs : (other : DigestKind) → SeversBy d name other → IsTrue severed × (other ≡ kind)

-- just the named members are severed, and each of these is given with its content
pub record AreSeveredOf (d : Data) (p : Described) : Type 0 where
  pub payload_fetch :
      IsSeveredOf d (codes "payload-fetch") p.severed.payload_fetch
      p.severed.kinds.payload_fetch
  pub install : IsSeveredOf d (codes "install") p.severed.install p.severed.kinds.install
  pub text : IsSeveredOf d (codes "text") p.severed.text p.severed.kinds.text
  pub payload_fetch_here : IsTrue p.severed.payload_fetch → IsHere p.manifest.payload_fetch
  pub install_here : IsTrue p.severed.install → IsHere p.manifest.install
  pub text_here : IsTrue p.severed.text → IsTextHere p.manifest.text

-- ---- the algorithm of the block: HMAC 256/256 if none is named

abbrev pub IsMacOf : Option Data → MacKind → Type 0
IsMacOf None macs.Hmac256 = Unit {0}
IsMacOf (Some (string name)) macs.Hmac256 = name ≡ codes "hmac256"
IsMacOf (Some (string name)) macs.Hmac512 = name ≡ codes "hmac512"
IsMacOf _ _ = ⊥

-- ---- the hash function of the wrapper's digest: SHA-256 if none is named

abbrev pub IsAlgorithmOf : Option Data → DigestKind → Type 0
IsAlgorithmOf None kinds.Sha256 = Unit {0}
IsAlgorithmOf (Some (string name)) kinds.Sha256 = name ≡ codes "sha256"
IsAlgorithmOf (Some (string name)) kinds.Sha384 = name ≡ codes "sha384"
IsAlgorithmOf (Some (string name)) kinds.Sha512 = name ≡ codes "sha512"
IsAlgorithmOf _ _ = ⊥

-- ---- all of it

pub record HasPartsOf (d : Data) (files : List (List ℕ × List ℕ)) (p : Described) : Type 0 where
  pub payloads : ArePayloadsOf d files p.payloads
  pub severed : AreSeveredOf d p
  pub payload_fetch : IsMemberOf (get (codes "payload-fetch") d) p.manifest.payload_fetch
  pub install : IsMemberOf (get (codes "install") d) p.manifest.install
  pub text : IsTextOf (get (codes "text") d) p.manifest.text
  pub kid : p.kid ≡ bytes_under (codes "kid") d
  pub mac : IsMacOf (get (codes "mac") d) p.mac
  pub algorithm : IsAlgorithmOf (get (codes "algorithm") d) p.algorithm
