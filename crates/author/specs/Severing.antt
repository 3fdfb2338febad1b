-- Which members of a description are severed, and by which hash functions: an array of entries with distinct names,
-- each of a member that is given with its content.
use Rattle.std.specs.Prelude.{ℕ, suc, Bool, true, false, not, ◌&&◌, if◌then◌else◌, List, codes, Option, Some, None, is_some, option_and_then, Result, Ok}
use Rattle.std.specs.Str.{bytes_eq}
use Rattle.det_cbor.specs.HeadReading.{◌>>=◌}
use Rattle.serde_json.specs.Data.{Data, Items, no_items, item}
use Rattle.serde_json.specs.Find.{get, as_str, as_array, as_object}
use Rattle.json_fields.specs.declared.flaw.Flaw.{Flaw}
use Rattle.json_fields.specs.declared.flaw.FlawKind.TheVariants.{Field}
use Rattle.json_fields.specs.Flaws.{flawed, found_or, under}
use Rattle.json_fields.specs.Pointers.{index_token}
use Rattle.suit_envelope.specs.declared.severed.MemberName.{MemberName}
use Rattle.suit_envelope.specs.declared.severed.MemberName.TheVariants as names
use Rattle.suit_params.specs.declared.digest_kind.DigestKind.{DigestKind}
use Rattle.suit_params.specs.declared.digest_kind.DigestKind.TheVariants.{Sha256}
use Rattle.author.specs.declared.severing.MemberKinds.{MemberKinds}
use Rattle.author.specs.declared.severing.Severed.{Severed}
use Rattle.author.specs.AlgorithmNames.{algorithm_of}
use Rattle.author.specs.Elements.{items_in, pair_in}

abbrev pub member_named : List ℕ → Option MemberName
member_named name =
    if bytes_eq name (codes "payload-fetch") then Some names.PayloadFetch
    else if bytes_eq name (codes "install") then Some names.Install
    else if bytes_eq name (codes "text") then Some names.Text
    else None

abbrev pub is_in : Severed → MemberName → Bool
is_in s names.PayloadFetch = s.payload_fetch
is_in s names.Install = s.install
is_in s names.Text = s.text

abbrev pub kind_in : MemberKinds → MemberName → DigestKind
kind_in kinds names.PayloadFetch = kinds.payload_fetch
kind_in kinds names.Install = kinds.install
kind_in kinds names.Text = kinds.text

abbrev pub with_kind : MemberKinds → MemberName → DigestKind → MemberKinds
with_kind kinds names.PayloadFetch kind = record kinds { payload_fetch = kind }
with_kind kinds names.Install kind = record kinds { install = kind }
with_kind kinds names.Text kind = record kinds { text = kind }

abbrev pub with_name : Severed → MemberName → DigestKind → Severed
with_name s names.PayloadFetch kind =
    record s { payload_fetch = true; kinds = with_kind s.kinds names.PayloadFetch kind }
with_name s names.Install kind =
    record s { install = true; kinds = with_kind s.kinds names.Install kind }
with_name s names.Text kind =
    record s { text = true; kinds = with_kind s.kinds names.Text kind }

abbrev pub plain_kinds : MemberKinds
plain_kinds = record { payload_fetch = Sha256; install = Sha256; text = Sha256 }

abbrev pub none_severed : Severed
none_severed = record {
  payload_fetch = false;
  install = false;
  text = false;
  kinds = plain_kinds;
}

-- a member is given with its content if its field is there and is not an object
abbrev pub is_content : Option Data → Bool
is_content None = false
is_content (Some d) = not (is_some (as_object d))

abbrev pub given_in : Data → Severed
given_in d = record {
  payload_fetch = is_content (get (codes "payload-fetch") d);
  install = is_content (get (codes "install") d);
  text = is_content (get (codes "text") d);
  kinds = plain_kinds;
}

-- ---- entries: a name, for SHA-256, or a name and a hash function

-- the name of a member that is given, and not named yet
abbrev pub one_name : Severed → Severed → Data → Result MemberName Flaw
one_name given s d =
    found_or Field (option_and_then member_named (as_str d)) >>= λ name.
    if is_in given name && not (is_in s name) then Ok name else flawed Field

abbrev pub entry_by : Severed → Severed → Data → Option (Data × Data)
    → Result (MemberName × DigestKind) Flaw
entry_by given s d (Some p) =
    under (index_token 0) (one_name given s p.0) >>= λ name.
    under (index_token 1) (algorithm_of p.1) >>= λ kind. Ok (name, kind)
entry_by given s d None = one_name given s d >>= λ name. Ok (name, Sha256)

abbrev pub entry_of : Severed → Severed → Data → Result (MemberName × DigestKind) Flaw
entry_of given s d = entry_by given s d (pair_in (items_in d))

abbrev pub one_severed : Severed → Severed → Data → Result Severed Flaw
one_severed given s d = entry_of given s d >>= λ e. Ok (with_name s e.0 e.1)

abbrev pub severed_from : Severed → ℕ → Severed → Items → Result Severed Flaw
severed_from given i s no_items = Ok s
severed_from given i s (item d ds) =
    under (index_token i) (one_severed given s d) >>= λ more. severed_from given (suc i) more ds

abbrev pub severed_of : Severed → Data → Result Severed Flaw
severed_of given d = found_or Field (as_array d) >>= λ ds. severed_from given 0 none_severed ds
