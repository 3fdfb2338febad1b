-- The values of a description's sequences and of `sever`. If a key is there twice, the last counts.
use Rattle.std.specs.Prelude.{ℕ, ◌+◌, Bool, true, false, not, if◌then◌else◌, List, codes, Option, Some, None, option_map, unwrap_or, Result, Ok}
use Rattle.std.specs.Result.{result_ok}
use Rattle.std.specs.Str.{bytes_eq}
use Rattle.serde_json.specs.Data.{Data, Members, no_members, member}
use Rattle.json_fields.specs.declared.flaw.Flaw.{Flaw}
use Rattle.serde_json.specs.View.{view}
use Rattle.suit_commands.specs.Allowed.{levels_allowed}
use Rattle.author.specs.declared.outline.Outline.{Outline as Held}
use Rattle.author.specs.declared.severing.Severed.{Severed}
use Rattle.author.specs.Contents.{members_in, sequence_length}
use Rattle.author.specs.Severing.{none_severed, given_in, severed_of}

pub record Outline : Type 0 where
  pub shared : Option Data
  pub validate : Option Data
  pub load : Option Data
  pub invoke : Option Data
  pub payload_fetch : Option Data
  pub install : Option Data
  pub sever : Option Data

abbrev pub outline_view : Held → Outline
outline_view o = record {
  shared = option_map (λ v. view v.now) o.shared;
  validate = option_map (λ v. view v.now) o.validate;
  load = option_map (λ v. view v.now) o.load;
  invoke = option_map (λ v. view v.now) o.invoke;
  payload_fetch = option_map (λ v. view v.now) o.payload_fetch;
  install = option_map (λ v. view v.now) o.install;
  sever = option_map (λ v. view v.now) o.sever;
}

abbrev pub no_values : Outline
no_values = record {
  shared = None;
  validate = None;
  load = None;
  invoke = None;
  payload_fetch = None;
  install = None;
  sever = None;
}

abbrev pub noted : Outline → List ℕ → Data → Outline
noted o key d =
    if bytes_eq key (codes "shared") then record o { shared = Some d }
    else if bytes_eq key (codes "validate") then record o { validate = Some d }
    else if bytes_eq key (codes "load") then record o { load = Some d }
    else if bytes_eq key (codes "invoke") then record o { invoke = Some d }
    else if bytes_eq key (codes "payload-fetch") then record o { payload_fetch = Some d }
    else if bytes_eq key (codes "install") then record o { install = Some d }
    else if bytes_eq key (codes "sever") then record o { sever = Some d }
    else o

abbrev pub noted_all : Outline → Members → Outline
noted_all o no_members = o
noted_all o (member key d ms) = noted_all (noted o key d) ms

abbrev pub outline_of : Data → Outline
outline_of d = noted_all no_values (members_in d)

-- ---- the severed members

abbrev pub severed_by : Severed → Option Data → Result Severed Flaw
severed_by given None = Ok none_severed
severed_by given (Some d) = severed_of given d

-- the severed members of a description
abbrev pub severed_in : Data → Severed
severed_in d = unwrap_or (result_ok (severed_by (given_in d) (outline_of d).sever)) none_severed

-- ---- how many bytes of files are contents in the manifest, and in the severed members

abbrev pub held_length : List (List ℕ × List ℕ) → Option Data → ℕ
held_length files None = 0
held_length files (Some d) = sequence_length files levels_allowed d

abbrev pub member_length : List (List ℕ × List ℕ) → Bool → Option Data → ℕ
member_length files true held = 0
member_length files false held = held_length files held

abbrev pub manifest_length : List (List ℕ × List ℕ) → Outline → Severed → ℕ
manifest_length files o severed =
    held_length files o.shared + (held_length files o.validate + (held_length files o.load
    + (held_length files o.invoke
    + (member_length files severed.payload_fetch o.payload_fetch
    + member_length files severed.install o.install))))

abbrev pub severed_length : List (List ℕ × List ℕ) → Outline → Severed → ℕ
severed_length files o severed =
    member_length files (not severed.payload_fetch) o.payload_fetch
    + member_length files (not severed.install) o.install

-- the bytes of files that are contents in the manifest of a description
abbrev pub manifest_contents : List (List ℕ × List ℕ) → Data → ℕ
manifest_contents files d = manifest_length files (outline_of d) (severed_in d)

abbrev pub severed_contents : List (List ℕ × List ℕ) → Data → ℕ
severed_contents files d = severed_length files (outline_of d) (severed_in d)
