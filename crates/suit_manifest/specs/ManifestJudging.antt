-- How a manifest is judged, case by case: what it says, or the first refusal.
use Rattle.std.specs.Prelude.{ℕ, ◌==◌, if◌then◌else◌, false, List, Option, Some, None, length, Result, Ok, Err}
use Rattle.det_cbor.specs.DataItem.{DataItem, UnsignedInteger, TextString, ArrayOf, DataPairs}
use Rattle.det_cbor.specs.HeadReading.{◌>>=◌}
use Rattle.suit_params.specs.declared.refusal.Refusal.{Refusal}
use Rattle.suit_params.specs.declared.refusal.Why.TheVariants.{Shape, Version}
use Rattle.suit_params.specs.Refusing.{refused}
use Rattle.suit_params.specs.Reading.{whole_judged}
use Rattle.suit_params.specs.Judging.{judge_string, judge_held, judge_digest}
use Rattle.suit_commands.specs.Allowed.{levels_inside}
use Rattle.suit_commands.specs.SequenceJudging.{judge_sequence}
use Rattle.suit_commands.specs.Tree.{SequenceTree}
use Rattle.suit_envelope.specs.Envelopes.{Entry}
use Rattle.suit_manifest.specs.declared.manifest.Manifest.{Manifest}
use Rattle.suit_manifest.specs.declared.manifest.Member.{Member}
use Rattle.suit_manifest.specs.declared.manifest.Member.TheVariants as members
use Rattle.suit_manifest.specs.declared.manifest.TextMember.{TextMember}
use Rattle.suit_manifest.specs.declared.manifest.TextMember.TheVariants as texts
use Rattle.suit_manifest.specs.declared.later.Later.{Later}
use Rattle.suit_manifest.specs.Maps.{entry_under}
use Rattle.suit_manifest.specs.Common.{CommonSays}
use Rattle.suit_manifest.specs.Manifests.{manifest_keys}
use Rattle.suit_manifest.specs.Elements.{judge_map}
use Rattle.suit_manifest.specs.MapReading.{judge_keyed, needed, judge_at, may}
use Rattle.suit_manifest.specs.CommonReading.{judge_common}

-- ---- values

abbrev pub judge_number : ℕ → DataItem → Result ℕ Refusal
judge_number place (UnsignedInteger n) = Ok n
judge_number place _ = Err (refused place Shape)

abbrev pub known_version : ℕ → ℕ → Result ℕ Refusal
known_version place n = if n == 1 then Ok n else Err (refused place (Version n))

abbrev pub judge_version : ℕ → DataItem → Result ℕ Refusal
judge_version place x = judge_number place x >>= known_version place

abbrev pub judge_text : ℕ → DataItem → Result (List ℕ) Refusal
judge_text place (TextString text) = Ok text
judge_text place _ = Err (refused place Shape)

abbrev pub judge_member : ℕ → ℕ → DataItem → Result SequenceTree Refusal
judge_member count = judge_held (judge_sequence false count levels_inside)

-- an array is judged one way, and anything else the other way
abbrev pub judge_or : {A : Type 0} → (ℕ → DataItem → Result A Refusal)
    → (ℕ → DataItem → Result A Refusal) → ℕ → DataItem → Result A Refusal
judge_or array other place (ArrayOf items) = array place (ArrayOf items)
judge_or array other place x = other place x

abbrev pub judge_held_apart : ℕ → DataItem → Result Member Refusal
judge_held_apart place x = judge_digest place x >>= λ d. Ok (members.Apart d)

abbrev pub judge_here : ℕ → ℕ → DataItem → Result Member Refusal
judge_here count place x = judge_member count place x >>= λ s. Ok (members.Here s)

abbrev pub judge_severed : ℕ → ℕ → DataItem → Result Member Refusal
judge_severed count = judge_or judge_held_apart (judge_here count)

abbrev pub judge_text_apart : ℕ → DataItem → Result TextMember Refusal
judge_text_apart place x = judge_digest place x >>= λ d. Ok (texts.Apart d)

abbrev pub judge_item : ℕ → DataItem → Result DataItem Refusal
judge_item place x = Ok x

-- the content of a byte string that must hold one item
abbrev pub judge_content : ℕ → DataItem → Result (List ℕ) Refusal
judge_content place x =
    judge_string place x >>= λ c. whole_judged judge_item c.place c.left >>= λ _. Ok c.left

abbrev pub judge_text_here : ℕ → DataItem → Result TextMember Refusal
judge_text_here place x = judge_content place x >>= λ content. Ok (texts.Here content)

abbrev pub judge_text_member : ℕ → DataItem → Result TextMember Refusal
judge_text_member = judge_or judge_text_apart judge_text_here

-- ---- optional values

abbrev pub member_or_empty : Option Member → Member
member_or_empty None = members.Empty
member_or_empty (Some m) = m

abbrev pub text_of : Option TextMember → TextMember
text_of None = texts.Empty
text_of (Some text) = text

abbrev pub judge_later : ℕ → List Entry → Result Later Refusal
judge_later count es =
    may (judge_at judge_text) (entry_under 4 es) >>= λ reference.
    may (judge_at (judge_member count)) (entry_under 7 es) >>= λ validate.
    may (judge_at (judge_member count)) (entry_under 8 es) >>= λ load.
    may (judge_at (judge_member count)) (entry_under 9 es) >>= λ invoke.
    may (judge_at (judge_severed count)) (entry_under 16 es) >>= λ payload_fetch.
    may (judge_at (judge_severed count)) (entry_under 20 es) >>= λ install.
    may (judge_at judge_text_member) (entry_under 23 es) >>= λ text.
    Ok
    (record {
      reference = reference;
      validate = validate;
      load = load;
      invoke = invoke;
      payload_fetch = member_or_empty payload_fetch;
      install = member_or_empty install;
      text = text_of text;
    })

-- ---- the map

abbrev pub manifest_of : ℕ → CommonSays → Later → Manifest
manifest_of n common later = record {
  sequence = n;
  components = common.components;
  shared = common.shared;
  reference = later.reference;
  validate = later.validate;
  load = later.load;
  invoke = later.invoke;
  payload_fetch = later.payload_fetch;
  install = later.install;
  text = later.text;
}

-- the entries are judged once all keys are known
abbrev pub judge_values : ℕ → List Entry → Result Manifest Refusal
judge_values place es =
    needed place 1 (entry_under 1 es) >>= λ a.
    needed place 2 (entry_under 2 es) >>= λ b.
    needed place 3 (entry_under 3 es) >>= λ c.
    judge_at judge_version a >>= λ v.
    judge_at judge_number b >>= λ n.
    judge_at (judge_held judge_common) c >>= λ common.
    judge_later (length common.components) es >>= λ later.
    Ok (manifest_of n common later)

abbrev pub judge_pairs : ℕ → DataPairs → Result Manifest Refusal
judge_pairs = judge_keyed manifest_keys judge_values

abbrev pub judge_manifest : ℕ → DataItem → Result Manifest Refusal
judge_manifest = judge_map judge_pairs
