-- A manifest whose contents are too long makes a trimmed envelope that is too long.
use Rattle.std.proofs.Common.{◌≡◌, ◌<◌, ◌≤◌, ◌-◌, ◌^◌, ℕ, min, Bool, true, false, List, [], ◌++◌, length, Option, Some, Result, Ok, Err, refl, sym, ap, ◌∙◌, arith}
use Rattle.std.specs.Prelude.{not, unwrap_or}
use Rattle.std.specs.Result.{result_ok}
use Rattle.std.proofs.lemmas.List.{length-append}
use mathlib.Core.Logic.{∥∥₁_elim}
use Rattle.det_cbor.specs.DataItem.{UnsignedInteger, ByteString, spell}
use Rattle.det_cbor.specs.Heads.{head_bytes}
use Rattle.serde_json.specs.Data.{Data}
use Rattle.json_fields.specs.declared.flaw.Flaw.{Flaw}
use Rattle.suit_commands.specs.SequenceMaking.{sequence_item, step_items}
use Rattle.suit_commands.specs.Tree.{SequenceTree}
use Rattle.suit_envelope.specs.Trimmed.{trimmed}
use Rattle.suit_envelope.specs.declared.parts.EnvelopeParts.{EnvelopeParts}
use Rattle.suit_manifest.specs.declared.manifest.Member.{Member}
use Rattle.suit_manifest.specs.declared.manifest.Member.TheVariants as members
use Rattle.author.specs.declared.fields.Described.{Described}
use Rattle.author.specs.declared.make_fault.MakeFault.TheVariants.{TooLong}
use Rattle.author.specs.declared.making.Parted.{Parted}
use Rattle.author.specs.declared.severing.Severed.{Severed}
use Rattle.author.specs.Bare.{bare, described_bare}
use Rattle.author.specs.Descriptions.{described}
use Rattle.author.specs.Faults.{IsDescription}
use Rattle.author.specs.EnvelopeLengths.{contents_length, member_length as content_size}
use Rattle.author.specs.MadeEnvelopes.{made_parts, trimmed_bytes, Trimmed, Whole, IsMadeOf, IsMadeAs, IsTooLong, IsTooLongBy}
use Rattle.author.specs.Outlines.{Outline, outline_of, severed_by, severed_in, held_length, member_length, manifest_length, severed_length, manifest_contents, severed_contents}
use Rattle.author.specs.Severances.{severed_content, parted}
use Rattle.author.specs.Severing.{none_severed, given_in}
use Rattle.author.proofs.BareLengths.{bare_trimmed}
use Rattle.author.proofs.BareReads.{bare_read}
use Rattle.author.proofs.ContentFacts.{Files, array_longer}
use Rattle.author.proofs.EnvelopeLengthFacts.{envelope_longer}
use Rattle.author.proofs.MadeAnswers.{made_envelope, made_limit}
use Rattle.author.proofs.OutlineFacts.{member_size, stands, contents_in}
use Rattle.author.proofs.SameFields.{never_flawed}

trimmed_longer : (wrapper manifest : List ℕ) → length manifest ≤ length (trimmed wrapper manifest)
unfolding trimmed
trimmed_longer wrapper manifest =
    let last = spell (ByteString manifest) ++ [] in
    let second = spell (UnsignedInteger 3) ++ last in
    let first = spell (ByteString wrapper) ++ second in
    let pairs = spell (UnsignedInteger 2) ++ first in
    omega (
      arith,
      length-append (head_bytes 2 (length manifest)) manifest,
      length-append (spell (ByteString manifest)) [],
      length-append (spell (UnsignedInteger 3)) last,
      length-append (spell (ByteString wrapper)) second,
      length-append (spell (UnsignedInteger 2)) first,
      length-append (head_bytes 5 2) pairs,
      length-append (head_bytes 6 107) (head_bytes 5 2 ++ pairs),
    )

-- ---- the members that are severed

severed_said : (files : Files) (d : Data) (p : Described) → described files d ≡ Ok p → severed_in d ≡ p.severed
severed_said files d p is = ap (λ r. unwrap_or (result_ok r) none_severed) (stands files d p is).severed

-- ---- the members that are severed are read

abbrev was_read : Result Severed Flaw → Bool
was_read (Ok s) = true
was_read (Err f) = false

pub never_severed : (d : Data) (o : Outline) (flaw : Flaw) → ∥ IsDescription d ∥₁ → o ≡ outline_of d → severed_by (given_in d) o.sever ≡ Err flaw → ⊥
never_severed d o flaw accepted is bad =
    ∥∥₁_elim accepted (λ x y. absurd x) (λ p.
    let read : severed_by (given_in d) (outline_of d).sever ≡ Ok p.said.severed = (stands [] d p.said p.reads).severed in
    let same : severed_by (given_in d) o.sever ≡ severed_by (given_in d) (outline_of d).sever = ap (λ (x : Outline). severed_by (given_in d) x.sever) is in
    let no : true ≡ false = ap was_read (sym read ∙ sym same ∙ bad) in
    absurd cc)

-- ---- the first limit is passed

exceeds_as : (d : Data) (files : Files) (key : List ℕ) (r : Result Described Flaw) → ∥ IsDescription d ∥₁ → described files d ≡ r → 65536 < manifest_contents files d → IsTooLong d files key 65536
exceeds_as d files key (Err flaw) accepted is h = absurd (never_flawed d files flaw accepted is)
exceeds_as d files key (Ok said) accepted is h =
    let parts = made_parts key (parted said) in
    let same : manifest_contents files d ≡ manifest_length files (outline_of d) said.severed = ap (manifest_length files (outline_of d)) (severed_said files d said is) in
    record { said = said; reads = is; passes = Trimmed (omega (arith, h, same, contents_in files d said is, trimmed_longer parts.wrapper parts.manifest)) }

pub exceeds : (d : Data) (files : Files) (key : List ℕ) → ∥ IsDescription d ∥₁ → 65536 < manifest_contents files d → IsTooLong d files key 65536
exceeds d files key accepted h = exceeds_as d files key (described files d) accepted refl h

-- ---- severed members that are too long

-- the content of a severed sequence is its byte string
abbrev pub StandsWhole : Type 0
StandsWhole = (s : SequenceTree) → severed_content true (members.Here s) ≡ Some (spell (sequence_item s))

severed_beside : StandsWhole → (files : Files) (b : Bool) (o : Option Data) (m : Member) → held_length files o ≤ member_size m → member_length files (not b) o ≤ content_size (severed_content b m)
severed_beside stands files false o m h = omega arith
severed_beside stands files true o members.Empty h = h
severed_beside stands files true o (members.Here s) h = omega (arith, h, array_longer (step_items s), ap content_size (stands s))
severed_beside stands files true o (members.Apart digest) h = h

severed_inside : StandsWhole → (key : List ℕ) (files : Files) (d : Data) (p : Described) → described files d ≡ Ok p → severed_contents files d ≤ contents_length (made_parts key (parted p))
severed_inside whole key files d p is =
    let h = stands files d p is in
    let o : Outline = outline_of d in
    omega (
      arith,
      ap (severed_length files o) (severed_said files d p is),
      severed_beside whole files p.severed.payload_fetch o.payload_fetch p.manifest.payload_fetch h.payload_fetch,
      severed_beside whole files p.severed.install o.install p.manifest.install h.install,
    )

module _ (d : Data) (files : Files) (key : List ℕ) (accepted : ∥ IsDescription d ∥₁) where
  -- without the contents of the severed members it is not flawed either
  never_bare : (severed : Severed) (flaw : Flaw) (r : Result Described Flaw) → described files d ≡ r → described_bare files severed d ≡ Err flaw → ⊥
  never_bare severed flaw (Ok p) is bad =
      let both : Ok (bare severed p) ≡ Err flaw = sym (bare_read files severed d p is) ∙ bad in
      absurd cc
  never_bare severed flaw (Err other) is bad = never_flawed d files other accepted is

  pub bare_never_flawed : (severed : Severed) (flaw : Flaw) → described_bare files severed d ≡ Err flaw → ⊥
  bare_never_flawed severed flaw bad = never_bare severed flaw (described files d) refl bad

  -- the parts that were made without those contents
  module _ (severed : Severed) (q : Described) (x : Parted) (y : EnvelopeParts) (n : ℕ) (e : severed ≡ severed_in d) (long : 1048576 < severed_contents files d) (reads : described_bare files severed d ≡ Ok q)
      (are : x ≡ parted q) (made : y ≡ made_parts key x) (counted : n ≡ min (length (trimmed_bytes y)) (2 ^ 64 - 1)) where
    as_long : (p : Described) → described files d ≡ Ok p → length (trimmed_bytes y) ≡ length (trimmed_bytes (made_parts key (parted p)))
    as_long p is =
        let both : Ok q ≡ Ok (bare severed p) = sym reads ∙ bare_read files severed d p is in
        let one : q ≡ bare severed p = cc in
        let own : severed ≡ p.severed = e ∙ severed_said files d p is in
        ap (λ z. length (trimmed_bytes z)) (made ∙ ap (made_parts key) (are ∙ ap parted (one ∙ ap (λ s. bare s p) own))) ∙ bare_trimmed key p

    first_as : (r : Result Described Flaw) → described files d ≡ r → 65536 < n → IsTooLong d files key 65536
    first_as (Ok p) is h = record { said = p; reads = is; passes = Trimmed (omega (arith, h, counted, as_long p is)) }
    first_as (Err flaw) is h = absurd (never_flawed d files flaw accepted is)

    second_as : StandsWhole → (r : Result Described Flaw) → described files d ≡ r → n ≤ 65536 → IsTooLong d files key 1048576
    second_as whole (Ok p) is h =
        let parts = made_parts key (parted p) in
        record { said = p; reads = is; passes = Whole (omega (arith, h, counted, as_long p is)) (omega (arith, long, severed_inside whole key files d p is, envelope_longer parts)) }
    second_as whole (Err flaw) is h = absurd (never_flawed d files flaw accepted is)

    pub first_passed : 65536 < n → IsTooLong d files key 65536
    first_passed h = first_as (described files d) refl h

    pub second_passed : StandsWhole → n ≤ 65536 → IsTooLong d files key 1048576
    second_passed whole h = second_as whole (described files d) refl h

-- ---- a limit that is told

pub told_envelope : (d : Data) (files : Files) (key : List ℕ) (limit : ℕ) → IsTooLong d files key limit → (bytes : List ℕ) → IsMadeOf d files key bytes → IsMadeAs bytes (Err (TooLong limit))
told_envelope d files key limit x = made_envelope d files key x.said x.reads (made_parts key (parted x.said)) (parted x.said) (Err (TooLong limit)) refl refl x.passes

pub told_limit : (d : Data) (files : Files) (key : List ℕ) (limit : ℕ) → IsTooLong d files key limit → (other : ℕ) → IsTooLong d files key other → IsTooLongBy other (Err (TooLong limit))
told_limit d files key limit x = made_limit d files key x.said x.reads (made_parts key (parted x.said)) (parted x.said) (Err (TooLong limit)) refl refl x.passes
