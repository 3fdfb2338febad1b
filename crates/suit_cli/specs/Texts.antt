-- The lines of the program's answers.
use Rattle.std.specs.Prelude.{ℕ, Bool, List, [], ◌∷◌, ◌++◌, codes, if◌then◌else◌}
use Rattle.std.specs.Fmt.{decimal}
use Rattle.det_cbor.specs.declared.reason.Reason.TheVariants as reasons
use Rattle.suit_params.specs.declared.refusal.Refusal.{Refusal}
use Rattle.suit_params.specs.declared.refusal.Why.{Why}
use Rattle.suit_params.specs.declared.refusal.Why.TheVariants as whys
use Rattle.suit_envelope.specs.declared.authenticity.Authenticity.{Authenticity}
use Rattle.suit_envelope.specs.declared.authenticity.Authenticity.TheVariants as authenticities
use Rattle.suit_envelope.specs.declared.severed.MemberName.{MemberName}
use Rattle.suit_envelope.specs.declared.severed.MemberName.TheVariants as names
use Rattle.suit_cli.specs.declared.member_lines.MemberState.{MemberState}
use Rattle.suit_cli.specs.declared.member_lines.MemberState.TheVariants as states
use Rattle.suit_cli.specs.Lines.{joined}

abbrev pub usage_line : List ℕ
usage_line = codes "usage: suit make DESCRIPTION KEY OUT | show FILE [KEY] | check FILE | run init DEVICE KEY | run update FILE [URI=NAME]... | run boot | run status | run migrate BASE | drill NUMBER | diag FILE\n"

-- the place of a fault in the file, and what is wrong there
abbrev pub refused_line : ℕ → List ℕ → List ℕ
refused_line place why =
    joined (codes "refused at " ∷ decimal place ∷ codes ": " ∷ why ∷ codes "\n" ∷ [])

-- a word and a number
abbrev pub numbered : List ℕ → ℕ → List ℕ
numbered word n = joined (word ∷ codes " " ∷ decimal n ∷ [])

abbrev pub index_text : ℕ → ℕ → List ℕ
index_text index count = joined (codes "index " ∷ decimal index ∷ codes " of " ∷ decimal count ∷ [])

abbrev pub why_text : Why → List ℕ
why_text (whys.Cbor reasons.Truncated) = codes "truncated"
why_text (whys.Cbor reasons.Indefinite) = codes "indefinite"
why_text (whys.Cbor reasons.Kind) = codes "kind"
why_text (whys.Cbor reasons.NotShortest) = codes "not shortest"
why_text (whys.Cbor reasons.TooDeep) = codes "too deep"
why_text (whys.Cbor reasons.BadText) = codes "bad text"
why_text (whys.Cbor reasons.Repeated) = codes "repeated"
why_text (whys.Cbor reasons.Order) = codes "order"
why_text whys.Trailing = codes "trailing"
why_text whys.Shape = codes "shape"
why_text whys.UnknownKey = codes "unknown key"
why_text (whys.Missing key) = numbered (codes "missing") key
why_text whys.Algorithm = codes "algorithm"
why_text (whys.Version n) = numbered (codes "version") n
why_text (whys.TooMany n) = joined (decimal n ∷ codes " components" ∷ [])
why_text whys.LongIdentifier = codes "long identifier"
why_text (whys.TwoAlike i j) =
    joined (codes "components " ∷ decimal i ∷ codes " and " ∷ decimal j ∷ codes " are alike" ∷ [])
why_text whys.UnknownParam = codes "unknown parameter"
why_text whys.BadParam = codes "bad parameter"
why_text whys.Unsupported = codes "unsupported"
why_text whys.BadArgument = codes "bad argument"
why_text (whys.BadIndex i n) = index_text i n
why_text whys.Nested = codes "nested"

abbrev pub refusal_line : Refusal → List ℕ
refusal_line r = refused_line r.place (why_text r.why)

abbrev pub absent_line : List ℕ → List ℕ
absent_line name = codes "absent " ++ name ++ codes "\n"

abbrev pub too_long_line : List ℕ → List ℕ
too_long_line name = codes "too long " ++ name ++ codes "\n"

abbrev pub name_text : MemberName → List ℕ
name_text names.PayloadFetch = codes "payload-fetch"
name_text names.Install = codes "install"
name_text names.Text = codes "text"

abbrev pub severed_line : MemberName → List ℕ
severed_line name = codes "severed " ++ name_text name ++ codes "\n"

abbrev pub differs_line : MemberName → List ℕ
differs_line name = joined (codes "member " ∷ name_text name ∷ codes " differs\n" ∷ [])

abbrev pub too_wide_line : ℕ → List ℕ
too_wide_line width = joined (codes "too wide: " ∷ decimal width ∷ codes "\n" ∷ [])

abbrev pub update_unsafe_line : List ℕ
update_unsafe_line = codes "update unsafe\n"

abbrev pub invocation_unsafe_lines : List ℕ
invocation_unsafe_lines = codes "update safe\ninvocation unsafe\n"

abbrev pub flash_fault_line : List ℕ
flash_fault_line = codes "flash fault\n"

abbrev pub out_of_memory_line : List ℕ
out_of_memory_line = codes "out of memory\n"

abbrev pub empty_key_line : List ℕ
empty_key_line = codes "empty key\n"

-- ---- the lines that show an envelope

abbrev pub tagged_line : Bool → List ℕ
tagged_line tagged = if tagged then codes "tagged yes\n" else codes "tagged no\n"

-- the number of a block, and its kind
abbrev pub block_line : ℕ → List ℕ → List ℕ
block_line number kind =
    joined (codes "block " ∷ decimal number ∷ codes " " ∷ kind ∷ codes "\n" ∷ [])

abbrev pub member_texts : List ℕ → List ℕ → List ℕ
member_texts name state = joined (codes "member " ∷ name ∷ codes " " ∷ state ∷ codes "\n" ∷ [])

abbrev pub member_line : List ℕ → MemberState → List ℕ
member_line name states.Here = member_texts name (codes "here")
member_line name states.Absent = member_texts name (codes "none")
member_line name states.Apart = member_texts name (codes "apart")
member_line name states.Differs = member_texts name (codes "differs")
member_line name states.Severed = member_texts name (codes "severed")

abbrev pub authenticity_line : Authenticity → List ℕ
authenticity_line authenticities.Yes = codes "authentic\n"
authenticity_line (authenticities.DigestDiffers stated found) =
    codes "not authentic: digest differs\n"
authenticity_line authenticities.NoMac = codes "not authentic: no mac\n"
authenticity_line (authenticities.MacDiffers expected found) = codes "not authentic: mac differs\n"
