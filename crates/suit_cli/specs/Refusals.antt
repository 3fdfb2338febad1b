-- How it is told why bytes are refused.
use Rattle.std.specs.Prelude.{List, ℕ, ◌++◌, codes}
use Rattle.admission.specs.declared.refusal.NotAdmitted.{NotAdmitted}
use Rattle.admission.specs.declared.refusal.NotAdmitted.TheVariants as refusals
use Rattle.admission.specs.declared.refusal.Procedure.{Procedure}
use Rattle.admission.specs.declared.refusal.Procedure.TheVariants as procedures
use Rattle.suit_cli.specs.declared.reply.Reply.{Reply}
use Rattle.suit_cli.specs.declared.reply.Outcome.TheVariants as outcomes
use Rattle.suit_cli.specs.declared.reply.Stop.{Stop}
use Rattle.suit_cli.specs.declared.reply.Stop.TheVariants as stops
use Rattle.suit_cli.specs.Lines.{number_line, path_lines}
use Rattle.suit_cli.specs.Replies.{IsReply}
use Rattle.suit_cli.specs.Texts.{authenticity_line, differs_line, invocation_unsafe_lines, refusal_line, severed_line, too_long_line, too_wide_line, update_unsafe_line}

-- the lines that stand before those of an unsafe path
abbrev pub unsafe_lines : Procedure → List ℕ
unsafe_lines procedures.Update = update_unsafe_line
unsafe_lines procedures.Invocation = invocation_unsafe_lines

-- the reply tells a refusal: status 3, `refused at P: WHY`; 21, `too long envelope`; 4, `not authentic: WHY`; 18, `unknown
-- component I`; 16, `severed NAME`; 17, `member NAME differs`; 12, `too wide: N`; or 1, and the lines of a path
abbrev pub TellsRefusal : Reply → NotAdmitted → Type 0
TellsRefusal reply (refusals.NoEnvelope r) = IsReply reply outcomes.Refused (refusal_line r)
TellsRefusal reply (refusals.TooLong size) =
    IsReply reply outcomes.TooLong (too_long_line (codes "envelope"))
TellsRefusal reply (refusals.NotAuthentic answer) =
    IsReply reply outcomes.NotAuthentic (authenticity_line answer)
TellsRefusal reply (refusals.NoManifest r) = IsReply reply outcomes.Refused (refusal_line r)
TellsRefusal reply (refusals.UnknownComponent component) =
    IsReply reply outcomes.UnknownComponent (number_line (codes "unknown component") component)
TellsRefusal reply (refusals.Severed name) = IsReply reply outcomes.Severed (severed_line name)
TellsRefusal reply (refusals.Differs name stated found) =
    IsReply reply outcomes.Differs (differs_line name)
TellsRefusal reply (refusals.NoSequence r) = IsReply reply outcomes.Refused (refusal_line r)
TellsRefusal reply (refusals.TooWide procedure width) =
    IsReply reply outcomes.TooWide (too_wide_line width)
TellsRefusal reply (refusals.Unsafe procedure path) =
    IsReply reply outcomes.Unsafe (unsafe_lines procedure ++ path_lines path)
TellsRefusal reply refusals.NoMemory = ⊥

-- a stop of the code tells the refusal, or that memory ran out
abbrev pub StopsAs : NotAdmitted → Stop → Type 0
StopsAs refusal (stops.Declined reply) = TellsRefusal reply refusal
StopsAs refusal (stops.Fault object) = ⊥
StopsAs refusal stops.NoMemory = Unit {0}
