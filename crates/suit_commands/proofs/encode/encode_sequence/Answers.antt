use Rattle.std.proofs.Common.{ℕ, List, ◌++◌, ap, ◌∙◌}
use Rattle.det_cbor.specs.DataItem.{spell}
use Rattle.suit_commands.specs.SequenceMaking.{sequence_item}
use Rattle.suit_commands.proofs.SequenceWritten.{is_written}
use Rattle.suit_commands.proofs.encode.encode_sequence.Goals as goal

pub returns-clause-written : goal.returns-clause-written
returns-clause-written c = is_written c.args.sequence.now c.push_sequence.new.out (c.in_ok-push_sequence.ensures.ok ∙ ap (λ (k : List ℕ). k ++ spell (sequence_item c.args.sequence.now)) c.new-out.ensures) c.in_ok-push_sequence.ensures.fits
