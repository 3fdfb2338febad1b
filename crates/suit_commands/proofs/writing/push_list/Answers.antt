use Rattle.std.proofs.Common.{◌∙◌}
use Rattle.suit_commands.specs.Sequences.{index_items}
use Rattle.suit_commands.proofs.SequenceSpelled.{array_written, index_count}
use Rattle.suit_commands.proofs.writing.push_list.Goals as goal

pub returns-clause-ok : goal.returns-clause-ok
returns-clause-ok c = array_written c.args.out.now c.push_count.new.out c.push_indices.new.out c.len.result (index_items c.args.indices.now) (c.len.ensures ∙ index_count c.args.indices.now) c.in_ok-push_count.ensures.ok c.in_ok-push_indices.ensures.ok
