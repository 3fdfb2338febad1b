use Rattle.suit_cli.proofs.BlockLoop.{Walks, Goes}
use Rattle.suit_cli.proofs.show.push_blocks.Given as goal

abbrev pub invariant-loop-number : goal.invariant-loop-number
invariant-loop-number l = Walks l.envelope.wrapper.now l.number l.rest × Goes l.envelope.wrapper.now l.fn.text l.number l.text
