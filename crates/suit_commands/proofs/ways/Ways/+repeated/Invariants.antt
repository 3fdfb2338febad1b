use Rattle.suit_commands.proofs.ways.Ways.+repeated.Given as goal

abbrev pub decreases-repeated : goal.decreases-repeated
decreases-repeated l = l.times
