use Rattle.suit_cursor.proofs.Standings.{popped}
use Rattle.suit_cursor.proofs.walk.Walk.leave.Goals as goal

pub invariant_of-self : goal.invariant_of-self
invariant_of-self c = popped c.self.inside.here c.in-Some.outer c.self.inside.outer.items c.pop.new.self.items c.in-Some.ensures.items c.self.invariant
