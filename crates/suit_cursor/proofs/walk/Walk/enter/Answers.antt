use Rattle.std.proofs.Common.{◌∙◌, ap, arith}
use Rattle.suit_cursor.specs.declared.level.Within.{Within}
use Rattle.suit_cursor.proofs.Standings.{room, pushed}
use Rattle.suit_cursor.proofs.walk.Walk.enter.Goals as goal

pub push-requires : goal.push-requires
push-requires c = (omega arith, room c.self.inside.here c.self.inside.outer.items c.args.branch c.in_Some-left.left c.in_Some-left.ensures.found c.self.invariant)

pub invariant_of-self : goal.invariant_of-self
invariant_of-self c =
    pushed c.self.inside.here c.replace-outer.result c.replace-outer.new.dest c.self.inside.outer.items c.push.new.self.items c.args.branch c.in_Some-left.left
    (c.replace-outer.ensures.value ∙ ap (λ (within : Within). record { left = c.self.inside.here.left; within = within }) c.branch-left.ensures.same)
    c.replace-outer.ensures.after c.in_Some-left.ensures.found c.push.ensures.items c.self.invariant
