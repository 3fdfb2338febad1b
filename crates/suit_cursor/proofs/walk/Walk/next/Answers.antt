use Rattle.std.proofs.Common.{◌∙◌, map, sym, ap}
use Rattle.suit_commands.specs.Tree.{BranchesTree}
use Rattle.suit_cursor.specs.Lending.{command_of}
use Rattle.suit_cursor.specs.Views.{shown}
use Rattle.suit_cursor.specs.Walking.{Standing, branches_of, moved_on}
use Rattle.suit_cursor.specs.Within.{level_of}
use Rattle.suit_cursor.proofs.walk.Walk.next.Goals as goal

pub returns-in-Some : goal.returns-in-Some
returns-in-Some c =
    let command = command_of c.in-Some.step.command in (
      command,
      c.next.new.self,
      ap (λ (s : Standing). s.here.left) (sym c.self.view_is) ∙ c.in-Some.ensures,
      c.shown-act.ensures.act ∙ ap (λ (s : Standing). shown s.count command) c.self.view_is,
      ap (λ (b : BranchesTree). record { here = record { left = c.next.new.self; branches = b }; outer = map level_of c.self.inside.outer.items; count = c.self.inside.count }) c.shown-act.ensures.within
          ∙ ap (λ (s : Standing). moved_on s c.next.new.self (branches_of command)) c.self.view_is,
    )
