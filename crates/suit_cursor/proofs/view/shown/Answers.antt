use Rattle.std.proofs.Common.{◌<◌, subst, ap, arith}
use Rattle.suit_commands.specs.Tree.{CommandTree}
use Rattle.suit_cursor.specs.Lending.{selection_of, command_of}
use Rattle.suit_cursor.specs.Spelled.{IsShortCommand}
use Rattle.suit_cursor.proofs.Lengths.{selected_short, tries_short}
use Rattle.suit_cursor.proofs.view.shown.Goals as goal

pub of-view-requires : goal.of-view-requires
of-view-requires c =
    selected_short c.args.count (selection_of c.in-Index.selection) (omega (arith, c.ranges.count.fits))
    (subst (λ (command : CommandTree). IsShortCommand command) (ap command_of c.in-Index.is) c.requires)

pub overflow_cast-number : goal.overflow_cast-number
overflow_cast-number c =
    let short = subst (λ (command : CommandTree). IsShortCommand command) (ap command_of c.in-TryEach.is) c.requires in
    let small : c.len-number.result < 4294967296 = omega (arith, c.len-number.ensures, tries_short c.in-TryEach.branches, short) in
    search (arith, small)
