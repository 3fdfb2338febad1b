use Rattle.std.proofs.Common.{length, ap, sym, ◌∙◌, arith}
use Rattle.std.specs.Option.{option_copied}
use lib.ListN.{length-map}
use Rattle.suit_params.proofs.params.Params.whole.Goals as goal

pub returns : goal.returns
returns c = ap length (sym c.self.view_is) ∙ length-map c.self.inside.held option_copied ∙ omega arith
