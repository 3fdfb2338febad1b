use Rattle.std.proofs.Common.{length, ap, sym, ◌∙◌, arith}
use Rattle.std.specs.Prelude.{option_map}
use lib.ListN.{length-map}
use Rattle.suit_params.specs.ParamSlices.{param_of}
use Rattle.suit_cursor.proofs.slice_params.SliceParams.whole.Goals as goal

pub returns : goal.returns
returns c = ap length (sym c.self.view_is) ∙ length-map c.self.inside.held (option_map param_of) ∙ omega arith
