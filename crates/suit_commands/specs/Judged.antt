-- What judging says of a sequence that is not kept.
use Rattle.std.specs.Prelude.{Result}
use Rattle.det_cbor.specs.HeadReading.{map_ok}
use Rattle.det_cbor.specs.Position.{Position}
use Rattle.suit_params.specs.declared.refusal.Refusal.{Refusal}
use Rattle.suit_commands.specs.declared.rules.Rules.{Rules}
use Rattle.suit_commands.specs.SequenceReading.{InnerReader, nested_from}

-- how a byte string that holds a sequence is read by these rules
abbrev pub inner_by : Rules → InnerReader
inner_by rules = nested_from rules.shared rules.count rules.levels

-- the position after what was read
abbrev pub behind : {A : Type 0} → Result (A × Position) Refusal → Result Position Refusal
behind read = map_ok (λ x. x.1) read
