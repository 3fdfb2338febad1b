use Rattle.std.proofs.Common.{◌∙◌, Ok, refl, ap}
use Rattle.det_cbor.specs.ResultLaws.{same_ok, not_both}
use Rattle.suit_cursor.specs.Walking.{Standing, starting}
use Rattle.suit_cursor.proofs.Depths.{started}
use Rattle.suit_cursor.proofs.walk.Walk.new.Goals as goal

pub start-requires : goal.start-requires
start-requires c = started c.args.shared c.args.count c.args.place c.args.bytes.now c.in_ok-left.left c.in_ok-left.ensures.ok c.requires.short

pub returns-in_err-left-clause-every_sequence : goal.returns-in_err-left-clause-every_sequence
returns-in_err-left-clause-every_sequence c s so = absurd (not_both _ s _ (c.in_err-left.ensures.every_sequence s so) refl)

pub returns-clause-every_sequence : goal.returns-clause-every_sequence
returns-clause-every_sequence c s so =
    ap (λ (walk : Standing). Ok walk) (c.start.ensures ∙ ap (starting c.args.count) (same_ok c.in_ok-left.left s (c.in_ok-left.ensures.every_sequence s so)))
