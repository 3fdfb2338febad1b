use Rattle.std.proofs.Common.{arith}
use Rattle.suit_edge.specs.FlashLaws.{keeps_fewer}
use Rattle.suit_edge.specs.Ranges.{Outside}
use Rattle.flash_layout.specs.Frames.{record_place}
use Rattle.rollback_record.specs.Moved.{OutsideFirstPage}
use Rattle.rollback_record.specs.RecordPage.{record_length}
use Rattle.rollback_record.proofs.Filling.{fewer}
use Rattle.rollback_record.proofs.moved.write_record.Goals as goal

pub returns-in-None-clause-keeps : goal.returns-in-None-clause-keeps
returns-in-None-clause-keeps g c t =
    let first = record_place c.args.frame 0 in
    keeps_fewer (OutsideFirstPage c.args.frame) (Outside first 1) (fewer first 1 (record_length c.args.frame) (omega arith)) _ _ (c.close_record.ensures.keeps t)
