use Rattle.std.proofs.Common.{Ok, Err, arith}
use Rattle.serde_json.specs.View.{view}
use Rattle.flash_layout.proofs.OneLayout.{accepted, refused_for}
use Rattle.flash_layout.proofs.Wholes.{allowed_layout, described_whole, frame_placed}
use Rattle.flash_layout.proofs.describing.layout_of.Goals as goal

pub returns-in-Ok-clause-placed : goal.returns-in-Ok-clause-placed
returns-in-Ok-clause-placed c large =
    let is = c.in-Ok.ensures.ok in
    frame_placed c.args.size c.in-Ok.layout c.in-Ok.frame (described_whole (view c.args.value.now) c.in-Ok.layout c.in-Ok.frame is.reads) (omega (arith, c.ranges.size)) large is.held.base.inside

pub returns-in-Ok-clause-allowed : goal.returns-in-Ok-clause-allowed
returns-in-Ok-clause-allowed c =
    let is = c.in-Ok.ensures.ok in
    allowed_layout c.in-Ok.frame c.args.size c.in-Ok.layout (described_whole (view c.args.value.now) c.in-Ok.layout c.in-Ok.frame is.reads).whole is.held

pub returns-in-Ok-clause-every_fault : goal.returns-in-Ok-clause-every_fault
returns-in-Ok-clause-every_fault c f r = refused_for c.args.size (view c.args.value.now) f (Ok (c.in-Ok.layout, c.in-Ok.frame)) c.in-Ok.ensures.ok tt r

pub returns-in-Err-clause-every_layout : goal.returns-in-Err-clause-every_layout
returns-in-Err-clause-every_layout c layout frame p = accepted c.args.size (view c.args.value.now) layout frame (Err c.in-Err.fault) p c.in-Err.ensures.refused

pub returns-in-Err-clause-every_fault : goal.returns-in-Err-clause-every_fault
returns-in-Err-clause-every_fault c f r = refused_for c.args.size (view c.args.value.now) f (Err c.in-Err.fault) tt c.in-Err.ensures.refused r
