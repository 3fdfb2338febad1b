use Rattle.std.proofs.Common.{◌≡◌, ◌∙◌, ℕ, List, Some, None, length, ap, refl, subst, sym}
use Rattle.std.specs.Prelude.{IfOk}
use Rattle.flash_layout.specs.Configs.{FrameOf}
use Rattle.flash_layout.specs.Frames.{IsFrame, head_of}
use Rattle.flash_view.specs.ViewDisk.{ViewState}
use Rattle.rollback_record.specs.HeadRecord.{RecordOf}
use Rattle.suit_c.specs.Recorded.{HasFrame}
use Rattle.suit_c.proofs.Records.{no_frame, recorded}
use Rattle.suit_c.proofs.status.recorded.Goals as goal

pub load_record-requires : goal.load_record-requires
load_record-requires c room =
    let told = rw c.in-Some.is at (c.in_ok-frame.ensures.exact refl) in
    subst (λ (n : ℕ). IsFrame n c.in-Some.frame) (sym c.in_ok-frame.ensures.size) told.0

pub returns-in-Some : goal.returns-in-Some
returns-in-Some c =
    let there : c.new-disk.result.bytes ≡ c.args.flash.now = ap (λ (d : ViewState). d.bytes) c.new-disk.ensures in
    let still : c.load_frame.new.disk.bytes ≡ c.args.flash.now = (c.in_ok-frame.ensures.same refl).reads ∙ there in
    let told = rw c.in-Some.is at (c.in_ok-frame.ensures.exact refl) in
    let has : HasFrame c.args.flash.now c.in-Some.frame = subst (λ (b : List ℕ). FrameOf (length b) b (Some c.in-Some.frame)) there told in
    recorded c.args.flash.now c.in-Some.frame has c.load_record.result
    (subst (λ (b : List ℕ). IfOk c.load_record.result (RecordOf c.in-Some.frame (head_of c.in-Some.frame b))) still (c.load_record.ensures.exact refl))

pub returns-in-None : goal.returns-in-None
returns-in-None c =
    let there : c.new-disk.result.bytes ≡ c.args.flash.now = ap (λ (d : ViewState). d.bytes) c.new-disk.ensures in
    let told = rw c.in-None.is at (c.in_ok-frame.ensures.exact refl) in
    no_frame c.args.flash.now (subst (λ (b : List ℕ). FrameOf (length b) b None) there told)
