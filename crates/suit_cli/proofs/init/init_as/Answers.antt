use Rattle.std.proofs.Common.{ℕ, ◌≤◌, List, length, Ok, Err, sym, ap, subst, ◌∙◌}
use Rattle.flash_layout.specs.declared.frame.TheConstants.{HEAD_SIZE}
use Rattle.flash_layout.specs.Frames.{IsFrame}
use Rattle.flash_layout.specs.Layouts.{IsLayout}
use Rattle.suit_cli.specs.Stages.{Goes}
use Rattle.suit_cli.specs.Devices.{key_of}
use Rattle.suit_cli.proofs.Chains.{anywhere, ends_there, flash_at, outside_at}
use Rattle.suit_cli.proofs.Leaving.{still, not_yet, way_by_key, formats_by}
use Rattle.suit_cli.proofs.Initing.{device_of, some_bytes, by_key, as_seen, key_seen}
use Rattle.suit_cli.proofs.init.init_as.Goals as goal

pub returns-in_err-bytes-clause-answer : goal.returns-in_err-bytes-clause-answer
returns-in_err-bytes-clause-answer g c = ends_there _ _ _ _ c.from_residual.result c.in_err-bytes.field-0.0 c.from_residual.ensures.1 (c.in_err-bytes.ensures _)

pub returns-in_err-bytes-clause-any_moment : goal.returns-in_err-bytes-clause-any_moment
returns-in_err-bytes-clause-any_moment g c told = not_yet _ _ _ (still _)

pub returns-in_err-layout-clause-answer : goal.returns-in_err-layout-clause-answer
returns-in_err-layout-clause-answer g c =
    Goes c.in_ok-bytes.bytes _ _ (c.in_ok-bytes.ensures _)
    (ends_there _ _ _ _ c.from_residual-in_err-layout.result c.in_err-layout.field-0.0 c.from_residual-in_err-layout.ensures.1
    (device_of c.args.size _ _ c.as_slice.ensures (Err c.in_err-layout.field-0.0) c.in_err-layout.ensures.finds _))

pub returns-in_err-layout-clause-any_moment : goal.returns-in_err-layout-clause-any_moment
returns-in_err-layout-clause-any_moment g c told = not_yet _ _ _ (still _)

pub returns-in_err-key_bytes-clause-answer : goal.returns-in_err-key_bytes-clause-answer
returns-in_err-key_bytes-clause-answer g c =
    Goes c.in_ok-bytes.bytes _ _ (c.in_ok-bytes.ensures _)
    (Goes (c.in_ok-layout.layout, c.in_ok-layout.frame) _ _ (device_of c.args.size _ _ c.as_slice.ensures (Ok (c.in_ok-layout.layout, c.in_ok-layout.frame)) c.in_ok-layout.ensures.finds _)
    (ends_there _ _ _ _ c.from_residual-in_err-key_bytes.result c.in_err-key_bytes.field-0.0 c.from_residual-in_err-key_bytes.ensures.1 (c.in_err-key_bytes.ensures _)))

pub returns-in_err-key_bytes-clause-any_moment : goal.returns-in_err-key_bytes-clause-any_moment
returns-in_err-key_bytes-clause-any_moment g c told = not_yet _ _ _ (still _)

pub formats-requires-clause-layout : goal.formats-requires-clause-layout
formats-requires-clause-layout g c = subst (λ (n : ℕ). IsLayout c.in_ok-layout.frame n c.in_ok-layout.layout) c.requires.size c.in_ok-layout.ensures.allowed

pub formats-requires-clause-frame : goal.formats-requires-clause-frame
formats-requires-clause-frame g c =
    subst (λ (n : ℕ). IsFrame n c.in_ok-layout.frame) c.requires.size
    (c.in_ok-layout.ensures.placed (subst (λ (n : ℕ). HEAD_SIZE ≤ n) (sym c.requires.size) c.requires.large))

pub key_of-key-requires-clause-some : goal.key_of-key-requires-clause-some
key_of-key-requires-clause-some g c = subst (λ (l : List ℕ). 1 ≤ length l) (sym c.as_slice-2.ensures) (some_bytes _ (c.in_ok-key_bytes.ensures anywhere.flash).1.some)

pub key_of-key-requires-clause-few : goal.key_of-key-requires-clause-few
key_of-key-requires-clause-few g c = subst (λ (l : List ℕ). length l ≤ 64) (sym c.as_slice-2.ensures) (c.in_ok-key_bytes.ensures anywhere.flash).1.read.fits

pub returns-clause-answer : goal.returns-clause-answer
returns-clause-answer g c =
    let h = g.H.Host in
    let d = g.D.Disk in
    let first = outside_at h.told (h.file c.read.new.host) (h.pulled c.read.new.host) (h.asked c.read.new.host) (h.faults c.read.new.host) (flash_at d.told (d.extent c.args.flash.now) (d.flash c.args.flash.now).reads (d.faults c.args.flash.now)) in
    let here = outside_at h.told (h.file c.read_key.new.host) (h.pulled c.read_key.new.host) (h.asked c.read_key.new.host) (h.faults c.read_key.new.host) anywhere.flash in
    Goes c.in_ok-bytes.bytes _ _ (c.in_ok-bytes.ensures _)
    (Goes (c.in_ok-layout.layout, c.in_ok-layout.frame) _ _ (device_of c.args.size _ _ c.as_slice.ensures (Ok (c.in_ok-layout.layout, c.in_ok-layout.frame)) c.in_ok-layout.ensures.finds first)
    (Goes c.in_ok-key_bytes.key_bytes _ _ (c.in_ok-key_bytes.ensures _)
    (by_key c.in_ok-layout.frame c.in_ok-layout.layout _ _ (c.key_of-key.ensures.is ∙ ap key_of c.as_slice-2.ensures) _ _ _ (c.formats.ensures.formats here))))

pub returns-clause-any_moment : goal.returns-clause-any_moment
returns-clause-any_moment g c told =
    let h = g.H.Host in
    let middle = outside_at h.told (h.file c.read.new.host) (h.pulled c.read.new.host) (h.asked c.read.new.host) (h.faults c.read.new.host) anywhere.flash in
    let one = c.in_ok-bytes.ensures anywhere.flash in
    let two = c.in_ok-key_bytes.ensures anywhere.flash in
    formats_by c.args.size _ c.args.device.now c.args.key_name.now c.in_ok-bytes.bytes c.in_ok-key_bytes.key_bytes c.in_ok-layout.layout c.in_ok-layout.frame _ _ _ c.requires.size
    (as_seen _ anywhere.flash _ _ _ one.1) (device_of c.args.size _ _ c.as_slice.ensures (Ok (c.in_ok-layout.layout, c.in_ok-layout.frame)) c.in_ok-layout.ensures.finds anywhere).1 (key_seen _ middle anywhere.flash one.0.quiet.told one.0.quiet.files _ _ two.1)
    (way_by_key c.in_ok-layout.frame _ c.in_ok-layout.layout _ _ (c.key_of-key.ensures.is ∙ ap key_of c.as_slice-2.ensures) _ _ (c.formats.ensures.any_moment told))

pub returns-in_err-bytes-clause-settled : goal.returns-in_err-bytes-clause-settled
returns-in_err-bytes-clause-settled g c told settled never = settled

pub returns-in_err-layout-clause-settled : goal.returns-in_err-layout-clause-settled
returns-in_err-layout-clause-settled g c told settled never = settled

pub returns-in_err-key_bytes-clause-settled : goal.returns-in_err-key_bytes-clause-settled
returns-in_err-key_bytes-clause-settled g c told settled never = settled
