use Rattle.std.proofs.Common.{subst}
use Rattle.suit_edge.specs.Flash.{IsFlash}
use Rattle.suit_cli.specs.Stages.{Goes}
use Rattle.suit_cli.proofs.Chains.{anywhere, ends_there, outside_at}
use Rattle.suit_cli.proofs.Leaving.{not_yet, formats_later}
use Rattle.suit_cli.proofs.Settling.{looked, looked_then}
use Rattle.suit_cli.proofs.init.init.Goals as goal

pub returns-in_err-size-clause-answer : goal.returns-in_err-size-clause-answer
returns-in_err-size-clause-answer g c =
    let h = g.H.Host in
    let here = outside_at h.told (h.file c.args.host.now) (h.pulled c.args.host.now) (h.asked c.args.host.now) (h.faults c.args.host.now) anywhere.flash in
    ends_there _ _ _ _ c.from_residual.result c.in_err-size.field-0.0 c.from_residual.ensures.1 (c.in_err-size.ensures.finds here)

pub returns-in_err-size-clause-any_moment : goal.returns-in_err-size-clause-any_moment
returns-in_err-size-clause-any_moment g c told = not_yet _ _ _ (c.in_err-size.ensures.same told).images

pub returns-clause-answer : goal.returns-clause-answer
returns-clause-answer g c =
    let h = g.H.Host in
    let here = outside_at h.told (h.file c.args.host.now) (h.pulled c.args.host.now) (h.asked c.args.host.now) (h.faults c.args.host.now) anywhere.flash in
    Goes c.in_ok-size.size _ _ (c.in_ok-size.ensures.finds here) c.init_as.ensures.answer

pub returns-clause-any_moment : goal.returns-clause-any_moment
returns-clause-any_moment g c told =
    formats_later c.args.device.now c.args.key_name.now _ _ _ _ _
    (subst (IsFlash (g.D.Disk.flash c.unused.new.flash)) c.in_ok-size.ensures.extent (g.met.D.Disk.obeys c.unused.new.flash told))
    (c.in_ok-size.ensures.same told) (c.in_ok-size.ensures.finds anywhere).1.shut c.in_ok-size.size (c.in_ok-size.ensures.finds anywhere).1.size_is (c.init_as.ensures.any_moment told)

pub returns-in_err-size-clause-settled : goal.returns-in_err-size-clause-settled
returns-in_err-size-clause-settled g c told = looked _ _ _ _ _ (g.met.D.Disk.obeys c.unused.new.flash told) (c.in_err-size.ensures.same told)

pub returns-clause-settled : goal.returns-clause-settled
returns-clause-settled g c told =
    looked_then _ _ _ _ _ _ _ (g.met.D.Disk.obeys c.unused.new.flash told) (c.in_ok-size.ensures.same told) (c.in_ok-size.ensures.finds anywhere).0.faults
    (c.init_as.ensures.settled told)
