use Rattle.suit_cli.proofs.Chains.{anywhere, outside_at}
use Rattle.suit_cli.proofs.BootAnswers.{comes_by, unconfigured}
use Rattle.suit_cli.proofs.Sounding.{allowed_after, held_after}
use Rattle.suit_cli.proofs.Settling.{order_looked, order_then}
use Rattle.suit_cli.proofs.BootKeeping.{boot_keeps}
use Rattle.suit_cli.proofs.run_boot.run_boot.Goals as goal

pub returns-in-Err-clause-answer : goal.returns-in-Err-clause-answer
returns-in-Err-clause-answer g c =
    let h = g.H.Host in
    let here = outside_at h.told (h.file c.args.host.now) (h.pulled c.args.host.now) (h.asked c.args.host.now) (h.faults c.args.host.now) anywhere.flash in
    unconfigured _ _ _ c.in-Err.stop (c.in-Err.ensures.finds here)

pub returns-in-Ok-clause-answer : goal.returns-in-Ok-clause-answer
returns-in-Ok-clause-answer g c =
    let h = g.H.Host in
    let here = outside_at h.told (h.file c.args.host.now) (h.pulled c.args.host.now) (h.asked c.args.host.now) (h.faults c.args.host.now) anywhere.flash in
    comes_by c.in-Ok.config _ _ _ _ _ (c.in-Ok.ensures.finds here) _ c.boot_by.ensures.answer

pub boot_by-requires-clause-allowed : goal.boot_by-requires-clause-allowed
boot_by-requires-clause-allowed g c = allowed_after c.in-Ok.config.0 c.in-Ok.config.1 c.in-Ok.config.2 _ _ c.in-Ok.ensures.extent c.in-Ok.ensures.allowed

pub boot_by-requires-clause-held : goal.boot_by-requires-clause-held
boot_by-requires-clause-held g c told =
    held_after c.in-Ok.config.0 c.in-Ok.config.1 c.in-Ok.config.2 _ _ _ _ c.in-Ok.ensures.extent (c.in-Ok.ensures.same told).reads ((c.in-Ok.ensures.finds anywhere).1 told)

pub returns-in-Err-clause-keeps : goal.returns-in-Err-clause-keeps
returns-in-Err-clause-keeps g c told = c.in-Err.ensures.same told

pub returns-in-Ok-clause-keeps : goal.returns-in-Ok-clause-keeps
returns-in-Ok-clause-keeps g c told =
    boot_keeps _ _ _ _ _ (g.met.D.Disk.obeys c.config_in.new.flash told) (c.in-Ok.ensures.same told) c.in-Ok.config.0 c.in-Ok.config.1 c.in-Ok.config.2
    ((c.in-Ok.ensures.finds anywhere).1 told) _ (c.boot_by.ensures.keeps told)

pub returns-in-Err-clause-flash : goal.returns-in-Err-clause-flash
returns-in-Err-clause-flash g c told = order_looked c.sound_laws.ensures _ _ _ (g.met.D.Disk.obeys c.config_in.new.flash told) (c.in-Err.ensures.same told) _ _

pub returns-in-Ok-clause-flash : goal.returns-in-Ok-clause-flash
returns-in-Ok-clause-flash g c told =
    order_then c.sound_laws.ensures _ _ _ (g.met.D.Disk.obeys c.config_in.new.flash told) (c.in-Ok.ensures.same told) _ _ _ _ (c.in-Ok.ensures.finds anywhere).0.faults
    (c.boot_by.ensures.flash told)
