use Rattle.std.proofs.Common.{◌∙◌, ⊎_elim, refl, arith}
use Rattle.flash_layout.specs.FirstFrame.{version_1}
use Rattle.suit_cli.specs.DrillDevice.{flash_size}
use Rattle.suit_cli.proofs.DrillDevices.{is_first, is_ready, never_open, sized}
use Rattle.suit_cli.proofs.drill.device.new_flash.Goals as goal

pub unreachable-requires : goal.unreachable-requires
unreachable-requires c =
    ⊎_elim (never_open c.in_ok-disk.disk _ flash_size 0 c.in_ok-disk.ensures.state (omega arith)) (never_open c.in_ok-disk.disk _ flash_size 45056 c.in_ok-disk.ensures.state (omega arith))
    (c.in-NotBlank.ensures.not_blank refl).0

pub returns-in-Done-clause-first : goal.returns-in-Done-clause-first
returns-in-Done-clause-first c =
    is_first _ _ _ _ (sized c.in_ok-disk.disk _ flash_size c.in_ok-disk.ensures.state) c.in_ok-layout.ensures.is c.key_of-key.ensures.is (c.in-Done.ensures.formatted refl)

pub returns-in-Done-clause-ready : goal.returns-in-Done-clause-ready
returns-in-Done-clause-ready c =
    is_ready c.sound_laws.ensures _ (c.in-Done.ensures.size ∙ sized c.in_ok-disk.disk _ flash_size c.in_ok-disk.ensures.state) (returns-in-Done-clause-first c) (c.in-Done.ensures.settled refl)

pub format-requires-clause-frame : goal.format-requires-clause-frame
format-requires-clause-frame c = version_1 _ (omega (arith, sized c.in_ok-disk.disk _ flash_size c.in_ok-disk.ensures.state))
