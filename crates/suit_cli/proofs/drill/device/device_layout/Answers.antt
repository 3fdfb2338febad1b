use Rattle.std.proofs.Common.{rules, List, sym, subst}
use Rattle.flash_layout.specs.declared.frame.TheConstants.{VERSION_1}
use Rattle.flash_layout.specs.declared.layout.Entry.{Entry}
use Rattle.flash_layout.specs.Layouts.{IsLayout}
use Rattle.suit_cli.specs.DrillDevice.{flash_size}
use Rattle.suit_cli.proofs.DrillDevices.{layout_allowed}
use Rattle.suit_cli.proofs.drill.device.device_layout.Goals as goal

pub returns-clause-allowed : goal.returns-clause-allowed
returns-clause-allowed c = subst (λ (l : List Entry). IsLayout VERSION_1 flash_size l) (sym (search rules)) layout_allowed
