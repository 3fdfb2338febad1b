use Rattle.std.proofs.Common.{refl, sym, subst}
use Rattle.flash_layout.specs.declared.key.Key.{Key}
use Rattle.flash_layout.specs.Layouts.{IsKey}
use Rattle.suit_cli.proofs.KeyBytes.{key_made, key_allowed}
use Rattle.suit_cli.proofs.device.key_of.Goals as goal

pub returns-clause-is : goal.returns-clause-is
returns-clause-is c = key_made c.args.bytes.now c.copy_from_slice.new.self _ c.copy_from_slice.ensures.after refl

pub returns-clause-allowed : goal.returns-clause-allowed
returns-clause-allowed c = subst (λ (k : Key). IsKey k) (sym (returns-clause-is c)) (key_allowed c.args.bytes.now c.requires.some c.requires.few)
