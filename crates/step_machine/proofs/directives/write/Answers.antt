use Rattle.std.proofs.Common.{◌≡◌, ◌≤◌, ℕ, List, length, Some, sym, ap, ◌∙◌, arith}
use Rattle.suit_params.specs.declared.param.ParamKey.TheVariants as keys
use Rattle.suit_params.specs.InForce.{in_force, bytes_of}
use Rattle.step_machine.specs.Spots.{content_of}
use Rattle.step_machine.proofs.Memory.{ram_same}
use Rattle.step_machine.proofs.Replaced.{same_bytes, untouched}
use Rattle.step_machine.proofs.Writing.{write_cut}
use Rattle.step_machine.proofs.directives.write.Goals as goal

pub returns-then-standing-content-clause-ram : goal.returns-then-standing-content-clause-ram
returns-then-standing-content-clause-ram g c = ram_same c.args.standing.now.spot c.args.ram.now

pub returns-in-None-clause-ram : goal.returns-in-None-clause-ram
returns-in-None-clause-ram g c = ram_same c.args.standing.now.spot c.args.ram.now

pub returns-in-Err-clause-writes : goal.returns-in-Err-clause-writes
returns-in-Err-clause-writes g c t =
    let standing = c.args.standing.now in
    let before = content_of standing.spot c.args.ram.now (g.D.Disk.flash c.args.disk.now).reads in
    let after = content_of standing.spot c.fill.new.ram (g.D.Disk.flash c.fill.new.disk).reads in
    let there : bytes_of (in_force c.args.params.now standing.component keys.Content) ≡ Some c.in-Some.content.now = sym (ap bytes_of c.get.ensures) ∙ sym c.in-Some.ensures in
    let short : length after ≤ standing.capacity = omega (arith, c.in-Err.ensures.short t, c.requires.room) in
    write_cut standing.component standing.capacity c.args.params.now before after c.in-Some.content.now there short

one_content : (x y : List ℕ) → Some x ≡ Some y → x ≡ y
one_content x y e = cc

pub returns-in-None-clause-any_moment : goal.returns-in-None-clause-any_moment
returns-in-None-clause-any_moment g c t content is = untouched c.args.standing.now.spot content (g.D.Disk.flash c.args.disk.now)

pub returns-then-standing-content-clause-any_moment :
    goal.returns-then-standing-content-clause-any_moment
returns-then-standing-content-clause-any_moment g c t content is = untouched c.args.standing.now.spot content (g.D.Disk.flash c.args.disk.now)

pub returns-in-Ok-clause-any_moment : goal.returns-in-Ok-clause-any_moment
returns-in-Ok-clause-any_moment g c t content is = same_bytes c.args.standing.now.spot c.in-Some.content.now content _ _ (one_content _ _ (sym (sym (ap bytes_of c.get.ensures) ∙ sym c.in-Some.ensures) ∙ is)) (c.fill.ensures.any_moment t)

pub returns-in-Err-clause-any_moment : goal.returns-in-Err-clause-any_moment
returns-in-Err-clause-any_moment g c t content is = same_bytes c.args.standing.now.spot c.in-Some.content.now content _ _ (one_content _ _ (sym (sym (ap bytes_of c.get.ensures) ∙ sym c.in-Some.ensures) ∙ is)) (c.fill.ensures.any_moment t)
