use Rattle.std.proofs.Common.{◌≡◌, [], sym, ap, ◌∙◌, length, ◌<◌, arith}
use Rattle.flash_slots.specs.RamContents.{Held, held_by, holding}
use Rattle.step_machine.proofs.Memory.{held_then, holding_twice, same_size}
use Rattle.step_machine.proofs.TakenFiles.{some_done, some_stopped}
use Rattle.step_machine.proofs.taking.take_into_ram.Goals as goal

pub returns-in-Ok-clause-ram : goal.returns-in-Ok-clause-ram
returns-in-Ok-clause-ram g c =
    let at = c.args.component in
    holding_twice c.args.ram.now c.clear.new.self c.append_file_in_ram.new.ram at [] (held_by c.append_file_in_ram.new.ram at).content c.requires.component c.clear.ensures c.append_file_in_ram.ensures.ram

pub returns-in-Ok-clause-takes : goal.returns-in-Ok-clause-takes
returns-in-Ok-clause-takes g c = some_done g.H.Host.told _ c.args.capacity _ _ (λ u. (c.in-Ok.ensures.puts u).1) c.append_file_in_ram.ensures.within

pub returns-in-Err-clause-takes : goal.returns-in-Err-clause-takes
returns-in-Err-clause-takes g c =
    let at = c.args.component in
    let first = c.args.ram.now in
    let middle = c.append_file_in_ram.new.ram in
    let put = (held_by middle at).content in
    let size = same_size first middle at put (holding_twice first c.clear.new.self middle at [] put c.requires.component c.clear.ensures c.append_file_in_ram.ensures.ram) in
    let inside : at < length middle = omega (arith, size, c.requires.component) in
    some_stopped g.H.Host.told c.in-Err.cause c.args.capacity _ put _ c.in-Err.ensures.stops c.in-Err.ensures.puts
    (ap (λ (h : Held). h.content) (held_then middle c.clear-in-Err.new.self at [] inside c.clear-in-Err.ensures))

pub returns-in-Err-clause-ram : goal.returns-in-Err-clause-ram
returns-in-Err-clause-ram g c =
    let at = c.args.component in
    let first = c.args.ram.now in
    let middle = c.append_file_in_ram.new.ram in
    let left = c.clear-in-Err.new.self in
    let put = (held_by middle at).content in
    let to_middle : middle ≡ holding first at put = holding_twice first c.clear.new.self middle at [] put c.requires.component c.clear.ensures c.append_file_in_ram.ensures.ram in
    let size = same_size first middle at put to_middle in
    let inside : at < length middle = omega (arith, size, c.requires.component) in
    let none : (held_by left at).content ≡ [] = ap (λ (h : Held). h.content) (held_then middle left at [] inside c.clear-in-Err.ensures) in
    holding_twice first middle left at put [] c.requires.component to_middle c.clear-in-Err.ensures ∙ ap (holding first at) (sym none)
