use Rattle.std.proofs.Common.{◌≡◌, ℕ, List, [], ◌∷◌, get_or, subst, arith}
use Rattle.suit_edge.specs.declared.page.TheConstants.{CLOSED}
use Rattle.suit_edge.specs.declared.gate.Gate.{Gate}
use Rattle.suit_edge.specs.EdgeLaws.{if_done_then, both_done}
use Rattle.suit_edge.specs.Flash.{IsSettled}
use Rattle.suit_edge.specs.Gate.{Closes, IsGate, IsShut}
use Rattle.suit_edge.specs.Ranges.{written}
use Rattle.suit_edge.specs.GateLaws.{closes_open, gate_written, settled_shut}
use Rattle.suit_edge.proofs.page.shut_gate.Goals as goal

pub returns-clause-closes : goal.returns-clause-closes
returns-clause-closes g c t =
    let q = c.args.gate in
    let start = g.D.Disk.flash c.args.disk.now in
    let end = g.D.Disk.flash c.write_and_sync.new.disk in
    let law = g.met.D.Disk.obeys c.args.disk.now t in
    let is_open = subst (λ (k : Gate). IsGate k (get_or start.reads q 0)) c.in-Open.is (c.requires.known t) in
    if_done_then c.write_and_sync.result (end.reads ≡ written start.reads q (CLOSED ∷ [])) (Closes q start.reads end.reads) (c.write_and_sync.ensures.written t)
    (closes_open q start.reads end.reads (omega (arith, law.fits, c.requires.gate)) is_open)

pub returns-clause-shut : goal.returns-clause-shut
returns-clause-shut g c t =
    let q = c.args.gate in
    let start = g.D.Disk.flash c.args.disk.now in
    let end = g.D.Disk.flash c.write_and_sync.new.disk in
    let law = g.met.D.Disk.obeys c.args.disk.now t in
    both_done c.write_and_sync.result (end.reads ≡ written start.reads q (CLOSED ∷ [])) (IsSettled end) (IsShut q end) (c.write_and_sync.ensures.written t) (c.write_and_sync.ensures.settled t)
    (λ wrote settled. let byte = gate_written start.reads end.reads q CLOSED (omega (arith, law.fits, c.requires.gate)) wrote in
    settled_shut q end settled (λ is_open. absurd (omega (arith, byte, is_open))))
