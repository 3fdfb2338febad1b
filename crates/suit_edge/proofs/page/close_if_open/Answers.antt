use Rattle.std.proofs.Common.{◌≡◌, ℕ, List, [], ◌∷◌, sym, ◌∙◌, ap, arith}
use Rattle.suit_edge.specs.declared.page.TheConstants.{CLOSED}
use Rattle.suit_edge.specs.EdgeLaws.{if_done_then}
use Rattle.suit_edge.specs.Gate.{Closes}
use Rattle.suit_edge.specs.Ranges.{Outside, written}
use Rattle.suit_edge.specs.FlashLaws.{keeps_same, keeps_then}
use Rattle.suit_edge.specs.GateLaws.{closes_open, closing, gate_read}
use Rattle.suit_edge.proofs.page.close_if_open.Goals as goal

pub returns-clause-closes : goal.returns-clause-closes
returns-clause-closes g c t =
    let q = c.args.gate in
    let start = g.D.Disk.flash c.args.disk.now in
    let looked = g.D.Disk.flash c.read_at.new.self in
    let end = g.D.Disk.flash c.write_at.new.self in
    let law = g.met.D.Disk.obeys c.args.disk.now t in
    let gate = gate_read start.reads c.read_at.new.room q (c.in-Done.ensures.bytes t) in
    let same = ap (λ (l : List ℕ). written l q (CLOSED ∷ [])) (c.read_at.ensures.same t).reads in
    if_done_then c.write_at.result (end.reads ≡ written looked.reads q (CLOSED ∷ [])) (Closes q start.reads end.reads) (c.write_at.ensures.written t)
    (λ wrote. closes_open q start.reads end.reads (omega (arith, law.fits)) (sym gate ∙ c.if-byte.false) (wrote ∙ same))

-- a read, then a write of the gate
pub returns-clause-keeps : goal.returns-clause-keeps
returns-clause-keeps g c t =
    keeps_then (Outside c.args.gate 1) _ _ _ _ (g.met.D.Disk.obeys c.read_at.new.self t)
    (keeps_same (Outside c.args.gate 1) _ _ (c.read_at.ensures.same t)) (c.write_at.ensures.keeps t)

pub returns-clause-any_moment : goal.returns-clause-any_moment
returns-clause-any_moment g c t =
    let gate = gate_read (g.D.Disk.flash c.args.disk.now).reads c.read_at.new.room c.args.gate (c.in-Done.ensures.bytes t) in
    let kept = keeps_then (Outside c.args.gate 1) _ _ _ _ (g.met.D.Disk.obeys c.read_at.new.self t)
    (keeps_same (Outside c.args.gate 1) _ _ (c.read_at.ensures.same t)) (c.write_at.ensures.keeps t) in
    closing c.args.gate _ _ (sym gate ∙ c.if-byte.false) kept
