use Rattle.std.proofs.Common.{List, ℕ, length, subst}
use Rattle.suit_edge.specs.Client.{IsVouched, bytes_at}
use Rattle.suit_edge.specs.Flash.{IsFlash, Passes}
use Rattle.suit_edge.specs.Ranges.{Outside, OutsideEach}
use Rattle.suit_edge.specs.FlashLaws.{keeps_fewer}
use Rattle.suit_edge.specs.VouchLaws.{vouching, writing}
use Rattle.suit_edge.proofs.client.vouch.Goals as goal

pub returns-in-Failed-clause-any_moment : goal.returns-in-Failed-clause-any_moment
returns-in-Failed-clause-any_moment g c t =
    let kept = keeps_fewer (OutsideEach (bytes_at c.args.place (length c.args.bytes.now))) (Outside c.args.place (length c.args.bytes.now)) (λ i o. o.0) _ _ (c.keep_pieces.ensures.keeps t) in
    writing _ _ (bytes_at c.args.place (length c.args.bytes.now)) c.args.gate c.args.page c.args.body.now (g.met.D.Disk.obeys c.args.disk.now t) c.requires.gate c.requires.body c.requires.clear (c.requires.firm t) _ _ kept

-- first the bytes are written, then the page
pub returns-clause-any_moment : goal.returns-clause-any_moment
returns-clause-any_moment g c t =
    let law_b = subst (IsFlash (g.D.Disk.flash c.keep_pieces.new.disk)) c.keep_pieces.ensures.size (g.met.D.Disk.obeys c.keep_pieces.new.disk t) in
    let ranges = bytes_at c.args.place (length c.args.bytes.now) in
    let kept = keeps_fewer (OutsideEach ranges) (Outside c.args.place (length c.args.bytes.now)) (λ i o. o.0) _ _ (c.keep_pieces.ensures.keeps t) in
    subst (λ (l : List ℕ). Passes (g.D.Disk.flash c.args.disk.now) (g.D.Disk.flash c.write_gated.new.disk) (IsVouched ranges c.args.gate c.args.page c.args.body.now l (g.D.Disk.flash c.args.disk.now))) (c.in-Done.ensures.written t)
    (vouching _ _ ranges c.args.gate c.args.page c.args.body.now (g.met.D.Disk.obeys c.args.disk.now t) c.requires.gate c.requires.body c.requires.clear (c.requires.firm t) _ _ law_b kept (c.write_gated.ensures.any_moment t))
