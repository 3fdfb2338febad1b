use Rattle.std.proofs.Common.{arith}
use Rattle.std.proofs.lemmas.Bool.{eq-eqb, eqb-true}
use Rattle.flash_layout.proofs.Loading.{first_read}
use Rattle.flash_layout.proofs.formatting.is_open.Goals as goal

pub returns-in-Done-clause-told : goal.returns-in-Done-clause-told
returns-in-Done-clause-told g c t =
    let same = first_read (g.D.Disk.flash c.args.disk.now).reads c.read_at.new.room c.args.gate 1 (omega arith) (c.in-Done.ensures.bytes t) in
    rw same (λ yes. eqb-true _ _ yes, λ is. eq-eqb _ _ is)
