use Rattle.flash_layout.proofs.Overlapping.{others_told}
use Rattle.flash_layout.proofs.first_faults.share_none.Goals as goal

pub returns : goal.returns
returns c =
    others_told c.args.entries.now c.args.i c.args.j c.index-entries-i.result c.index-entries-j.result c.slots_of.result.now c.slots_of-2.result.now c.all_clear.result
    c.requires.first c.requires.second c.if-i-j.false c.index-entries-i.is c.index-entries-j.is c.slots_of.ensures c.slots_of-2.ensures c.all_clear.ensures
