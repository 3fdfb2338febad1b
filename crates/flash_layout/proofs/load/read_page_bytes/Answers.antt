use Rattle.std.proofs.Common.{length, arith}
use Rattle.flash_layout.specs.Frames.{page_bytes}
use Rattle.flash_layout.specs.FrameFacts.{facts}
use Rattle.flash_layout.proofs.Loading.{read_of}
use Rattle.flash_layout.proofs.load.read_page_bytes.Goals as goal

pub read_at-requires : goal.read_at-requires
read_at-requires g c = let place = facts (g.D.Disk.extent c.args.disk.now) c.args.frame c.requires.frame in omega (arith, c.requires.long, place.inside, place.page, place.head)

pub returns-in-Done-clause-read : goal.returns-in-Done-clause-read
returns-in-Done-clause-read g c t =
    read_of (g.D.Disk.flash c.args.disk.now).reads c.read_at.new.room c.args.frame.base (length c.args.page.now) (page_bytes c.args.frame) c.requires.long (c.in-Done.ensures.bytes t)
