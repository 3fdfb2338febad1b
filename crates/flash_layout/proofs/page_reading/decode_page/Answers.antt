use Rattle.flash_layout.proofs.Laws.{read_some, read_other, not_refused}
use Rattle.flash_layout.proofs.page_reading.decode_page.Goals as goal

pub returns-then-spells-clause-every : goal.returns-then-spells-clause-every
returns-then-spells-clause-every c layout key typed is = read_some c.args.frame c.args.size c.args.page.now layout key (c.in-Ok.layout, c.in-Ok.key) typed is c.in-Ok.ensures

pub returns-else-spells-clause-every : goal.returns-else-spells-clause-every
returns-else-spells-clause-every c layout key typed is =
    let yes = c.spells.ensures.1 (read_other c.args.frame c.args.size c.args.page.now layout key (c.in-Ok.layout, c.in-Ok.key) typed is c.in-Ok.ensures) in
    absurd cc

pub returns-in-Err-Refused-clause-every : goal.returns-in-Err-Refused-clause-every
returns-in-Err-Refused-clause-every c layout key typed is = absurd (not_refused c.args.frame c.args.size c.args.page.now layout key c.in-Err-Refused.field-0-0 typed is (rw c.in-Err-Refused.field-0-is at c.in-Err-Refused.ensures))
