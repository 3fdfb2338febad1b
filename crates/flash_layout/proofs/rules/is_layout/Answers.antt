use Rattle.std.proofs.Common.{◌≡◌, ◌≤◌, true, length, sym, subst, arith}
use Rattle.std.specs.List.{AllPairs}
use Rattle.flash_layout.specs.Frames.{most}
use Rattle.flash_layout.specs.Layouts.{AreApart}
use Rattle.flash_layout.proofs.Allowing.{layout_is}
use Rattle.flash_layout.proofs.rules.is_layout.Goals as goal

pub returns : goal.returns
returns c =
    let entries = c.as_slice-entries.result.now in
    let some : 1 ≤ length entries = omega arith in
    let few : length entries ≤ most c.args.frame = omega arith in
    let each : c.each_entry.result ≡ true = cc in (
      λ yes. layout_is c.args.frame c.args.size entries c.args.layout.now c.as_slice-entries.ensures some few (c.each_entry.ensures.0 each) (c.all_apart.ensures.0 yes),
      λ so. c.all_apart.ensures.1 (subst (AllPairs AreApart) (sym c.as_slice-entries.ensures) so.apart),
    )
