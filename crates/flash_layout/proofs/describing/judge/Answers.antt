use Rattle.std.proofs.Common.{◌≤◌, length, arith}
use Rattle.flash_layout.specs.Frames.{most}
use Rattle.flash_layout.proofs.Judged.{alike_told, base_judged, many_told, outside_told, overlap_told}
use Rattle.flash_layout.proofs.describing.judge.Goals as goal

pub returns-then-limit-entries : goal.returns-then-limit-entries
returns-then-limit-entries c = many_told c.args.frame c.args.size c.as_slice-entries.result.now c.args.layout.now c.as_slice-entries.ensures (omega arith)

pub returns-in-Some : goal.returns-in-Some
returns-in-Some c =
    let few : length c.as_slice-entries.result.now ≤ most c.args.frame = omega arith in
    alike_told c.args.frame c.args.size c.as_slice-entries.result.now c.args.layout.now c.as_slice-entries.ensures c.in-Some.first c.in-Some.second few c.in-Some.ensures

pub returns-in-Some-first_overlap : goal.returns-in-Some-first_overlap
returns-in-Some-first_overlap c =
    let here = c.in-Some-first_overlap in
    let few : length c.as_slice-entries.result.now ≤ most c.args.frame = omega arith in
    overlap_told c.args.frame c.args.size c.as_slice-entries.result.now c.args.layout.now c.as_slice-entries.ensures here.first here.second few c.in_default.ensures here.ensures

pub returns-in-Some-first_outside : goal.returns-in-Some-first_outside
returns-in-Some-first_outside c =
    let here = c.in-Some-first_outside in
    let few : length c.as_slice-entries.result.now ≤ most c.args.frame = omega arith in
    outside_told c.args.frame c.args.size c.as_slice-entries.result.now c.args.layout.now c.as_slice-entries.ensures here.component few c.in_default.ensures c.in_default-first_overlap.ensures here.ensures

pub returns : goal.returns
returns c =
    let few : length c.as_slice-entries.result.now ≤ most c.args.frame = omega arith in
    base_judged c.args.frame c.args.size c.as_slice-entries.result.now c.args.layout.now c.as_slice-entries.ensures c.judge_base.result few c.in_default.ensures c.in_default-first_overlap.ensures
    c.in_default-first_outside.ensures c.judge_base.ensures
