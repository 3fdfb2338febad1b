use Rattle.std.proofs.Common.{◌≢◌, ◌<◌, List, length, ap, sym, subst, arith}
use Rattle.std.specs.Prelude.{◌↔◌, slice_set}
use Rattle.path_checker.specs.Exploring.{In}
use Rattle.path_checker.specs.Matches.{Match}
use Rattle.path_checker.specs.Standing.{held_of}
use Rattle.path_checker.proofs.HeldLaws.{Trees, loses, loses_none}
use Rattle.path_checker.proofs.judge_plan.standing.StandingMatches.lose.Goals as goal

pub returns-then-index-len : goal.returns-then-index-len
returns-then-index-len c other any = loses_none c.args.self.now.of.items c.args.component (omega (arith, c.if-index-len.true, c.len.ensures, c.args.self.now.of.ok.0)) other any

pub returns : goal.returns
returns c other any =
    let of : Trees = c.args.self.now.of.items in
    let lt : c.args.component < length of = omega (arith, c.if-index-len.false, c.len.ensures, c.args.self.now.of.ok.0) in
    subst (λ (ms : List Match). In any ms ↔ ((other ≢ c.args.component) × In any (held_of c.args.self.now other))) (sym (c.narrow.ensures other))
    (loses of (slice_set of c.args.component c.none.result) c.args.component lt (ap (λ (ms : List Match). slice_set of c.args.component ms) c.none.ensures) other any)
