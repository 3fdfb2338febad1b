use Rattle.std.proofs.Common.{◌≡◌, ◌+◌, IsTrue, refl, ◌∙◌, arith}
use Rattle.suit_edge.specs.Edge.{IfDone}
use Rattle.suit_edge.specs.EdgeLaws.{if_done_then}
use Rattle.nor_flash.specs.Blocks.{IsErased, name_in}
use Rattle.nor_flash.specs.NorDisks.{IsPrepared, blocks_of}
use Rattle.nor_flash.proofs.Calm.{Changes, blank_stays, calm_by, changes, name_stays, shown_stays, sized_by}
use Rattle.nor_flash.proofs.Replacement.{name_steady}
use Rattle.nor_flash.proofs.Steadiness.{steady_then}
use Rattle.nor_flash.proofs.replacing.prepare.Given as given
use Rattle.nor_flash.proofs.replacing.prepare.Goals as goal
use Rattle.nor_flash.proofs.replacing.prepare.Goals.{After-program_name, After-program_name-2}

module _ (g : given.Over) (c : After-program_name g) (t : IsTrue g.N.Nor.told) where
  one : Changes (g.N.Nor.extent c.args.nor.now) (blocks_of (g.N.Nor.extent c.args.nor.now) + 1) (g.N.Nor.flash c.args.nor.now) (g.N.Nor.flash c.program_name.new.nor)
  one = changes (blocks_of (g.N.Nor.extent c.args.nor.now) + 1) (sized_by (g.N.Nor.extent c.args.nor.now) c.count-image.result c.count-image.ensures.count c.count-image.ensures.few c.count-image.ensures.all) (calm_by refl (g.met.N.Nor.obeys c.args.nor.now t) (g.met.N.Nor.rests c.args.nor.now t) (g.met.N.Nor.cells c.args.nor.now t))
      (calm_by c.program_name.ensures.size (g.met.N.Nor.obeys c.program_name.new.nor t) (g.met.N.Nor.rests c.program_name.new.nor t) (g.met.N.Nor.cells c.program_name.new.nor t)) (c.program_name.ensures.keeps t) (c.program_name.ensures.grows t)

  third_blank : IsErased (blocks_of (g.N.Nor.extent c.args.nor.now) + 3) (g.N.Nor.flash c.program_name.new.nor).reads
  third_blank = blank_stays one (blocks_of (g.N.Nor.extent c.args.nor.now) + 3) (λ e. absurd (omega (arith, e))) (c.requires t).2

module _ (g : given.Over) (c : After-program_name-2 g) (t : IsTrue g.N.Nor.told) where
  two : Changes (g.N.Nor.extent c.args.nor.now) (blocks_of (g.N.Nor.extent c.args.nor.now) + 2) (g.N.Nor.flash c.program_name.new.nor) (g.N.Nor.flash c.program_name-2.new.nor)
  two = changes (blocks_of (g.N.Nor.extent c.args.nor.now) + 2) (sized_by (g.N.Nor.extent c.args.nor.now) c.count-image.result c.count-image.ensures.count c.count-image.ensures.few c.count-image.ensures.all) (calm_by c.program_name.ensures.size (g.met.N.Nor.obeys c.program_name.new.nor t) (g.met.N.Nor.rests c.program_name.new.nor t) (g.met.N.Nor.cells c.program_name.new.nor t))
      (calm_by (c.program_name-2.ensures.size ∙ c.program_name.ensures.size) (g.met.N.Nor.obeys c.program_name-2.new.nor t) (g.met.N.Nor.rests c.program_name-2.new.nor t) (g.met.N.Nor.cells c.program_name-2.new.nor t)) (rw c.program_name.ensures.size at (c.program_name-2.ensures.keeps t)) (c.program_name-2.ensures.grows t)

pub returns-in-Failed-clause-shown : goal.returns-in-Failed-clause-shown
returns-in-Failed-clause-shown g c t = shown_stays (one g (goal.at.returns-in-Failed-clause-shown g c).After-program_name t) c.args.block (omega arith) (λ e. absurd (omega (arith, e)))

pub returns-in-Failed-clause-steady : goal.returns-in-Failed-clause-steady
returns-in-Failed-clause-steady g c t = name_steady 1 (one g (goal.at.returns-in-Failed-clause-steady g c).After-program_name t) (omega arith) (omega arith) (c.requires t).2

pub returns-clause-shown : goal.returns-clause-shown
returns-clause-shown g c t =
    let at = goal.at.returns-clause-shown g c in
    shown_stays (two g at.After-program_name-2 t) c.args.block (omega arith) (λ e. absurd (omega (arith, e))) ∙ shown_stays (one g at.After-program_name t) c.args.block (omega arith) (λ e. absurd (omega (arith, e)))

pub returns-clause-steady : goal.returns-clause-steady
returns-clause-steady g c t =
    let at = goal.at.returns-clause-steady g c in
    let first = one g at.After-program_name t in
    steady_then first.to (name_steady 1 first (omega arith) (omega arith) (c.requires t).2)
    (name_steady 2 (two g at.After-program_name-2 t) (omega arith) (omega arith) (third_blank g at.After-program_name t))

pub returns-clause-prepared : goal.returns-clause-prepared
returns-clause-prepared g c t =
    let at = goal.at.returns-clause-prepared g c in
    let second = two g at.After-program_name-2 t in
    let m = blocks_of (g.N.Nor.extent c.args.nor.now) in
    let d = (g.N.Nor.flash c.program_name-2.new.nor).reads in
    let done : IfDone c.program_name-2.result (name_in (m + 2) d ≡ c.args.block) = rw c.program_name.ensures.size at (c.program_name-2.ensures.named t) in
    if_done_then c.program_name-2.result (name_in (m + 2) d ≡ c.args.block) (IsPrepared m c.args.block d) done
    (λ is. record {
      first = name_stays second (m + 1) (λ e. absurd (omega (arith, e))) (omega arith) ∙ c.in-Done.ensures.named t;
      second = is;
      third = blank_stays second (m + 3) (λ e. absurd (omega (arith, e))) (third_blank g at.After-program_name t);
    })
