use Rattle.std.proofs.Common.{List, ℕ, Ok, ap, sym, ◌∙◌, below_more, arith}
use Rattle.flash_layout.proofs.spelled_places.find_spelled.Goals as goal

pub loop-i-preserved : goal.loop-i-preserved
loop-i-preserved c id e =
    below_more _ _ (c.loop-i.invariant id e)
    (λ has. let yes = c.is_spelled.ensures.1 (e ∙ ap (λ (x : List (List ℕ)). Ok x) (sym (has.1 c.index-entries-i.result))) in cc)

pub returns : goal.returns
returns c id e i has = c.loop-i.invariant id e i (omega (arith, has.0, c.loop-i-test.false)) has
