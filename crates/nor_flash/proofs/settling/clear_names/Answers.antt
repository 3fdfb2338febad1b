use Rattle.std.proofs.Common.{◌≡◌, inl, inr, ⊎_elim, ◌+◌, ℕ, List, IsTrue, refl, subst, sym, ◌∙◌}
use Rattle.suit_edge.specs.Flash.{Flash}
use Rattle.nor_flash.specs.declared.phase.Phase.{Phase}
use Rattle.nor_flash.specs.Blocks.{name_in}
use Rattle.nor_flash.specs.NorDisks.{IsQuiet, IsSteady, blocks_of}
use Rattle.nor_flash.proofs.Calm.{IsCalm, IsSized, calm_by, calm_fits, sized_by}
use Rattle.nor_flash.proofs.Quiet.{first_name_quiet, second_name_quiet}
use Rattle.nor_flash.proofs.Steadiness.{read_step, steady_then}
use Rattle.nor_flash.proofs.settling.clear_names.Given as given
use Rattle.nor_flash.proofs.settling.clear_names.Goals as goal
use Rattle.nor_flash.proofs.settling.clear_names.Goals.{In-Some-name}

-- two names are read
module _ (g : given.Over) (c : In-Some-name g) (t : IsTrue g.N.Nor.told) where
  sized : IsSized (g.N.Nor.extent c.args.nor.now)
  sized = sized_by (g.N.Nor.extent c.args.nor.now) c.count-image.result c.count-image.ensures.count c.count-image.ensures.few c.count-image.ensures.all

  calm_a : IsCalm (g.N.Nor.extent c.args.nor.now) (g.N.Nor.flash c.args.nor.now)
  calm_a = calm_by refl (g.met.N.Nor.obeys c.args.nor.now t) (g.met.N.Nor.rests c.args.nor.now t) (g.met.N.Nor.cells c.args.nor.now t)

  same : (g.N.Nor.flash c.name-2.new.nor).reads ≡ (g.N.Nor.flash c.args.nor.now).reads
  same = (c.name-2.ensures.same t).reads ∙ (c.name.ensures.same t).reads

  second : c.in-Some.name ≡ name_in (blocks_of (g.N.Nor.extent c.args.nor.now) + 2) (g.N.Nor.flash c.args.nor.now).reads
  second = rw c.count-image.ensures.count at (c.in-Some.ensures.exact t)

  third : c.in-Some-name.name ≡ name_in (blocks_of (g.N.Nor.extent c.args.nor.now) + 3) (g.N.Nor.flash c.args.nor.now).reads
  third = rw (c.count-image.ensures.count, (c.name.ensures.same t).reads) at (c.in-Some-name.ensures.exact t)

  -- and the names erased
  then_erased : {e : Flash} (phase : Phase) (name : ℕ) → (IsQuiet (blocks_of (g.N.Nor.extent c.args.nor.now)) phase (g.N.Nor.flash c.name-2.new.nor).reads (blocks_of (g.N.Nor.extent c.args.nor.now) + name) → IsSteady (blocks_of (g.N.Nor.extent c.args.nor.now)) phase (g.N.Nor.flash c.name-2.new.nor) phase e)
      → IsQuiet (blocks_of (g.N.Nor.extent c.args.nor.now)) phase (g.N.Nor.flash c.args.nor.now).reads (blocks_of (g.N.Nor.extent c.args.nor.now) + name) → IsSteady (blocks_of (g.N.Nor.extent c.args.nor.now)) phase (g.N.Nor.flash c.args.nor.now) phase e
  then_erased phase name erases quiet =
      let calm_b : IsCalm (g.N.Nor.extent c.args.nor.now) (g.N.Nor.flash c.name.new.nor) = calm_by c.name.ensures.size (g.met.N.Nor.obeys c.name.new.nor t) (g.met.N.Nor.rests c.name.new.nor t) (g.met.N.Nor.cells c.name.new.nor t) in
      let calm_d : IsCalm (g.N.Nor.extent c.args.nor.now) (g.N.Nor.flash c.name-2.new.nor) = calm_by (c.name-2.ensures.size ∙ c.name.ensures.size) (g.met.N.Nor.obeys c.name-2.new.nor t) (g.met.N.Nor.rests c.name-2.new.nor t) (g.met.N.Nor.cells c.name-2.new.nor t) in
      steady_then calm_b (read_step (blocks_of (g.N.Nor.extent c.args.nor.now)) phase (c.name.ensures.same t) (c.name.ensures.grows t)) (steady_then calm_d (read_step (blocks_of (g.N.Nor.extent c.args.nor.now)) phase (c.name-2.ensures.same t) (c.name-2.ensures.grows t))
      (erases (subst (λ (l : List ℕ). IsQuiet (blocks_of (g.N.Nor.extent c.args.nor.now)) phase l (blocks_of (g.N.Nor.extent c.args.nor.now) + name)) (sym same) quiet)))

pub returns-then-second-third-clause-steady : goal.returns-then-second-third-clause-steady
returns-then-second-third-clause-steady g c t phase can =
    let at = (goal.at.returns-then-second-third-clause-steady g c).In-Some-name in
    let whole = sized g at t in
    let fits = calm_fits whole (calm_a g at t) in
    then_erased g at t phase 2 (rw (c.name-2.ensures.size ∙ c.name.ensures.size) at (c.erase_names.ensures.steady t phase (⊎_elim (λ h. inl h) (λ h. inr h.0) can)))
    (second_name_quiet (blocks_of (g.N.Nor.extent c.args.nor.now)) whole.few _ fits phase can (sym (second g at t) ∙ c.if-second-third.true ∙ third g at t))

pub returns-else-second-third-clause-steady : goal.returns-else-second-third-clause-steady
returns-else-second-third-clause-steady g c t phase can =
    let at = (goal.at.returns-else-second-third-clause-steady g c).In-Some-name in
    let whole = sized g at t in
    let fits = calm_fits whole (calm_a g at t) in
    then_erased g at t phase 1 (rw (c.name-2.ensures.size ∙ c.name.ensures.size) at (c.erase_names-else-second-third.ensures.steady t phase (⊎_elim (λ h. inl h) (λ h. inr h.0) can)))
    (first_name_quiet (blocks_of (g.N.Nor.extent c.args.nor.now)) whole.few _ fits phase can (λ equal. c.if-second-third.false (second g at t ∙ equal ∙ sym (third g at t))))
