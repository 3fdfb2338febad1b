use Rattle.std.proofs.Common.{◌≡◌, [], ◌∷◌, None, Some, IsTrue, sym, refl, ap, inl, inr, ⊎_elim, ◌∙◌, arith}
use Rattle.step_machine.specs.Fetching.{request}
use Rattle.step_machine.proofs.Asking.{one_requested, start_failed}
use Rattle.step_machine.proofs.Fetched.{left_alone, named_as}
use Rattle.step_machine.proofs.Memory.{ram_same}
use Rattle.step_machine.proofs.TakenFiles.{found_takes}
use Rattle.step_machine.proofs.fetching.fetch_named.Goals as goal

pub returns-in-Done-clause-takes : goal.returns-in-Done-clause-takes
returns-in-Done-clause-takes g c t =
    let some = c.take_into.ensures.takes t in (
      request c.args.name.now (Some some.file) ∷ [],
      λ words names. one_requested g.H.Host.told words (g.H.Host.file c.args.host.now) _ _ c.args.name.now (Some some.file) names (λ u. c.take_into.ensures.asked u ∙ c.in-Done.ensures.asked u) (λ u. ap Some (some.is u) ∙ sym (c.in-Done.ensures.starts u)),
      inr (Some some.file, refl, found_takes _ c.args.standing.now.capacity _ some.file _ _ refl some.takes),
    )

pub returns-in-Absent-clause-takes : goal.returns-in-Absent-clause-takes
returns-in-Absent-clause-takes g c t = (
  request c.args.name.now None ∷ [],
  λ words names. one_requested g.H.Host.told words (g.H.Host.file c.args.host.now) _ _ c.args.name.now None names (λ u. c.in-Absent.ensures.asked u) (λ u. sym (c.in-Absent.ensures.starts u).0),
  inr (None, refl, (refl, refl)),
)

pub returns-in-Absent-clause-ram : goal.returns-in-Absent-clause-ram
returns-in-Absent-clause-ram g c = ram_same c.args.standing.now.spot c.args.ram.now

pub returns-in-Done-clause-asked : goal.returns-in-Done-clause-asked
returns-in-Done-clause-asked g c t = inr (c.args.name.now, refl, c.take_into.ensures.asked t ∙ c.in-Done.ensures.asked t, omega (arith, c.take_into.ensures.pulls.pulled t, c.start.ensures.pulled t))

pub returns-in-Absent-clause-asked : goal.returns-in-Absent-clause-asked
returns-in-Absent-clause-asked g c t = inr (c.args.name.now, refl, c.in-Absent.ensures.asked t, omega (arith, c.start.ensures.pulled t))

pub returns-in-Failed-clause-asked : goal.returns-in-Failed-clause-asked
returns-in-Failed-clause-asked g c t = ⊎_elim (λ same. inl (same, c.start.ensures.pulled t)) (λ asks. inr (c.args.name.now, refl, asks, omega (arith, c.start.ensures.pulled t))) (c.in-Failed.ensures.asked t)

pub returns-in-Failed-clause-takes : goal.returns-in-Failed-clause-takes
returns-in-Failed-clause-takes g c t = start_failed g.H.Host.told (g.H.Host.file c.args.host.now) _ _ c.args.name.now c.args.standing.now.capacity _ c.in-Failed.ensures.asked

pub returns-in-Failed-clause-ram : goal.returns-in-Failed-clause-ram
returns-in-Failed-clause-ram g c = ram_same c.args.standing.now.spot c.args.ram.now

pub returns-in-Done-clause-replaced : goal.returns-in-Done-clause-replaced
returns-in-Done-clause-replaced g c t =
    named_as c.args.standing.now.spot (λ file. IsTrue g.H.Host.told → file ≡ g.H.Host.file c.args.host.now c.args.name.now) _ _ _ (λ file is u. is u ∙ sym (c.in-Done.ensures.starts u)) (c.take_into.ensures.replaced t)

pub returns-in-Absent-clause-replaced : goal.returns-in-Absent-clause-replaced
returns-in-Absent-clause-replaced g c t =
    left_alone c.args.standing.now.spot (λ file. IsTrue g.H.Host.told → file ≡ g.H.Host.file c.args.host.now c.args.name.now) None (g.D.Disk.flash c.args.disk.now) (λ u. sym (c.in-Absent.ensures.starts u).0)

pub returns-in-Failed-clause-replaced : goal.returns-in-Failed-clause-replaced
returns-in-Failed-clause-replaced g c t =
    left_alone c.args.standing.now.spot (λ file. IsTrue g.H.Host.told → file ≡ g.H.Host.file c.args.host.now c.args.name.now) (g.H.Host.file c.args.host.now c.args.name.now) (g.D.Disk.flash c.args.disk.now) (λ u. refl)
