use Rattle.std.proofs.Common.{◌≡◌, ◌⊎◌, [], None, Err, IsTrue, ◌∙◌, inl, ◌+◌, ⊎_elim, ℕ, List, Option, refl, ap, subst}
use Rattle.std.specs.Option.{option_and_then}
use Rattle.path_model.specs.Settings.{found_under}
use Rattle.path_model.specs.declared.cause.Cause.TheVariants as causes
use Rattle.step_machine.specs.Fetching.{AsksAtMost, TakesOf, asked_at}
use Rattle.step_machine.specs.Spots.{content_of}
use Rattle.step_machine.proofs.Asking.{unrequested}
use Rattle.step_machine.proofs.FetchPlays.{none_under}
use Rattle.step_machine.proofs.Fetched.{left_alone, named_as}
use Rattle.step_machine.proofs.Memory.{ram_same}
use Rattle.step_machine.proofs.fetching.fetch_file.Goals as goal

pub returns-in-Some-clause-takes : goal.returns-in-Some-clause-takes
returns-in-Some-clause-takes g c t =
    let standing = c.args.standing.now in
    let before = content_of standing.spot c.args.ram.now (g.D.Disk.flash c.args.disk.now).reads in
    let after = content_of standing.spot c.fetch_named.new.ram (g.D.Disk.flash c.fetch_named.new.disk).reads in
    let takes = c.fetch_named.ensures.takes t in (
      takes.0,
      takes.1 c.args.uris.now (λ none. none_under c.args.uris.now c.args.uri.now _ none c.in-Some.ensures),
      subst (λ (o : Option (List ℕ)). TakesOf o takes.0 c.fetch_named.result standing.capacity before after) c.in-Some.ensures takes.2,
    )

pub returns-in-None-clause-takes : goal.returns-in-None-clause-takes
returns-in-None-clause-takes g c t =
    let standing = c.args.standing.now in
    let before = content_of standing.spot c.args.ram.now (g.D.Disk.flash c.args.disk.now).reads in (
      [],
      unrequested g.H.Host.told c.args.uris.now (g.H.Host.file c.args.host.now) _ _ refl,
      subst (λ (o : Option (List ℕ)). TakesOf o [] (Err causes.Absent) standing.capacity before before) c.in-None.ensures (refl, (refl, refl)),
    )

pub returns-in-None-clause-ram : goal.returns-in-None-clause-ram
returns-in-None-clause-ram g c = ram_same c.args.standing.now.spot c.args.ram.now

pub returns-in-Some-clause-unasked : goal.returns-in-Some-clause-unasked
returns-in-Some-clause-unasked g c none = absurd (none_under c.args.uris.now c.args.uri.now _ none c.in-Some.ensures)

pub returns-in-Some-clause-asked : goal.returns-in-Some-clause-asked
returns-in-Some-clause-asked g c t =
    subst (λ (o : Option (List ℕ)). AsksAtMost o (c.args.standing.now.capacity + 1) (asked_at (g.H.Host.asked c.args.host.now) (g.H.Host.pulled c.args.host.now)) (asked_at (g.H.Host.asked c.fetch_named.new.host) (g.H.Host.pulled c.fetch_named.new.host))) c.in-Some.ensures (c.fetch_named.ensures.asked t)

pub returns-in-None-clause-asked : goal.returns-in-None-clause-asked
returns-in-None-clause-asked g c t = inl (refl, refl)

pub returns-in-Some-clause-replaced : goal.returns-in-Some-clause-replaced
returns-in-Some-clause-replaced g c t =
    named_as c.args.standing.now.spot (λ file. IsTrue g.H.Host.told ⊎ (c.args.uris.now ≡ []) → file ≡ option_and_then (g.H.Host.file c.args.host.now) (found_under c.args.uris.now c.args.uri.now)) _ _ _
    (λ file is u. is (⊎_elim (λ told. told) (λ none. absurd (none_under c.args.uris.now c.args.uri.now _ none c.in-Some.ensures)) u) ∙ ap (option_and_then (g.H.Host.file c.args.host.now)) c.in-Some.ensures) (c.fetch_named.ensures.replaced t)

pub returns-in-None-clause-replaced : goal.returns-in-None-clause-replaced
returns-in-None-clause-replaced g c t =
    left_alone c.args.standing.now.spot (λ file. IsTrue g.H.Host.told ⊎ (c.args.uris.now ≡ []) → file ≡ option_and_then (g.H.Host.file c.args.host.now) (found_under c.args.uris.now c.args.uri.now)) None (g.D.Disk.flash c.args.disk.now)
    (λ u. ap (option_and_then (g.H.Host.file c.args.host.now)) c.in-None.ensures)
