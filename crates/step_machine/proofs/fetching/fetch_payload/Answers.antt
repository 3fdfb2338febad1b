use Rattle.std.proofs.Common.{◌≡◌, ℕ, List, None, refl, sym}
use Rattle.path_model.specs.Settings.{found_under}
use Rattle.step_machine.specs.Fetching.{ArePayloads}
use Rattle.step_machine.specs.Spots.{content_of}
use Rattle.step_machine.proofs.Fetched.{by_file, left_alone}
use Rattle.step_machine.proofs.Memory.{ram_same}
use Rattle.step_machine.proofs.TakenFiles.{found_takes}
use Rattle.step_machine.proofs.fetching.fetch_payload.Goals as goal

pub returns-in-Some-clause-takes : goal.returns-in-Some-clause-takes
returns-in-Some-clause-takes g c t payloads has =
    let standing = c.args.standing.now in
    found_takes _ standing.capacity _ c.in-Some.payload.now (content_of standing.spot c.args.ram.now (g.D.Disk.flash c.args.disk.now).reads) _ (sym (c.in-Some.ensures payloads has)) (c.fill_with.ensures.takes t)

pub returns-in-None-clause-takes : goal.returns-in-None-clause-takes
returns-in-None-clause-takes g c t payloads has = (sym (c.in-None.ensures payloads has), refl)

pub returns-in-None-clause-ram : goal.returns-in-None-clause-ram
returns-in-None-clause-ram g c = ram_same c.args.standing.now.spot c.args.ram.now

pub returns-in-Some-clause-replaced : goal.returns-in-Some-clause-replaced
returns-in-Some-clause-replaced g c t =
    by_file c.args.standing.now.spot (λ file. (payloads : List (List ℕ × List ℕ)) → ArePayloads c.args.envelope payloads → file ≡ found_under payloads c.args.key.now) c.in-Some.payload.now _ _ (λ payloads has. c.in-Some.ensures payloads has) (c.fill_with.ensures.any_moment t)

pub returns-in-None-clause-replaced : goal.returns-in-None-clause-replaced
returns-in-None-clause-replaced g c t =
    left_alone c.args.standing.now.spot (λ file. (payloads : List (List ℕ × List ℕ)) → ArePayloads c.args.envelope payloads → file ≡ found_under payloads c.args.key.now) None (g.D.Disk.flash c.args.disk.now) (λ payloads has. c.in-None.ensures payloads has)
