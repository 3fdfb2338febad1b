use Rattle.std.proofs.Common.{IsTrue, None, ◌⊎◌, [], inl, ◌+◌, refl, List, Option, ◌≡◌, ◌≢◌, ◌<◌, ℕ, false, Err, sym, ap, subst, ◌∙◌, arith}
use Rattle.std.specs.Prelude.{◌==◌, Result, get_or}
use Rattle.std.proofs.lemmas.Bool.{eqb-false}
use Rattle.std.specs.Option.{option_and_then}
use Rattle.suit_params.specs.InForce.{bytes_of}
use Rattle.path_model.specs.declared.cause.Cause.{Cause}
use Rattle.path_model.specs.declared.cause.Cause.TheVariants as causes
use Rattle.path_model.specs.Settings.{found_under}
use Rattle.step_machine.specs.Fetching.{ArePayloads, AsksAtMost, FetchCounts, asked_at, file_by, payload_by}
use Rattle.step_machine.proofs.Asking.{unrequested}
use Rattle.step_machine.proofs.FetchPlays.{fetch_by_key, fetch_by_name, fetch_missing}
use Rattle.step_machine.proofs.Fetched.{left_alone, named_as}
use Rattle.step_machine.proofs.Memory.{ram_same}
use Rattle.step_machine.proofs.Writing.{when_false, when_true}
use Rattle.step_machine.proofs.fetching.fetch.Goals as goal

-- a payload is no file of the host
never_host : (r : Result (Unit {0}) Cause) (before now : ℕ) → FetchCounts r 0 0 before now → r ≡ Err causes.HostFault → ⊥
never_host r before now counts is =
    let faulted = (subst (λ (x : Result (Unit {0}) Cause). FetchCounts x 0 0 before now) is counts).0 in
    let rose : 0 < 0 = faulted.rose (omega arith) in
    omega (arith, rose)

other_than : (a b : ℕ) → (a == b) ≡ false → a ≢ b
other_than a b differ = eqb-false a b differ

pub returns-in-None-clause-ram : goal.returns-in-None-clause-ram
returns-in-None-clause-ram g c = ram_same c.args.standing.now.spot c.args.ram.now

pub returns-in-None-clause-fetches : goal.returns-in-None-clause-fetches
returns-in-None-clause-fetches g c t = (
  [],
  unrequested g.H.Host.told c.args.sources.now.uris.now (g.H.Host.file c.args.host.now) _ _ refl,
  λ payloads has. fetch_missing c.args.standing.now.component c.args.standing.now.capacity c.args.params.now payloads c.args.sources.now.uris.now _ (sym (ap bytes_of c.get.ensures) ∙ sym c.in-None.ensures),
)

pub returns-then-is_key-clause-fetches : goal.returns-then-is_key-clause-fetches
returns-then-is_key-clause-fetches g c t = (
  [],
  unrequested g.H.Host.told c.args.sources.now.uris.now (g.H.Host.file c.args.host.now) _ _ refl,
  λ payloads has. fetch_by_key c.args.standing.now.component c.args.standing.now.capacity c.args.params.now payloads c.args.sources.now.uris.now c.in-Some.uri.now c.fetch_payload.result _ _ (sym (ap bytes_of c.get.ensures) ∙ sym c.in-Some.ensures)
      (sym c.is_key.ensures ∙ c.if-is_key.true) (never_host _ _ _ (c.fetch_payload.ensures.counts 0)) (c.fetch_payload.ensures.takes t payloads has),
)

pub returns-else-is_key-clause-fetches : goal.returns-else-is_key-clause-fetches
returns-else-is_key-clause-fetches g c t =
    let takes = c.fetch_file.ensures.takes t in
    let other = sym c.is_key.ensures ∙ c.if-is_key.false in (
      takes.0,
      takes.1,
      λ payloads has. fetch_by_name c.args.standing.now.component c.args.standing.now.capacity c.args.params.now payloads c.args.sources.now.uris.now c.in-Some.uri.now (sym (ap bytes_of c.get.ensures) ∙ sym c.in-Some.ensures) other
          (found_under c.args.sources.now.uris.now c.in-Some.uri.now) takes.0 c.fetch_file.result _ _ refl (λ e. let found = c.fetch_file.ensures.named e in (other_than (get_or c.in-Some.uri.now 0 0) 35 other, found.0, found.1)) takes.2,
    )

pub returns-in-None-clause-asked : goal.returns-in-None-clause-asked
returns-in-None-clause-asked g c t = inl (refl, refl)

pub returns-then-is_key-clause-asked : goal.returns-then-is_key-clause-asked
returns-then-is_key-clause-asked g c t = inl (refl, refl)

pub returns-else-is_key-clause-asked : goal.returns-else-is_key-clause-asked
returns-else-is_key-clause-asked g c t =
    subst (λ (o : Option (List ℕ)). AsksAtMost (option_and_then (found_under c.args.sources.now.uris.now) o) (c.args.standing.now.capacity + 1) (asked_at (g.H.Host.asked c.args.host.now) (g.H.Host.pulled c.args.host.now)) (asked_at (g.H.Host.asked c.fetch_file.new.host) (g.H.Host.pulled c.fetch_file.new.host)))
    (c.in-Some.ensures ∙ ap bytes_of c.get.ensures) (c.fetch_file.ensures.asked t)

pub returns-in-None-clause-replaced : goal.returns-in-None-clause-replaced
returns-in-None-clause-replaced g c t =
    left_alone c.args.standing.now.spot (λ file. IsTrue g.H.Host.told ⊎ (c.args.sources.now.uris.now ≡ []) → (payloads : List (List ℕ × List ℕ)) → ArePayloads c.args.sources.now.envelope payloads → file ≡ file_by c.args.standing.now.component c.args.params.now payloads c.args.sources.now.uris.now (g.H.Host.file c.args.host.now)) None (g.D.Disk.flash c.args.disk.now)
    (λ u payloads has. ap (option_and_then (payload_by payloads c.args.sources.now.uris.now (g.H.Host.file c.args.host.now))) (c.in-None.ensures ∙ ap bytes_of c.get.ensures))

pub returns-then-is_key-clause-replaced : goal.returns-then-is_key-clause-replaced
returns-then-is_key-clause-replaced g c t =
    named_as c.args.standing.now.spot (λ file. IsTrue g.H.Host.told ⊎ (c.args.sources.now.uris.now ≡ []) → (payloads : List (List ℕ × List ℕ)) → ArePayloads c.args.sources.now.envelope payloads → file ≡ file_by c.args.standing.now.component c.args.params.now payloads c.args.sources.now.uris.now (g.H.Host.file c.args.host.now)) _ _ _
    (λ file is u payloads has.
    let by = when_true (get_or c.in-Some.uri.now 0 0 == 35) (found_under payloads c.in-Some.uri.now) (option_and_then (g.H.Host.file c.args.host.now) (found_under c.args.sources.now.uris.now c.in-Some.uri.now)) (sym c.is_key.ensures ∙ c.if-is_key.true) in
    is payloads has ∙ sym by ∙ ap (option_and_then (payload_by payloads c.args.sources.now.uris.now (g.H.Host.file c.args.host.now))) (c.in-Some.ensures ∙ ap bytes_of c.get.ensures))
    (c.fetch_payload.ensures.replaced t)

pub returns-else-is_key-clause-replaced : goal.returns-else-is_key-clause-replaced
returns-else-is_key-clause-replaced g c t =
    named_as c.args.standing.now.spot (λ file. IsTrue g.H.Host.told ⊎ (c.args.sources.now.uris.now ≡ []) → (payloads : List (List ℕ × List ℕ)) → ArePayloads c.args.sources.now.envelope payloads → file ≡ file_by c.args.standing.now.component c.args.params.now payloads c.args.sources.now.uris.now (g.H.Host.file c.args.host.now)) _ _ _
    (λ file is u payloads has.
    let by = when_false (get_or c.in-Some.uri.now 0 0 == 35) (found_under payloads c.in-Some.uri.now) (option_and_then (g.H.Host.file c.args.host.now) (found_under c.args.sources.now.uris.now c.in-Some.uri.now)) (sym c.is_key.ensures ∙ c.if-is_key.false) in
    is u ∙ sym by ∙ ap (option_and_then (payload_by payloads c.args.sources.now.uris.now (g.H.Host.file c.args.host.now))) (c.in-Some.ensures ∙ ap bytes_of c.get.ensures))
    (c.fetch_file.ensures.replaced t)
