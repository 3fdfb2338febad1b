-- The rounds of a drill add up, none of its launches is wrong, and what a cut leaves.
use Rattle.std.proofs.Common.{◌≡◌, ◌⊎◌, ℕ, ◌+◌, Bool, false, List, [], ◌∷◌, ◌++◌, length, map, Option, Some, refl, sym, ap, subst, ◌∙◌, arith, append_assoc, append-nil, cond}
use Rattle.std.specs.Prelude.{not}
use Rattle.std.specs.List.{AllByRecursion}
use Rattle.std.proofs.lemmas.List.{append_cancel_left}
use Rattle.std.proofs.lemmas.List.Sums.{sum_by-append, sum_by-cons}
use Rattle.std.specs.Option.{option_and_then}
use Rattle.suit_params.specs.DigestBytes.{as_digest}
use Rattle.suit_params.specs.DigestLaws.{has_decides}
use Rattle.suit_params.specs.Hashes.{hash_like}
use Rattle.suit_edge.specs.declared.launch.Launch.{Launch}
use Rattle.suit_edge.specs.MemoryLaws.{memory_obeys}
use Rattle.conformance.specs.Rounds.{RoundSaid}
use Rattle.suit_params.specs.declared.digest.Digest.{Digest}
use Rattle.path_model.specs.PlayLaws.{HasItsDigest}
use Rattle.rollback_record.specs.SoundFlash.{HoldsSame, Sound}
use Rattle.step_machine.specs.Invoking.{launched_as}
use Rattle.suit_cli.specs.declared.drill.tally.RoundEnd.{RoundEnd}
use Rattle.suit_cli.specs.declared.drill.tally.RoundEnd.TheVariants.{Installed, Stopped, Cut}
use Rattle.suit_cli.specs.declared.drill.tally.Tally.{Tally}
use Rattle.suit_cli.specs.declared.reply.Outcome.TheVariants as outcomes
use Rattle.suit_cli.specs.Beginnings.{begins_boot}
use Rattle.suit_cli.specs.Coming.{Comes, ByStages, ByBoot, ByUpdate, Ended}
use Rattle.suit_cli.specs.DrillLaws.{DrillLaws, IsLeftByCut, IsLeftByUpdate, TellsDrill}
use Rattle.suit_cli.specs.Drilling.{IsDrilled, NoRound, RoundAfter, RunTo, counted_round, drill_line, is_wrong, launches_of, no_rounds, rounds_counted, tally_of, wrong_by, wrong_in}
use Rattle.suit_cli.specs.DrillRounds.{BootComes, EndsCut, RoundRun, UpdateComes, launching_of, outside_of, surroundings_of}
use Rattle.suit_cli.specs.Launching.{Launching}
use Rattle.suit_cli.specs.Outside.{Files}
use Rattle.suit_cli.specs.declared.reply.Reply.{Reply}
use Rattle.suit_cli.specs.Replies.{IsReply}
use Rattle.suit_cli.specs.Words.{RunBoot, RunUpdate, pairs_of}
use Rattle.suit_cli.proofs.DrillCuts.{stands}
use Rattle.suit_cli.proofs.RunEnds.{boot_safe}

-- ---- the counts of rounds

one_more : (t : Tally) (end : RoundEnd) → rounds_counted (counted_round t end) ≡ rounds_counted t + 1
one_more t Installed = omega arith
one_more t Stopped = omega arith
one_more t Cut = omega arith

pub adds_up : (rs : List RoundRun) (t : Tally) → rounds_counted (tally_of t rs) ≡ rounds_counted t + length rs
adds_up [] t = omega arith
adds_up (r ∷ rs) t = let rest = adds_up rs (counted_round t r.end) in let one = one_more t r.end in omega (arith, rest, one)

pub tally_then : (rs : List RoundRun) (t : Tally) (r : RoundRun) → tally_of t (rs ++ r ∷ []) ≡ counted_round (tally_of t rs) r.end
tally_then [] t r = refl
tally_then (q ∷ qs) t r = tally_then qs (counted_round t q.end) r

-- ---- launches

pub launches_then : (rs : List RoundRun) (r : RoundRun) → launches_of (rs ++ r ∷ []) ≡ launches_of rs ++ r.launches
launches_then [] r = append-nil r.launches
launches_then (q ∷ qs) r = ap (λ (l : List Launch). q.launches ++ l) (launches_then qs r) ∙ sym (append_assoc q.launches (launches_of qs) r.launches)

right_by : (digest : Option Digest) (bytes : List ℕ) (d : Digest) → digest ≡ Some d → hash_like d bytes ≡ d → wrong_by digest bytes ≡ false
right_by digest bytes d named has = ap (λ (o : Option Digest). wrong_by o bytes) named ∙ ap not ((has_decides d bytes).1 has)

is_right : (launch : Launch) → HasItsDigest (launched_as launch) → is_wrong launch ≡ false
is_right launch has = right_by (option_and_then as_digest launch.digest) launch.bytes has.digest has.named has.has

abbrev wrongs : Launch → ℕ
wrongs launch = cond (is_wrong launch) 1 0

none_wrong : (ls : List Launch) → AllByRecursion HasItsDigest (map launched_as ls) → wrong_in ls ≡ 0
none_wrong [] all = refl
none_wrong (l ∷ ls) all =
    let first = ap {B = ℕ} (λ (b : Bool). cond b 1 0) (is_right l all.0) in
    let rest = none_wrong ls all.1 in
    sum_by-cons wrongs l ls ∙ omega (arith, first, rest)

-- the launches of a round's boot
boot_right : (files : Files) (image left : List ℕ) (launches : List Launch) → BootComes files image left launches → Sound image → wrong_in launches ≡ 0
boot_right files image left launches b sound = of_comes b.ended b.comes where
  of_comes : (ended : Ended) → Comes begins_boot (λ task. RunBoot ≡ task) (launching_of b.had) (launching_of b.has) (outside_of b.had) (outside_of b.has) ended → wrong_in launches ≡ 0
  of_comes _ (ByStages e answer same) =
      let none : launches ≡ [] = append_cancel_left b.had.launcher.launches launches [] (sym b.gained ∙ ap (λ (x : Launching). x.launches) same ∙ sym (append-nil b.had.launcher.launches)) in
      ap wrong_in none
  of_comes _ (ByBoot end lines is boots) =
      let safe = boot_safe (launching_of b.had) (launching_of b.has) (outside_of b.had) (outside_of b.has) end lines boots refl refl (subst Sound (sym b.holds.reads) sound) in
      let same : launches ≡ safe.gained = append_cancel_left b.had.launcher.launches launches safe.gained (sym b.gained ∙ safe.added) in
      ap wrong_in same ∙ none_wrong safe.gained safe.safe
  of_comes _ (ByUpdate n us end lines is updates) = let never : RunBoot ≡ RunUpdate n us = is in absurd cc

rounds_right : (number : ℕ) (first : List ℕ) (rs : List RoundRun) (state sequence : ℕ) (image : List ℕ) → RunTo number first rs state sequence image → wrong_in (launches_of rs) ≡ 0
rounds_right number first _ _ _ _ NoRound = refl
rounds_right number first _ _ _ _ (RoundAfter rs state sequence image r run before is) =
    let earlier = rounds_right number first rs state sequence image run in
    let this = boot_right _ r.updated r.after r.launches is.boot is.first.sound in
    let joined = sum_by-append wrongs (launches_of rs) r.launches in
    ap wrong_in (launches_then rs r) ∙ joined ∙ omega (arith, earlier, this)

-- ---- the laws

tells : (number : ℕ) (reply : Reply) → IsDrilled number reply → TellsDrill number reply
tells number reply d = record {
  tally = tally_of no_rounds d.rounds;
  launches = length (launches_of d.rounds);
  adds_up = let all = adds_up d.rounds no_rounds in let many = d.drilled.many in omega (arith, all, many);
  says = subst (λ (n : ℕ). IsReply reply outcomes.Done (drill_line number (tally_of no_rounds d.rounds) (length (launches_of d.rounds)) n))
      (rounds_right number d.drilled.first d.rounds d.drilled.state 201 d.drilled.last d.drilled.run) d.says;
}

cut_leaves : (said : RoundSaid) (files : Files) (image left : List ℕ) (end : RoundEnd) (u : UpdateComes said files image) → EndsCut said files image u left end → IsLeftByCut said files image u left
cut_leaves said files image left end u cut =
    subst (λ (before : List ℕ). HoldsSame before left ⊎ IsLeftByUpdate (pairs_of u.uris) (surroundings_of u.had) (surroundings_of u.has) left) u.holds.reads
    (stands (pairs_of u.uris) (surroundings_of u.had) (surroundings_of u.has) _ (memory_obeys u.has.fuse.disk) cut.settled left cut.may u.ended cut.kept)

pub laws : DrillLaws
laws = record { tells = tells; cut = cut_leaves }
