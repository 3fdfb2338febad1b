use Rattle.std.proofs.Common.{◌≡◌, ◌<◌, ◌∷◌, List, length, refl, sym, ◌∙◌, subst}
use Rattle.std.specs.Prelude.{◌↔◌, ◌⊎◌, slice_set}
use Rattle.path_checker.specs.Exploring.{In}
use Rattle.path_checker.specs.Matches.{Match, match_of, matches_from, SameMembers}
use Rattle.path_checker.proofs.HeldLaws.{Trees, gains, held_at}
use Rattle.std.specs.Prelude.{slice_get}
use Rattle.path_checker.proofs.judge_plan.standing.StandingMatches.gain.Goals as goal

pub returns : goal.returns
returns c other any =
    let wide : Trees = c.widen.new.self.of.items in
    let lt : c.args.component < length wide = c.in_ok-widen.ensures.room in
    subst (λ (ms : List Match). In any (matches_from (slice_get (slice_set wide c.args.component c.add.new.self) other)) ↔ (((other ≡ c.args.component) × (any ≡ match_of c.args.own.now)) ⊎ In any ms)) (c.in_ok-widen.ensures.same other)
    (gains wide (slice_set wide c.args.component c.add.new.self) c.args.component (match_of c.args.own.now) c.add.new.self lt refl
    (subst (λ (xs : List Match). SameMembers c.add.new.self (match_of c.args.own.now ∷ xs)) (c.index_mut.ensures.value ∙ sym (held_at wide c.args.component _ lt)) c.in_ok-add.ensures) other any)
