use Rattle.std.proofs.Common.{◌≡◌, ◌∙◌, ◌<◌, ℕ, List, Option, Some, None, Err, length, refl, ap, arith}
use Rattle.suit_params.specs.declared.refusal.Why.TheVariants.{TwoAlike}
use Rattle.suit_params.specs.Refusing.{refused}
use Rattle.suit_manifest.specs.ComponentsJudging.{first_like}
use Rattle.suit_manifest.proofs.ElementSteps.{apart_step, apart_found}
use Rattle.suit_manifest.proofs.Likeness.{first_told}
use Rattle.manifest_view.proofs.components.judge_apart.Goals as goal

none_found : (found : Option ℕ) → ((i : ℕ) → found ≡ Some i → ⊥) → None ≡ found
none_found None other = refl
none_found (Some i) other = absurd (other i refl)

pub loop-last-preserved : goal.loop-last-preserved
loop-last-preserved c =
    let inside : c.loop-last.last < length c.args.ids.now = omega (arith, c.loop-last-test.true, c.len-last-end.ensures) in
    let none = none_found c.first_like.result (λ i e. c.in_default.not-Some i e) ∙ first_told _ c.loop-last.last c.first_like.result c.first_like.ensures ∙ ap (λ (ids : List (List (List ℕ))). first_like ids c.loop-last.last) (c.copy.ensures.copied ∙ c.loop-last.invariant.0) in (
      c.copy.ensures.same ∙ c.loop-last.invariant.0,
      apart_step c.args.ids.now (length c.args.ids.now) c.loop-last.last c.loop-last.items c.read_item.new.cursor c.in_ok-read_item.field-0 _ inside c.in_ok-read_item.ensures.exact none c.loop-last.invariant.1,
    )

pub returns-in-Some-clause-apart : goal.returns-in-Some-clause-apart
returns-in-Some-clause-apart c =
    let inside : c.loop-last.last < length c.args.ids.now = omega (arith, c.loop-last-test.true, c.len-last-end.ensures) in
    let found = first_told _ c.loop-last.last (Some c.in-Some.first) c.in-Some.ensures ∙ ap (λ (ids : List (List (List ℕ))). first_like ids c.loop-last.last) (c.copy.ensures.copied ∙ c.loop-last.invariant.0) in
    c.refused.ensures ∙ ap (λ (place : ℕ). Err (refused place (TwoAlike c.in-Some.first c.loop-last.last))) c.place.ensures.value
    ∙ apart_found c.args.ids.now (length c.args.ids.now) c.loop-last.last c.in-Some.first c.loop-last.items c.read_item.new.cursor c.in_ok-read_item.field-0 _ inside c.in_ok-read_item.ensures.exact found c.loop-last.invariant.1
