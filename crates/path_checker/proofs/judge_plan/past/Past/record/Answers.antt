use Rattle.std.proofs.Common.{◌≡◌, List, ◌∷◌, [], ◌++◌, sym, ap, ◌∙◌, subst}
use Rattle.std.specs.Prelude.{IfSome}
use Rattle.path_model.specs.declared.event.Event.{Event}
use Rattle.path_checker.specs.Happening.{told_by, log_told}
use Rattle.path_checker.proofs.PastLaws.{log_told-last, told_more}
use Rattle.path_checker.proofs.judge_plan.past.Past.record.Goals as goal
use Rattle.path_checker.proofs.judge_plan.past.Past.record.Goals.{in-Some+in_ok-tell+in-Some-1, in-Some+in_ok-tell+in-None-1, in_default}

pub returns-clause-ok : goal.returns-clause-ok
returns-clause-ok c =
    ap log_told c.and-self-inside.ensures ∙ log_told-last c.match-take.self-inside.log.items c.args.told ∙ ap (λ (es : List Event). es ++ told_by c.args.told) (elim c.match-take.branch [
      | in-Some+in_ok-tell+in-Some-1 w ↦ ap (λ i. log_told i.log.items) w.self-inside-is ∙ c.self.view_is
      | in-Some+in_ok-tell+in-None-1 w ↦ ap (λ i. log_told i.log.items) w.self-inside-is ∙ c.self.view_is
      | in_default w ↦ ap (λ i. log_told i.log.items) w.self-inside-is ∙ c.self.view_is
    ])

pub invariant_of-self-2 : goal.invariant_of-self-2
invariant_of-self-2 c = elim c.match-take.branch [
  | in-Some+in_ok-tell+in-Some-1 w ↦
      let same : w.in-Some.events.value ≡ log_told c.self.inside.log.items = subst (λ o. IfSome o (λ events. events.value ≡ log_told c.self.inside.log.items)) (sym c.take.ensures.value ∙ w.in-Some.is) c.self.invariant in
      subst (λ i. IfSome i.recorded (λ events. events.value ≡ log_told c.and-self-inside.result.items)) (sym w.self-inside-is)
      (told_more c.self.inside.log.items c.and-self-inside.result.items c.args.told w.in-Some.events.value w.deref_mut.result.now w.tell.new.events same w.deref_mut.ensures.value w.in_ok-tell.ensures (c.and-self-inside.ensures ∙ ap (λ i. i.log.items ++ (c.args.told, tt) ∷ []) w.self-inside-is))
  | in-Some+in_ok-tell+in-None-1 w ↦
      let same : w.in-Some.events.value ≡ log_told c.self.inside.log.items = subst (λ o. IfSome o (λ events. events.value ≡ log_told c.self.inside.log.items)) (sym c.take.ensures.value ∙ w.in-Some.is) c.self.invariant in
      subst (λ i. IfSome i.recorded (λ events. events.value ≡ log_told c.and-self-inside.result.items)) (sym w.self-inside-is)
      (told_more c.self.inside.log.items c.and-self-inside.result.items c.args.told w.in-Some.events.value w.deref_mut.result.now w.tell.new.events same w.deref_mut.ensures.value w.in_ok-tell.ensures (c.and-self-inside.ensures ∙ ap (λ i. i.log.items ++ (c.args.told, tt) ∷ []) w.self-inside-is))
  | in_default w ↦
      subst (λ i. IfSome i.recorded (λ events. events.value ≡ log_told c.and-self-inside.result.items)) (sym w.self-inside-is)
      (subst (λ o. IfSome o (λ events. events.value ≡ log_told c.and-self-inside.result.items)) (sym c.take.ensures.after) tt)
]
