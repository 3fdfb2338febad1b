-- The events that led to a state.
use Rattle.std.proofs.Common.{◌≡◌, ℕ, false, List, [], ◌∷◌, ◌++◌, Option, Some, None, sym, ap, ◌∙◌, append_assoc}
use Rattle.std.specs.Prelude.{is_some, IfSome}
use Rattle.std.proofs.lemmas.List.{append-nil}
use Rattle.path_model.specs.declared.event.Event.{Event}
use Rattle.path_model.specs.declared.event.Event.TheVariants.{Failed}
use Rattle.path_checker.specs.declared.judge_plan.telling.Told.{Told}
use Rattle.path_checker.specs.Happening.{told_by, log_told}

-- the events of a log with one item more
pub log_told-last : (items : List (Told × Unit {0})) (told : Told) → log_told (items ++ (told, tt) ∷ []) ≡ log_told items ++ told_by told
log_told-last [] told = append-nil (told_by told)
log_told-last (item ∷ items) told = ap (λ (es : List Event). told_by item.0 ++ es) (log_told-last items told) ∙ sym (append_assoc (told_by item.0) (log_told items) (told_by told))

-- the recorded events with more of them, and a log with these
pub told_more : (items log : List (Told × Unit {0})) (told : Told) (recorded now more : List Event) → recorded ≡ log_told items → now ≡ recorded → more ≡ now ++ told_by told → log ≡ items ++ (told, tt) ∷ [] → more ≡ log_told log
told_more items log told recorded now more same read added logged =
    added ∙ ap (λ (es : List Event). es ++ told_by told) (read ∙ same) ∙ sym (log_told-last items told) ∙ sym (ap log_told logged)

-- nothing is recorded
pub not_there : {A : Type 0} (P : A → Type 0) (o : Option A) → is_some o ≡ false → IfSome o P
not_there {A} P None none = tt
not_there {A} P (Some x) none = absurd cc

-- an end by two events
pub end_told : (past missed : List Event) (e : Event) (place : ℕ) (all : List Event) → missed ≡ past ++ e ∷ [] → all ≡ past ++ e ∷ Failed place ∷ [] → missed ++ Failed place ∷ [] ≡ all
end_told past missed e place all one told = ap (λ (xs : List Event). xs ++ Failed place ∷ []) one ∙ append_assoc past (e ∷ []) (Failed place ∷ []) ∙ sym told
