-- The trail of events.
use Rattle.std.proofs.Common.{◌≡◌, ◌+◌, ℕ, List, [], ◌∷◌, ◌++◌, refl, sym, ap, ◌∙◌}
use Rattle.suit_params.specs.declared.param.Param.{Param}
use Rattle.suit_commands.specs.Tree.{CommandTree, Test, Act, Index, Override, TryEach, RunSequence, SequenceTree, NoSteps, StepThen}
use Rattle.path_model.specs.declared.event.Event.{Event}
use Rattle.path_model.specs.Directives.{set_events}
use Rattle.path_checker.specs.declared.judge_plan.standing.StandingMatches.{StandingMatches}
use Rattle.path_checker.specs.Happening.{sets_at, command_sets, sequence_sets}
use Rattle.path_checker.specs.Standing.{Stands, IsHistory}
use Rattle.path_checker.specs.Trails.{Trail, no_trail, trail_after, trail_from}

pub trail-append : (t : Trail) (es fs : List Event) → trail_from t (es ++ fs) ≡ trail_from (trail_from t es) fs
trail-append t [] fs = refl
trail-append t (e ∷ es) fs = trail-append (trail_after t e) es fs

trail-sets : (t : Trail) (c : ℕ) (list : List Param) → trail_from t (set_events c list) ≡ t
trail-sets t c [] = refl
trail-sets t c (param ∷ list) = trail-sets t c list

pub trail-sets_at : (t : Trail) (cs : List ℕ) (list : List Param) → trail_from t (sets_at cs list) ≡ t
trail-sets_at t [] list = refl
trail-sets_at t (c ∷ cs) list = trail-append t (set_events c list) (sets_at cs list) ∙ ap (λ (u : Trail). trail_from u (sets_at cs list)) (trail-sets t c list) ∙ trail-sets_at t cs list

trail-command : (t : Trail) (command : CommandTree) (cs : List ℕ) → trail_from t (command_sets command cs) ≡ t
trail-command t (Override list) cs = trail-sets_at t cs list
trail-command t (Test kind report) cs = refl
trail-command t (Act kind report) cs = refl
trail-command t (Index selection) cs = refl
trail-command t (TryEach branches) cs = refl
trail-command t (RunSequence inner) cs = refl

pub trail-sequence : (t : Trail) (sequence : SequenceTree) (cs : List ℕ) → trail_from t (sequence_sets sequence cs) ≡ t
trail-sequence t NoSteps cs = refl
trail-sequence t (StepThen place command rest) cs =
    trail-append t (command_sets command cs) (sequence_sets rest cs) ∙ ap (λ (u : Trail). trail_from u (sequence_sets rest cs)) (trail-command t command cs) ∙ trail-sequence t rest cs

-- ---- histories

-- with the same events
pub history-same : (s : StandingMatches) (t : Trail) (es fs : List Event) → fs ≡ es → Stands s fs → t ≡ trail_from no_trail es → IsHistory s t fs
history-same s t es fs same stands is = record { stands = stands; trail_is = is ∙ ap (trail_from no_trail) (sym same) }

-- with more events
pub history-more : (s : StandingMatches) (t u : Trail) (es more fs : List Event) → fs ≡ es ++ more → Stands s fs → t ≡ trail_from no_trail es → u ≡ trail_from t more → IsHistory s u fs
history-more s t u es more fs added stands is after =
    record { stands = stands; trail_is = after ∙ ap (λ (x : Trail). trail_from x more) is ∙ sym (trail-append no_trail es more) ∙ ap (trail_from no_trail) (sym added) }

-- with events that set parameters
pub history-sets : (s : StandingMatches) (t : Trail) (es more fs : List Event) → fs ≡ es ++ more → Stands s fs → t ≡ trail_from no_trail es → trail_from t more ≡ t → IsHistory s t fs
history-sets s t es more fs added stands is set = history-more s t t es more fs added stands is (sym set)

-- without events
pub history-none : (s : StandingMatches) (t : Trail) (fs : List Event) → fs ≡ [] → Stands s fs → t ≡ no_trail → IsHistory s t fs
history-none s t fs none stands is = record { stands = stands; trail_is = is ∙ ap (trail_from no_trail) (sym none) }
