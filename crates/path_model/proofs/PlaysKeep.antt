-- An invariant of the events so far and the world, kept by each step whose invokes are covered, is kept by whole plays,
-- also by those that a fault cut short.
use Rattle.std.proofs.Common.{◌≡◌, ℕ, true, false, List, [], ◌∷◌, ◌++◌, Option, sym, subst, append_assoc, inl, inr}
use Rattle.std.proofs.lemmas.List.{append-nil}
use Rattle.suit_params.specs.declared.param.Param.{Param}
use Rattle.suit_commands.specs.declared.kinds.TestKind.{TestKind}
use Rattle.suit_commands.specs.declared.kinds.ActKind.{ActKind}
use Rattle.suit_commands.specs.Tree.{PlanTree}
use Rattle.path_model.specs.declared.event.Event.{Event}
use Rattle.path_model.specs.declared.event.Event.TheVariants.{Set}
use Rattle.path_model.specs.declared.cause.Cause.{Cause}
use Rattle.path_model.specs.Behaviour.{State, Ending, Done, Condition, Directive}
use Rattle.path_model.specs.Directives.{set_events}
use Rattle.path_model.specs.Runs.{entry_state}
use Rattle.path_model.specs.Following.{CoveredFrom}
use Rattle.path_model.specs.Plays.{Outcome, Play, behind, going_on, NextIsCut, in_turn, after_trying, OtherIsCut, procedure}
use Rattle.path_model.proofs.Coverage.{parts_covered}
use Rattle.path_model.proofs.Members.{OfParts, procedure_of}

module _ (World : Type 0) (Holds : List Event → World → Type 0) (sets : (past : List Event) (w : World) (c : ℕ) (p : Param) → Holds past w → Holds (past ++ Set c p ∷ []) w) where
  -- it still holds behind an outcome
  abbrev pub Still : List Event → Outcome World → Type 0
  Still past o = CoveredFrom past o.events → Holds (past ++ o.events) o.world

  pub record Keeps (play : Play World) : Type 0 where
    pub whole : (past : List Event) (s : State) (w : World) → Holds past w → Still past (play.comes s w)
    pub cut : (past : List Event) (s : State) (w : World) (o : Outcome World) → play.IsCut s w o → Holds past w → Still past o

  -- behind what was told before
  still_behind : (past es : List Event) (o : Outcome World) → (CoveredFrom past es → Still (past ++ es) o) → Still past (behind World es o)
  still_behind past es o still covered =
      let parts = (parts_covered past es o.events).0 covered in
      subst (λ (xs : List Event). Holds xs o.world) (append_assoc past es o.events) (still parts.0 parts.1)

  still_as : (past : List Event) (o other : Outcome World) → o ≡ other → Still past other → Still past o
  still_as past o other is still = subst (λ (x : Outcome World). Still past x) (sym is) still

  module _ (after : Play World) (g : Keeps after) (past : List Event) where
    goes : (es : List Event) (c : Option Cause) (w : World) (e : Ending) → (CoveredFrom past es → Holds (past ++ es) w) → Still past (going_on World after.comes es c w e)
    goes es c w (Done t) holds = still_behind past es (after.comes t w) (λ covered. g.whole (past ++ es) t w (holds covered))
    goes es c w (Condition p soft) holds = holds
    goes es c w (Directive p) holds = holds

    goes_cut : (es : List Event) (w : World) (e : Ending) (o : Outcome World) → (CoveredFrom past es → Holds (past ++ es) w) → NextIsCut World after.IsCut es w e o → Still past o
    goes_cut es w (Done t) o holds (later, cut, is) =
        still_as past o (behind World es later) is (still_behind past es later (λ covered. g.cut (past ++ es) t w later cut (holds covered)))
    goes_cut es w (Condition p soft) o holds cut = absurd cut
    goes_cut es w (Directive p) o holds cut = absurd cut

    tries : (s : State) (es : List Event) (c : Option Cause) (w : World) (e : Ending) → (CoveredFrom past es → Holds (past ++ es) w) → Still past (after_trying World s after.comes es c w e)
    tries s es c w (Condition p true) holds = still_behind past es (after.comes s w) (λ covered. g.whole (past ++ es) s w (holds covered))
    tries s es c w (Condition p false) holds = holds
    tries s es c w (Done t) holds = holds
    tries s es c w (Directive p) holds = holds

    tries_cut : (s : State) (es : List Event) (w : World) (e : Ending) (o : Outcome World) → (CoveredFrom past es → Holds (past ++ es) w) → OtherIsCut World s after.IsCut es w e o → Still past o
    tries_cut s es w (Condition p true) o holds (later, cut, is) =
        still_as past o (behind World es later) is (still_behind past es later (λ covered. g.cut (past ++ es) s w later cut (holds covered)))
    tries_cut s es w (Condition p false) o holds cut = absurd cut
    tries_cut s es w (Done t) o holds cut = absurd cut
    tries_cut s es w (Directive p) o holds cut = absurd cut

  turn_keeps : (one after : Play World) → Keeps one → Keeps after → Keeps (in_turn World one after)
  turn_keeps one after f g = record {
    whole = λ past s w h. let o = one.comes s w in goes after g past o.events o.cause o.world o.ending (f.whole past s w h);
    cut = λ past s w o cut h. let a = one.comes s w in elim cut [
      | inl now ↦ f.cut past s w o now h
      | inr later ↦ goes_cut after g past a.events a.world a.ending o (f.whole past s w h) later
    ];
  }

  -- nothing told
  silent : (past : List Event) (w : World) → Holds past w → Holds (past ++ []) w
  silent past w h = subst (λ (xs : List Event). Holds xs w) (sym (append-nil past)) h

  all_set : (past : List Event) (w : World) (c : ℕ) (list : List Param) → Holds past w → Holds (past ++ set_events c list) w
  all_set past w c [] h = silent past w h
  all_set past w c (p ∷ list) h =
      subst (λ (xs : List Event). Holds xs w) (append_assoc past (Set c p ∷ []) (set_events c list)) (all_set (past ++ Set c p ∷ []) w c list (sets past w c p h))

  pub parts_keep : OfParts World Keeps
  parts_keep = record {
    silent = λ next. record { whole = λ past s w h covered. silent past w h; cut = λ past s w o cut. absurd cut };
    override = λ list c. record { whole = λ past s w h covered. all_set past w c list h; cut = λ past s w o cut. absurd cut };
    none_left = λ p. record { whole = λ past s w h covered. silent past w h; cut = λ past s w o cut. absurd cut };
    turn = turn_keeps;
    moved = λ at from f. record { whole = λ past s w. (f s).whole past (from s) w; cut = λ past s w o cut. (f s).cut past (from s) w o cut };
    inner = λ body f c. record {
      whole = λ past s w h. f.whole past (entry_state s c false) w h;
      cut = λ past s w o cut h. f.cut past (entry_state s c false) w o cut h;
    };
    branch = λ body others f g c. record {
      whole = λ past s w h. let t = entry_state s c true in let o = body.comes t w in
          tries others g past s o.events o.cause o.world o.ending (f.whole past t w h);
      cut = λ past s w o cut h. let t = entry_state s c true in let a = body.comes t w in elim cut [
        | inl now ↦ f.cut past t w o now h
        | inr later ↦ tries_cut others g past s a.events a.world a.ending o (f.whole past t w h) later
      ];
    };
  }

  pub procedure_keeps : (tests : TestKind → ℕ → ℕ → Play World) (acts : ActKind → ℕ → ℕ → Play World) (count : ℕ) → ((kind : TestKind) (p c : ℕ) → Keeps (tests kind p c))
      → ((kind : ActKind) (p c : ℕ) → Keeps (acts kind p c)) → (plan : PlanTree) → Keeps (procedure World tests acts count plan)
  procedure_keeps = procedure_of World Keeps parts_keep
