-- A property of a procedure, where it holds of each of its parts, and of parts together.
use Rattle.std.proofs.Common.{ℕ, List, [], ◌∷◌, inl, inr, refl}
use Rattle.suit_params.specs.declared.param.Param.{Param}
use Rattle.suit_commands.specs.declared.kinds.TestKind.{TestKind}
use Rattle.suit_commands.specs.declared.kinds.ActKind.{ActKind}
use Rattle.suit_commands.specs.Selections.{selected_by}
use Rattle.suit_commands.specs.Tree.{CommandTree, Test, Act, Index, Override, TryEach, RunSequence, SequenceTree, NoSteps, StepThen, BranchesTree, NoBranches, BranchThen, NullThen, PlanTree}
use Rattle.suit_commands.specs.Targets.{InSome}
use Rattle.suit_commands.specs.Touches.{HasAct, CommandHasAct, BranchesHaveAct}
use Rattle.path_model.specs.Behaviour.{State}
use Rattle.path_model.specs.Path.{start_state}
use Rattle.path_model.specs.Plays.{Play, in_turn, becoming, each, each_selected, overriding, running_inner, trying_branch, exhausted, sequence_play, command_play, branches_play, starting, procedure}

module _ (World : Type 0) (P : Play World → Type 0) where
  pub record OfParts : Type 1 where
    -- nothing told
    pub silent : (next : State → State) → P (becoming World (λ s. []) next)
    pub override : (list : List Param) (c : ℕ) → P (overriding World list c)
    pub none_left : (p : ℕ) → P (exhausted World p)
    pub turn : (one after : Play World) → P one → P after → P (in_turn World one after)
    -- a play that the state decides, from another state
    pub moved : (at : State → Play World) (from : State → State) → ((s : State) → P (at s)) → P (record { comes = λ s. (at s).comes (from s); IsCut = λ s. (at s).IsCut (from s) })
    pub inner : (body : Play World) → P body → (c : ℕ) → P (running_inner World body c)
    pub branch : (body others : Play World) → P body → P others → (c : ℕ) → P (trying_branch World body others c)

  module _ (parts : OfParts) (tests : TestKind → ℕ → ℕ → Play World) (acts : ActKind → ℕ → ℕ → Play World) (count : ℕ) (each_test : (kind : TestKind) (p c : ℕ) → P (tests kind p c)) where
    each_of : (at : ℕ → Play World) → ((c : ℕ) → P (at c)) → (cs : List ℕ) → P (each World at cs)
    each_of at f [] = parts.silent (λ s. s)
    each_of at f (c ∷ cs) = parts.turn (at c) (each World at cs) (f c) (each_of at f cs)

    selected_of : (at : ℕ → Play World) → ((c : ℕ) → P (at c)) → P (each_selected World at)
    selected_of at f = parts.moved (λ s. each World at s.selection) (λ s. s) (λ s. each_of at f s.selection)

    -- of the directives of these kinds
    abbrev pub OfActs : (ActKind → Type 0) → Type 0
    OfActs Has = (kind : ActKind) → Has kind → (p c : ℕ) → P (acts kind p c)

    mutual
      sequence_of : (q : SequenceTree) → OfActs (λ kind. HasAct kind q) → P (sequence_play World tests acts count q)
      sequence_of NoSteps f = parts.silent (λ s. s)
      sequence_of (StepThen p command rest) f =
          parts.turn (command_play World tests acts count command p) (sequence_play World tests acts count rest) (command_of command p (λ kind h. f kind (inl h))) (sequence_of rest (λ kind h. f kind (inr h)))

      pub command_of : (command : CommandTree) (p : ℕ) → OfActs (λ kind. CommandHasAct kind command) → P (command_play World tests acts count command p)
      command_of (Test kind report) p f = selected_of (tests kind p) (each_test kind p)
      command_of (Act kind report) p f = selected_of (acts kind p) (f kind refl p)
      command_of (Index selection) p f = parts.silent (λ s. record s { selection = selected_by selection count })
      command_of (Override list) p f = selected_of (overriding World list) (parts.override list)
      command_of (TryEach branches) p f = selected_of (branches_play World tests acts count branches p) (branches_of branches p f)
      command_of (RunSequence inner) p f =
          let body : Play World = sequence_play World tests acts count inner in
          selected_of (running_inner World body) (parts.inner body (sequence_of inner f))

      branches_of : (branches : BranchesTree) (p : ℕ) → OfActs (λ kind. BranchesHaveAct kind branches) → (c : ℕ) → P (branches_play World tests acts count branches p c)
      branches_of NoBranches p f c = parts.none_left p
      branches_of (NullThen rest) p f c = parts.silent (λ s. s)
      branches_of (BranchThen inner rest) p f c =
          parts.branch (sequence_play World tests acts count inner) (branches_play World tests acts count rest p c) (sequence_of inner (λ kind h. f kind (inl h))) (branches_of rest p (λ kind h. f kind (inr h)) c) c

    starting_of : (q : SequenceTree) → OfActs (λ kind. HasAct kind q) → P (starting World tests acts count q)
    starting_of q f = parts.moved (λ s. sequence_play World tests acts count q) start_state (λ s. sequence_of q f)

    pub procedure_of_acts : (plan : PlanTree) → OfActs (λ kind. InSome plan (HasAct kind)) → P (procedure World tests acts count plan)
    procedure_of_acts plan f =
        let play : SequenceTree → Play World = λ q. starting World tests acts count q in
        let p5 : Play World = in_turn World (play plan.shared) (play plan.third) in
        let p4 : Play World = in_turn World (play plan.second) p5 in
        let p3 : Play World = in_turn World (play plan.shared) p4 in
        let p2 : Play World = in_turn World (play plan.first) p3 in
        let shared : P (play plan.shared) = starting_of plan.shared (λ kind h. f kind (inl h)) in
        parts.turn (play plan.shared) p2 shared
        (parts.turn (play plan.first) p3 (starting_of plan.first (λ kind h. f kind (inr (inl h))))
        (parts.turn (play plan.shared) p4 shared
        (parts.turn (play plan.second) p5 (starting_of plan.second (λ kind h. f kind (inr (inr (inl h)))))
        (parts.turn (play plan.shared) (play plan.third) shared (starting_of plan.third (λ kind h. f kind (inr (inr (inr h)))))))))

    pub procedure_of : ((kind : ActKind) (p c : ℕ) → P (acts kind p c)) → (plan : PlanTree) → P (procedure World tests acts count plan)
    procedure_of each_act plan = procedure_of_acts plan (λ kind h. each_act kind)
