-- What is left to run after the current commands, up to the end of a procedure.
use Rattle.std.specs.Prelude.{ℕ, ◌≤◌, Bool, List, [], ◌∷◌, Option, length}
use Rattle.std.specs.Borrow.{Bor}
use Rattle.std.specs.List.{AllByRecursion}
use Rattle.suit_commands.specs.Plans.{lent_tree}
use Rattle.suit_commands.specs.Tree.{SequenceTree, BranchesTree}
use Rattle.path_model.specs.declared.identity.Identity.{Identity}
use Rattle.path_model.specs.Behaviour.{Behaviour, Becomes, Then, Each, EachSelected}
use Rattle.path_model.specs.Runs.{Runs, Tries}
use Rattle.path_checker.specs.Exploring.{Course, Kept, state_of}
use Rattle.path_checker.specs.Procedures.{FromStart}
use Rattle.path_checker.specs.Small.{IsSmallSequence, AreSmallBranches}

-- a member or the shared sequence; more commands; a try each at some components; or the end of a branch, which restores
-- this selection and soft failure
pub data Later : Type 0 where
  OfPart : (sequence : SequenceTree) → Later
  OfSteps : (sequence : SequenceTree) → Later
  OfTries : (branches : BranchesTree) (place : ℕ) (components : List ℕ) → Later
  OfLeave : (selection : List ℕ) (soft_failure : Bool) → Later

-- the parts of a procedure, which are run in order
abbrev pub of_parts : List (Option (Bor SequenceTree)) → List Later
of_parts [] = []
of_parts (lent ∷ parts) = OfPart (lent_tree lent) ∷ of_parts parts

-- the selection and soft failure are restored, and then the rest is run
abbrev pub Leaves : List ℕ → Bool → Behaviour → Behaviour
Leaves selection soft_failure behind state =
    behind (state_of state.parameters selection soft_failure)

-- what is run first, and then the rest
abbrev pub RunsFirst : Later → List Identity → ℕ → Behaviour → Behaviour
RunsFirst (OfPart sequence) identities count = Then (FromStart sequence count identities)
RunsFirst (OfSteps sequence) identities count = Then (Runs sequence identities count)
RunsFirst (OfTries branches place components) identities count =
    Then (Each (Tries branches identities count place) components)
RunsFirst (OfLeave selection soft_failure) identities count = Leaves selection soft_failure

-- all that is left to run, in order
abbrev pub RunsRest : List Later → ℕ → Course
RunsRest [] count identities = λ state. Becomes state
RunsRest (first ∷ behind) count identities =
    RunsFirst first identities count (RunsRest behind count identities)

-- commands are run, and then the rest
abbrev pub RunsThen : SequenceTree → List Later → ℕ → Course
RunsThen sequence rest count identities =
    Then (Runs sequence identities count) (RunsRest rest count identities)

-- a try each is run at one component, and then the rest
abbrev pub TriesAt : BranchesTree → ℕ → ℕ → List Later → ℕ → Course
TriesAt branches place component rest count identities =
    Then (Tries branches identities count place component) (RunsRest rest count identities)

-- a try each is run at each selected component, and then the rest
abbrev pub TriesThen : BranchesTree → ℕ → List Later → ℕ → Course
TriesThen branches place rest count identities =
    Then (EachSelected (Tries branches identities count place)) (RunsRest rest count identities)

abbrev pub IsSmallLater : ℕ → Later → Type 0
IsSmallLater count (OfPart sequence) = IsSmallSequence count sequence
IsSmallLater count (OfSteps sequence) = IsSmallSequence count sequence
IsSmallLater count (OfTries branches place components) = AreSmallBranches count branches
IsSmallLater count (OfLeave selection soft_failure) = Unit {0}

abbrev pub IsSmallRest : ℕ → List Later → Type 0
IsSmallRest count rest = AllByRecursion (IsSmallLater count) rest

-- at most 22 components are selected in each of these states
abbrev pub AreFew : List Kept → Type 0
AreFew states = AllByRecursion (λ k. length k.state.selection ≤ 22) states
