-- Laws of selections, and of commands that are done at each selected component (draft-ietf-suit-manifest-25, section
-- 6.5).
use Rattle.std.specs.Prelude.{◌≡◌, ◌↔◌, ◌<◌, ℕ, List, [], ◌∷◌, length, Some, slice_get}
use Rattle.path_model.specs.declared.identity.Identity.{Identity}
use Rattle.suit_params.specs.declared.param.Param.{Param}
use Rattle.path_model.specs.declared.event.Event.{Event}
use Rattle.suit_commands.specs.declared.kinds.TestKind.{TestKind}
use Rattle.suit_commands.specs.declared.kinds.ActKind.{ActKind}
use Rattle.suit_commands.specs.declared.selection.Selection.{Selection}
use Rattle.suit_commands.specs.declared.selection.Selection.TheVariants.{One, All, Listed}
use Rattle.suit_commands.specs.Selections.{selected_by, selected_after}
use Rattle.suit_commands.specs.Tree.{CommandTree, Test, Act, Index, Override}
use Rattle.path_model.specs.Behaviour.{State, Ending, Done}
use Rattle.path_model.specs.Conditions.{Tests}
use Rattle.path_model.specs.Directives.{set_events, after_override, Acts}
use Rattle.path_model.specs.Runs.{Does}
use Rattle.path_model.specs.Turns.{Course, InTurn, with_selected, putting_back}

-- ---- selections

-- one index selects one component, a list selects its components, of which one may be there twice, and `All` selects
-- those below the count, ascending
pub record Selections : Type 0 where
  pub one : (component count : ℕ) → selected_by (One component) count ≡ component ∷ []
  pub listed : (components : List ℕ) (count : ℕ)
      → selected_by (Listed components) count ≡ components
  pub all_number : (count : ℕ) → length (selected_by All count) ≡ count
  pub all_ascend : (count component : ℕ) → component < count
      → slice_get (selected_by All count) component ≡ Some component

-- set component index has no event, and changes only the selection
abbrev pub IndexSelects : Type 0
IndexSelects =
    (selection : Selection) (identities : List Identity) (count place : ℕ) (state : State) (events : List Event) (ending : Ending)
    → Does (Index selection) identities count place state events ending
    ↔ ((events ≡ []) × (ending ≡ Done (with_selected state (selected_by selection count))))

-- after a command, the components that it names are selected, and if it names none, those before
abbrev pub SelectionKept : Type 0
SelectionKept =
    (command : CommandTree) (identities : List Identity) (count place : ℕ) (state next : State) (events : List Event)
    → Does command identities count place state events (Done next)
    → next.selection ≡ selected_after command count state.selection

-- ---- with one component selected, a command is done at that component

pub record DoneAtOne (identities : List Identity) (count place component : ℕ) (state : State)
    (events : List Event) (ending : Ending) : Type 0 where
  pub test : (kind : TestKind) (report : ℕ)
      → Does (Test kind report) identities count place state events ending ↔ Tests kind identities place component state events ending
  pub act : (kind : ActKind) (report : ℕ)
      → Does (Act kind report) identities count place state events ending ↔ Acts kind place component state events ending
  pub override : (list : List Param)
      → Does (Override list) identities count place state events ending
      ↔ ((events ≡ set_events component list) × (ending ≡ Done (after_override state component list)))

abbrev pub OneSelected : Type 0
OneSelected =
    (identities : List Identity) (count place component : ℕ) (state : State) (events : List Event) (ending : Ending)
    → state.selection ≡ component ∷ [] → DoneAtOne identities count place component state events ending

-- ---- with none selected a command does nothing, and with several it is done at the first one and then at the others

-- the command is done at each selected component, as all but set component index are
abbrev pub IsDoneForEach : CommandTree → Type 0
IsDoneForEach (Index selection) = ⊥
IsDoneForEach _ = Unit {0}

-- with none selected, such a command does nothing
abbrev pub NoneSelected : Type 0
NoneSelected =
    (command : CommandTree) (identities : List Identity) (count place : ℕ) (state : State) (events : List Event) (ending : Ending)
    → IsDoneForEach command → state.selection ≡ []
    → Does command identities count place state events ending ↔ ((events ≡ []) × (ending ≡ Done state))

-- the command with these components selected, after which the selection is restored
abbrev pub DoneFor : CommandTree → List Identity → ℕ → ℕ → List ℕ → List ℕ → State → Course
DoneFor command identities count place selection whole state events ending =
    (end : Ending) × Does command identities count place (with_selected state selection) events end × (ending ≡ putting_back whole end)

-- with several selected, such a command is done at the first one and then at the others
abbrev pub MoreSelected : Type 0
MoreSelected =
    (command : CommandTree) (identities : List Identity) (count place component : ℕ) (rest : List ℕ) (state : State) (events : List Event) (ending : Ending)
    → IsDoneForEach command → state.selection ≡ component ∷ rest
    → Does command identities count place state events ending
    ↔ InTurn (DoneFor command identities count place (component ∷ []) state.selection state)
    (DoneFor command identities count place rest state.selection) events ending
