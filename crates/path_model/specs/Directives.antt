-- Directives at one component (draft-ietf-suit-manifest-25, sections 6.4 and 8.4.10).
use Rattle.std.specs.Prelude.{◌≡◌, ℕ, ◌⊎◌, Bool, true, false, List, [], ◌∷◌, ◌++◌, Option, Some, None}
use Rattle.suit_params.specs.declared.param.Param.{Param}
use Rattle.suit_params.specs.declared.param.Param.TheVariants as params
use Rattle.suit_params.specs.declared.param.ParamKey.TheVariants as keys
use Rattle.suit_commands.specs.declared.kinds.ActKind.{ActKind}
use Rattle.suit_commands.specs.declared.kinds.ActKind.TheVariants as acts
use Rattle.path_model.specs.declared.event.Event.{Event}
use Rattle.path_model.specs.declared.event.Event.TheVariants.{Set, Wrote, Invoked, Failed}
use Rattle.suit_params.specs.InForce.{Parameters, in_force, with_param, number_of, bytes_of, digest_in, size_in}
use Rattle.path_model.specs.Behaviour.{State, Behaviour, Done, Directive}

-- ---- override parameters: each is set, in the order of the list; soft failure is that of the running sequence

-- the events of an override at one component: one for each parameter of the list
abbrev pub set_events : ℕ → List Param → List Event
set_events component [] = []
set_events component (param ∷ list) = Set component param ∷ set_events component list

-- soft failure after one parameter of an override
abbrev pub soft_after : Bool → Param → Bool
soft_after soft_failure (params.Soft value) = value
soft_after soft_failure _ = soft_failure

-- the state after an override at one component
abbrev pub after_override : State → ℕ → List Param → State
after_override state component [] = state
after_override state component (param ∷ list) =
    after_override (record {
      parameters = with_param state.parameters component param;
      selection = state.selection;
      soft_failure = soft_after state.soft_failure param;
    }) component list

-- an override is always done
abbrev pub Overrides : List Param → ℕ → Behaviour
Overrides list component state events ending =
    (events ≡ set_events component list) × (ending ≡ Done (after_override state component list))

-- ---- write, fetch, copy and swap: without their parameter they fail, and with it they may end either way. A component
-- counts as written even if the directive failed.

-- a directive that writes, by the parameter that it needs
abbrev pub Writes : {A : Type 0} → ℕ → Option A → (A → List Event) → Behaviour
Writes place None written state events ending =
    (events ≡ Failed place ∷ []) × (ending ≡ Directive place)
Writes place (Some parameter) written state events ending =
    ((events ≡ written parameter) × (ending ≡ Done state))
    ⊎ ((events ≡ written parameter ++ Failed place ∷ []) × (ending ≡ Directive place))

-- ---- invoke, with the digest and size in force

-- the event of an invoke
abbrev pub invoke_event : ℕ → Parameters → Bool → Event
invoke_event component parameters passed =
    Invoked component (digest_in parameters component) (size_in parameters component) passed

-- an invoke may succeed or fail
abbrev pub Invokes : ℕ → ℕ → Behaviour
Invokes place component state events ending =
    ((events ≡ invoke_event component state.parameters true ∷ []) × (ending ≡ Done state))
    ⊎
    ((events ≡ invoke_event component state.parameters false ∷ Failed place ∷ [])
    × (ending ≡ Directive place))

-- ---- each directive that acts on a content

-- how each directive that acts on a content may end at one component
abbrev pub Acts : ActKind → ℕ → ℕ → Behaviour
Acts acts.Write place component state =
    Writes place (bytes_of (in_force state.parameters component keys.Content))
    (λ content. Wrote component ∷ []) state
Acts acts.Fetch place component state =
    Writes place (bytes_of (in_force state.parameters component keys.Uri))
    (λ uri. Wrote component ∷ []) state
Acts acts.Copy place component state =
    Writes place (number_of (in_force state.parameters component keys.Source))
    (λ source. Wrote component ∷ []) state
Acts acts.Swap place component state =
    Writes place (number_of (in_force state.parameters component keys.Source))
    (λ source. Wrote component ∷ Wrote source ∷ []) state
Acts acts.Invoke place component state = Invokes place component state
