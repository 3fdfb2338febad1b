-- The components that are selected.
use Rattle.std.specs.Prelude.{ℕ, List, [], ◌∷◌}
use Rattle.std.specs.List.{range_with_len}
use Rattle.path_checker.specs.declared.judge_plan.selected.Components.{Components}
use Rattle.path_checker.specs.declared.judge_plan.selected.Components.TheVariants.{One, First, Listed}

-- the numbers of the selected components, in order
abbrev pub components_of : Components → List ℕ
components_of (One component) = component ∷ []
components_of (First count) = range_with_len 0 count
components_of (Listed components) = components.now
