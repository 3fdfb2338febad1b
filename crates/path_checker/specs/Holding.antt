-- The matches of a component.
use Rattle.std.specs.Prelude.{List, [], ◌∷◌}
use Rattle.path_checker.specs.Matches.{Match, match_of}
use Rattle.path_checker.specs.declared.judge_plan.held.Holding.{Holding}
use Rattle.path_checker.specs.declared.judge_plan.held.Holding.TheVariants.{Nothing, One, Several}

abbrev pub held_matches : Holding → List Match
held_matches Nothing = []
held_matches (One own) = match_of own.now ∷ []
held_matches (Several all) = all.value
