use Rattle.std.proofs.Common.{length, sym, ap, ◌∙◌}
use Rattle.std.proofs.lemmas.List.FromFn.{length-range_with_len}
use Rattle.path_checker.specs.Selecting.{components_of}
use Rattle.path_checker.proofs.judge_plan.selected.Selected.len.Goals as goal

pub returns-in-First : goal.returns-in-First
returns-in-First c = sym (length-range_with_len 0 c.in-First.count) ∙ ap length (sym (ap components_of c.in-First.is) ∙ c.self.view_is)
