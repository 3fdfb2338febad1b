use Rattle.manifest_programs.proofs.Parts.{same_part, same_plan}
use Rattle.manifest_programs.proofs.programs.invocation_program.Goals as goal

pub returns : goal.returns
returns c = same_plan _ _ _ _ _ _ _ _ _ _ (same_part c.args.view.shared) (same_part c.args.view.validate) (same_part c.args.view.load) (same_part c.args.view.invoke) c.len-count.ensures
