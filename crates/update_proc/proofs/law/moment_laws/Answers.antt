use Rattle.update_proc.proofs.MomentProofs.{each_moment}
use Rattle.update_proc.proofs.law.moment_laws.Goals as goal

pub returns : goal.returns
returns c = each_moment
