use Rattle.std.proofs.Common.{◌≡◌, drop}
use Rattle.serde_json.specs.Data.{no_members}
use Rattle.serde_json.specs.View.{members_view}
use Rattle.describe.specs.ParamData.{with_params}
use Rattle.describe.proofs.params.params.Given as goal

abbrev pub invariant-loop-param : goal.invariant-loop-param
invariant-loop-param l = with_params (drop l.param-index l.param-items) (members_view l.map.entries) ≡ with_params l.param-items no_members
