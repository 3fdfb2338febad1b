use Rattle.path_model.proofs.DeviceLeaves.{play_runs, faulted_is_path}
use Rattle.path_model.proofs.DeviceLeads.{faulted_asks_first, faulted_launches_first}
use Rattle.path_model.proofs.Vouching.{safe_launches, faulted_safe_launches}
use Rattle.path_model.proofs.DeviceEnds.{play_ends, faulted_ends}
use Rattle.path_model.proofs.play_law.play_laws.Goals as goal

pub returns-clause-runs : goal.returns-clause-runs
returns-clause-runs c = play_runs

pub returns-clause-faulted : goal.returns-clause-faulted
returns-clause-faulted c = faulted_is_path

pub returns-clause-launches : goal.returns-clause-launches
returns-clause-launches c = faulted_launches_first

pub returns-clause-asks : goal.returns-clause-asks
returns-clause-asks c = faulted_asks_first

pub returns-clause-safe : goal.returns-clause-safe
returns-clause-safe c = safe_launches

pub returns-clause-faulted_safe : goal.returns-clause-faulted_safe
returns-clause-faulted_safe c = faulted_safe_launches

pub returns-clause-ends : goal.returns-clause-ends
returns-clause-ends c = play_ends

pub returns-clause-faulted_ends : goal.returns-clause-faulted_ends
returns-clause-faulted_ends c = faulted_ends
