use Rattle.path_model.proofs.DeviceLaws.{condition_rules, write_rules, fetch_rules, copy_rules, swap_rules, invoke_rule, payload_rules, fault_rule}
use Rattle.path_model.proofs.play_law.device_laws.Goals as goal

pub returns-clause-conditions : goal.returns-clause-conditions
returns-clause-conditions c = condition_rules

pub returns-clause-writes : goal.returns-clause-writes
returns-clause-writes c = write_rules

pub returns-clause-fetches : goal.returns-clause-fetches
returns-clause-fetches c = fetch_rules

pub returns-clause-copies : goal.returns-clause-copies
returns-clause-copies c = copy_rules

pub returns-clause-swaps : goal.returns-clause-swaps
returns-clause-swaps c = swap_rules

pub returns-clause-invokes : goal.returns-clause-invokes
returns-clause-invokes c = invoke_rule

pub returns-clause-payloads : goal.returns-clause-payloads
returns-clause-payloads c = payload_rules

pub returns-clause-faults : goal.returns-clause-faults
returns-clause-faults c = fault_rule
