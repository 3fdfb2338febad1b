use Rattle.cli_tests.proofs.laws.run_by_laws.Goals as goal

pub returns-clause-usage : goal.returns-clause-usage
returns-clause-usage g c = (c.run_laws.ensures _ _ _ _ _ _ c.run.ensures.runs.performs).usage

pub returns-clause-no_command_is_usage : goal.returns-clause-no_command_is_usage
returns-clause-no_command_is_usage g c = (c.run_laws.ensures _ _ _ _ _ _ c.run.ensures.runs.performs).no_command_is_usage

pub returns-clause-status : goal.returns-clause-status
returns-clause-status g c = (c.run_laws.ensures _ _ _ _ _ _ c.run.ensures.runs.performs).status

pub returns-clause-only_launching : goal.returns-clause-only_launching
returns-clause-only_launching g c = (c.run_laws.ensures _ _ _ _ _ _ c.run.ensures.runs.performs).only_launching

pub returns-clause-no_host : goal.returns-clause-no_host
returns-clause-no_host g c = (c.run_laws.ensures _ _ _ _ _ _ c.run.ensures.runs.performs).no_host

pub returns-clause-starved : goal.returns-clause-starved
returns-clause-starved g c = (c.run_laws.ensures _ _ _ _ _ _ c.run.ensures.runs.performs).starved

pub returns-clause-cut_off : goal.returns-clause-cut_off
returns-clause-cut_off g c = (c.run_laws.ensures _ _ _ _ _ _ c.run.ensures.runs.performs).cut_off
