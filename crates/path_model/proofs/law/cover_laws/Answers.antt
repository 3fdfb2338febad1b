use Rattle.path_model.proofs.CoverLaws.{nothing_matched, match_stands, write_ends, others_leave, invoke_covered, absent_uncovered}
use Rattle.path_model.proofs.Coverage.{match_by_indices, covered_by_indices, all_are_covered, covered_by_standing}
use Rattle.path_model.proofs.law.cover_laws.Goals as goal

pub returns-clause-first : goal.returns-clause-first
returns-clause-first c = nothing_matched

pub returns-clause-stands : goal.returns-clause-stands
returns-clause-stands c = match_stands

pub returns-clause-ends : goal.returns-clause-ends
returns-clause-ends c = write_ends

pub returns-clause-leaves : goal.returns-clause-leaves
returns-clause-leaves c = others_leave

pub returns-clause-covered : goal.returns-clause-covered
returns-clause-covered c = invoke_covered

pub returns-clause-absent : goal.returns-clause-absent
returns-clause-absent c = absent_uncovered

pub returns-clause-indices : goal.returns-clause-indices
returns-clause-indices c = match_by_indices

pub returns-clause-at_index : goal.returns-clause-at_index
returns-clause-at_index c = covered_by_indices

pub returns-clause-all : goal.returns-clause-all
returns-clause-all c = all_are_covered

pub returns-clause-standing : goal.returns-clause-standing
returns-clause-standing c = covered_by_standing
