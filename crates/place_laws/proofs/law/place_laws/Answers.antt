use Rattle.place_laws.proofs.GrammarAlike.{grammar_moves}
use Rattle.place_laws.proofs.ManifestMoved.{manifest_moves, whole_moves}
use Rattle.place_laws.proofs.NumbersAlike.{numbers_move}
use Rattle.place_laws.proofs.PlansAlike.{bad_path_moves, procedure_moves, safe_moves}
use Rattle.place_laws.proofs.law.place_laws.Goals as goal

pub returns-clause-moved : goal.returns-clause-moved
returns-clause-moved c = manifest_moves

pub returns-clause-whole : goal.returns-clause-whole
returns-clause-whole c = whole_moves

pub returns-clause-procedure : goal.returns-clause-procedure
returns-clause-procedure c = procedure_moves

pub returns-clause-safe : goal.returns-clause-safe
returns-clause-safe c = safe_moves

pub returns-clause-bad_path : goal.returns-clause-bad_path
returns-clause-bad_path c = bad_path_moves

pub returns-clause-numbers : goal.returns-clause-numbers
returns-clause-numbers c = numbers_move

pub returns-clause-grammar : goal.returns-clause-grammar
returns-clause-grammar c = grammar_moves
