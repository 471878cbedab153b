-- Each piece flows, so that the depths of its instructions are those of its places.
use Rattle.scope_rules.specs.Tables.{locals_of}
use Rattle.std.proofs.Common.{length}
use Rattle.tree_code.specs.Programs.{module_piece, fun_piece, params_of}
use Rattle.tree_code.proofs.Programs.{module_valid, fun_valid, closed_lines}
use Rattle.tree_code.proofs.laws.every_code_is_valid.Goals as goal

pub returns-clause-bodies : goal.returns-clause-bodies
returns-clause-bodies c = λ error body. module_valid error body

pub returns-clause-functions : goal.returns-clause-functions
returns-clause-functions c = λ error f. fun_valid error f

pub returns-clause-body_lines : goal.returns-clause-body_lines
returns-clause-body_lines c = λ error body. closed_lines (module_piece error body) 0 0

pub returns-clause-function_lines : goal.returns-clause-function_lines
returns-clause-function_lines c = λ error f. closed_lines (fun_piece error f) (length (locals_of f)) (length (params_of f))
