-- The code of each module and of each function is valid, and its places have the listed depths.
use Rattle.std.proofs.Common.{◌≡◌, ℕ, [], ◌∷◌, ◌++◌, length, refl, arith, ◌∙◌, sym}
use Rattle.std.proofs.lemmas.List.{length-map}
use Rattle.py_tree.specs.Tree.{Stmts, FunDef, fun_def}
use Rattle.stack_code.specs.declared.op.Op.TheVariants as op
use Rattle.stack_code.specs.declared.op.ConstKind.TheVariants as kind
use Rattle.stack_code.specs.Validity.{IsValid}
use Rattle.scope_rules.specs.Tables.{locals_of}
use Rattle.tree_code.specs.Pieces.{Piece, one, ◌⨾◌}
use Rattle.tree_code.specs.Statements.{body_code}
use Rattle.tree_code.specs.Flows.{Flows, Nothing}
use Rattle.tree_code.specs.Depths.{DepthsAt, params_depths, body_depths, module_depths, fun_depths}
use Rattle.tree_code.specs.Programs.{closed, params_code, in_module, in_function, params_of, statements_of, line_of, fun_code, module_code, last_line, no_loop}
use Rattle.tree_code.proofs.ValueFlows.{also, op_flow}
use Rattle.tree_code.proofs.StatementFlows.{body_flows, params_flows}
use Rattle.tree_code.proofs.ValidCode.{closed_valid, closed_depths}

module _ (error : ℕ) (body : Stmts) where
  module_flows : Flows Nothing 0 0 0 0 (body_depths (in_module error) body) (body_code (in_module error) body)
  module_flows = body_flows (in_module error) (λ e. cc) body

  pub module_valid : IsValid (module_code error body)
  module_valid = closed_valid (body_code (in_module error) body) 0 module_flows op.End (last_line 1 body) (omega arith) refl refl 0 0

  pub module_listed : DepthsAt (module_code error body) 0 (module_depths error body)
  module_listed = closed_depths (body_code (in_module error) body) 0 module_flows op.End (last_line 1 body) (omega arith) refl refl 0 0

-- what stands before the last instruction of a function
abbrev fun_body : ℕ → FunDef → Piece
fun_body error f = params_code (line_of f) 0 (params_of f) ⨾ body_code (in_function error f) (statements_of f) ⨾ one (op.Const kind.NoneValue) (line_of f)

fun_flows : (error : ℕ) (f : FunDef) → Flows Nothing 0 0 0 1 (params_depths (params_of f) 0 ++ (body_depths (in_function error f) (statements_of f) ++ 0 ∷ [])) (fun_body error f)
fun_flows error f =
    also 0 0 (params_flows 0 0 (line_of f) 0 (params_of f) 0) (also 0 0 (body_flows (in_function error f) (λ e. cc) (statements_of f)) (op_flow 0 0 (op.Const kind.NoneValue) (line_of f) 0 1 (omega arith) (omega arith) refl))

pub fun_valid : (error : ℕ) (f : FunDef) → IsValid (fun_code error f)
fun_valid error (fun_def id n params body line) =
    let f : FunDef = fun_def id n params body line in closed_valid (fun_body error f) 1 (fun_flows error f) op.Return line (omega arith) refl refl (length (locals_of f)) (length params)

pub fun_listed : (error : ℕ) (f : FunDef) → DepthsAt (fun_code error f) 0 (fun_depths error f)
fun_listed error (fun_def id n params body line) =
    let f : FunDef = fun_def id n params body line in closed_depths (fun_body error f) 1 (fun_flows error f) op.Return line (omega arith) refl refl (length (locals_of f)) (length params)

pub closed_lines : (a : Piece) (locals params : ℕ) → length (closed a locals params).lines ≡ length (closed a locals params).ops
closed_lines a locals params = length-map (a.code no_loop 0) (λ i. i.line) ∙ sym (length-map (a.code no_loop 0) (λ i. i.op))
