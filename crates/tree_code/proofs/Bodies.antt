-- The body of a module and that of a function stand in their codes.
use Rattle.std.proofs.Common.{◌≡◌, ℕ, suc, ◌+◌, Option, Some, None, List, [], ◌∷◌, ◌++◌, map, length, refl, ap, subst, ◌∙◌, arith, length-append}
use Rattle.std.proofs.lemmas.List.{length-map, append-nil}
use Rattle.py_tree.specs.Tree.{Param, Stmts, FunDef, fun_def}
use Rattle.stack_code.specs.declared.code.Code.{Code}
use Rattle.stack_code.specs.declared.code.Range.{Range}
use Rattle.stack_code.specs.declared.op.Op.{Op}
use Rattle.stack_code.specs.declared.op.Op.TheVariants as op
use Rattle.stack_code.specs.declared.op.ConstKind.TheVariants as kind
use Rattle.scope_rules.specs.Tables.{locals_of}
use Rattle.tree_code.specs.declared.instr.Instr.{Instr}
use Rattle.tree_code.specs.Pieces.{Piece, instr, one, ◌⨾◌}
use Rattle.tree_code.specs.Statements.{body_code}
use Rattle.tree_code.specs.Programs.{closed, no_loop, params_code, in_module, in_function, params_of, statements_of, line_of, module_code, fun_code, last_line}
use Rattle.stack_code.specs.Handlers.{handler_at}
use Rattle.tree_code.specs.Standing.{IsSolid, InstrsAt, or_else, Lies}
use Rattle.tree_code.proofs.Solid.{one_solid, then_solid}
use Rattle.tree_code.proofs.SolidTrees.{body_solid, params_solid}
use Rattle.tree_code.proofs.Parts.{instrs_front, instrs_back, ThenLies, then_lies}

-- a code with these instructions and these behind them
abbrev coded : Code → List Instr → Code
coded code is = record code { ops = map (λ i. i.op) is; lines = map (λ i. i.line) is }

-- an instruction in front of the code moves the others by a place
moved_on : (code : Code) (first : Instr) (all is : List Instr) (place : ℕ) → InstrsAt (coded code all) place is → InstrsAt (coded code (first ∷ all)) (suc place) is
moved_on code first all [] place h = tt
moved_on code first all (i ∷ is) place h = (h.0, moved_on code first all is (suc place) h.1)

all_stand : (code : Code) (is : List Instr) → InstrsAt (coded code is) 0 is
all_stand code [] = tt
all_stand code (i ∷ is) = ((refl, refl), moved_on code i is is 0 (all_stand code is))

no_outer : (o : Option Range) → o ≡ or_else o None
no_outer None = refl
no_outer (Some r) = refl

module _ (a : Piece) (s : IsSolid a) (last : Op) (line locals params : ℕ) where
  instrs : InstrsAt (closed (a ⨾ one last line) locals params) 0 (a.code no_loop 0 ++ instr last line ∷ [])
  instrs = all_stand (closed (a ⨾ one last line) locals params) (a.code no_loop 0 ++ instr last line ∷ [])

  -- a piece stands where it is closed by an instruction, with no handler around it
  pub closed_lies : Lies (closed (a ⨾ one last line) locals params) no_loop 0 None a
  closed_lies =
      record {
        instrs = instrs_front (closed (a ⨾ one last line) locals params) 0 (a.code no_loop 0) (instr last line ∷ []) instrs;
        fits = let n : length (map (λ i. i.op) (a.code no_loop 0 ++ instr last line ∷ [])) ≡ a.size + 1 =
            length-map (a.code no_loop 0 ++ instr last line ∷ []) (λ i. i.op) ∙ length-append (a.code no_loop 0) (instr last line ∷ []) ∙ ap (λ n. n + 1) (s.sized no_loop 0) in omega (arith, n);
        handled = λ place x y. ap (λ rs. handler_at rs place) (append-nil (a.ranges 0)) ∙ no_outer (handler_at (a.ranges 0) place);
      }

  -- and the instruction behind it
  pub closing_stands : InstrsAt (closed (a ⨾ one last line) locals params) a.size (instr last line ∷ [])
  closing_stands =
      let e : 0 + length (a.code no_loop 0) ≡ a.size = omega (arith, s.sized no_loop 0) in
      subst (λ n. InstrsAt (closed (a ⨾ one last line) locals params) n (instr last line ∷ [])) e (instrs_back (closed (a ⨾ one last line) locals params) 0 (a.code no_loop 0) (instr last line ∷ []) instrs)

pub module_lies : (error : ℕ) (body : Stmts) → Lies (module_code error body) no_loop 0 None (body_code (in_module error) body)
module_lies error body = closed_lies (body_code (in_module error) body) (body_solid (in_module error) body) op.End (last_line 1 body) 0 0

pub module_ends : (error : ℕ) (body : Stmts) → InstrsAt (module_code error body) (body_code (in_module error) body).size (instr op.End (last_line 1 body) ∷ [])
module_ends error body = closing_stands (body_code (in_module error) body) (body_solid (in_module error) body) op.End (last_line 1 body) 0 0

-- a function: its parameters, one instruction each, then its statements, then the return of None
params_size : (line number : ℕ) (ps : List Param) → (params_code line number ps).size ≡ length ps
params_size line number [] = refl
params_size line number (p ∷ ps) = omega (arith, params_size line (suc number) ps)

-- where the parts of a function's code stand
pub record FunLies (error : ℕ) (f : FunDef) : Type 0 where
  pub params : Lies (fun_code error f) no_loop 0 None (params_code (line_of f) 0 (params_of f))
  pub body : Lies (fun_code error f) no_loop (length (params_of f)) None (body_code (in_function error f) (statements_of f))
  pub ends : InstrsAt (fun_code error f) (length (params_of f) + (body_code (in_function error f) (statements_of f)).size) (instr (op.Const kind.NoneValue) (line_of f) ∷ instr op.Return (line_of f) ∷ [])

pub fun_lies : (error : ℕ) (f : FunDef) → FunLies error f
fun_lies error (fun_def id n ps body line) =
    record {
      params = front.first;
      body = middle.first;
      ends = (none_at.0, (last_at.0, tt));
    }
  where
    f : FunDef
    f = fun_def id n ps body line

    code : Code
    code = fun_code error f

    inner : Piece
    inner = body_code (in_function error f) body

    none : Piece
    none = one (op.Const kind.NoneValue) line

    rest_solid : IsSolid (inner ⨾ none)
    rest_solid = then_solid (body_solid (in_function error f) body) (one_solid (op.Const kind.NoneValue) line)

    all_solid : IsSolid (params_code line 0 ps ⨾ inner ⨾ none)
    all_solid = then_solid (params_solid line 0 ps) rest_solid

    front : ThenLies code no_loop 0 None (params_code line 0 ps) (inner ⨾ none)
    front = then_lies (params_solid line 0 ps) rest_solid (closed_lies (params_code line 0 ps ⨾ inner ⨾ none) all_solid op.Return line (length (locals_of f)) (length ps))

    behind : 0 + (params_code line 0 ps).size ≡ length ps
    behind = omega (arith, params_size line 0 ps)

    middle : ThenLies code no_loop (length ps) None inner none
    middle = then_lies (body_solid (in_function error f) body) (one_solid (op.Const kind.NoneValue) line) (subst (λ p. Lies code no_loop p None (inner ⨾ none)) behind front.second)

    none_at : InstrsAt code (length ps + inner.size) (instr (op.Const kind.NoneValue) line ∷ [])
    none_at = middle.second.instrs

    last_at : InstrsAt code (suc (length ps + inner.size)) (instr op.Return line ∷ [])
    last_at =
        let e : (params_code line 0 ps ⨾ inner ⨾ none).size ≡ suc (length ps + inner.size) = omega (arith, params_size line 0 ps) in
        subst (λ p. InstrsAt code p (instr op.Return line ∷ [])) e (closing_stands (params_code line 0 ps ⨾ inner ⨾ none) all_solid op.Return line (length (locals_of f)) (length ps))
