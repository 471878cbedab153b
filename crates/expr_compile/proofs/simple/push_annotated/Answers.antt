-- With a value, and without one.
use Rattle.std.proofs.Common.{OnOk, ℕ, List, sym, subst}
use Rattle.std.specs.Prelude.{option_map}
use Rattle.py_tree.specs.View.{expr_view}
use Rattle.tree_code.specs.Statements.{annotates}
use Rattle.expr_compile.specs.Growth.{Grows}
use Rattle.expr_compile.proofs.simple.push_annotated.Goals as goal

pub returns-in-Some : goal.returns-in-Some
returns-in-Some c =
    let locals : List ℕ = c.args.names.now in
    subst (λ v. OnOk c.push_declared.result (Grows (annotates locals c.args.line (expr_view c.args.target.now) (option_map expr_view v)) c.args.buffer.now c.push_declared.new.buffer)) (sym c.in-Some.is) c.push_declared.ensures

pub returns-in-None : goal.returns-in-None
returns-in-None c =
    let locals : List ℕ = c.args.names.now in
    subst (λ v. OnOk c.push_declaration.result (Grows (annotates locals c.args.line (expr_view c.args.target.now) (option_map expr_view v)) c.args.buffer.now c.push_declaration.new.buffer)) (sym c.in-None.is) c.push_declaration.ensures
