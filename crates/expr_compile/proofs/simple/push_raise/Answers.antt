-- Something is raised.
use Rattle.std.proofs.Common.{OnOk, ℕ, List, sym, subst}
use Rattle.std.specs.Prelude.{option_map}
use Rattle.py_tree.specs.View.{expr_view}
use Rattle.tree_code.specs.Statements.{raised}
use Rattle.expr_compile.specs.Growth.{Grows}
use Rattle.expr_compile.proofs.simple.push_raise.Goals as goal

pub returns-in-Some : goal.returns-in-Some
returns-in-Some c =
    let locals : List ℕ = c.args.names.now in
    subst (λ v. OnOk c.push_raised.result (Grows (raised locals c.args.line (option_map expr_view v) (option_map expr_view c.args.cause.now)) c.args.buffer.now c.push_raised.new.buffer)) (sym c.in-Some.is) c.push_raised.ensures
