-- There are targets before the last.
use Rattle.std.proofs.Common.{OnOk, ℕ, List, sym, subst}
use Rattle.py_tree.specs.View.{exprs_view}
use Rattle.tree_code.specs.Statements.{put_all}
use Rattle.expr_compile.specs.Growth.{Grows}
use Rattle.expr_compile.proofs.simple.push_put_all.Goals as goal

pub returns-in-Some : goal.returns-in-Some
returns-in-Some c =
    let locals : List ℕ = c.args.names.now in
    subst (λ xs. OnOk c.push_copies.result (Grows (put_all locals c.args.line (exprs_view xs)) c.args.buffer.now c.push_copies.new.buffer)) (sym c.in-Some.ensures.cases.0) c.push_copies.ensures
