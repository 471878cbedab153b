use Rattle.std.proofs.Common.{ℕ, ◌+◌, List, drop, length, ap, ◌∙◌}
use Rattle.py_tree.specs.Tree.{Stmts}
use Rattle.py_tree.specs.View.{fun_view, class_view, stmts_view}
use Rattle.py_tree.specs.declared.statement.Stmt as rust_stmt
use Rattle.scope_rules.specs.Tables.{locals, locals_of}
use Rattle.block_compile.specs.Tabled.{Tabled, with_stmts, no_tables}
use Rattle.block_compile.proofs.Heads.{def_head, class_head, plain_head}
use Rattle.block_compile.proofs.Tabling.{Tabling, next_first, def_step, class_step, plain_step}
use Rattle.block_compile.proofs.tables.tables_of.Goals as goal
use Rattle.block_compile.proofs.tables.tables_of.Goals.{in-Def+in_ok-add_fun-in-Def, in-Class+in_ok-add_class-in-Class, in_default}

pub add_fun-requires : goal.add_fun-requires
add_fun-requires c =
    let rest : Stmts = stmts_view (drop (c.loop-stmt.stmt-index + 1) c.args.body.now) in
    next_first c.args.scopes.now.locals (length c.loop-stmt.tables.codes) (locals_of (fun_view c.in-Def.fun)) (locals rest)
    (c.loop-stmt.invariant.next ∙ ap locals (def_head c.args.body.now c.loop-stmt.stmt-index c.stmt-item.result c.in-Def.fun c.loop-stmt-test.true c.stmt-item.is c.in-Def.is))

pub add_class-requires : goal.add_class-requires
add_class-requires c =
    let rest : Stmts = stmts_view (drop (c.loop-stmt.stmt-index + 1) c.args.body.now) in (
      locals rest,
      c.loop-stmt.invariant.next ∙ ap locals (class_head c.args.body.now c.loop-stmt.stmt-index c.stmt-item.result c.in-Class.class c.loop-stmt-test.true c.stmt-item.is c.in-Class.is),
    )

pub loop-stmt-preserved : goal.loop-stmt-preserved
loop-stmt-preserved c =
    let body : List rust_stmt.Stmt = c.args.body.now in
    let i : ℕ = c.loop-stmt.stmt-index in
    let s : rust_stmt.Stmt = c.stmt-item.result in
    let ls : List (List ℕ) = c.args.scopes.now.locals in
    let left : Stmts = stmts_view (drop i body) in
    let rest : Stmts = stmts_view (drop (i + 1) body) in
    let old : Tabled = c.loop-stmt.tables in
    let new : Tabled = c.match-stmt.tables in
    let whole : Tabled = with_stmts c.args.error (stmts_view body) no_tables in
    let before : Tabling c.args.error ls whole left old = record { tables = c.loop-stmt.invariant.tables; next = c.loop-stmt.invariant.next } in
    let after : Tabling c.args.error ls whole rest new =
    elim c.match-stmt.branch [
      | in-Def+in_ok-add_fun-in-Def w ↦
          def_step c.args.error ls whole (fun_view w.in-Def.fun) s.line left rest old new (def_head body i s w.in-Def.fun c.loop-stmt-test.true c.stmt-item.is w.in-Def.is) (w.tables-is ∙ w.in_ok-add_fun-in-Def.ensures) before
      | in-Class+in_ok-add_class-in-Class w ↦
          class_step c.args.error ls whole (class_view w.in-Class.class) s.line left rest old new (class_head body i s w.in-Class.class c.loop-stmt-test.true c.stmt-item.is w.in-Class.is) (w.tables-is ∙ w.in_ok-add_class-in-Class.ensures) before
      | in_default w ↦ plain_step c.args.error ls whole left rest old new (plain_head body i s c.loop-stmt-test.true c.stmt-item.is w.in_default.not-Def w.in_default.not-Class) w.tables-is before
    ] in
    record { tables = after.tables; next = after.next }
