use Rattle.std.proofs.Common.{◌≡◌, drop, length}
use Rattle.py_tree.specs.View.{stmts_view}
use Rattle.scope_rules.specs.Tables.{locals}
use Rattle.block_compile.specs.Tabled.{with_stmts, no_tables}
use Rattle.block_compile.proofs.tables.tables_of.Given as goal

abbrev pub invariant-loop-stmt : goal.invariant-loop-stmt
invariant-loop-stmt l =
    record {
      tables : with_stmts l.error (stmts_view (drop l.stmt-index l.body)) l.tables ≡ with_stmts l.error (stmts_view l.body) no_tables;
      next : drop (length l.tables.codes) l.scopes.locals ≡ locals (stmts_view (drop l.stmt-index l.body));
    }
