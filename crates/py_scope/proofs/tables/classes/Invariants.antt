use Rattle.std.proofs.Common.{◌≡◌, nat_eq, [], drop}
use Rattle.indexmap.specs.IndexMap.{get}
use Rattle.py_tree.specs.View.{stmts_view}
use Rattle.py_scope.specs.KeptClasses.{told_from, HaveBasesBefore, AreFirstPlaces}
use Rattle.scope_rules.specs.Tables.{classes_from}
use Rattle.py_scope.proofs.tables.classes.Given as goal

abbrev pub invariant-loop-stmt : goal.invariant-loop-stmt
invariant-loop-stmt l = record {
  told : classes_from l.names (told_from [] l.rows.items) (stmts_view (drop l.stmt-index l.stmts)) ≡ classes_from l.names [] (stmts_view l.stmts);
  before : HaveBasesBefore l.rows.items;
  places : AreFirstPlaces (λ name. get nat_eq l.places name) l.rows.items;
}
