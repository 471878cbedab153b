-- The statements so far, and those that are left, make the module.
use Rattle.std.proofs.Common.{drop}
use Rattle.py_tree.specs.View.{module_view, stmts_view}
use Rattle.py_infer.proofs.Walk.{Walks}
use Rattle.py_infer.proofs.typing.types_of.Given as goal

abbrev pub invariant-loop-stmt : goal.invariant-loop-stmt
invariant-loop-stmt l = Walks (module_view l.module) (stmts_view (drop l.stmt-index l.module.body.items)) l.types
