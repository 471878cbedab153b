-- What is put so far, and the lines of what is left after the names that are assigned so far.
use Rattle.std.proofs.Common.{◌≡◌, ◌++◌, [], drop}
use Rattle.py_tree.specs.View.{stmts_view}
use Rattle.built_forms.specs.Unbuilt.{in_body}
use Rattle.built_forms.proofs.first.body.Given as goal

abbrev pub invariant-loop-stmt : goal.invariant-loop-stmt
invariant-loop-stmt l = l.out ++ in_body l.known (stmts_view (drop l.stmt-index l.stmts)) ≡ l.initial.out ++ in_body [] (stmts_view l.stmts)
