use Rattle.std.proofs.Common.{◌≡◌, drop, length}
use Rattle.py_tree.specs.View.{members_view}
use Rattle.scope_rules.specs.Tables.{method_locals}
use Rattle.tree_code.specs.Programs.{methods}
use Rattle.block_compile.specs.Tabled.{with_funs, NextAre}
use Rattle.block_compile.proofs.tables.add_methods.Given as goal

abbrev pub invariant-loop-member : goal.invariant-loop-member
invariant-loop-member l =
    record {
      funs : with_funs l.error (methods l.class (members_view (drop l.member-index l.members))) l.tables ≡ with_funs l.error (methods l.class (members_view l.members)) l.initial.tables;
      next : NextAre l.scopes.locals (length l.tables.codes) (method_locals (members_view (drop l.member-index l.members)));
    }
