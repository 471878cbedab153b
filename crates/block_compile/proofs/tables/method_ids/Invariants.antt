use Rattle.std.proofs.Common.{◌≡◌, ℕ, ◌++◌, drop, map}
use Rattle.py_tree.specs.View.{members_view}
use Rattle.tree_code.specs.Programs.{methods, id_of}
use Rattle.block_compile.proofs.tables.method_ids.Given as goal

abbrev pub invariant-loop-member : goal.invariant-loop-member
invariant-loop-member l = (class : ℕ) → l.ids ++ map (λ d. id_of d.fun) (methods class (members_view (drop l.member-index l.members))) ≡ map (λ d. id_of d.fun) (methods class (members_view l.members))
