-- From where the parts of guarded code stand, since the bodies and the clauses are solid.
use Rattle.std.proofs.Common.{ℕ, Option}
use Rattle.py_tree.specs.Tree.{Stmts, Handlers, try}
use Rattle.stack_code.specs.declared.code.Code.{Code}
use Rattle.stack_code.specs.declared.code.Range.{Range}
use Rattle.stack_code.specs.declared.op.Op.TheVariants as op
use Rattle.tree_code.specs.Pieces.{Labels, one, ◌⨾◌}
use Rattle.tree_code.specs.Statements.{Place, kind_code, body_code, handlers_code}
use Rattle.tree_code.specs.Standing.{Lies}
use Rattle.tree_code.proofs.SolidTrees.{body_solid, catch_solid}
use Rattle.tree_code.proofs.Parts.{GuardedLies, guarded_lies}
use Rattle.tree_code.proofs.laws.tries_guard_their_bodies.Goals as goal

parts : {code : Code} {labels : Labels} {place : ℕ} {outer : Option Range} (at : Place) (line : ℕ) (body otherwise : Stmts) (handlers : Handlers) → Lies code labels place outer (kind_code at line (try body handlers otherwise))
    → GuardedLies code labels place outer at.depth line (body_code at body) (body_code at otherwise) (one op.Caught line ⨾ handlers_code at line handlers)
parts at line body otherwise handlers l = guarded_lies (body_solid at body) (body_solid at otherwise) (catch_solid at line handlers) l

pub returns-clause-body : goal.returns-clause-body
returns-clause-body c = λ code labels place outer at line body otherwise handlers l. (parts at line body otherwise handlers l).tries

pub returns-clause-else_body : goal.returns-clause-else_body
returns-clause-else_body c = λ code labels place outer at line body otherwise handlers l. (parts at line body otherwise handlers l).goes_on

pub returns-clause-clauses : goal.returns-clause-clauses
returns-clause-clauses c = λ code labels place outer at line body otherwise handlers l. (parts at line body otherwise handlers l).handles
