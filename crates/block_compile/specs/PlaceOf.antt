-- Where statements stand.
use Rattle.std.specs.Prelude.{ℕ, List, [], Option, Some, None}
use Rattle.py_tree.specs.Tree.{Expr, Stmt, statement, StmtKind, break, continue, if, while, for, try, Member, declared}
use Rattle.py_tree.specs.Tree as tree
use Rattle.py_tree.specs.View.{Handler}
use Rattle.stack_code.specs.declared.op.Op.TheVariants as op
use Rattle.tree_code.specs.Expressions.{value}
use Rattle.tree_code.specs.Pieces.{Piece, nothing, one, ◌⨾◌, past, fork}
use Rattle.tree_code.specs.Statements.{Place, kind_code, body_code, caught, uncaught}
use Rattle.block_compile.specs.declared.place.Place as rust

-- the place of statements in code with these locals
abbrev pub standing : List ℕ → rust.Place → Place
standing locals at = record { locals = locals; error = at.error; depth = at.depth; keeps = at.keeps }

abbrev pub statement_code : Place → Stmt → Piece
statement_code at (statement kind line) = kind_code at line kind

-- the code of statements that have no body and are no jumps
abbrev pub plain_code : Place → ℕ → StmtKind → Piece
plain_code at line break = nothing
plain_code at line continue = nothing
plain_code at line (if arms otherwise) = nothing
plain_code at line (while test body) = nothing
plain_code at line (for target through body) = nothing
plain_code at line (try body clauses otherwise) = nothing
plain_code at line kind = kind_code at line kind

-- one member of a class body
abbrev pub member_value : ℕ → Member → Piece
member_value number (tree.value n x line) = value [] x ⨾ one (op.StoreMember number n) line
member_value number (declared n (Some x) line) = value [] x ⨾ one (op.StoreMember number n) line
member_value number _ = nothing

-- what an `except` clause does with the exception, and the clause with those after it
abbrev pub clause_inner : Place → Handler → Piece
clause_inner at h = caught at.locals h.3 h.1 ⨾ body_code at h.2 ⨾ uncaught at.locals h.3 h.1

abbrev pub clause_of : Place → Option Expr → ℕ → Piece → Piece → Piece
clause_of at None line inner rest = past line inner rest
clause_of at (Some x) line inner rest = value at.locals x ⨾ one op.MatchError line ⨾ fork line inner rest

abbrev pub clause_code : Place → Handler → Piece → Piece
clause_code at h rest = clause_of at h.0 h.3 (clause_inner at h) rest
