-- One round of each loop.
use Rattle.std.proofs.Common.{◌≡◌, ◌<◌, ℕ, List, [], ◌∷◌, ◌++◌, Bool, true, false, ◌&&◌, nat_lt, Option, Some, None, Ok, refl, ap, sym, ◌∙◌, arith}
use Rattle.std.proofs.lemmas.Bool.Decides.{nat_tests}
use Rattle.py_tokens.specs.declared.token.Op.TheVariants as op
use Rattle.py_tokens.specs.declared.token.Keyword.TheVariants as word
use Rattle.py_grammar.specs.Cursor.{Cursor, past}
use Rattle.py_tree.specs.Tree.{Stmt, Stmts, Member, Members, ImportPart, FromPart}
use Rattle.py_descent.specs.Bodies.{and_stmt, and_member, at_close}
use Rattle.py_descent.specs.Codes.{at, symbol, keyword, newline}
use Rattle.py_descent.specs.Goals.{name, dots, plain_name, import_part, imports, from_part, froms, simple, line, statement, statements, entry, entries}
use Rattle.py_descent.specs.Programs.{gives, room}
use Rattle.py_descent.specs.Descent.{descent}
use Rattle.py_descent.proofs.Unfold.{descends}
use Rattle.py_parse.specs.Gives.{GivesPart, number}
use Rattle.py_parse.proofs.Pushes.{bind_gives}

pub next_dots : (ns : List ℕ) (c : Cursor) (n : ℕ) (d : Cursor) → at (symbol op.Dot) c ≡ true → descent plain_name (past c) ≡ gives n d → descent (dots ns) c ≡ descent (dots (ns ++ n ∷ [])) d
next_dots ns c n d h e = descends (dots ns) c ∙ rw h (rw e (bind_gives _))

pub next_imports : (ps : List ImportPart) (c : Cursor) (p : ImportPart) (d : Cursor) → descent import_part c ≡ gives p d → at (symbol op.Comma) d ≡ true → descent (imports ps) c ≡ descent (imports (ps ++ p ∷ [])) (past d)
next_imports ps c p d e h = descends (imports ps) c ∙ rw e (rw h (bind_gives _))

pub one_from : (c d e : Cursor) (n : ℕ) (a : Option ℕ) → descent name c ≡ gives n d → GivesPart number (Ok a) (at (keyword word.KwAs) d) d e (descent name (past d)) → descent from_part c ≡ gives (record { name = n; alias = a }) e
one_from c d e n None h g = descends from_part c ∙ rw h (rw g.0 (ap (gives (record { name = n; alias = None })) (sym g.1)))
one_from c d e n (Some m) h g = descends from_part c ∙ rw h (rw g.0 (rw g.1 refl))

pub next_froms : (grouped : Bool) (ps : List FromPart) (c : Cursor) (p : FromPart) (d : Cursor) → descent from_part c ≡ gives p d → at (symbol op.Comma) d ≡ true → (grouped && at (symbol op.RightParen) (past d)) ≡ false → descent (froms grouped ps) c ≡ descent (froms grouped (ps ++ p ∷ [])) (past d)
next_froms grouped ps c p d e h k = descends (froms grouped ps) c ∙ rw e (rw h (rw k (bind_gives _)))

pub next_line : (ss : Stmts) (c : Cursor) (s : Stmt) (d : Cursor) → descent simple c ≡ gives s d → at (symbol op.Semi) d ≡ true → at newline (past d) ≡ false → descent (line ss) c ≡ descent (line (and_stmt ss s)) (past d)
next_line ss c s d e h k = descends (line ss) c ∙ rw e (rw h (rw k (bind_gives _)))

is_less : (n m : ℕ) → n < m → nat_lt n m ≡ true
is_less n m h = grind (arith, nat_tests, h)

pub next_statements : (top : Bool) (ss : Stmts) (c : Cursor) (ts : Stmts) (d : Cursor) → at_close c ≡ false → descent (statement top ss) c ≡ gives ts d → room d < room c → descent (statements top ss) c ≡ descent (statements top ts) d
next_statements top ss c ts d k e l = descends (statements top ss) c ∙ rw k (rw e (rw (is_less _ _ l) (bind_gives _)))

pub next_entries : (ms : Members) (c : Cursor) (m : Member) (d : Cursor) → at_close c ≡ false → descent entry c ≡ gives m d → room d < room c → descent (entries ms) c ≡ descent (entries (and_member ms m)) d
next_entries ms c m d k e l = descends (entries ms) c ∙ rw k (rw e (rw (is_less _ _ l) (bind_gives _)))
