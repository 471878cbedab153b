-- Compound statements and blocks that the descent finds are those of the grammar.
use Rattle.std.proofs.Common.{◌≡◌, ℕ, Bool, true, Option, Some, None, sym, subst}
use Rattle.py_tokens.specs.declared.token.Keyword.TheVariants as word
use Rattle.py_tree.specs.Tree as tree
use Rattle.py_tree.specs.Tree.{Expr, StmtKind, Stmts, no_stmts, stmt, Arms, no_arms, arm, Handlers, no_handlers, handler, FunDef}
use Rattle.py_grammar.specs.Cursor.{Cursor, BeginsWord, line_of, past, stated}
use Rattle.py_grammar.specs.Statements.{then_all, IsBlock, block_line, block_indented, IsStatement, statement_line, statement_compound, statement_def, statement_class, AreStatements, statements_none, statements_more, IsCompound, compound_if, compound_while, compound_for, compound_try, AreElifs, elifs_none, elifs_more, IsElse, else_none, else_block, AreHandlers, handlers_bare, handlers_last, handlers_more, IsCaught, caught_test, caught_as}
use Rattle.py_descent.specs.Goals.{if_rest, while_rest, for_rest, try_rest, else_rest, caught, compound, block, elifs, handlers, statement, statements}
use Rattle.py_descent.specs.Bodies.{body}
use Rattle.py_descent.proofs.Means.{way_yes, way_no, after, means}
use Rattle.py_descent.proofs.Seeing.{at_symbol, at_keyword, at_newline, at_indent, at_dedent}
use Rattle.py_descent.proofs.Appends.{then_all_none, then_all_one, then_all_then, then_arms, then_arms_none, then_arms_more, then_handlers, then_handlers_one, then_handlers_more}
use Rattle.py_descent.proofs.Parts.{Behind, behind, found_name, More, more, more_as, FoundDefinition, found_definition, done}
use Rattle.py_descent.proofs.Targets.{both_first}
use Rattle.py_descent.proofs.Found.{found}

-- ---- What follows the word of a compound statement

pub if_rest_sound : (a c : Cursor) (v : StmtKind) (d : Cursor) → BeginsWord word.KwIf a → Behind a c → means found (body if_rest) c v d → IsCompound a v d
if_rest_sound a c v d begun behind (after t u h (way_yes k (after ss f hs (after _ _ (more as' x ha) (after os y ho g))))) = done (IsCompound a) _ _ v d (compound_if begun h (at_symbol _ u k) hs ha ho) g
if_rest_sound a c v d begun behind (after t u h (way_no _ z)) = absurd z

pub while_rest_sound : (a c : Cursor) (v : StmtKind) (d : Cursor) → BeginsWord word.KwWhile a → Behind a c → means found (body while_rest) c v d → IsCompound a v d
while_rest_sound a c v d begun behind (after t u h (way_yes k (after ss f hs g))) = done (IsCompound a) _ _ v d (compound_while begun h (at_symbol _ u k) hs) g
while_rest_sound a c v d begun behind (after t u h (way_no _ z)) = absurd z

pub for_rest_sound : (a c : Cursor) (v : StmtKind) (d : Cursor) → BeginsWord word.KwFor a → Behind a c → means found (body for_rest) c v d → IsCompound a v d
for_rest_sound a c v d begun behind (after t u h (way_yes k (after e f he (way_yes x (after ss y hs g))))) = done (IsCompound a) _ _ v d (compound_for begun h (at_keyword _ u k) he (at_symbol _ f x) hs) g
for_rest_sound a c v d begun behind (after t u h (way_yes k (after e f he (way_no _ z)))) = absurd z
for_rest_sound a c v d begun behind (after t u h (way_no _ z)) = absurd z

pub try_rest_sound : (a c : Cursor) (v : StmtKind) (d : Cursor) → BeginsWord word.KwTry a → Behind a c → means found (body try_rest) c v d → IsCompound a v d
try_rest_sound a c v d begun behind (way_yes k (after ss u h (after _ _ (more hs f hh) (after os x ho g)))) = done (IsCompound a) _ _ v d (compound_try begun (at_symbol _ c k) h hh ho) g
try_rest_sound a c v d begun behind (way_no _ z) = absurd z

pub compound_sound : (c : Cursor) (v : StmtKind) (d : Cursor) → means found (body compound) c v d → IsCompound c v d
compound_sound c v d (way_yes k (after _ _ go g)) = done (IsCompound c) _ _ v d (go c (at_keyword _ c k) behind) g
compound_sound c v d (way_no _ (way_yes k (after _ _ go g))) = done (IsCompound c) _ _ v d (go c (at_keyword _ c k) behind) g
compound_sound c v d (way_no _ (way_no _ (way_yes k (after _ _ go g)))) = done (IsCompound c) _ _ v d (go c (at_keyword _ c k) behind) g
compound_sound c v d (way_no _ (way_no _ (way_no _ (way_yes k (after _ _ go g))))) = done (IsCompound c) _ _ v d (go c (at_keyword _ c k) behind) g
compound_sound c v d (way_no _ (way_no _ (way_no _ (way_no _ z)))) = absurd z

-- ---- Their parts

pub else_rest_sound : (c : Cursor) (v : Stmts) (d : Cursor) → means found (body else_rest) c v d → IsElse c v d
else_rest_sound c v d (way_yes x (way_yes y (after ss u h g))) = done (IsElse c) _ _ v d (else_block (at_keyword _ c x) (at_symbol _ (past c) y) h) g
else_rest_sound c v d (way_yes x (way_no _ z)) = absurd z
else_rest_sound c v d (way_no _ g) = done (IsElse c) _ _ v d else_none g

pub caught_sound : (c : Cursor) (v : Expr × Option ℕ) (d : Cursor) → means found (body caught) c v d → IsCaught c v.0 v.1 d
caught_sound c v d (after e u h (way_yes k (after n _ (found_name hn) g))) = done (λ (z : Expr × Option ℕ) y. IsCaught c z.0 z.1 y) _ _ v d (caught_as h (at_keyword _ u k) hn) g
caught_sound c v d (after e u h (way_no _ g)) = done (λ (z : Expr × Option ℕ) y. IsCaught c z.0 z.1 y) _ _ v d (caught_test h) g

pub elifs_sound : (as' : Arms) (c : Cursor) (v : Arms) (d : Cursor) → means found (body (elifs as')) c v d → More then_arms as' (AreElifs c) v d
elifs_sound as' c v d (way_yes x (after t u h (way_yes y (after ss f hs (after _ _ (more bs w hb) g))))) =
    done (More then_arms as' (AreElifs c)) _ _ v d (more_as _ _ _ (arm t ss bs) _ _ (elifs_more (at_keyword _ c x) h (at_symbol _ u y) hs hb) (then_arms_more as' bs t ss)) g
elifs_sound as' c v d (way_yes x (after t u h (way_no _ z))) = absurd z
elifs_sound as' c v d (way_no _ g) = done (More then_arms as' (AreElifs c)) _ _ v d (more_as _ _ _ no_arms _ _ elifs_none (then_arms_none as')) g

pub handlers_sound : (hs : Handlers) (c : Cursor) (v : Handlers) (d : Cursor) → means found (body (handlers hs)) c v d → More then_handlers hs (AreHandlers c) v d
handlers_sound hs c v d (way_yes x (way_yes y (after ss u h g))) =
    done (More then_handlers hs (AreHandlers c)) _ _ v d (more_as _ _ _ (handler None None ss (line_of c) no_handlers) _ _ (handlers_bare (at_keyword _ c x) (at_symbol _ (past c) y) h) (then_handlers_one hs None None ss (line_of c))) g
handlers_sound hs c v d (way_yes x (way_no _ (after en u h (way_yes y (after ss f hb (way_yes _ (after _ _ (more ks w hk) g))))))) =
    done (More then_handlers hs (AreHandlers c)) _ _ v d (more_as _ _ _ (handler (Some en.0) en.1 ss (line_of c) ks) _ _ (handlers_more (at_keyword _ c x) h (at_symbol _ u y) hb hk) (then_handlers_more hs ks (Some en.0) en.1 ss (line_of c))) g
handlers_sound hs c v d (way_yes x (way_no _ (after en u h (way_yes y (after ss f hb (way_no _ g)))))) =
    done (More then_handlers hs (AreHandlers c)) _ _ v d (more_as _ _ _ (handler (Some en.0) en.1 ss (line_of c) no_handlers) _ _ (handlers_last (at_keyword _ c x) h (at_symbol _ u y) hb) (then_handlers_one hs (Some en.0) en.1 ss (line_of c))) g
handlers_sound hs c v d (way_yes x (way_no _ (after en u h (way_no _ z)))) = absurd z
handlers_sound hs c v d (way_no _ z) = absurd z

-- ---- Blocks and statements

pub block_sound : (c : Cursor) (v : Stmts) (d : Cursor) → means found (body block) c v d → IsBlock c v d
block_sound c v d (way_yes x (way_yes y (after _ _ (more ss u h) (after _ _ (more ts f hs) (way_yes z g))))) = done (IsBlock c) _ _ v d (block_indented (at_newline c x) (at_indent (past c) y) h hs (at_dedent f z)) g
block_sound c v d (way_yes x (way_yes y (after _ _ (more ss u h) (after _ _ (more ts f hs) (way_no _ z))))) = absurd z
block_sound c v d (way_yes x (way_no _ z)) = absurd z
block_sound c v d (way_no _ (after _ _ (more ss u h) g)) = done (IsBlock c) _ _ v d (block_line h) g

def_whole : (top : Bool) (c : Cursor) (f : FunDef) (d : Cursor) → top ≡ true → FoundDefinition c f d → IsStatement top c (stmt (stated (tree.def f) c) no_stmts) d
def_whole top c f d t (found_definition n h hs) = subst (λ z. IsStatement z c (stmt (stated (tree.def f) c) no_stmts) d) (sym t) (statement_def h hs)

pub statement_sound : (top : Bool) (ss : Stmts) (c : Cursor) (v : Stmts) (d : Cursor) → means found (body (statement top ss)) c v d → More then_all ss (IsStatement top c) v d
statement_sound top ss c v d (way_yes _ (after k u h g)) =
    done (More then_all ss (IsStatement top c)) _ _ v d (more_as _ _ _ (stmt (stated k c) no_stmts) _ _ (statement_compound h) (then_all_one ss _)) g
statement_sound top ss c v d (way_no _ (way_yes t (after f u h g))) =
    done (More then_all ss (IsStatement top c)) _ _ v d (more_as _ _ _ (stmt (stated (tree.def f) c) no_stmts) _ _ (def_whole top c f u (both_first _ _ t) h) (then_all_one ss _)) g
statement_sound top ss c v d (way_no _ (way_no _ (way_yes t (after k u h g)))) =
    done (More then_all ss (IsStatement top c)) _ _ v d (more_as _ _ _ (stmt (stated (tree.class k) c) no_stmts) _ _ (subst (λ z. IsStatement z c (stmt (stated (tree.class k) c) no_stmts) u) (sym (both_first _ _ t)) (statement_class h)) (then_all_one ss _)) g
statement_sound top ss c v d (way_no _ (way_no _ (way_no _ (after _ _ (more ts u h) g)))) =
    done (More then_all ss (IsStatement top c)) _ _ v d (more ts u (statement_line h)) g

pub statements_sound : (top : Bool) (ss : Stmts) (c : Cursor) (v : Stmts) (d : Cursor) → means found (body (statements top ss)) c v d → More then_all ss (AreStatements top c) v d
statements_sound top ss c v d (way_yes _ g) = done (More then_all ss (AreStatements top c)) _ _ v d (more_as _ _ _ no_stmts _ _ statements_none (then_all_none ss)) g
statements_sound top ss c v d (way_no _ (after _ _ (more xs u h) (after _ _ (more ys f hs) g))) =
    done (More then_all ss (AreStatements top c)) _ _ v d (more_as _ _ _ (then_all xs ys) _ _ (statements_more h hs) (then_all_then ss xs ys)) g
