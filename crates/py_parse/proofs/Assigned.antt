-- One round of the loop over what stands before each `=`.
use Rattle.std.proofs.Common.{◌≡◌, Bool, true, false, if◌then◌else◌, refl, ◌∙◌, ap}
use Rattle.py_tokens.specs.declared.token.Op.TheVariants as op
use Rattle.py_grammar.specs.Cursor.{Cursor, past}
use Rattle.py_tree.specs.Tree as tree
use Rattle.py_tree.specs.Tree.{Expr, Exprs}
use Rattle.py_descent.specs.Bodies.{is_target, and_expr, expect}
use Rattle.py_descent.specs.Codes.{at, symbol}
use Rattle.py_descent.specs.Descent.{descent}
use Rattle.py_descent.specs.Goals.{tests, assigned}
use Rattle.py_descent.specs.Programs.{Answer, gives, refuses, bind, choose, give, refuse}
use Rattle.py_descent.proofs.Unfold.{descends}
use Rattle.py_parse.specs.Gives.{run}
use Rattle.py_parse.proofs.Pushes.{bind_gives}

same_gives : (es ts : Exprs) (c d : Cursor) (f : Exprs → Cursor → Answer tree.StmtKind) → gives es c ≡ gives ts d → f es c ≡ f ts d
same_gives es ts c d f h = let one : es ≡ ts = cc in let two : c ≡ d = cc in ap (λ (x : Exprs). f x c) one ∙ ap (λ (x : Cursor). f ts x) two

by_target : (z a : Bool) (es ts : Exprs) (c d : Cursor) (f : Exprs → Cursor → Answer tree.StmtKind) (other : Answer tree.StmtKind) → (if z then (if a then gives es c else refuses) else refuses) ≡ gives ts d → (if a then (if z then (if a then f es c else refuses) else refuses) else other) ≡ f ts d
by_target true true es ts c d f other h = same_gives es ts c d f h
by_target true false es ts c d f other h = absurd cc
by_target false true es ts c d f other h = absurd cc
by_target false false es ts c d f other h = absurd cc

pub next_assigned : (ts es : Exprs) (c d e : Cursor) (v : Expr) → descent tests c ≡ gives v d → run (choose (is_target v) (expect (symbol op.Assign) (give (and_expr ts v))) refuse) d ≡ gives es e → descent (assigned ts) c ≡ descent (assigned es) e
next_assigned ts es c d e v h k =
    descends (assigned ts) c ∙ rw h (by_target (is_target v) (at (symbol op.Assign) d) (and_expr ts v) es (past d) e (λ (x : Exprs) (f : Cursor). bind (descent (assigned x) f) (λ a g. gives a g)) _ k) ∙ bind_gives _

pub last_assigned : (ts : Exprs) (c d : Cursor) (v : Expr) → descent tests c ≡ gives v d → at (symbol op.Assign) d ≡ false → descent (assigned ts) c ≡ gives (tree.assign ts v) d
last_assigned ts c d v h k = descends (assigned ts) c ∙ rw h (rw k refl)
