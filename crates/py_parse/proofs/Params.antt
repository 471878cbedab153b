-- One round of the loop over parameters.
use Rattle.std.proofs.Common.{◌≡◌, ℕ, List, [], ◌∷◌, ◌++◌, Bool, true, false, if◌then◌else◌, Option, Some, None, refl, ◌∙◌, ap}
use Rattle.std.specs.Option.{is_some}
use Rattle.py_tokens.specs.declared.token.Op.TheVariants as op
use Rattle.py_tree.specs.declared.literal.Literal.{Literal}
use Rattle.py_grammar.specs.Cursor.{Cursor, past}
use Rattle.py_tree.specs.Tree.{Param}
use Rattle.py_descent.specs.Codes.{at, symbol}
use Rattle.py_descent.specs.Descent.{descent}
use Rattle.py_descent.specs.Goals.{name, hint, literal, param, params}
use Rattle.py_descent.specs.Programs.{Answer, gives, refuses, bind, call, choose, eat, give, refuse}
use Rattle.py_descent.proofs.Unfold.{descends}
use Rattle.py_parse.specs.Gives.{run}
use Rattle.py_parse.proofs.Pushes.{bind_gives}

abbrev with_default : ℕ → Option Literal → Param
with_default n o = record { name = n; default = o }

same_default : (n : ℕ) (o p : Option Literal) (d e : Cursor) → gives o d ≡ gives p e → gives (with_default n o) d ≡ gives (with_default n p) e
same_default n o p d e h = let same : o ≡ p = cc in let here : d ≡ e = cc in ap (λ (q : Option Literal). gives (with_default n q) d) same ∙ ap (λ (f : Cursor). gives (with_default n p) f) here

by_default : (z late : Bool) (q : Answer Literal) (e f : Cursor) (n : ℕ) (o : Option Literal) → (if z then bind q (λ l d. gives (Some l) d) else if late then refuses else gives None e) ≡ gives o f → (if z then bind q (λ l d. gives (with_default n (Some l)) d) else if late then refuses else gives (with_default n None) e) ≡ gives (with_default n o) f
by_default true late refuses e f n o h = absurd cc
by_default true late (gives l d) e f n o h = same_default n (Some l) o d f h
by_default false true q e f n o h = absurd cc
by_default false false q e f n o h = same_default n None o e f h

pub one_param : (late : Bool) (n : ℕ) (u : Unit {0}) (o : Option Literal) (c d e f : Cursor) → descent name c ≡ gives n d → descent hint d ≡ gives u e → run (eat (symbol op.Assign) (call literal (λ l. give (Some l))) (choose late refuse (give None))) e ≡ gives o f → descent (param late) c ≡ gives (record { name = n; default = o }) f
one_param late n u o c d e f h k g = descends (param late) c ∙ rw h (rw k (by_default (at (symbol op.Assign) e) late (descent literal (past e)) e f n o g))

pub next_params : (late : Bool) (ps : List Param) (c : Cursor) (p : Param) (d : Cursor) → at (symbol op.RightParen) c ≡ false → descent (param late) c ≡ gives p d → at (symbol op.Comma) d ≡ true → descent (params late ps) c ≡ descent (params (is_some p.default) (ps ++ p ∷ [])) (past d)
next_params late ps c p d h k g = descends (params late ps) c ∙ rw h (rw k (rw g (bind_gives _)))

pub last_params : (late : Bool) (ps : List Param) (c : Cursor) (p : Param) (d : Cursor) → at (symbol op.RightParen) c ≡ false → descent (param late) c ≡ gives p d → at (symbol op.Comma) d ≡ false → descent (params late ps) c ≡ gives (ps ++ p ∷ []) d
last_params late ps c p d h k g = descends (params late ps) c ∙ rw h (rw k (rw g refl))
