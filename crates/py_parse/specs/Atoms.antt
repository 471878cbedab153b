-- The program of an atom, part by part.
use Rattle.std.specs.Prelude.{ℕ}
use Rattle.py_tokens.specs.declared.token.Op.TheVariants as op
use Rattle.py_tree.specs.declared.literal.Literal.TheVariants as lit
use Rattle.py_tree.specs.Tree as tree
use Rattle.py_tree.specs.Tree.{Expr}
use Rattle.py_descent.specs.Bodies.{made_at, expect}
use Rattle.py_descent.specs.Codes.{symbol}
use Rattle.py_descent.specs.Goals.{plain_name, strings, octets, group, list_display, dict_display, variable}
use Rattle.py_descent.specs.Programs.{Program, give, eat, take, call}
use Rattle.py_descent.specs.Takings.{number_in, str_in, octets_in}

abbrev pub dict_or_name : ℕ → Program Expr
dict_or_name l = eat (symbol op.LeftBrace) (call (dict_display l) give) (call (variable l) give)

abbrev pub list_or_name : ℕ → Program Expr
list_or_name l = eat (symbol op.LeftSquare) (call (list_display l) give) (dict_or_name l)

abbrev pub brackets_or_name : ℕ → Program Expr
brackets_or_name l = eat (symbol op.LeftParen) (call (group l) give) (list_or_name l)

abbrev pub octets_or_brackets : ℕ → Program Expr
octets_or_brackets l = take octets_in (λ empty. call (octets empty) (λ b. made_at l (tree.literal (lit.Bytes b)))) (brackets_or_name l)

abbrev pub text_or_brackets : ℕ → Program Expr
text_or_brackets l = take str_in (λ empty. call (strings empty) (λ b. made_at l (tree.literal (lit.Str b)))) (octets_or_brackets l)

abbrev pub number_or_brackets : ℕ → Program Expr
number_or_brackets l = take number_in (λ k. made_at l (tree.literal k)) (text_or_brackets l)

-- what follows the empty brackets of `super()`
abbrev pub super_name : ℕ → Program Expr
super_name l = expect (symbol op.Dot) (call plain_name (λ n. made_at l (tree.super n)))
