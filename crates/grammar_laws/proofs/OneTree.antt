-- Tokens have one tree at most, since the descent finds it.
use Rattle.std.proofs.Common.{◌≡◌, ℕ, List, sym, ap, ◌∙◌}
use Rattle.py_tokens.specs.TokenList.{TokenList}
use Rattle.py_grammar.specs.Cursor.{Cursor}
use Rattle.py_grammar.specs.Modules.{IsModuleOf}
use Rattle.py_tree.specs.Tree.{Module, Stmts}
use Rattle.py_descent.specs.Laws.{IsComplete}
use Rattle.py_descent.specs.Programs.{gives}

one_body : (a b : Stmts) (c d : Cursor) → gives a c ≡ gives b d → a ≡ b
one_body a b c d h = cc

pub one_tree : IsComplete → (t : TokenList) (m n : Module) → IsModuleOf t m → IsModuleOf t n → m ≡ n
one_tree complete t m n is also =
    let here = complete t m.body is.end is.body is.ends in
    let there = complete t n.body also.end also.body also.ends in
    let body : m.body ≡ n.body = one_body m.body n.body is.end also.end (sym here ∙ there) in
    let whole : List (List ℕ) → Stmts → Module = λ names body. record { body = body; names = names } in
    ap (whole m.names) body ∙ ap (λ names. whole names n.body) (is.names ∙ sym also.names)
