-- What parsing answers.
use Rattle.std.specs.Prelude.{◌≡◌, ℕ, true, List, Result, Ok, Err}
use Rattle.std.specs.Option.{is_some}
use Rattle.py_tokens.specs.TokenList.{TokenList}
use Rattle.py_tree.specs.declared.module.Module as rust_module
use Rattle.py_grammar.specs.Cursor.{next}
use Rattle.py_grammar.specs.Modules.{IsModuleOf}
use Rattle.py_grammar.specs.Nesting.{IsTooDeep}
use Rattle.py_tree.specs.Tree.{Stmts, no_stmts, Module}
use Rattle.py_tree.specs.View.{module_view}
use Rattle.py_descent.specs.Bodies.{expect}
use Rattle.py_descent.specs.Codes.{end}
use Rattle.py_descent.specs.Goals.{statements}
use Rattle.py_descent.specs.Programs.{Program, give, refuse, reading, choose, call}
use Rattle.py_parse.specs.declared.fault.ParseFault.{ParseFault}
use Rattle.py_parse.specs.declared.fault.ParseFault.TheVariants.{Unexpected, OutOfProfile, TooDeep, Memory}

-- the tree is a module of the tokens, of which none is nested too deep
pub record IsReading (t : TokenList) (m : Module) : Type 0 where
  pub reads : IsModuleOf t m
  pub shallow : IsTooDeep t.tokens → ⊥

-- the answer is this tree, unless memory ran out
abbrev pub IsAnswer : Module → Result rust_module.Module ParseFault → Type 0
IsAnswer m (Ok tree) = module_view tree ≡ m
IsAnswer m (Err (Unexpected span)) = ⊥
IsAnswer m (Err (OutOfProfile form span)) = ⊥
IsAnswer m (Err (TooDeep span)) = ⊥
IsAnswer m (Err Memory) = Unit {0}

-- the tokens have no tree
pub data HasNoTree (t : TokenList) : Type 0 where
  no_module : ((m : Module) → IsModuleOf t m → ⊥) → HasNoTree t
  too_deep : IsTooDeep t.tokens → HasNoTree t

-- why a fault is answered
abbrev pub IsCause : TokenList → ParseFault → Type 0
IsCause t (Unexpected span) = HasNoTree t
IsCause t (OutOfProfile form span) = HasNoTree t
IsCause t (TooDeep span) = IsTooDeep t.tokens
IsCause t Memory = Unit {0}

-- a refusal of a token that is not too deep
abbrev pub IsPlain : ParseFault → Type 0
IsPlain (Unexpected span) = Unit {0}
IsPlain (OutOfProfile form span) = Unit {0}
IsPlain (TooDeep span) = ⊥
IsPlain Memory = ⊥

abbrev pub IsPlainAnswer : Result rust_module.Module ParseFault → Type 0
IsPlainAnswer (Ok tree) = ⊥
IsPlainAnswer (Err fault) = IsPlain fault

-- what the parser's fault comes to where no token is too deep
abbrev pub ComesTo : ParseFault → ParseFault → Type 0
ComesTo (Unexpected span) fault = IsPlain fault
ComesTo (OutOfProfile form span) fault = IsPlain fault
ComesTo (TooDeep span) fault = IsPlain fault
ComesTo Memory fault = fault ≡ Memory

-- the same of its whole answer
abbrev pub IsFinished : {A : Type 0} → (A → Stmts) → Result A ParseFault → List (List ℕ) → Result rust_module.Module ParseFault → Type 0
IsFinished view (Ok body) names answer = IsAnswer (record { body = view body; names = names }) answer
IsFinished view (Err (Unexpected span)) names answer = IsPlainAnswer answer
IsFinished view (Err (OutOfProfile form span)) names answer = IsPlainAnswer answer
IsFinished view (Err (TooDeep span)) names answer = IsPlainAnswer answer
IsFinished view (Err Memory) names answer = answer ≡ Err Memory

-- nothing may be next
abbrev pub nothing_more : {A : Type 0} → Program A → Program A
nothing_more p = reading (λ c. choose (is_some (next c)) refuse p)

-- the statements up to the end, which is the last token
abbrev pub whole_module : Program Stmts
whole_module = call (statements true no_stmts) (λ ss. expect end (nothing_more (give ss)))
