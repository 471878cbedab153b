-- How sample modules are written: a line for each line of the text. Lines, sites, names and ids are counted as the tree is built.
use Rattle.std.specs.Prelude.{ℕ, suc, Bool, true, false, if◌then◌else◌, List, [], ◌∷◌, Option, Some, None, codes}
use Rattle.std.specs.Str.{bytes_eq}
use Prim.Native.String.{String}
use Rattle.place_ids.specs.declared.operators.BinOp.{BinOp}
use Rattle.place_ids.specs.declared.operators.CompareOp.{CompareOp}
use Rattle.place_ids.specs.declared.operators.UnaryOp.{UnaryOp}
use Rattle.py_tree.specs.declared.literal.Literal.{Literal}
use Rattle.py_tree.specs.declared.literal.Literal.TheVariants as lit
use Rattle.py_tree.specs.Tree as tree
use Rattle.py_tree.specs.Tree.{Expr, ExprKind, node, Exprs, Bound, Args, Pairs, Stmt, StmtKind, statement, Stmts, Arms, Handlers, FunDef, fun_def}
use Rattle.py_tree.specs.Tree.{class_def, Member, Members, Param, ImportPart, FromPart, Module}

-- what stands next: its line, its site, the numbers of a function and a class, and the names so far
pub record Next : Type 0 where
  pub line : ℕ
  pub site : ℕ
  pub function : ℕ
  pub class : ℕ
  pub names : List (List ℕ)

-- makes a part of the tree, and goes on with what stands next after it
abbrev pub Part : Type 0 → Type 0
Part A = Next → (A → Next → Module) → Module

abbrev pub is : {A : Type 0} → A → Part A
is a = λ c k. k a c

abbrev pub of : {A B : Type 0} → (A → B) → Part A → Part B
of f a = λ c k. a c (λ x. k (f x))

abbrev pub of_two : {A B C : Type 0} → (A → B → C) → Part A → Part B → Part C
of_two f a b = λ c k. a c (λ x d. b d (λ y. k (f x y)))

abbrev pub of_three : {A B C D : Type 0} → (A → B → C → D) → Part A → Part B → Part C → Part D
of_three f a b e = λ c k. a c (λ x d. b d (λ y g. e g (λ z. k (f x y z))))

abbrev pub if_any : {A : Type 0} → Option (Part A) → Part (Option A)
if_any None = is None
if_any (Some a) = of Some a

abbrev pub each : {A : Type 0} → List (Part A) → Part (List A)
each [] = is []
each (a ∷ as') = of_two ◌∷◌ a (each as')

-- ends a line of the text
abbrev pub ending : {A : Type 0} → Part A → Part A
ending a = λ c k. a c (λ x d. k x (record d { line = suc d.line }))

-- begins on the next line of the text
abbrev pub lower : {A : Type 0} → Part A → Part A
lower a = λ c. a (record c { line = suc c.line })

infix 80 ·◌
infix 80 ··◌
infix 80 ···◌
infix 80 ····◌
-- marks of a line of a body, a dot for each body that it stands in
abbrev pub ·◌ : {A : Type 0} → A → A
· a = a

abbrev pub ··◌ : {A : Type 0} → A → A
·· a = a

abbrev pub ···◌ : {A : Type 0} → A → A
··· a = a

abbrev pub ····◌ : {A : Type 0} → A → A
···· a = a

-- ---- names, in the order in which they first stand in the text

abbrev pub place_among : List ℕ → List (List ℕ) → ℕ
place_among t [] = 0
place_among t (n ∷ ns) = if bytes_eq t n then 0 else suc (place_among t ns)

abbrev pub with_name : List ℕ → List (List ℕ) → List (List ℕ)
with_name t [] = t ∷ []
with_name t (n ∷ ns) = if bytes_eq t n then n ∷ ns else n ∷ with_name t ns

abbrev pub word : String → Part ℕ
word t = λ c k. k (place_among (codes t) c.names) (record c { names = with_name (codes t) c.names })

abbrev pub words : List String → Part (List ℕ)
words [] = is []
words (t ∷ ts) = of_two ◌∷◌ (word t) (words ts)

abbrev pub option_word : Option String → Part (Option ℕ)
option_word None = is None
option_word (Some t) = of Some (word t)

-- ---- expressions: the parts have their sites before the whole

abbrev pub seated : Part ExprKind → Part Expr
seated kind = λ c k. kind c (λ x d. k (node x d.line d.site) (record d { site = suc d.site }))

abbrev pub name : String → Part Expr
name t = seated (of tree.name (word t))

abbrev pub literal : Literal → Part Expr
literal l = seated (is (tree.literal l))

abbrev pub int : ℕ → Part Expr
int n = literal (lit.Int false n)

abbrev pub is_empty : List ℕ → Bool
is_empty [] = true
is_empty (c ∷ cs) = false

abbrev pub str : String → Part Expr
str t = literal (lit.Str (is_empty (codes t)))

abbrev pub bytes : String → Part Expr
bytes t = literal (lit.Bytes (is_empty (codes t)))

abbrev pub unary : UnaryOp → Part Expr → Part Expr
unary op a = seated (of (tree.unary op) a)

abbrev pub binary : Part Expr → BinOp → Part Expr → Part Expr
binary a op b = seated (of_two (tree.binary op) a b)

abbrev pub compare : Part Expr → CompareOp → Part Expr → Part Expr
compare a op b = seated (of_two (tree.compare op) a b)

abbrev pub not : Part Expr → Part Expr
not a = seated (of tree.not a)

abbrev pub and : Part Expr → Part Expr → Part Expr
and a b = seated (of_two tree.and a b)

abbrev pub or : Part Expr → Part Expr → Part Expr
or a b = seated (of_two tree.or a b)

abbrev pub choice : Part Expr → Part Expr → Part Expr → Part Expr
choice a b e = seated (of_three tree.choice a b e)

abbrev pub attr : Part Expr → String → Part Expr
attr a t = seated (of_two tree.attr a (word t))

abbrev pub super : String → Part Expr
super t = seated (of_two (λ s n. tree.super n) (word "super") (word t))

abbrev pub item : Part Expr → Part Expr → Part Expr
item a b = seated (of_two tree.item a b)

abbrev pub bound : Option (Part Expr) → Part Bound
bound None = is tree.no_bound
bound (Some a) = of tree.bound a

abbrev pub slice : Part Expr → Option (Part Expr) → Option (Part Expr) → Option (Part Expr) → Part Expr
slice a b e g = seated (of_two (λ (x : Expr) (f : Expr → ExprKind). f x) a (of_three (λ y z w x. tree.slice x y z w) (bound b) (bound e) (bound g)))

abbrev pub exprs : List (Part Expr) → Part Exprs
exprs [] = is tree.no_exprs
exprs (a ∷ as') = of_two tree.expr a (exprs as')

abbrev pub keywords : List (String × Part Expr) → Part Args
keywords [] = is tree.no_args
keywords (a ∷ as') = of_three (λ n. tree.arg (Some n)) (word a.0) a.1 (keywords as')

abbrev pub arguments : List (Part Expr) → Part Args → Part Args
arguments [] rest = rest
arguments (a ∷ as') rest = of_two (tree.arg None) a (arguments as' rest)

abbrev pub call : Part Expr → List (Part Expr) → Part Expr
call f as' = seated (of_two tree.call f (arguments as' (is tree.no_args)))

abbrev pub call_by : Part Expr → List (Part Expr) → List (String × Part Expr) → Part Expr
call_by f as' ks = seated (of_two tree.call f (arguments as' (keywords ks)))

abbrev pub tuple : List (Part Expr) → Part Expr
tuple as' = seated (of tree.tuple (exprs as'))

abbrev pub list : List (Part Expr) → Part Expr
list as' = seated (of tree.list (exprs as'))

abbrev pub pairs : List (Part Expr × Part Expr) → Part Pairs
pairs [] = is tree.no_pairs
pairs (p ∷ ps) = of_three tree.pair p.0 p.1 (pairs ps)

abbrev pub dict : List (Part Expr × Part Expr) → Part Expr
dict ps = seated (of tree.dict (pairs ps))

-- ---- statements of one line

abbrev pub begun : Part StmtKind → Part Stmt
begun kind = λ c. of (λ x. statement x c.line) kind c

abbrev pub simple : Part StmtKind → Part Stmt
simple kind = begun (ending kind)

abbrev pub pass : Part Stmt
pass = simple (is tree.pass)

abbrev pub break : Part Stmt
break = simple (is tree.break)

abbrev pub continue : Part Stmt
continue = simple (is tree.continue)

abbrev pub ellipsis : Part Stmt
ellipsis = simple (is tree.ellipsis)

abbrev pub return : Option (Part Expr) → Part Stmt
return a = simple (of tree.return (if_any a))

abbrev pub raise : Option (Part Expr) → Option (Part Expr) → Part Stmt
raise a b = simple (of_two tree.raise (if_any a) (if_any b))

abbrev pub assert : Part Expr → Option (Part Expr) → Part Stmt
assert a b = simple (of_two tree.assert a (if_any b))

abbrev pub import : (path : List String) → (alias : Option String) → Part Stmt
import path alias = simple (of_two (λ p a. tree.import (record { path = p; alias = a } ∷ [])) (words path) (option_word alias))

abbrev pub taken : String → Option String → Part FromPart
taken t alias = of_two (λ n a. record { name = n; alias = a }) (word t) (option_word alias)

abbrev pub from : (path : List String) → List (Part FromPart) → Part Stmt
from path ps = simple (of_two tree.from (words path) (each ps))

abbrev pub global : List String → Part Stmt
global ts = simple (of tree.global (words ts))

abbrev pub assign : List (Part Expr) → Part Expr → Part Stmt
assign as' b = simple (of_two tree.assign (exprs as') b)

abbrev pub set : String → Part Expr → Part Stmt
set t b = assign (name t ∷ []) b

abbrev pub augment : Part Expr → BinOp → Part Expr → Part Stmt
augment a op b = simple (of_two (λ x. tree.augment x op) a b)

-- the target, the word that is its type, and the value
abbrev pub annotated : Part Expr → String → Option (Part Expr) → Part Stmt
annotated a t b = simple (of_three (λ x n. tree.annotated x) a (word t) (if_any b))

abbrev pub expression : Part Expr → Part Stmt
expression a = simple (of tree.expression a)

-- ---- statements with bodies: the head ends its line first

abbrev pub block : List (Part Stmt) → Part Stmts
block [] = is tree.no_stmts
block (a ∷ as') = of_two tree.stmt a (block as')

abbrev pub while : Part Expr → List (Part Stmt) → Part Stmt
while a body = begun (of_two tree.while (ending a) (block body))

abbrev pub for : Part Expr → Part Expr → List (Part Stmt) → Part Stmt
for a b body = begun (of_three tree.for a (ending b) (block body))

-- what follows a body: the arms or handlers, and the `else` body
abbrev pub elif : Part Expr → List (Part Stmt) → Part (Arms × Stmts) → Part (Arms × Stmts)
elif a body rest = of_three (λ x b r. (tree.arm x b r.0, r.1)) (ending a) (block body) rest

abbrev pub when : Part Expr → List (Part Stmt) → Part (Arms × Stmts) → Part Stmt
when a body rest = begun (of (λ r. tree.if r.0 r.1) (elif a body rest))

abbrev pub end_if : Part (Arms × Stmts)
end_if = is (tree.no_arms, tree.no_stmts)

abbrev pub otherwise : List (Part Stmt) → Part (Arms × Stmts)
otherwise body = of (λ b. (tree.no_arms, b)) (lower (block body))

abbrev pub try : List (Part Stmt) → Part (Handlers × Stmts) → Part Stmt
try body rest = begun (of_two (λ b r. tree.try b r.0 r.1) (lower (block body)) rest)

abbrev pub handled : ℕ → Option Expr × Option ℕ → Stmts → Handlers × Stmts → Handlers × Stmts
handled line h b r = (tree.handler h.0 h.1 b line r.0, r.1)

abbrev pub except : Option (Part Expr) → Option String → List (Part Stmt) → Part (Handlers × Stmts) → Part (Handlers × Stmts)
except a t body rest = λ c. of_three (handled c.line) (ending (of_two (λ x n. (x, n)) (if_any a) (option_word t))) (block body) rest c

abbrev pub end_try : Part (Handlers × Stmts)
end_try = is (tree.no_handlers, tree.no_stmts)

abbrev pub try_else : List (Part Stmt) → Part (Handlers × Stmts)
try_else body = of (λ b. (tree.no_handlers, b)) (lower (block body))

-- ---- functions and classes

abbrev pub parameter : String → Option Literal → Part Param
parameter t default = of (λ n. record { name = n; default = default }) (word t)

abbrev pub next_function : Part ℕ
next_function = λ c k. k c.function (record c { function = suc c.function })

abbrev pub next_class : Part ℕ
next_class = λ c k. k c.class (record c { class = suc c.class })

abbrev pub function_of : ℕ → ℕ → ℕ × List Param → Stmts → FunDef
function_of line id h body = fun_def id h.0 h.1 body line

abbrev pub function : String → List (Part Param) → List (Part Stmt) → Part FunDef
function t ps body = λ c. of_three (function_of c.line) next_function (ending (of_two (λ n qs. (n, qs)) (word t) (each ps))) (block body) c

abbrev pub def : String → List (Part Param) → List (Part Stmt) → Part Stmt
def t ps body = begun (of tree.def (function t ps body))

abbrev pub method_def : String → List (Part Param) → List (Part Stmt) → Part Member
method_def t ps body = of tree.method (function t ps body)

abbrev pub value : String → Part Expr → Part Member
value t a = λ c. ending (of_two (λ n x. tree.value n x c.line) (word t) a) c

abbrev pub pass_member : Part Member
pass_member = ending (is tree.pass_member)

abbrev pub ellipsis_member : Part Member
ellipsis_member = ending (is tree.ellipsis_member)

abbrev pub members : List (Part Member) → Part Members
members [] = is tree.no_members
members (a ∷ as') = of_two tree.member a (members as')

abbrev pub class_of : ℕ → ℕ → ℕ × Option ℕ → Members → StmtKind
class_of line id h ms = tree.class (class_def id h.0 h.1 ms line)

abbrev pub class : String → (base : Option String) → List (Part Member) → Part Stmt
class t base ms = begun (λ c. of_three (class_of c.line) next_class (ending (of_two (λ n b. (n, b)) (word t) (option_word base))) (members ms) c)

-- ---- the module

abbrev pub written : List (Part Stmt) → Module
written lines = block lines (record { line = 1; site = 0; function = 0; class = 0; names = [] }) (λ body c. record { body = body; names = c.names })
