-- What expressions give: operands from left to right, then the operation (language reference, "Expressions", "Evaluation order").
use Rattle.std.specs.Prelude.{ℕ, Bool, true, false, not, List, [], ◌∷◌, Option, Some, None}
use Rattle.py_tree.specs.Tree as tree
use Rattle.py_tree.specs.Tree.{Expr, node, ExprKind, Exprs, no_exprs, expr, Bound, no_bound, bound, Args, no_args, arg, Pairs, no_pairs, pair}
use Rattle.py_meaning.specs.Values.{Value, none, truth, literal_value, entry}
use Rattle.py_meaning.specs.Objects as object
use Rattle.py_meaning.specs.Programs.{Program, FunRow, fun_at, class_of_fun}
use Rattle.py_tree.specs.Tree.{Param}
use Rattle.py_meaning.specs.Truth.{truth_of}
use Rattle.py_meaning.specs.Operators.{binary, unary, compare}
use Rattle.py_meaning.specs.Subscripts.{read_item, read_slice}
use Rattle.py_meaning.specs.Attributes.{read_attribute, super_attribute}
use Rattle.py_meaning.specs.Names.{load}
use Rattle.py_meaning.specs.Actions.{Frame, Argument, Flow, returns, call, Outcome, came, threw, Action, gives, raises, turn, looks, bind, then_do, allocate, anything, may_raise, done}

-- the value of a call; a body that ends without `return` gives None
abbrev pub value_of_flow : Flow → Value
value_of_flow (returns v) = v
value_of_flow _ = none

abbrev pub called : Outcome → Action Value
called (came flow) = gives (value_of_flow flow)
called (threw v) = raises v

abbrev pub call_value : (callee : Value) → List Argument → (site line : ℕ) → Action Value
call_value f as' site line = turn (call f as' site line) called

-- ---- `super()` reads the first parameter of the method

abbrev pub first_name : List Param → Option ℕ
first_name [] = None
first_name (q ∷ qs) = Some q.name

abbrev pub first_parameter : Option FunRow → Option ℕ
first_parameter None = None
first_parameter (Some row) = first_name row.params

abbrev pub first_value : Program → Frame → Option Value
first_value p f = elim (first_parameter (fun_at p f.function)) [ None ↦ None | Some n ↦ entry f.locals n ]

abbrev pub super_in : Program → (line name : ℕ) → Option Frame → Action Value
super_in p line name None = anything
super_in p line name (Some f) =
    elim (first_value p f) [ None ↦ anything | Some v ↦ super_attribute p line (class_of_fun p f.function) v name ]

-- ---- parts of expressions

-- the first operand, where it decides; else the second
abbrev pub kept_or : Bool → Value → Action Value → Action Value
kept_or true v a = gives v
kept_or false v a = a

abbrev pub chosen : {A : Type 0} → Bool → Action A → Action A → Action A
chosen true a b = a
chosen false a b = b

abbrev mutual
  pub eval : Program → Expr → Action Value
  eval p (node kind line site) = eval_kind p kind line site

  pub eval_kind : Program → ExprKind → (line site : ℕ) → Action Value
  eval_kind p (tree.name n) line site = load p n
  eval_kind p (tree.literal x) line site = gives (literal_value x)
  eval_kind p (tree.unary op a) line site = bind (eval p a) (λ v. then_do may_raise (unary op line v))
  eval_kind p (tree.binary op a b) line site = bind (eval p a) (λ v. bind (eval p b) (λ w. then_do may_raise (binary p op site line v w)))
  eval_kind p (tree.compare op a b) line site = bind (eval p a) (λ v. bind (eval p b) (λ w. then_do may_raise (compare op line v w)))
  eval_kind p (tree.not a) line site = bind (eval p a) (λ v. bind (truth_of v) (λ t. gives (truth (not t))))
  eval_kind p (tree.and a b) line site = bind (eval p a) (λ v. bind (truth_of v) (λ t. kept_or (not t) v (eval p b)))
  eval_kind p (tree.or a b) line site = bind (eval p a) (λ v. bind (truth_of v) (λ t. kept_or t v (eval p b)))
  eval_kind p (tree.choice a c b) line site = bind (eval p c) (λ v. bind (truth_of v) (λ t. chosen t (eval p a) (eval p b)))
  eval_kind p (tree.attr a n) line site = bind (eval p a) (λ v. then_do may_raise (read_attribute p line v n))
  eval_kind p (tree.super n) line site = then_do may_raise (looks (λ m. super_in p line n m.scope.frame))
  eval_kind p (tree.item a i) line site = bind (eval p a) (λ v. bind (eval p i) (λ w. then_do may_raise (read_item p line v w)))
  eval_kind p (tree.slice a low high step) line site =
      bind (eval p a) (λ v. then_do (eval_bound p low) (then_do (eval_bound p high) (then_do (eval_bound p step) (then_do may_raise (read_slice p site line v)))))
  eval_kind p (tree.call a xs) line site = bind (eval p a) (λ v. bind (eval_args p xs) (λ as'. call_value v as' site line))
  eval_kind p (tree.tuple xs) line site = bind (eval_all p xs) (λ vs. allocate (object.tuple site object.places vs))
  eval_kind p (tree.list xs) line site = bind (eval_all p xs) (λ vs. allocate (object.list site vs))
  eval_kind p (tree.dict qs) line site = bind (eval_pairs p qs) (λ vs. allocate (object.dict site vs))

  pub eval_all : Program → Exprs → Action (List Value)
  eval_all p no_exprs = gives []
  eval_all p (expr x xs) = bind (eval p x) (λ v. bind (eval_all p xs) (λ vs. gives (v ∷ vs)))

  -- the bounds of a slice are evaluated; which parts it takes is a choice
  pub eval_bound : Program → Bound → Action (Unit {0})
  eval_bound p no_bound = done
  eval_bound p (bound x) = bind (eval p x) (λ v. done)

  pub eval_args : Program → Args → Action (List Argument)
  eval_args p no_args = gives []
  eval_args p (arg n x xs) = bind (eval p x) (λ v. bind (eval_args p xs) (λ as'. gives (record { name = n; value = v } ∷ as')))

  -- the key, and then the value
  pub eval_pairs : Program → Pairs → Action (List (Value × Value))
  eval_pairs p no_pairs = gives []
  eval_pairs p (pair k x qs) = bind (eval p k) (λ v. bind (eval p x) (λ w. bind (eval_pairs p qs) (λ vs. gives ((v, w) ∷ vs))))
