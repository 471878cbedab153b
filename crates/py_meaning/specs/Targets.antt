-- How targets take values (language reference, "Assignment statements", "Augmented assignment statements").
use Rattle.std.specs.Prelude.{ℕ, suc, List, [], ◌∷◌, map, if◌then◌else◌}
use Rattle.place_ids.specs.declared.operators.BinOp.{BinOp}
use Rattle.place_ids.specs.declared.operators.BinOp.TheVariants as bin
use Rattle.type_terms.specs.Terms as term
use Rattle.py_tree.specs.Tree as tree
use Rattle.py_tree.specs.Tree.{Expr, node, ExprKind, Exprs, no_exprs, expr}
use Rattle.py_meaning.specs.Values.{Value, none, ref}
use Rattle.py_meaning.specs.Objects as object
use Rattle.py_meaning.specs.Objects.{Object}
use Rattle.py_meaning.specs.Events.{not_iterable}
use Rattle.py_meaning.specs.Programs.{Program}
use Rattle.py_meaning.specs.Contents.{held}
use Rattle.py_meaning.specs.Operators.{binary, repeated, is_whole}
use Rattle.py_meaning.specs.Iteration.{is_iterable, items_of}
use Rattle.py_meaning.specs.Natives.{add_parts}
use Rattle.py_meaning.specs.Subscripts.{read_item, store_item, unpack}
use Rattle.py_meaning.specs.Attributes.{read_attribute, store_attribute}
use Rattle.py_meaning.specs.Names.{load, store}
use Rattle.py_meaning.specs.Expressions.{eval}
use Rattle.py_meaning.specs.Actions.{Action, gives, looks, bind, then_do, refill, at_place, may_raise, fails, done}

abbrev pub count_of : Exprs → ℕ
count_of no_exprs = 0
count_of (expr x xs) = suc (count_of xs)

-- the first of some values, and the others
abbrev pub head_or : List Value → Value
head_or [] = none
head_or (v ∷ vs) = v

abbrev pub tail_of : List Value → List Value
tail_of [] = []
tail_of (v ∷ vs) = vs

-- A target's own parts are evaluated when its turn comes. A list of targets takes as a tuple of them does.
abbrev mutual
  pub put : Program → Expr → Value → Action (Unit {0})
  put p (node kind line site) v = put_kind p kind line v

  pub put_kind : Program → ExprKind → (line : ℕ) → Value → Action (Unit {0})
  put_kind p (tree.name n) line v = store p n v
  put_kind p (tree.attr o n) line v = bind (eval p o) (λ w. then_do may_raise (store_attribute line w n v))
  put_kind p (tree.item o i) line v = bind (eval p o) (λ w. bind (eval p i) (λ j. then_do may_raise (store_item line w j v)))
  put_kind p (tree.tuple ts) line v = bind (unpack p line (count_of ts) v) (put_all p ts)
  put_kind p (tree.list ts) line v = bind (unpack p line (count_of ts) v) (put_all p ts)
  put_kind p _ line v = done

  pub put_all : Program → Exprs → List Value → Action (Unit {0})
  put_all p no_exprs vs = done
  put_all p (expr t ts) vs = then_do (put p t (head_or vs)) (put_all p ts (tail_of vs))

-- the targets of a chain of assignments, from the left, take one value
abbrev pub put_each : Program → Exprs → Value → Action (Unit {0})
put_each p no_exprs v = done
put_each p (expr t ts) v = then_do (put p t v) (put_each p ts v)

-- ---- in place: a list grows by the items of the right side, or by its own parts

abbrev pub extend_in_place : Program → (line place : ℕ) → Value → Action Value
extend_in_place p line place w =
    looks (λ m.
    if is_iterable m.heap w then bind (items_of p w) (λ ws. then_do (add_parts place ws) (gives (ref place))) else fails line not_iterable)

abbrev pub repeat_in_place : Program → (place : ℕ) → List Value → Action Value
repeat_in_place p place vs = bind (repeated p (map held vs)) (λ ws. then_do (refill place (object.of_values ws)) (gives (ref place)))

abbrev pub in_own_list : Program → BinOp → (site line : ℕ) → (place : ℕ) → Value → List Value → Action Value
in_own_list p bin.Add site line place w vs = extend_in_place p line place w
in_own_list p bin.Mul site line place w vs = if is_whole w then repeat_in_place p place vs else binary p bin.Mul site line (ref place) w
in_own_list p op site line place w vs = binary p op site line (ref place) w

-- Adding to a list from outside, and multiplying it, is forgotten.
abbrev pub in_outside_list : Program → BinOp → (site line : ℕ) → (place : ℕ) → Value → Action Value
in_outside_list p bin.Add site line place w = gives (ref place)
in_outside_list p bin.Mul site line place w = gives (ref place)
in_outside_list p op site line place w = binary p op site line (ref place) w

abbrev pub in_place_object : Program → BinOp → (site line : ℕ) → (place : ℕ) → Value → Object → Action Value
in_place_object p op site line place w (object.list own vs) = in_own_list p op site line place w vs
in_place_object p op site line place w (object.outside (term.list t)) = in_outside_list p op site line place w
in_place_object p op site line place w o = binary p op site line (ref place) w

abbrev pub in_place : Program → BinOp → (site line : ℕ) → Value → Value → Action Value
in_place p op site line (ref place) w = at_place place (in_place_object p op site line place w)
in_place p op site line v w = binary p op site line v w

-- `target OP= value`: a step in place is at the place of the target, and its faults are at the line of the statement
abbrev pub augment : Program → BinOp → (line : ℕ) → Expr → (value : Expr) → Action (Unit {0})
augment p op line (node (tree.name n) own site) e =
    bind (load p n) (λ v. bind (eval p e) (λ w. then_do may_raise (bind (in_place p op site line v w) (store p n))))
augment p op line (node (tree.attr o n) own site) e =
    bind (eval p o) (λ q. then_do may_raise (bind (read_attribute p own q n) (λ v. bind (eval p e) (λ w. then_do may_raise (bind (in_place p op site line v w) (λ x.
    then_do may_raise (store_attribute own q n x)))))))
augment p op line (node (tree.item o i) own site) e =
    bind (eval p o) (λ q. bind (eval p i) (λ j. then_do may_raise (bind (read_item p own q j) (λ v. bind (eval p e) (λ w. then_do may_raise (bind (in_place p op site line v w) (λ x.
    then_do may_raise (store_item own q j x))))))))
augment p op line t e = done
