-- What the tables of operators give for the kinds of shapes without parts: some kinds without parts, or a fault.
use Rattle.std.proofs.Common.{◌≡◌, Bool, true, false, ◌&&◌, List, [], ◌∷◌, Option, Some, None, refl, subst}
use Rattle.std.specs.List.{Contains, list_all}
use Rattle.graph_walks.proofs.Lists.{empty, first_or_later}
use Rattle.std.proofs.Common.{◌⊎◌, inl, inr, sym}
use Rattle.place_ids.specs.declared.operators.BinOp.{BinOp}
use Rattle.place_ids.specs.declared.operators.BinOp.TheVariants as bin
use Rattle.place_ids.specs.declared.operators.UnaryOp.{UnaryOp}
use Rattle.place_ids.specs.declared.operators.UnaryOp.TheVariants as sign
use Rattle.builtin_stubs.specs.declared.basic.Basic.{Basic}
use Rattle.builtin_stubs.specs.declared.basic.Basic.TheVariants as kind
use Rattle.builtin_stubs.specs.Operators.{op_kinds, unary_kinds, order_kinds}

-- the kinds that operators give, of operands without parts
abbrev pub is_simple : Basic → Bool
is_simple kind.Bool = true
is_simple kind.Int = true
is_simple kind.Float = true
is_simple kind.Str = true
is_simple kind.Bytes = true
is_simple _ = false

-- at least one kind, and all simple; or a fault
abbrev pub are_simple : Option (List Basic) → Bool
are_simple None = true
are_simple (Some []) = false
are_simple (Some (k ∷ ks)) = list_all is_simple (k ∷ ks)

-- the kinds of shapes without parts
abbrev pub plain_kinds : List Basic
plain_kinds = kind.NoneKind ∷ kind.Bool ∷ kind.Int ∷ kind.Float ∷ kind.Str ∷ kind.Bytes ∷ kind.Other ∷ []

pub both : (a b : Bool) → (a && b) ≡ true → (a ≡ true) × (b ≡ true)
both true true h = (refl, refl)
both true false h = cc
both false b h = cc

pub each : {X : Type 0} (p : X → Bool) (xs : List X) (x : X) → list_all p xs ≡ true → Contains xs x → p x ≡ true
each p [] x h c = empty x c
each p (y ∷ xs) x h c = go (first_or_later y x xs c) (each p xs x (both (p y) (list_all p xs) h).1)
  where
    go : (x ≡ y) ⊎ Contains xs x → (Contains xs x → p x ≡ true) → p x ≡ true
    go (inl e) more = subst (λ z. p z ≡ true) (sym e) (both (p y) (list_all p xs) h).0
    go (inr d) more = more d

abbrev all_pairs : (Basic → Basic → Option (List Basic)) → Bool
all_pairs table = list_all (λ l. list_all (λ r. are_simple (table l r)) plain_kinds) plain_kinds

op_pairs : (op : BinOp) → all_pairs (op_kinds op) ≡ true
op_pairs bin.Add = refl
op_pairs bin.Sub = refl
op_pairs bin.Mul = refl
op_pairs bin.Div = refl
op_pairs bin.FloorDiv = refl
op_pairs bin.Mod = refl
op_pairs bin.MatMul = refl
op_pairs bin.Pow = refl
op_pairs bin.ShiftLeft = refl
op_pairs bin.ShiftRight = refl
op_pairs bin.BitAnd = refl
op_pairs bin.BitOr = refl
op_pairs bin.BitXor = refl

order_pairs : all_pairs order_kinds ≡ true
order_pairs = refl

pair_simple : (table : Basic → Basic → Option (List Basic)) → all_pairs table ≡ true → (l r : Basic) → Contains plain_kinds l → Contains plain_kinds r → are_simple (table l r) ≡ true
pair_simple table h l r a b = each (λ r. are_simple (table l r)) plain_kinds r (each (λ l. list_all (λ r. are_simple (table l r)) plain_kinds) plain_kinds l h a) b

pub op_simple : (op : BinOp) (l r : Basic) → Contains plain_kinds l → Contains plain_kinds r → are_simple (op_kinds op l r) ≡ true
op_simple op l r a b = pair_simple (op_kinds op) (op_pairs op) l r a b

pub order_simple : (l r : Basic) → Contains plain_kinds l → Contains plain_kinds r → are_simple (order_kinds l r) ≡ true
order_simple l r a b = pair_simple order_kinds order_pairs l r a b

unary_each : (op : UnaryOp) → list_all (λ k. are_simple (unary_kinds op k)) plain_kinds ≡ true
unary_each sign.Plus = refl
unary_each sign.Minus = refl
unary_each sign.Invert = refl

pub unary_simple : (op : UnaryOp) (k : Basic) → Contains plain_kinds k → are_simple (unary_kinds op k) ≡ true
unary_simple op k c = each (λ k. are_simple (unary_kinds op k)) plain_kinds k (unary_each op) c
