-- How tightly binary operators bind: what the descent climbs to is an operation of its level.
use Rattle.std.proofs.Common.{◌≡◌, ℕ, zero, suc, ◌+◌, ◌-◌, ◌≤◌, nat_lt, if◌then◌else◌, Bool, true, false, Option, Some, None, refl, sym, ap, ◌∙◌, subst, arith}
use Rattle.std.proofs.lemmas.Bool.Decides.{nat_tests}
use Rattle.place_ids.specs.declared.operators.BinOp.{BinOp}
use Rattle.py_tokens.specs.declared.token.TokenKind.{TokenKind}
use Rattle.py_tokens.specs.declared.token.TokenKind.TheVariants as kind
use Rattle.py_tokens.specs.declared.token.Op.{Op}
use Rattle.py_tree.specs.Tree as tree
use Rattle.py_tree.specs.Tree.{Expr}
use Rattle.py_grammar.specs.Cursor.{Cursor, past, with_site, made}
use Rattle.py_grammar.specs.Operators
use Rattle.py_grammar.specs.Operators.{IsBinary}
use Rattle.py_grammar.specs.Expressions.{IsOperation, operation_factor, operation_next, operation_binary}
use Rattle.py_descent.specs.Takings.{binary_in, of_level}
use Rattle.py_descent.specs.Goals.{operation, operations}
use Rattle.py_descent.specs.Programs.{said}
use Rattle.py_descent.specs.Bodies.{body}
use Rattle.py_descent.proofs.Means.{told, untold, after, means}
use Rattle.py_descent.proofs.Seeing.{said_is, binary_from, SaysBinary, says_binary, said_binary}
use Rattle.py_descent.proofs.Parts.{Since, since, Climbed, done}
use Rattle.py_descent.proofs.Found.{found}

level_small : (t : Op) (l : ℕ) (o : BinOp) → IsBinary t l o → l ≤ 5
level_small _ _ _ Operators.binary_or = omega arith
level_small _ _ _ Operators.binary_xor = omega arith
level_small _ _ _ Operators.binary_and = omega arith
level_small _ _ _ Operators.binary_shift_left = omega arith
level_small _ _ _ Operators.binary_shift_right = omega arith
level_small _ _ _ Operators.binary_add = omega arith
level_small _ _ _ Operators.binary_sub = omega arith
level_small _ _ _ Operators.binary_mul = omega arith
level_small _ _ _ Operators.binary_div = omega arith
level_small _ _ _ Operators.binary_floor_div = omega arith
level_small _ _ _ Operators.binary_mod = omega arith
level_small _ _ _ Operators.binary_mat_mul = omega arith

none_of : {B : Type 0} (o : Option B) → ((x : B) → o ≡ Some x → ⊥) → o ≡ None
none_of None f = refl
none_of (Some x) f = absurd (f x refl)

too_tight : (row : ℕ × BinOp) (c : Cursor) → SaysBinary 7 row c → ⊥
too_tight row c (says_binary o b r le) = let small = level_small o row.0 row.1 r in omega (arith, small, le)

-- no operator binds as a factor does
none_above : (c : Cursor) → said (binary_in 7) c ≡ None
none_above c = none_of (said (binary_in 7) c) (λ row h. too_tight row c (said_binary 7 row c h))

within_level : (k : ℕ) (row : ℕ × BinOp) → of_level (suc k) (Some row) ≡ None → row.0 ≤ k
within_level k row h = by_test (nat_lt row.0 (suc k)) refl h where
  by_test : (z : Bool) → nat_lt row.0 (suc k) ≡ z → (if z then None else Some row) ≡ None → row.0 ≤ k
  by_test true e g = grind (arith, nat_tests, e)
  by_test false e g = absurd cc

-- an operator that is no tighter one is of this level or a looser one
not_tighter : (m k : ℕ) (row : ℕ × BinOp) (c : Cursor) → said (binary_in (suc k)) c ≡ None → SaysBinary m row c → row.0 ≤ k
not_tighter m k row c h (says_binary o b r le) =
    within_level k row (ap (of_level (suc k)) (sym (binary_from o row.0 row.1 r)) ∙ sym (said_is (binary_in (suc k)) c (kind.Op o) b) ∙ h)

looser_by : (n k l : ℕ) (c : Cursor) (e : Expr) (d : Cursor) → n + l ≡ k → IsOperation k c e d → IsOperation l c e d
looser_by zero k l c e d q h = let same : k ≡ l = omega (arith, q) in subst (λ z. IsOperation z c e d) same h
looser_by (suc n) k l c e d q h = operation_next (looser_by n k (suc l) c e d (omega (arith, q)) h)

looser : (k l : ℕ) (c : Cursor) (e : Expr) (d : Cursor) → l ≤ k → IsOperation k c e d → IsOperation l c e d
looser k l c e d le h = looser_by (k - l) k l c e d (omega (arith, le)) h

pub said_at_site : {B : Type 0} (f : Option TokenKind → Option B) (c : Cursor) → said f (with_site c) ≡ said f c
unfolding said
said_at_site f c = refl

climb : (m k : ℕ) (row : ℕ × BinOp) (a c f : Cursor) (e b : Expr) → IsOperation k a e c → said (binary_in (suc k)) c ≡ None → (row.0 + 1 ≤ 6 → Climbed (row.0 + 1) (past c) b f) → SaysBinary m row c →
    (m ≤ row.0) × IsOperation row.0 a (made (tree.binary row.1 e b) a f) (with_site f) × (said (binary_in (suc row.0)) (with_site f) ≡ None)
climb m k row a c f e b h none right (says_binary o at r le) =
    let small = level_small o row.0 row.1 r in
    let found_right = right (omega (arith, small)) in
    let up : row.0 + 1 ≡ suc row.0 = omega arith in
    let left = looser k row.0 a e c (not_tighter m k row c none (says_binary o at r le)) h in
    (le, operation_binary left at r (subst (λ z. IsOperation z (past c) b f) up found_right.whole), said_at_site (binary_in (suc row.0)) f ∙ subst (λ z. said (binary_in z) f ≡ None) up found_right.ended)

pub operations_sound : (m l : ℕ) (e : Expr) (c : Cursor) (v : Expr) (d : Cursor) → means found (body (operations m l e)) c v d → (a : Cursor) (k : ℕ) → Since a l → m ≤ k → IsOperation k a e c → said (binary_in (suc k)) c ≡ None → Climbed m a v d
operations_sound m l e c v d (told row h (after b f right (after _ _ go g))) a k since le whole none =
    let next = climb m k row a c f e b whole none right (said_binary m row c h) in
    done (Climbed m a) _ _ v d (go a row.0 since next.0 next.1 next.2) g
operations_sound m l e c v d (untold h g) a k since le whole none = done (Climbed m a) _ _ v d (record { whole = looser k m a e c le whole; ended = h }) g

pub operation_sound : (m : ℕ) (c : Cursor) (v : Expr) (d : Cursor) → means found (body (operation m)) c v d → m ≤ 6 → Climbed m c v d
operation_sound m c v d (after e u h (after _ _ go g)) le = done (Climbed m c) _ _ v d (go c 6 since le (operation_factor h) (none_above u)) g
