-- How a run of a program goes, step by step, to what it gives.
use Rattle.std.proofs.Common.{◌≡◌, ℕ, ◌<◌, ◌||◌, Bool, true, false, nat_lt, if◌then◌else◌, Option, Some, None, refl, sym, ap, ◌∙◌, subst, arith}
use Rattle.std.proofs.lemmas.Bool.Decides.{nat_tests}
use Rattle.py_grammar.specs.Cursor.{Cursor, past, with_site, with_fun, with_class, within}
use Rattle.py_descent.specs.Codes.{Mark, at}
use Rattle.py_descent.specs.Goals.{Goal, Value, rank}
use Rattle.py_descent.specs.Programs.{Answer, gives, refuses, Program, give, refuse, reading, choose, eat, take, site, fun_id, class_id, inside, call as look, step, bind, said, on_said, room, exec}
use Rattle.py_descent.specs.Bodies.{body}
use Rattle.py_descent.specs.Descent.{descent}
use Rattle.py_descent.proofs.Means.{Way, way_yes, way_no, Told, told, untold, Given, given}
use Rattle.py_descent.proofs.Unfold.{descends}

-- a goal is looked for, is found, and then the run goes on
pub data Called (ok : Bool) (g : Goal) (c : Cursor) (M : Value g → Cursor → Type 0) : Type 0 where
  called : ok ≡ true → (v : Value g) (d : Cursor) → descent g c ≡ gives v d → M v d → Called ok g c M

-- the same, where tokens were read
pub data Stepped (ok : Bool) (g : Goal) (c : Cursor) (M : Value g → Cursor → Type 0) : Type 0 where
  stepped : ok ≡ true → (v : Value g) (d : Cursor) → descent g c ≡ gives v d → room d < room c → M v d → Stepped ok g c M

-- a program for a goal of rank r goes from c to d and gives v; b says that a token has been read before
abbrev pub does : {A : Type 0} → ℕ → Bool → Program A → Cursor → A → Cursor → Type 0
does r b (give a) c v d = Given a c v d
does r b refuse c v d = ⊥
does r b (reading k) c v d = does r b (k c) c v d
does r b (choose z p q) c v d = Way z (does r b p c v d) (does r b q c v d)
does r b (eat m p q) c v d = Way (at m c) (does r true p (past c) v d) (does r b q c v d)
does r b (take f k q) c v d = Told (said f c) (λ x. does r true (k x) (past c) v d) (does r b q c v d)
does r b (site k) c v d = does r b (k c.sites) (with_site c) v d
does r b (fun_id k) c v d = does r b (k c.funs) (with_fun c) v d
does r b (class_id k) c v d = does r b (k c.classes) (with_class c) v d
does r b (inside i p) c v d = does r b p (within i c) v d
does r b (look g k) c v d = Called (b || nat_lt (rank g) r) g c (λ w u. does r b (k w) u v d)
does r b (step g k) c v d = Stepped (b || nat_lt (rank g) r) g c (λ w u. does r true (k w) u v d)

one_does : {A : Type 0} (z : Bool) (x y q : Answer A) (M N : Type 0) → (M → x ≡ q) → (N → y ≡ q) → Way z M N → (if z then x else y) ≡ q
one_does z x y q M N f g (way_yes is m) = subst (λ w. (if w then x else y) ≡ q) (sym is) (f m)
one_does z x y q M N f g (way_no is n) = subst (λ w. (if w then x else y) ≡ q) (sym is) (g n)

told_does : {A B : Type 0} (o : Option B) (f : B → Answer A) (y q : Answer A) (M : B → Type 0) (N : Type 0) → ((x : B) → M x → f x ≡ q) → (N → y ≡ q) → Told o M N → on_said o f y ≡ q
told_does o f y q M N h k (told x is m) = ap (λ z. on_said z f y) is ∙ h x m
told_does o f y q M N h k (untold is n) = ap (λ z. on_said z f y) is ∙ k n

if_so : {A : Type 0} (z : Bool) (x y q : Answer A) → z ≡ true → x ≡ q → (if z then x else y) ≡ q
if_so z x y q is e = subst (λ w. (if w then x else y) ≡ q) (sym is) e

less_is : (n m : ℕ) → n < m → nat_lt n m ≡ true
less_is n m h = grind (arith, nat_tests, h)

called_does : {A : Type 0} (ok : Bool) (g : Goal) (c : Cursor) (f : Value g → Cursor → Answer A) (q : Answer A) (M : Value g → Cursor → Type 0) → ((w : Value g) (u : Cursor) → M w u → f w u ≡ q) → Called ok g c M →
    (if ok then bind (descent g c) f else refuses) ≡ q
called_does ok g c f q M h (called is w u e m) = if_so ok _ _ q is (ap (λ z. bind z f) e ∙ h w u m)

stepped_does : {A : Type 0} (ok : Bool) (g : Goal) (c : Cursor) (f : Value g → Cursor → Answer A) (q : Answer A) (M : Value g → Cursor → Type 0) → ((w : Value g) (u : Cursor) → M w u → f w u ≡ q) → Stepped ok g c M →
    (if ok then bind (descent g c) (λ w u. if nat_lt (room u) (room c) then f w u else refuses) else refuses) ≡ q
stepped_does ok g c f q M h (stepped is w u e less m) = if_so ok _ _ q is (ap (λ z. bind z (λ w u. if nat_lt (room u) (room c) then f w u else refuses)) e ∙ if_so (nat_lt (room u) (room c)) _ _ q (less_is _ _ less) (h w u m))

exec_does : {A : Type 0} (r : ℕ) (b : Bool) (p : Program A) (c : Cursor) (v : A) (d : Cursor) → does r b p c v d → exec descent r b p c ≡ gives v d
exec_does r b (give a) c v d (given same at') = ap (λ z. gives z c) same ∙ ap (gives v) at'
exec_does r b refuse c v d h = absurd h
exec_does r b (reading k) c v d h = exec_does r b (k c) c v d h
exec_does r b (choose z p q) c v d h = one_does z _ _ (gives v d) _ _ (exec_does r b p c v d) (exec_does r b q c v d) h
exec_does r b (eat m p q) c v d h = one_does (at m c) _ _ (gives v d) _ _ (exec_does r true p (past c) v d) (exec_does r b q c v d) h
exec_does r b (take f k q) c v d h = told_does (said f c) _ _ (gives v d) _ _ (λ x. exec_does r true (k x) (past c) v d) (exec_does r b q c v d) h
exec_does r b (site k) c v d h = exec_does r b (k c.sites) (with_site c) v d h
exec_does r b (fun_id k) c v d h = exec_does r b (k c.funs) (with_fun c) v d h
exec_does r b (class_id k) c v d h = exec_does r b (k c.classes) (with_class c) v d h
exec_does r b (inside i p) c v d h = exec_does r b p (within i c) v d h
exec_does r b (look g k) c v d h = called_does (b || nat_lt (rank g) r) g c _ (gives v d) _ (λ w u. exec_does r b (k w) u v d) h
exec_does r b (step g k) c v d h = stepped_does (b || nat_lt (rank g) r) g c _ (gives v d) _ (λ w u. exec_does r true (k w) u v d) h

-- a goal is found as its program goes
pub found_by : (g : Goal) (c : Cursor) (v : Value g) (d : Cursor) → does (rank g) false (body g) c v d → descent g c ≡ gives v d
found_by g c v d h = descends g c ∙ exec_does (rank g) false (body g) c v d h
