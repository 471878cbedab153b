-- What a run of a program that gives something has read, in place of how it ran.
use Rattle.std.proofs.Common.{◌≡◌, ℕ, ◌<◌, ◌||◌, Bool, true, false, nat_lt, if◌then◌else◌, Option, Some, None, refl, sym, ap, ◌∙◌, subst, arith}
use Rattle.py_tokens.specs.declared.token.TokenKind.{TokenKind}
use Rattle.py_grammar.specs.Cursor.{Cursor, past, with_site, with_fun, with_class, within}
use Rattle.py_descent.specs.Codes.{Mark, at}
use Rattle.py_descent.specs.Goals.{Goal, Value, rank}
use Rattle.py_descent.specs.Programs.{Answer, gives, refuses, Program, give, refuse, reading, choose, eat, take, site, fun_id, class_id, inside, call as look, step, Calls, bind, said, on_said, room, exec}

-- what a goal that is found is
abbrev pub Findings : Type 1
Findings = (g : Goal) → Cursor → Value g → Cursor → Type 0

-- one of two ways
pub data Way (z : Bool) (A B : Type 0) : Type 0 where
  way_yes : z ≡ true → A → Way z A B
  way_no : z ≡ false → B → Way z A B

-- what the token said, or that it said nothing
pub data Told {B : Type 0} (o : Option B) (M : B → Type 0) (N : Type 0) : Type 0 where
  told : (x : B) → o ≡ Some x → M x → Told o M N
  untold : o ≡ None → N → Told o M N

-- a goal was found, and then more
pub data After (F : Findings) (g : Goal) (c : Cursor) (M : Value g → Cursor → Type 0) : Type 0 where
  after : (v : Value g) (d : Cursor) → F g c v d → M v d → After F g c M

pub data Given {A : Type 0} (a : A) (c : Cursor) (v : A) (d : Cursor) : Type 0 where
  given : a ≡ v → c ≡ d → Given a c v d

-- a program from c that gave v at d has read this
abbrev pub means : {A : Type 0} → Findings → Program A → Cursor → A → Cursor → Type 0
means F (give a) c v d = Given a c v d
means F refuse c v d = ⊥
means F (reading k) c v d = means F (k c) c v d
means F (choose z p q) c v d = Way z (means F p c v d) (means F q c v d)
means F (eat m p q) c v d = Way (at m c) (means F p (past c) v d) (means F q c v d)
means F (take f k q) c v d = Told (said f c) (λ x. means F (k x) (past c) v d) (means F q c v d)
means F (site k) c v d = means F (k c.sites) (with_site c) v d
means F (fun_id k) c v d = means F (k c.funs) (with_fun c) v d
means F (class_id k) c v d = means F (k c.classes) (with_class c) v d
means F (inside i p) c v d = means F p (within i c) v d
means F (look g k) c v d = After F g c (λ w u. means F (k w) u v d)
means F (step g k) c v d = After F g c (λ w u. means F (k w) u v d)

-- ---- A run that gave something has read what its program means

not_gives : {A : Type 0} (a : A) (c : Cursor) → refuses ≡ gives a c → ⊥
not_gives a c e = cc

value_of : {A : Type 0} (a b : A) (c d : Cursor) → gives a c ≡ gives b d → a ≡ b
value_of a b c d e = cc

cursor_of : {A : Type 0} (a b : A) (c d : Cursor) → gives a c ≡ gives b d → c ≡ d
cursor_of a b c d e = cc

-- what each found goal is
pub record Sound (F : Findings) (calls : Calls) : Type 0 where
  pub sound : (g : Goal) (c : Cursor) (v : Value g) (d : Cursor) → calls g c ≡ gives v d → F g c v d

one_way : {A : Type 0} (z : Bool) (x y : Answer A) (v : A) (d : Cursor) (M N : Type 0) → (x ≡ gives v d → M) → (y ≡ gives v d → N) → (if z then x else y) ≡ gives v d → Way z M N
one_way true x y v d M N f g e = way_yes refl (f e)
one_way false x y v d M N f g e = way_no refl (g e)

as_told : {A B : Type 0} (o : Option B) (f : B → Answer A) (y : Answer A) (v : A) (d : Cursor) (M : B → Type 0) (N : Type 0) → ((x : B) → f x ≡ gives v d → M x) → (y ≡ gives v d → N) → on_said o f y ≡ gives v d → Told o M N
as_told None f y v d M N h k e = untold refl (k e)
as_told (Some x) f y v d M N h k e = told x refl (h x e)

only_if : {A : Type 0} (z : Bool) (x : Answer A) (v : A) (d : Cursor) → (if z then x else refuses) ≡ gives v d → x ≡ gives v d
only_if true x v d e = e
only_if false x v d e = absurd (not_gives _ _ e)

module _ (F : Findings) (calls : Calls) (ok : Sound F calls) (r : ℕ) where
  found_then : {A : Type 0} (g : Goal) (c : Cursor) (f : Value g → Cursor → Answer A) (v : A) (d : Cursor) (M : Value g → Cursor → Type 0) (q : Answer (Value g)) → calls g c ≡ q →
      ((w : Value g) (u : Cursor) → f w u ≡ gives v d → M w u) → bind q f ≡ gives v d → After F g c M
  found_then g c f v d M refuses is h e = absurd (not_gives _ _ e)
  found_then g c f v d M (gives w u) is h e = after w u (ok.sound g c w u is) (h w u e)

  pub exec_means : {A : Type 0} (b : Bool) (p : Program A) (c : Cursor) (v : A) (d : Cursor) → exec calls r b p c ≡ gives v d → means F p c v d
  exec_means b (give a) c v d e = given (value_of _ _ _ _ e) (cursor_of _ _ _ _ e)
  exec_means b refuse c v d e = not_gives _ _ e
  exec_means b (reading k) c v d e = exec_means b (k c) c v d e
  exec_means b (choose z p q) c v d e = one_way z _ _ v d _ _ (exec_means b p c v d) (exec_means b q c v d) e
  exec_means b (eat m p q) c v d e = one_way (at m c) _ _ v d _ _ (exec_means true p (past c) v d) (exec_means b q c v d) e
  exec_means b (take f k q) c v d e = as_told (said f c) _ _ v d _ _ (λ x. exec_means true (k x) (past c) v d) (exec_means b q c v d) e
  exec_means b (site k) c v d e = exec_means b (k c.sites) (with_site c) v d e
  exec_means b (fun_id k) c v d e = exec_means b (k c.funs) (with_fun c) v d e
  exec_means b (class_id k) c v d e = exec_means b (k c.classes) (with_class c) v d e
  exec_means b (inside i p) c v d e = exec_means b p (within i c) v d e
  exec_means b (look g k) c v d e = found_then g c _ v d _ (calls g c) refl (λ w u. exec_means b (k w) u v d) (only_if _ _ v d e)
  exec_means b (step g k) c v d e = found_then g c _ v d _ (calls g c) refl (λ w u h. exec_means true (k w) u v d (only_if _ _ v d h)) (only_if _ _ v d e)
