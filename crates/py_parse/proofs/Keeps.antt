-- The descent keeps the tokens.
use Rattle.std.proofs.Common.{◌≡◌, ℕ, zero, suc, ◌+◌, ◌*◌, ◌||◌, Bool, true, false, nat_lt, if◌then◌else◌, Option, Some, None, refl, ◌∙◌}
use Rattle.py_grammar.specs.Cursor.{Cursor, past, with_site, with_fun, with_class, within}
use Rattle.py_descent.specs.Codes.{at}
use Rattle.py_descent.specs.Goals.{Goal, rank}
use Rattle.py_descent.specs.Programs.{Answer, gives, refuses, Program, give, refuse, reading, choose, eat, take, site, fun_id, class_id, inside, call as look, step, Calls, bind, said, on_said, room, exec}
use Rattle.py_descent.specs.Bodies.{body}
use Rattle.py_descent.specs.Descent.{turns, descent}

-- what is given stands in the same tokens
pub record Keeps {A : Type 0} (c : Cursor) (x : Answer A) : Type 0 where
  pub keeps : (a : A) (d : Cursor) → x ≡ gives a d → d.tokens ≡ c.tokens

same_cursor : {A : Type 0} (a b : A) (c d : Cursor) → gives a c ≡ gives b d → d.tokens ≡ c.tokens
same_cursor a b c d h = let same : c ≡ d = cc in cc

gives_keeps : {A : Type 0} (a : A) (c d : Cursor) → d.tokens ≡ c.tokens → Keeps c (gives a d)
gives_keeps a c d h = record { keeps = λ b e s. same_cursor a b d e s ∙ h }

refuses_keeps : {A : Type 0} (c : Cursor) → Keeps {A = A} c refuses
refuses_keeps c = record { keeps = λ a d h. absurd cc }

keeps_along : {A : Type 0} (c d : Cursor) (x : Answer A) → d.tokens ≡ c.tokens → Keeps d x → Keeps c x
keeps_along c d x same h = record { keeps = λ a e s. h.keeps a e s ∙ same }

bind_keeps : {A B : Type 0} (c : Cursor) (x : Answer A) (f : A → Cursor → Answer B) → Keeps c x → ((a : A) (d : Cursor) → Keeps d (f a d)) → Keeps c (bind x f)
bind_keeps c (gives a d) f h k = keeps_along c d (f a d) (h.keeps a d refl) (k a d)
bind_keeps c refuses f h k = refuses_keeps c

if_keeps : {A : Type 0} (c : Cursor) (z : Bool) (x y : Answer A) → Keeps c x → Keeps c y → Keeps c (if z then x else y)
if_keeps c true x y h k = h
if_keeps c false x y h k = k

said_keeps : {A B : Type 0} (c : Cursor) (o : Option B) (f : B → Answer A) (y : Answer A) → ((x : B) → Keeps c (f x)) → Keeps c y → Keeps c (on_said o f y)
said_keeps c None f y h k = k
said_keeps c (Some x) f y h k = h x

exec_keeps : {A : Type 0} (calls : Calls) → ((g : Goal) (c : Cursor) → Keeps c (calls g c)) → (r : ℕ) (b : Bool) (p : Program A) (c : Cursor) → Keeps c (exec calls r b p c)
exec_keeps calls h r b (give a) c = gives_keeps a c c refl
exec_keeps calls h r b refuse c = refuses_keeps c
exec_keeps calls h r b (reading k) c = exec_keeps calls h r b (k c) c
exec_keeps calls h r b (choose z p q) c = if_keeps c z _ _ (exec_keeps calls h r b p c) (exec_keeps calls h r b q c)
exec_keeps calls h r b (eat m p q) c = if_keeps c (at m c) _ _ (keeps_along c (past c) _ refl (exec_keeps calls h r true p (past c))) (exec_keeps calls h r b q c)
exec_keeps calls h r b (take f k q) c = said_keeps c (said f c) _ _ (λ x. keeps_along c (past c) _ refl (exec_keeps calls h r true (k x) (past c))) (exec_keeps calls h r b q c)
exec_keeps calls h r b (site k) c = keeps_along c (with_site c) _ refl (exec_keeps calls h r b (k c.sites) (with_site c))
exec_keeps calls h r b (fun_id k) c = keeps_along c (with_fun c) _ refl (exec_keeps calls h r b (k c.funs) (with_fun c))
exec_keeps calls h r b (class_id k) c = keeps_along c (with_class c) _ refl (exec_keeps calls h r b (k c.classes) (with_class c))
exec_keeps calls h r b (inside i p) c = keeps_along c (within i c) _ refl (exec_keeps calls h r b p (within i c))
exec_keeps calls h r b (look g k) c = if_keeps c (b || nat_lt (rank g) r) _ _ (bind_keeps c (calls g c) _ (h g c) (λ v d. exec_keeps calls h r b (k v) d)) (refuses_keeps c)
exec_keeps calls h r b (step g k) c = if_keeps c (b || nat_lt (rank g) r) _ _ (bind_keeps c (calls g c) _ (h g c) (λ v d. if_keeps d (nat_lt (room d) (room c)) _ _ (exec_keeps calls h r true (k v) d) (refuses_keeps d))) (refuses_keeps c)

turns_keeps : (n : ℕ) (g : Goal) (c : Cursor) → Keeps c (turns n g c)
turns_keeps zero g c = refuses_keeps c
turns_keeps (suc n) g c = exec_keeps (turns n) (turns_keeps n) (rank g) false (body g) c

pub descent_keeps : (g : Goal) (c : Cursor) → Keeps c (descent g c)
unfolding descent
descent_keeps g c = turns_keeps (suc (room c * 64 + rank g)) g c
