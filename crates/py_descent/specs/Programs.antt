-- What a goal does, as a program that reads tokens with one ahead, and how programs run.
use Rattle.std.specs.Prelude.{ℕ, zero, suc, ◌+◌, ◌*◌, ◌-◌, ◌||◌, nat_lt, Bool, true, false, if◌then◌else◌, List, length, Option, Some, None}
use Rattle.py_tokens.specs.declared.token.TokenKind.{TokenKind}
use Rattle.py_grammar.specs.Cursor.{Cursor, next, past, with_site, with_fun, with_class, within}
use Rattle.py_descent.specs.Codes.{Mark, at}
use Rattle.py_descent.specs.Goals.{Goal, Value, rank}

-- a value and the cursor behind what was read, or a refusal
pub data Answer (A : Type 0) : Type 0 where
  gives : A → Cursor → Answer A
  refuses : Answer A

pub data Program (A : Type 0) : Type 1 where
  give : A → Program A
  refuse : Program A
  -- what is done next depends on the cursor
  reading : (Cursor → Program A) → Program A
  choose : Bool → Program A → Program A → Program A
  -- goes past the marked token if it is next, else goes on otherwise
  eat : Mark → Program A → Program A → Program A
  -- goes past the next token if it says something, else goes on otherwise
  take : {B : Type 0} → (Option TokenKind → Option B) → (B → Program A) → Program A → Program A
  -- takes the number of the next expression, function or class
  site fun_id class_id : (ℕ → Program A) → Program A
  -- begins or ends the body of a class
  inside : Bool → Program A → Program A
  -- looks for a goal
  call : (g : Goal) → (Value g → Program A) → Program A
  -- looks for a goal that reads at least one token
  step : (g : Goal) → (Value g → Program A) → Program A

abbrev pub Calls : Type 0
Calls = (g : Goal) → Cursor → Answer (Value g)

abbrev pub bind : {A B : Type 0} → Answer A → (A → Cursor → Answer B) → Answer B
bind (gives a c) f = f a c
bind refuses f = refuses

abbrev pub said_of : {B : Type 0} → (Option TokenKind → Option B) → Option TokenKind → Option B
said_of f None = None
said_of f (Some k) = f (Some k)

-- what the next token says
unfoldable pub said : {B : Type 0} → (Option TokenKind → Option B) → Cursor → Option B
said f c = said_of f (next c)

abbrev pub on_said : {A B : Type 0} → Option B → (B → Answer A) → Answer A → Answer A
on_said None f other = other
on_said (Some x) f other = f x

-- how many tokens are left
unfoldable pub room : Cursor → ℕ
room c = length c.tokens - c.place

-- A run of a program for a goal of rank r; b says that a token has been read since that goal was begun. A goal is
-- looked for after a token, or is of a lower rank.
abbrev pub exec : {A : Type 0} → Calls → ℕ → Bool → Program A → Cursor → Answer A
exec calls r b (give a) c = gives a c
exec calls r b refuse c = refuses
exec calls r b (reading k) c = exec calls r b (k c) c
exec calls r b (choose z p q) c = if z then exec calls r b p c else exec calls r b q c
exec calls r b (eat m p q) c = if at m c then exec calls r true p (past c) else exec calls r b q c
exec calls r b (take f k q) c = on_said (said f c) (λ x. exec calls r true (k x) (past c)) (exec calls r b q c)
exec calls r b (site k) c = exec calls r b (k c.sites) (with_site c)
exec calls r b (fun_id k) c = exec calls r b (k c.funs) (with_fun c)
exec calls r b (class_id k) c = exec calls r b (k c.classes) (with_class c)
exec calls r b (inside i p) c = exec calls r b p (within i c)
exec calls r b (call g k) c = if b || nat_lt (rank g) r then bind (calls g c) (λ v d. exec calls r b (k v) d) else refuses
exec calls r b (step g k) c = if b || nat_lt (rank g) r then bind (calls g c) (λ v d. if nat_lt (room d) (room c) then exec calls r true (k v) d else refuses) else refuses
