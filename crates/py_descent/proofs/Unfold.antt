-- The descent goes by its bodies: how deep it may go never shows.
use Rattle.std.proofs.Common.{◌≡◌, ℕ, zero, suc, ◌+◌, ◌-◌, ◌*◌, ◌<◌, ◌≤◌, ◌||◌, Bool, true, false, nat_lt, if◌then◌else◌, List, length, slice_get, Option, Some, None, refl, sym, ap, ◌∙◌, arith}
use Rattle.std.proofs.lemmas.Bool.Decides.{nat_tests}
use Rattle.std.proofs.lemmas.Option.{slice_get_within}
use Rattle.py_tokens.specs.declared.token.Token.{Token}
use Rattle.py_tokens.specs.declared.token.TokenKind.{TokenKind}
use Rattle.py_grammar.specs.Cursor.{Cursor, next, kind_in, past, with_site, with_fun, with_class, within}
use Rattle.py_descent.specs.Codes.{Mark, is_in, at}
use Rattle.py_descent.specs.Goals.{Goal, Value, rank, name, plain_name, dots, dotted, part, parts, annotation, item, items, hint, result, strings, octets, literal, super_rest, variable, atom, call_rest, subscript, slice, trailers, primary, power, factor, operations, operation, compare_operator, comparison, inversion, conjunctions, conjunction, disjunctions, disjunction, choice, test, tests_after, more_tests, tests, bounds, stride, argument, arguments, group, list_display, dict_display, pairs, import_part, imports, from_part, froms, return_rest, raise_rest, assert_rest, from_rest, assignment, assigned, annotated, simple_kind, simple, line, param, params, base, function, definition, class_rest, class_member, entry, class_body, entries, for_targets, more_targets, if_rest, while_rest, for_rest, try_rest, else_rest, caught, compound, block, elifs, handlers, statement, statements}
use Rattle.py_descent.specs.Programs.{Answer, gives, refuses, Program, give, refuse, reading, choose, eat, take, site, fun_id, class_id, inside, call as look, step, Calls, bind, said, said_of, on_said, room, exec}
use Rattle.py_descent.specs.Bodies.{body}
use Rattle.py_descent.specs.Descent.{turns, descent}

abbrev weight : Goal → Cursor → ℕ
weight g c = room c * 64 + rank g

rank_small : (g : Goal) → rank g < 64
rank_small name = omega arith
rank_small plain_name = omega arith
rank_small (dots ns) = omega arith
rank_small dotted = omega arith
rank_small part = omega arith
rank_small parts = omega arith
rank_small annotation = omega arith
rank_small item = omega arith
rank_small items = omega arith
rank_small hint = omega arith
rank_small result = omega arith
rank_small (strings empty) = omega arith
rank_small (octets empty) = omega arith
rank_small literal = omega arith
rank_small (super_rest l) = omega arith
rank_small (variable l) = omega arith
rank_small atom = omega arith
rank_small (call_rest l e) = omega arith
rank_small (subscript l e) = omega arith
rank_small (slice l e b) = omega arith
rank_small (trailers l e) = omega arith
rank_small primary = omega arith
rank_small power = omega arith
rank_small factor = omega arith
rank_small (operations n l e) = omega arith
rank_small (operation n) = omega arith
rank_small compare_operator = omega arith
rank_small comparison = omega arith
rank_small inversion = omega arith
rank_small (conjunctions l e) = omega arith
rank_small conjunction = omega arith
rank_small (disjunctions l e) = omega arith
rank_small disjunction = omega arith
rank_small (choice l e) = omega arith
rank_small test = omega arith
rank_small (tests_after l e) = omega arith
rank_small (more_tests es) = omega arith
rank_small tests = omega arith
rank_small bounds = omega arith
rank_small stride = omega arith
rank_small (argument b) = omega arith
rank_small (arguments b as') = omega arith
rank_small (group l) = omega arith
rank_small (list_display l) = omega arith
rank_small (dict_display l) = omega arith
rank_small (pairs ps) = omega arith
rank_small import_part = omega arith
rank_small (imports ps) = omega arith
rank_small from_part = omega arith
rank_small (froms b ps) = omega arith
rank_small return_rest = omega arith
rank_small raise_rest = omega arith
rank_small assert_rest = omega arith
rank_small from_rest = omega arith
rank_small assignment = omega arith
rank_small (assigned es) = omega arith
rank_small (annotated e) = omega arith
rank_small simple_kind = omega arith
rank_small simple = omega arith
rank_small (line ss) = omega arith
rank_small (param b) = omega arith
rank_small (params b ps) = omega arith
rank_small base = omega arith
rank_small (function l n) = omega arith
rank_small definition = omega arith
rank_small class_rest = omega arith
rank_small class_member = omega arith
rank_small entry = omega arith
rank_small class_body = omega arith
rank_small (entries ms) = omega arith
rank_small for_targets = omega arith
rank_small (more_targets es) = omega arith
rank_small if_rest = omega arith
rank_small while_rest = omega arith
rank_small for_rest = omega arith
rank_small try_rest = omega arith
rank_small else_rest = omega arith
rank_small caught = omega arith
rank_small compound = omega arith
rank_small block = omega arith
rank_small (elifs as') = omega arith
rank_small (handlers hs) = omega arith
rank_small (statement b ss) = omega arith
rank_small (statements b ss) = omega arith

-- ---- A token that is read is one less

in_bounds : (ts : List Token) (n : ℕ) (t : TokenKind) → kind_in (slice_get ts n) ≡ Some t → n < length ts
in_bounds ts n t h = in_range (slice_get ts n) refl h where
  in_range : (o : Option Token) → slice_get ts n ≡ o → kind_in o ≡ Some t → n < length ts
  in_range None q e = absurd cc
  in_range (Some u) q e = slice_get_within ts n u q

-- which of two cases there is a next token or not
data Ahead (c : Cursor) : Type 0 where
  one : (t : TokenKind) → next c ≡ Some t → Ahead c
  none : next c ≡ None → Ahead c

ahead_of : (c : Cursor) (o : Option TokenKind) → next c ≡ o → Ahead c
ahead_of c None h = none h
ahead_of c (Some t) h = one t h

passed : (c : Cursor) (t : TokenKind) → next c ≡ Some t → room (past c) + 1 ≡ room c
unfolding room
passed c t h = omega (arith, in_bounds c.tokens c.place t h)

pub eaten : (m : Mark) (c : Cursor) → at m c ≡ true → room (past c) + 1 ≡ room c
unfolding at
eaten m c h = by_ahead (ahead_of c (next c) refl) where
  by_ahead : Ahead c → room (past c) + 1 ≡ room c
  by_ahead (one t e) = passed c t e
  by_ahead (none e) = absurd (not_none (ap (is_in m) e)) where
    not_none : is_in m (next c) ≡ false → ⊥
    not_none f = cc

pub taken : {B : Type 0} (f : Option TokenKind → Option B) (x : B) (c : Cursor) → said f c ≡ Some x → room (past c) + 1 ≡ room c
unfolding said
taken f x c h = by_ahead (ahead_of c (next c) refl) where
  by_ahead : Ahead c → room (past c) + 1 ≡ room c
  by_ahead (one t e) = passed c t e
  by_ahead (none e) = absurd (not_none (ap (said_of f) e)) where
    not_none : said_of f (next c) ≡ None → ⊥
    not_none g = cc

-- ---- What is left only shrinks

not_gives : {A : Type 0} (a : A) (c : Cursor) → refuses ≡ gives a c → ⊥
not_gives a c e = cc

same_cursor : {A : Type 0} (a b : A) (c d : Cursor) → gives a c ≡ gives b d → c ≡ d
same_cursor a b c d e = cc

-- which calls shrink what is left
pub record Shrinks (calls : Calls) : Type 0 where
  pub shrinks : (g : Goal) (c : Cursor) (v : Value g) (d : Cursor) → calls g c ≡ gives v d → room d ≤ room c

-- where the answer gives something, no more is left than there was
abbrev ShrinksTo : {A : Type 0} → ℕ → Answer A → Type 0
ShrinksTo n q = (v : _) (d : Cursor) → q ≡ gives v d → room d ≤ n

shrinks_none : {A : Type 0} (n : ℕ) → ShrinksTo {A = A} n refuses
shrinks_none n v d e = absurd (not_gives _ _ e)

shrinks_if : {A : Type 0} (n : ℕ) (z : Bool) (x y : Answer A) → (z ≡ true → ShrinksTo n x) → ShrinksTo n y → ShrinksTo n (if z then x else y)
shrinks_if n true x y f g = f refl
shrinks_if n false x y f g = g

shrinks_said : {A B : Type 0} (n : ℕ) (o : Option B) (f : B → Answer A) (y : Answer A) → ((x : B) → o ≡ Some x → ShrinksTo n (f x)) → ShrinksTo n y → ShrinksTo n (on_said o f y)
shrinks_said n None f y h k = k
shrinks_said n (Some x) f y h k = h x refl

shrinks_bind : {A B : Type 0} (n : ℕ) (q : Answer A) (f : A → Cursor → Answer B) → ShrinksTo n q → ((a : A) (u : Cursor) → ShrinksTo (room u) (f a u)) → ShrinksTo n (bind q f)
shrinks_bind n refuses f h k v d e = absurd (not_gives _ _ e)
shrinks_bind n (gives a u) f h k v d e = let small = k a u v d e in omega (arith, small, h a u refl)

shrinks_less : {A : Type 0} (n m : ℕ) (q : Answer A) → m ≤ n → ShrinksTo m q → ShrinksTo n q
shrinks_less n m q le h v d e = let small = h v d e in omega (arith, small, le)

module _ (calls : Calls) (sh : Shrinks calls) (r : ℕ) where
  exec_shrinks : {A : Type 0} (b : Bool) (p : Program A) (c : Cursor) → ShrinksTo (room c) (exec calls r b p c)
  unfolding room
  exec_shrinks b (give a) c = λ v d e. let same = ap room (same_cursor _ _ _ _ e) in omega (arith, same)
  exec_shrinks b refuse c = shrinks_none (room c)
  exec_shrinks b (reading k) c = exec_shrinks b (k c) c
  exec_shrinks b (choose z p q) c = shrinks_if (room c) z _ _ (λ h. exec_shrinks b p c) (exec_shrinks b q c)
  exec_shrinks b (eat m p q) c = shrinks_if (room c) (at m c) _ _
      (λ h. shrinks_less (room c) (room (past c)) _ (omega (arith, eaten m c h)) (exec_shrinks true p (past c)))
      (exec_shrinks b q c)
  exec_shrinks b (take f k q) c = shrinks_said (room c) (said f c) _ _
      (λ x h. shrinks_less (room c) (room (past c)) _ (omega (arith, taken f x c h)) (exec_shrinks true (k x) (past c)))
      (exec_shrinks b q c)
  exec_shrinks b (site k) c = exec_shrinks b (k c.sites) (with_site c)
  exec_shrinks b (fun_id k) c = exec_shrinks b (k c.funs) (with_fun c)
  exec_shrinks b (class_id k) c = exec_shrinks b (k c.classes) (with_class c)
  exec_shrinks b (inside i p) c = exec_shrinks b p (within i c)
  exec_shrinks b (look g k) c = shrinks_if (room c) (b || nat_lt (rank g) r) _ _
      (λ h. shrinks_bind (room c) (calls g c) _ (sh.shrinks g c) (λ a u. exec_shrinks b (k a) u))
      (shrinks_none (room c))
  exec_shrinks b (step g k) c = shrinks_if (room c) (b || nat_lt (rank g) r) _ _
      (λ h. shrinks_bind (room c) (calls g c) _ (sh.shrinks g c) (λ a u. shrinks_if (room u) (nat_lt (room u) (room c)) _ _ (λ l. exec_shrinks true (k a) u) (shrinks_none (room u))))
      (shrinks_none (room c))

turns_shrink : (n : ℕ) → Shrinks (turns n)
turns_shrink zero = record { shrinks = λ g c v d e. absurd (not_gives _ _ e) }
turns_shrink (suc n) = record { shrinks = λ g c v d e. exec_shrinks (turns n) (turns_shrink n) (rank g) false (body g) c v d e }

-- ---- With turns enough, more change nothing

alike_if : {A : Type 0} (z : Bool) (x y x' y' : Answer A) → (z ≡ true → x ≡ x') → y ≡ y' → (if z then x else y) ≡ (if z then x' else y')
alike_if true x y x' y' f g = f refl
alike_if false x y x' y' f g = g

alike_said : {A B : Type 0} (o : Option B) (f f' : B → Answer A) (y y' : Answer A) → ((x : B) → o ≡ Some x → f x ≡ f' x) → y ≡ y' → on_said o f y ≡ on_said o f' y'
alike_said None f f' y y' h k = k
alike_said (Some x) f f' y y' h k = h x refl

alike_bind : {A B : Type 0} (q q' : Answer A) (f f' : A → Cursor → Answer B) → q ≡ q' → ((a : A) (u : Cursor) → q ≡ gives a u → f a u ≡ f' a u) → bind q f ≡ bind q' f'
alike_bind refuses q' f f' e h = ap (λ z. bind z f') e
alike_bind (gives a u) q' f f' e h = h a u refl ∙ ap (λ z. bind z f') e

-- two that answer alike where less than w is left
record Alike (w : ℕ) (calls others : Calls) : Type 0 where
  alike : (g : Goal) (c : Cursor) → weight g c < w → calls g c ≡ others g c

abbrev due : Bool → ℕ → ℕ
due true r = 64
due false r = r

allowed : (b : Bool) (g : Goal) (r : ℕ) → (b || nat_lt (rank g) r) ≡ true → rank g < due b r
allowed true g r h = rank_small g
allowed false g r h = grind (arith, nat_tests, h)

less_room : (n m : ℕ) → nat_lt n m ≡ true → n < m
less_room n m h = grind (arith, nat_tests, h)

one_less : (b : Bool) (n m r w : ℕ) → n + 1 ≡ m → m * 64 + due b r ≤ w → n * 64 + 64 ≤ w
one_less b n m r w h le = omega (arith, h, le)

some_less : (b : Bool) (n m r w : ℕ) → n < m → m * 64 + due b r ≤ w → n * 64 + 64 ≤ w
some_less b n m r w h le = omega (arith, h, le)

module _ (w : ℕ) (calls others : Calls) (sh : Shrinks calls) (same : Alike w calls others) (r : ℕ) where
  exec_alike : {A : Type 0} (b : Bool) (p : Program A) (c : Cursor) → room c * 64 + due b r ≤ w → exec calls r b p c ≡ exec others r b p c
  unfolding room
  exec_alike b (give a) c le = refl
  exec_alike b refuse c le = refl
  exec_alike b (reading k) c le = exec_alike b (k c) c le
  exec_alike b (choose z p q) c le = alike_if z _ _ _ _ (λ h. exec_alike b p c le) (exec_alike b q c le)
  exec_alike b (eat m p q) c le = alike_if (at m c) _ _ _ _ (λ h. exec_alike true p (past c) (one_less b (room (past c)) (room c) r w (eaten m c h) le)) (exec_alike b q c le)
  exec_alike b (take f k q) c le = alike_said (said f c) _ _ _ _ (λ x h. exec_alike true (k x) (past c) (one_less b (room (past c)) (room c) r w (taken f x c h) le)) (exec_alike b q c le)
  exec_alike b (site k) c le = exec_alike b (k c.sites) (with_site c) le
  exec_alike b (fun_id k) c le = exec_alike b (k c.funs) (with_fun c) le
  exec_alike b (class_id k) c le = exec_alike b (k c.classes) (with_class c) le
  exec_alike b (inside i p) c le = exec_alike b p (within i c) le
  exec_alike b (look g k) c le = alike_if (b || nat_lt (rank g) r) _ _ _ _
      (λ h. alike_bind (calls g c) (others g c) _ _ (same.alike g c (omega (arith, le, allowed b g r h)))
      (λ a u q. exec_alike b (k a) u (omega (arith, le, sh.shrinks g c a u q))))
      refl
  exec_alike b (step g k) c le = alike_if (b || nat_lt (rank g) r) _ _ _ _
      (λ h. alike_bind (calls g c) (others g c) _ _ (same.alike g c (omega (arith, le, allowed b g r h)))
      (λ a u q. alike_if (nat_lt (room u) (room c)) _ _ _ _ (λ l. exec_alike true (k a) u (some_less b (room u) (room c) r w (less_room _ _ l) le)) refl))
      refl

turns_alike : (n m : ℕ) (g : Goal) (c : Cursor) → weight g c < n → weight g c < m → turns n g c ≡ turns m g c
turns_alike zero m g c h k = absurd (omega (arith, h))
turns_alike (suc n) zero g c h k = absurd (omega (arith, k))
turns_alike (suc n) (suc m) g c h k =
    exec_alike (weight g c) (turns n) (turns m) (turns_shrink n)
    (record { alike = λ g' c' less. turns_alike n m g' c' (omega (arith, less, h)) (omega (arith, less, k)) })
    (rank g) false (body g) c (omega arith)

pub descends : (g : Goal) (c : Cursor) → descent g c ≡ exec descent (rank g) false (body g) c
unfolding descent
descends g c =
    exec_alike (weight g c) (turns (weight g c)) descent (turns_shrink (weight g c))
    (record { alike = λ g' c' less. turns_alike (weight g c) (suc (weight g' c')) g' c' less (omega arith) })
    (rank g) false (body g) c (omega arith)

pub descent_shrinks : Shrinks descent
unfolding descent
descent_shrinks = record { shrinks = λ g c v d e. (turns_shrink (suc (weight g c))).shrinks g c v d e }
