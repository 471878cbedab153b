-- Seats while walks go on: a shape that changes is that of one variable alone.
use Rattle.std.proofs.Common.{◌≡◌, ◌≢◌, ℕ, zero, suc, ◌<◌, ◌≤◌, Bool, true, false, ◌&&◌, ◌==◌, Some, None, List, [], ◌∷◌, ◌++◌, length, slice_get, refl, sym, ap, subst, ◌∙◌, arith, if◌then◌else◌}
use Rattle.std.proofs.lemmas.Bool.Decides.{nat_tests}
use Rattle.abstract_shapes.specs.Shapes.{Shape}
use Rattle.world_rules.specs.Places.{Context, Variable, slot, global, slots_left, same_context, same_variable}
use Rattle.world_rules.specs.Memories.{updated}
use Rattle.world_rules.proofs.Same.{variable_same, variable_equal}
use Rattle.py_meaning.specs.Values.{Value, Entries, entry, with_entry, without_entry}
use Rattle.py_meaning.specs.Objects.{Object}
use Rattle.world_covering.specs.Standing.{Grows}
use Rattle.world_covering.specs.Keeping.{Shapes, IsSeated, AreSeated}
use Rattle.world_covering.proofs.Growing.{stands_on}

pub some_same : {A : Type 0} {x y : A} → Some x ≡ Some y → x ≡ y
some_same e = cc

is_number : (n k : ℕ) → (n == k) ≡ true → n ≡ k
is_number n k e = grind (arith, nat_tests)

other_number : (n k : ℕ) → k < n → (n == k) ≡ false
other_number n k lt = grind (arith, nat_tests)

no_number : (n k : ℕ) → (n == k) ≡ false → n ≢ k
no_number n k e = grind (arith, nat_tests)

-- ---- the slots of a stack

pub seat_on : (shapes : Shapes) (h j : List Object) (x : Variable) (v : Value) → Grows h j → IsSeated shapes h x v → IsSeated shapes j x v
seat_on shapes h j x v g a = record { shape = a.shape; has = a.has; stands = stands_on h j v a.shape g a.stands }

pub seats_on : (c : Context) (shapes : Shapes) (h j : List Object) (stack : List Value) → Grows h j → AreSeated c shapes h stack → AreSeated c shapes j stack
seats_on c shapes h j [] g a = tt
seats_on c shapes h j (v ∷ stack) g a = (seat_on shapes h j (slot c (length stack)) v g a.0, seats_on c shapes h j stack g a.1)

-- the slots below a slot that changes
module _ (c : Context) (shapes : Shapes) (n : ℕ) (t : Shape) where
  other_slot : (k : ℕ) → k < n → updated shapes (slot c n) t (slot c k) ≡ shapes (slot c k)
  other_slot k lt = go (same_context c c) (other_number n k lt)
    where
      go : (b : Bool) → (n == k) ≡ false → (if b && (n == k) then Some t else shapes (slot c k)) ≡ shapes (slot c k)
      go true e = ap (λ z. if z then Some t else shapes (slot c k)) e
      go false e = refl

  pub seats_below : (heap : List Object) (stack : List Value) → length stack ≤ n → AreSeated c shapes heap stack → AreSeated c (updated shapes (slot c n) t) heap stack
  seats_below heap [] le a = tt
  seats_below heap (v ∷ stack) le a =
      (record { shape = a.0.shape; has = other_slot (length stack) (omega (arith, le)) ∙ a.0.has; stands = a.0.stands }, seats_below heap stack (omega (arith, le)) a.1)

pub at_new : (shapes : Shapes) (x : Variable) (t : Shape) → updated shapes x t x ≡ Some t
at_new shapes x t = ap (λ z. if z then Some t else shapes x) (variable_same x)

-- a global that changes is none of a stack's slots
pub seats_beside : (c : Context) (shapes : Shapes) (n : ℕ) (t : Shape) (heap : List Object) (stack : List Value) → AreSeated c shapes heap stack → AreSeated c (updated shapes (global n) t) heap stack
seats_beside c shapes n t heap [] a = tt
seats_beside c shapes n t heap (v ∷ stack) a = (record { shape = a.0.shape; has = a.0.has; stands = a.0.stands }, seats_beside c shapes n t heap stack a.1)

-- the lower part of a stack
pub seats_under : (c : Context) (shapes : Shapes) (heap : List Object) (above stack : List Value) → AreSeated c shapes heap (above ++ stack) → AreSeated c shapes heap stack
seats_under c shapes heap [] stack a = a
seats_under c shapes heap (v ∷ above) stack a = seats_under c shapes heap above stack a.1

-- a value of a stack, by how far below the top it is
pub seat_of : (c : Context) (shapes : Shapes) (heap : List Object) (stack : List Value) (below : ℕ) (v : Value) → slice_get stack below ≡ Some v → AreSeated c shapes heap stack → IsSeated shapes heap (slot c (slots_left (length stack) (suc below))) v
seat_of c shapes heap [] below v e a = cc
seat_of c shapes heap (w ∷ stack) zero v e a = let same : w ≡ v = cc in subst (λ z. IsSeated shapes heap (slot c (length stack)) z) same a.0
seat_of c shapes heap (w ∷ stack) (suc below) v e a = seat_of c shapes heap stack below v e a.1

-- ---- the entries of names

pub data Stored (es : Entries) (n : ℕ) (v : Value) (k : ℕ) (u : Value) : Type 0 where
  new : k ≡ n → v ≡ u → Stored es n v k u
  old : (n == k) ≡ false → entry es k ≡ Some u → Stored es n v k u

pub stored : (es : Entries) (n k : ℕ) (v u : Value) → entry (with_entry es n v) k ≡ Some u → Stored es n v k u
stored [] n k v u h = go (n == k) refl h
  where
    go : (b : Bool) → (n == k) ≡ b → (if b then Some v else None) ≡ Some u → Stored [] n v k u
    go true e h = new (sym (is_number n k e)) (some_same h)
    go false e h = cc
stored (e ∷ es) n k v u h = first (e.0 == n) refl h (stored es n k v u)
  where
    here : (b : Bool) → (n == k) ≡ b → e.0 ≡ n → (if b then Some v else entry es k) ≡ Some u → Stored (e ∷ es) n v k u
    here true q i h = new (sym (is_number n k q)) (some_same h)
    here false q i h = old q (ap (λ b. if b then Some e.1 else entry es k) (ap (λ z. z == k) i ∙ q) ∙ h)

    there : (b : Bool) → (e.0 == k) ≡ b → (e.0 == n) ≡ false → (if b then Some e.1 else entry (with_entry es n v) k) ≡ Some u → (entry (with_entry es n v) k ≡ Some u → Stored es n v k u) → Stored (e ∷ es) n v k u
    there true q i h more = old (differs (n == k) refl) (ap (λ b. if b then Some e.1 else entry es k) q ∙ h)
      where
        differs : (b : Bool) → (n == k) ≡ b → (n == k) ≡ false
        differs true r = absurd (no_number e.0 n i (is_number e.0 k q ∙ sym (is_number n k r)))
        differs false r = r
    there false q i h more = again (more h)
      where
        again : Stored es n v k u → Stored (e ∷ es) n v k u
        again (new a b) = new a b
        again (old a b) = old a (ap (λ b. if b then Some e.1 else entry es k) q ∙ b)

    first : (b : Bool) → (e.0 == n) ≡ b → entry (if b then (n, v) ∷ es else e ∷ with_entry es n v) k ≡ Some u → (entry (with_entry es n v) k ≡ Some u → Stored es n v k u) → Stored (e ∷ es) n v k u
    first true q h more = here (n == k) refl (is_number e.0 n q) h
    first false q h more = there (e.0 == k) refl q h more

-- none of that name is left where it is unbound
never : (es : Entries) (n k : ℕ) (u : Value) → n ≡ k → entry (without_entry es n) k ≡ Some u → ⊥
never [] n k u i h = cc
never (d ∷ es) n k u i h = drop (d.0 == n) refl h (never es n k u i)
  where
    stays : (b : Bool) → (d.0 == k) ≡ b → (d.0 == n) ≡ false → (if b then Some d.1 else entry (without_entry es n) k) ≡ Some u → (entry (without_entry es n) k ≡ Some u → ⊥) → ⊥
    stays true r q h more = no_number d.0 n q (is_number d.0 k r ∙ sym i)
    stays false r q h more = more h

    drop : (b : Bool) → (d.0 == n) ≡ b → entry (if b then without_entry es n else d ∷ without_entry es n) k ≡ Some u → (entry (without_entry es n) k ≡ Some u → ⊥) → ⊥
    drop true q h more = more h
    drop false q h more = stays (d.0 == k) refl q h more

-- what is left was there before
pub left : (es : Entries) (n k : ℕ) (u : Value) → entry (without_entry es n) k ≡ Some u → entry es k ≡ Some u
left [] n k u h = h
left (e ∷ es) n k u h = go (e.0 == n) refl h (left es n k u)
  where
    otherwise : (b : Bool) → (if b then Some e.1 else entry (without_entry es n) k) ≡ Some u → (entry (without_entry es n) k ≡ Some u → entry es k ≡ Some u) → (if b then Some e.1 else entry es k) ≡ Some u
    otherwise true h more = h
    otherwise false h more = more h

    gone : (b : Bool) → (e.0 == k) ≡ b → (e.0 == n) ≡ true → entry (without_entry es n) k ≡ Some u → entry es k ≡ Some u → (if b then Some e.1 else entry es k) ≡ Some u
    gone true r q h i = absurd (never es n k u (sym (is_number e.0 n q) ∙ is_number e.0 k r) h)
    gone false r q h i = i

    go : (b : Bool) → (e.0 == n) ≡ b → entry (if b then without_entry es n else e ∷ without_entry es n) k ≡ Some u → (entry (without_entry es n) k ≡ Some u → entry es k ≡ Some u) → entry (e ∷ es) k ≡ Some u
    go true q h more = gone (e.0 == k) refl q h (more h)
    go false q h more = otherwise (e.0 == k) h more

-- and is under another name
pub left_beside : (es : Entries) (n k : ℕ) (u : Value) → entry (without_entry es n) k ≡ Some u → (n == k) ≡ false
left_beside es n k u h = go (n == k) refl
  where
    go : (b : Bool) → (n == k) ≡ b → (n == k) ≡ false
    go true q = absurd (never es n k u (is_number n k q) h)
    go false q = q

-- ---- a global that is forgotten

abbrev pub without : Shapes → ℕ → Shapes
without shapes n x = if same_variable (global n) x then None else shapes x

pub seats_without : (c : Context) (shapes : Shapes) (n : ℕ) (heap : List Object) (stack : List Value) → AreSeated c shapes heap stack → AreSeated c (without shapes n) heap stack
seats_without c shapes n heap [] a = tt
seats_without c shapes n heap (v ∷ stack) a = (record { shape = a.0.shape; has = a.0.has; stands = a.0.stands }, seats_without c shapes n heap stack a.1)

-- what is left is of other variables, and was there before
pub kept_without : (shapes : Shapes) (n : ℕ) (x : Variable) (t : Shape) → without shapes n x ≡ Some t → (Some (global n) ≢ Some x) × (shapes x ≡ Some t)
kept_without shapes n x t h = go (same_variable (global n) x) refl h
  where
    go : (b : Bool) → same_variable (global n) x ≡ b → (if b then None else shapes x) ≡ Some t → (Some (global n) ≢ Some x) × (shapes x ≡ Some t)
    go true q h = cc
    go false q h = (λ e. let z : same_variable (global n) x ≡ true = subst (λ y. same_variable (global n) y ≡ true) (some_same e) (variable_same (global n)) in cc, h)

pub beside_without : (shapes : Shapes) (n : ℕ) (x : Variable) → (global n ≡ x → ⊥) → without shapes n x ≡ shapes x
beside_without shapes n x apart = go (same_variable (global n) x) refl
  where
    go : (b : Bool) → same_variable (global n) x ≡ b → (if b then None else shapes x) ≡ shapes x
    go true q = absurd (apart (variable_equal (global n) x q))
    go false q = refl
