-- The tests of contexts and variables tell what is equal.
use Rattle.std.proofs.Common.{◌≡◌, ℕ, Bool, true, false, ◌&&◌, ◌==◌, refl, ap, nat_eq, arith}
use Rattle.std.proofs.lemmas.Bool.Decides.{nat_tests}
use Rattle.world_rules.specs.Places.{Context, main, entry, called, Variable, local, slot, global, same_context, same_variable}

pub equal : (m n : ℕ) → (m == n) ≡ true → m ≡ n
equal m n h = grind (arith, nat_tests)

pub same : (m : ℕ) → (m == m) ≡ true
same m = grind (arith, nat_tests)

both : (a b : Bool) → a && b ≡ true → (a ≡ true) × (b ≡ true)
both true b h = (refl, h)
both false b h = cc

all : (a b : Bool) → a ≡ true → b ≡ true → a && b ≡ true
all a b h k = rw h k

pub context_same : (c : Context) → same_context c c ≡ true
context_same main = refl
context_same (entry f) = same f
context_same (called c p d f) = all (same_context c c) _ (context_same c) (all (p == p) _ (same p) (all (d == d) (f == f) (same d) (same f)))

pub context_equal : (c b : Context) → same_context c b ≡ true → c ≡ b
context_equal main main h = refl
context_equal main (entry g) h = cc
context_equal main (called b q e g) h = cc
context_equal (entry f) main h = cc
context_equal (entry f) (entry g) h = ap entry (equal f g h)
context_equal (entry f) (called b q e g) h = cc
context_equal (called c p d f) main h = cc
context_equal (called c p d f) (entry g) h = cc
context_equal (called c p d f) (called b q e g) h =
    let x : (same_context c b ≡ true) × ((p == q) && ((d == e) && (f == g)) ≡ true) = both _ _ h in
    let y : ((p == q) ≡ true) × ((d == e) && (f == g) ≡ true) = both _ _ x.1 in
    let z : ((d == e) ≡ true) × ((f == g) ≡ true) = both _ _ y.1 in
    let i : c ≡ b = context_equal c b x.0 in
    let j : p ≡ q = equal p q y.0 in
    let k : d ≡ e = equal d e z.0 in
    let l : f ≡ g = equal f g z.1 in
    cc

pub variable_same : (x : Variable) → same_variable x x ≡ true
variable_same (local c i) = all (same_context c c) _ (context_same c) (same i)
variable_same (slot c i) = all (same_context c c) _ (context_same c) (same i)
variable_same (global n) = same n

pub variable_equal : (x y : Variable) → same_variable x y ≡ true → x ≡ y
variable_equal (local c i) (local b j) h =
    let k : (same_context c b ≡ true) × ((i == j) ≡ true) = both _ _ h in
    let l : c ≡ b = context_equal c b k.0 in
    let m : i ≡ j = equal i j k.1 in
    cc
variable_equal (local c i) (slot b j) h = cc
variable_equal (local c i) (global m) h = cc
variable_equal (slot c i) (local b j) h = cc
variable_equal (slot c i) (slot b j) h =
    let k : (same_context c b ≡ true) × ((i == j) ≡ true) = both _ _ h in
    let l : c ≡ b = context_equal c b k.0 in
    let m : i ≡ j = equal i j k.1 in
    cc
variable_equal (slot c i) (global m) h = cc
variable_equal (global n) (local b j) h = cc
variable_equal (global n) (slot b j) h = cc
variable_equal (global n) (global m) h = ap global (equal n m h)
