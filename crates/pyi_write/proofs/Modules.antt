-- What stands before the last dot of a name, and the lists that a stub's imports are.
use Rattle.std.proofs.Common.{◌≡◌, ℕ, suc, ◌<◌, ◌==◌, ◌⊎◌, inl, inr, Bool, true, false, not, ◌||◌, cond, List, [], ◌∷◌, ◌++◌, length, get_or, chars, Option, Some, None, IfSome, refl, sym, ap, ◌∙◌, subst, arith, lit<}
use Rattle.std.specs.List.{list_all, AllByRecursion}
use Rattle.std.specs.Str.{bytes_eq, NonePass}
use Rattle.std.specs.Cmp.Lexicographic.{bytes_decides}
use Rattle.std.proofs.lemmas.Bool.{cases_Bool}
use Rattle.std.proofs.lemmas.Bool.Decides.{nat_tests}
use Rattle.std.proofs.lemmas.List.{append-nil}
use Rattle.std.proofs.lemmas.Str.{NoCharPasses-byte, encodes-chars}
use Rattle.unicode_ident.specs.Ident.{is_xid_continue}
use Rattle.unicode_ident.proofs.IdentLemmas.{is_xid_continue-ascii}
use Rattle.type_terms.specs.ProperStubs.{is_qualified}
use Rattle.pyi_write.specs.Imports.{longer, module_of}
use Rattle.pyi_write.specs.NormalStubs.{IsIdentifier, IsPath, path_one, path_more}
use Rattle.pyi_write.specs.Orders.{is_before, placed, has_text, with_text, in_order}
use Rattle.pyi_write.proofs.Words.{and_first, and_second}

-- ---- dots

no_dots : (n : List ℕ) → ((i : ℕ) → i < length n → get_or n i 0 ≡ 46 → ⊥) → module_of n ≡ None
no_dots [] h = refl
no_dots (b ∷ bs) h =
    ap (longer b) (no_dots bs (λ i within. h (suc i) (omega (arith, within))))
    ∙ ap (λ t. cond t (Some []) None) (not_dot b (λ is. h 0 (omega arith) is))
  where
    not_dot : (c : ℕ) → (c ≡ 46 → ⊥) → (c == 46) ≡ false
    not_dot c k = elim (cases_Bool (c == 46)) [ inl is ↦ absurd (k (grind (arith, nat_tests))) | inr other ↦ other ]

none_pass : (cs : List ℕ) → list_all is_xid_continue cs ≡ true → NonePass (λ c. not (is_xid_continue c)) cs
none_pass [] h = tt
none_pass (c ∷ cs) h = (ap not (and_first (is_xid_continue c) (list_all is_xid_continue cs) h), none_pass cs (and_second (is_xid_continue c) (list_all is_xid_continue cs) h))

pub identifier_module : (n : List ℕ) → IsIdentifier n → module_of n ≡ None
identifier_module n is = no_dots n (λ i within dot.
    let low : get_or n i 0 < 128 = omega (arith, dot) in
    let passes = NoCharPasses-byte (λ c. not (is_xid_continue c)) n i (chars n, encodes-chars n is.utf8, none_pass (chars n) is.goes_on) within low in
    let forty_six : not (is_xid_continue 46) ≡ false = sym (ap (λ c. not (is_xid_continue c)) dot) ∙ passes in
    let ascii : is_xid_continue 46 ≡ false = is_xid_continue-ascii 46 (lit< tt) in
    let both : true ≡ false = sym (ap not ascii) ∙ forty_six in
    absurd (cc))

longer_some : (b : ℕ) (rest : List ℕ) → (y : List ℕ) × (longer 46 (module_of rest) ≡ Some y) → (xs : List ℕ) → (y : List ℕ) × (module_of (xs ++ 46 ∷ rest) ≡ Some (xs ++ y))
longer_some b rest (y, is) [] = (y, is)
longer_some b rest (y, is) (x ∷ xs) = let more = longer_some b rest (y, is) xs in (more.0, ap (longer x) more.1)

-- the module of a name with a dot
split_module : (rest xs : List ℕ) (o : Option (List ℕ)) → module_of rest ≡ o → ((m : List ℕ) × (o ≡ Some m) × (module_of (xs ++ 46 ∷ rest) ≡ Some (xs ++ 46 ∷ m))) ⊎ (module_of (xs ++ 46 ∷ rest) ≡ Some (xs ++ []))
split_module rest [] (Some m) is = inl (m, refl, ap (longer 46) is)
split_module rest [] None is = inr (ap (longer 46) is)
split_module rest (x ∷ xs) o is = elim (split_module rest xs o is) [
  | inl found ↦ inl (found.0, found.1, ap (longer x) found.2)
  | inr found ↦ inr (ap (longer x) found)
]

some_path : (o : Option (List ℕ)) (m : List ℕ) → IfSome o IsPath → o ≡ Some m → IsPath m
some_path o m h is = subst (λ (x : Option (List ℕ)). IfSome x IsPath) is h

pub path_module : {n : List ℕ} → IsPath n → IfSome (module_of n) IsPath
path_module {n} (path_one is) = subst (λ (o : Option (List ℕ)). IfSome o IsPath) (sym (identifier_module n is)) tt
path_module {n} (path_more {first = first} {rest = rest} whole is more) =
    subst (λ x. IfSome (module_of x) IsPath) (sym whole)
    (elim (split_module rest first (module_of rest) refl) [
      | inl found ↦ subst (λ (o : Option (List ℕ)). IfSome o IsPath) (sym found.2) (path_more refl is (some_path (module_of rest) found.0 (path_module more) found.1))
      | inr found ↦ subst (λ (o : Option (List ℕ)). IfSome o IsPath) (sym found) (path_one (subst IsIdentifier (sym (append-nil first)) is))
    ])

module_by : (b : ℕ) (bs : List ℕ) (o : Option (List ℕ)) → (is_qualified bs ≡ true → (m : List ℕ) × (module_of bs ≡ Some m)) → module_of bs ≡ o → is_qualified (b ∷ bs) ≡ true → (m : List ℕ) × (longer b (module_of bs) ≡ Some m)
module_by b bs (Some m) later is k = (b ∷ m, ap (longer b) is)
module_by b bs None later is k = elim (cases_Bool (b == 46)) [
  | inl dot ↦ ([], ap (longer b) is ∙ ap (λ t. cond t (Some []) None) dot)
  | inr other ↦
      let rest : is_qualified bs ≡ true = ap (λ t. t || is_qualified bs) (sym other) ∙ k in
      let found = later rest in
      let both : None ≡ Some found.0 = sym is ∙ found.1 in
      absurd (cc)
]

-- a name with a dot has a module
pub qualified_module : (n : List ℕ) → is_qualified n ≡ true → (m : List ℕ) × (module_of n ≡ Some m)
qualified_module [] h = absurd (cc)
qualified_module (b ∷ bs) h = module_by b bs (module_of bs) (qualified_module bs) refl h

-- ---- texts in order

or_false : (a b : Bool) → a ≡ false → a || b ≡ b
or_false a b h = ap (λ t. t || b) h

pub same_text : (x : List ℕ) → bytes_eq x x ≡ true
same_text x = (bytes_decides x x).1 refl

or_true : (a : Bool) → a || true ≡ true
or_true true = refl
or_true false = refl

has_head : (y z : List ℕ) (more zs : List (List ℕ)) (b : Bool) → (has_text y zs ≡ true → has_text y more ≡ true) → b || has_text y zs ≡ true → b || has_text y more ≡ true
has_head y z more zs true later k = refl
has_head y z more zs false later k = later k

has_either : (x y z : List ℕ) (more zs : List (List ℕ)) (b : Bool) → (has_text y zs ≡ true → has_text y more ≡ true) → has_text y (z ∷ zs) ≡ true → has_text y (cond b (z ∷ more) (x ∷ z ∷ zs)) ≡ true
has_either x y z more zs true later h = has_head y z more zs (bytes_eq y z) later h
has_either x y z more zs false later h = ap (λ t. bytes_eq y x || t) h ∙ or_true (bytes_eq y x)

placed_has : (before : List ℕ → Bool) (x y : List ℕ) (ys : List (List ℕ)) → has_text y ys ≡ true → has_text y (placed before x ys) ≡ true
placed_has before x y [] h = absurd (cc)
placed_has before x y (z ∷ zs) h = has_either x y z (placed before x zs) zs (before z) (placed_has before x y zs) h

new_either : (x z : List ℕ) (more zs : List (List ℕ)) (b : Bool) → has_text x more ≡ true → has_text x (cond b (z ∷ more) (x ∷ z ∷ zs)) ≡ true
new_either x z more zs true later = ap (λ t. bytes_eq x z || t) later ∙ or_true (bytes_eq x z)
new_either x z more zs false later = ap (λ t. t || has_text x (z ∷ zs)) (same_text x)

placed_new : (before : List ℕ → Bool) (x : List ℕ) (ys : List (List ℕ)) → has_text x (placed before x ys) ≡ true
placed_new before x [] = ap (λ t. t || false) (same_text x)
placed_new before x (z ∷ zs) = new_either x z (placed before x zs) zs (before z) (placed_new before x zs)

with_has : (x y : List ℕ) (ys : List (List ℕ)) → has_text y ys ≡ true → has_text y (with_text x ys) ≡ true
with_has x y ys h = by_test (has_text x ys)
  where
    by_test : (b : Bool) → has_text y (cond b ys (placed (λ z. is_before z x) x ys)) ≡ true
    by_test true = h
    by_test false = placed_has (λ z. is_before z x) x y ys h

with_new : (x : List ℕ) (ys : List (List ℕ)) → has_text x (with_text x ys) ≡ true
with_new x ys = by_test (has_text x ys) refl
  where
    by_test : (b : Bool) → has_text x ys ≡ b → has_text x (cond b ys (placed (λ z. is_before z x) x ys)) ≡ true
    by_test true h = h
    by_test false h = placed_new (λ z. is_before z x) x ys

abbrev pub IsIn : List (List ℕ) → List ℕ → Type 0
IsIn xs x = has_text x xs ≡ true

with_each : (x : List ℕ) (ys zs : List (List ℕ)) → AllByRecursion (IsIn ys) zs → AllByRecursion (IsIn (with_text x ys)) zs
with_each x ys [] h = tt
with_each x ys (z ∷ zs) h = (with_has x z ys h.0, with_each x ys zs h.1)

-- each text is in its list in order
pub each_in_order : (xs : List (List ℕ)) → AllByRecursion (IsIn (in_order xs)) xs
each_in_order [] = tt
each_in_order (x ∷ xs) = (with_new x (in_order xs), with_each x (in_order xs) xs (each_in_order xs))

in_more : (y : List ℕ) (ys zs : List (List ℕ)) → AllByRecursion (IsIn ys) zs → AllByRecursion (IsIn (y ∷ ys)) zs
in_more y ys [] h = tt
in_more y ys (z ∷ zs) h = (ap (λ t. bytes_eq z y || t) h.0 ∙ or_true (bytes_eq z y), in_more y ys zs h.1)

-- each text of a list is in it
pub all_in : (xs : List (List ℕ)) → AllByRecursion (IsIn xs) xs
all_in [] = tt
all_in (x ∷ xs) = (ap (λ t. t || has_text x xs) (same_text x), in_more x xs xs (all_in xs))

-- and the list in order has no others
module _ {X : Type 0} (P : X → Type 0) where
  all_either : (x y : X) (more ys : List X) (b : Bool) → P x → P y → AllByRecursion P ys → AllByRecursion P more → AllByRecursion P (cond b (y ∷ more) (x ∷ y ∷ ys))
  all_either x y more ys true h k all later = (k, later)
  all_either x y more ys false h k all later = (h, (k, all))

  pub placed_all : (before : X → Bool) (x : X) (ys : List X) → P x → AllByRecursion P ys → AllByRecursion P (placed before x ys)
  placed_all before x [] h k = (h, tt)
  placed_all before x (y ∷ ys) h k = all_either x y (placed before x ys) ys (before y) h k.0 k.1 (placed_all before x ys h k.1)

module _ (P : List ℕ → Type 0) where
  with_all : (x : List ℕ) (ys : List (List ℕ)) → P x → AllByRecursion P ys → AllByRecursion P (with_text x ys)
  with_all x ys h k = by_test (has_text x ys)
    where
      by_test : (b : Bool) → AllByRecursion P (cond b ys (placed (λ z. is_before z x) x ys))
      by_test true = k
      by_test false = placed_all P (λ z. is_before z x) x ys h k

  pub in_order_all : (xs : List (List ℕ)) → AllByRecursion P xs → AllByRecursion P (in_order xs)
  in_order_all [] h = tt
  in_order_all (x ∷ xs) h = with_all x (in_order xs) h.0 (in_order_all xs h.1)
