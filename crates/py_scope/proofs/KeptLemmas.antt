-- Classes that are kept with the places of their bases.
use Rattle.std.proofs.Common.{◌≡◌, ℕ, zero, suc, ◌+◌, ◌<◌, ◌≤◌, Bool, true, false, nat_eq, List, [], ◌∷◌, ◌++◌, length, get_or, take, drop, map, Option, Some, None, slice_get, ◌⊎◌, inl, inr, if◌then◌else◌, option_map, refl, sym, ap, subst, ◌∙◌, append_assoc, arith}
use Rattle.std.proofs.lemmas.List.{take-append-drop, take_more, map-append, length-map}
use Rattle.std.proofs.lemmas.Option.{slice_get_within}
use Rattle.std.specs.Option.{option_and_then, option_or}
use Rattle.py_scope.specs.declared.kept_class.KeptClass.{KeptClass}
use Rattle.py_scope.specs.KeptClasses.{base_in, scope_of, told_from, name_of, place_in, HaveBasesBefore, AreFirstPlaces}
use Rattle.py_tree.specs.Tree.{ClassDef, class_def, Members}
use Rattle.scope_rules.specs.declared.method_row.MethodRow.{MethodRow}
use Rattle.scope_rules.specs.Named.{named}
use Rattle.scope_rules.specs.Roles.{binds}
use Rattle.scope_rules.specs.Tables.{ClassScope, chain_in, class_named, base_class, native_in, class_scope, method_rows, method_named}
use Rattle.scope_rules.specs.Uses.{uses_of_class}
use Rattle.type_terms.specs.Exceptions.{exception_names}

pub told_append : (earlier : List ClassScope) (xs ys : List KeptClass) → told_from earlier (xs ++ ys) ≡ told_from (told_from earlier xs) ys
told_append earlier [] ys = refl
told_append earlier (x ∷ xs) ys = told_append (earlier ++ scope_of earlier x ∷ []) xs ys

-- one class more
pub told_more : (xs : List KeptClass) (x : KeptClass) → told_from [] (xs ++ x ∷ []) ≡ told_from [] xs ++ scope_of (told_from [] xs) x ∷ []
told_more xs x = told_append [] xs (x ∷ [])

at_first : (e : List ClassScope) (i : ℕ) (s : ClassScope) (t : List ClassScope) → slice_get e i ≡ Some s → slice_get (e ++ t) i ≡ Some s
at_first (x ∷ e) zero s t h = h
at_first (x ∷ e) (suc i) s t h = at_first e i s t h
at_first [] i s t h = absurd (let e : None ≡ Some s = h in cc)

at_end : (e : List ClassScope) (s : ClassScope) → slice_get (e ++ s ∷ []) (length e) ≡ Some s
at_end [] s = refl
at_end (x ∷ e) s = at_end e s

-- what is told before stays
told_before : (earlier : List ClassScope) (xs : List KeptClass) (i : ℕ) (s : ClassScope) → slice_get earlier i ≡ Some s → slice_get (told_from earlier xs) i ≡ Some s
told_before earlier [] i s h = h
told_before earlier (x ∷ xs) i s h = told_before (earlier ++ scope_of earlier x ∷ []) xs i s (at_first earlier i s (scope_of earlier x ∷ []) h)

length_more : (e : List ClassScope) (s : ClassScope) → length (e ++ s ∷ []) ≡ suc (length e)
length_more [] s = refl
length_more (x ∷ e) s = ap suc (length_more e s)

told_at_from : (earlier : List ClassScope) (xs : List KeptClass) (k i : ℕ) (x : KeptClass) → slice_get xs k ≡ Some x → i ≡ length earlier + k
    → slice_get (told_from earlier xs) i ≡ Some (scope_of (told_from earlier (take k xs)) x)
told_at_from earlier [] k i x h e = absurd (let f : None ≡ Some x = h in cc)
told_at_from earlier (y ∷ xs) zero i x h e =
    let is : y ≡ x = (let f : Some y ≡ Some x = h in cc) in
    let place : length earlier ≡ i = omega (arith, e) in
    subst (λ j. slice_get (told_from (earlier ++ scope_of earlier y ∷ []) xs) j ≡ Some (scope_of earlier x)) place
    (told_before (earlier ++ scope_of earlier y ∷ []) xs (length earlier) (scope_of earlier x) (at_end earlier (scope_of earlier y) ∙ ap (λ z. Some (scope_of earlier z)) is))
told_at_from earlier (y ∷ xs) (suc k) i x h e =
    let n = length_more earlier (scope_of earlier y) in
    told_at_from (earlier ++ scope_of earlier y ∷ []) xs k i x h (omega (arith, e, n))

-- what is told of the class at a place
pub told_at : (xs : List KeptClass) (k : ℕ) (x : KeptClass) → slice_get xs k ≡ Some x → slice_get (told_from [] xs) k ≡ Some (scope_of (told_from [] (take k xs)) x)
told_at xs k x h = told_at_from [] xs k k x h (omega arith)

none_from : (earlier : List ClassScope) (xs : List KeptClass) (k i : ℕ) → slice_get xs k ≡ None → i ≡ length earlier + k → slice_get (told_from earlier xs) i ≡ None
none_from earlier [] k i h e = past earlier i (omega (arith, e))
  where
    past : (e : List ClassScope) (i : ℕ) → length e ≤ i → slice_get e i ≡ None
    past [] i h = refl
    past (x ∷ e) zero h = absurd (omega (arith, h))
    past (x ∷ e) (suc i) h = past e i (omega (arith, h))
none_from earlier (y ∷ xs) zero i h e = absurd (let f : Some y ≡ None = h in cc)
none_from earlier (y ∷ xs) (suc k) i h e =
    let n = length_more earlier (scope_of earlier y) in
    none_from (earlier ++ scope_of earlier y ∷ []) xs k i h (omega (arith, e, n))

pub told_none : (xs : List KeptClass) (k : ℕ) → slice_get xs k ≡ None → slice_get (told_from [] xs) k ≡ None
told_none xs k h = none_from [] xs k k h (omega arith)

first_at : {X : Type 0} (xs : List X) (k j : ℕ) → j < k → slice_get (take k xs) j ≡ slice_get xs j
first_at [] zero j below = refl
first_at [] (suc k) j below = refl
first_at (x ∷ xs) zero j below = absurd (omega (arith, below))
first_at (x ∷ xs) (suc k) zero below = refl
first_at (x ∷ xs) (suc k) (suc j) below = first_at xs k j (omega (arith, below))

inside : {X : Type 0} (xs : List X) (j : ℕ) → j < length xs → slice_get xs j ≡ None → ⊥
inside [] j low h = omega (arith, low)
inside (x ∷ xs) zero low h = (let e : Some x ≡ None = h in cc)
inside (x ∷ xs) (suc j) low h = inside xs j (omega (arith, low)) h

-- the class at a place below another one is told the same of the first classes alone
told_below : (xs : List KeptClass) (k j : ℕ) → j < k → k < length xs → slice_get (told_from [] (take k xs)) j ≡ slice_get (told_from [] xs) j
told_below xs k j below within = by (slice_get xs j) refl
  where
    whole : told_from (told_from [] (take k xs)) (drop k xs) ≡ told_from [] xs
    whole = sym (told_append [] (take k xs) (drop k xs)) ∙ ap (told_from []) (take-append-drop k xs)

    by : (o : Option KeptClass) → slice_get xs j ≡ o → slice_get (told_from [] (take k xs)) j ≡ slice_get (told_from [] xs) j
    by None e = absurd (inside xs j (omega (arith, below, within)) e)
    by (Some y) e =
        let s = scope_of (told_from [] (take j (take k xs))) y in
        let first = told_at (take k xs) j y (first_at xs k j below ∙ e) in
        first ∙ sym (ap (λ l. slice_get l j) (sym whole) ∙ told_before (told_from [] (take k xs)) (drop k xs) j s first)

-- the rest of a chain
pub base_stays : (xs : List KeptClass) (k : ℕ) (x : KeptClass) → HaveBasesBefore xs → slice_get xs k ≡ Some x → base_in (told_from [] (take k xs)) x.base ≡ base_in (told_from [] xs) x.base
base_stays xs k x before h = by x.base refl
  where
    by : (b : Option ℕ) → x.base ≡ b → base_in (told_from [] (take k xs)) b ≡ base_in (told_from [] xs) b
    by None e = refl
    by (Some j) e = told_below xs k j (before k j x h e) (slice_get_within xs k x h)

-- ---- the class of a name

abbrev told_name : ClassScope → ℕ
told_name s = s.name

pub place_within : (ms : List ℕ) (n j : ℕ) → place_in ms n ≡ Some j → j < length ms
place_within [] n j h = absurd (let e : None ≡ Some j = h in cc)
place_within (m ∷ ms) n j h = by (nat_eq n m) (place_in ms n) h (place_within ms n)
  where
    by : (b : Bool) (o : Option ℕ) → (if b then Some 0 else option_map (λ k. suc k) o) ≡ Some j → ((i : ℕ) → o ≡ Some i → i < length ms) → j < suc (length ms)
    by true o h rest = let e : 0 ≡ j = (let f : Some 0 ≡ Some j = h in cc) in omega (arith, e)
    by false None h rest = absurd (let e : None ≡ Some j = h in cc)
    by false (Some i) h rest = let e : suc i ≡ j = (let f : Some (suc i) ≡ Some j = h in cc) in omega (arith, e, rest i refl)

-- one name more
pub place_more : (ms : List ℕ) (m n : ℕ) → place_in (ms ++ m ∷ []) n ≡ option_or (place_in ms n) (if nat_eq n m then Some (length ms) else None)
place_more [] m n = refl
place_more (k ∷ ks) m n = by (nat_eq n k) (place_more ks m n)
  where
    later : (o p : Option ℕ) → option_map (λ k. suc k) (option_or o p) ≡ option_or (option_map (λ k. suc k) o) (option_map (λ k. suc k) p)
    later None p = refl
    later (Some i) p = refl

    put : (b : Bool) → option_map (λ k. suc k) (if b then Some (length ks) else None) ≡ (if b then Some (suc (length ks)) else None)
    put true = refl
    put false = refl

    by : (b : Bool) → place_in (ks ++ m ∷ []) n ≡ option_or (place_in ks n) (if nat_eq n m then Some (length ks) else None)
        → (if b then Some 0 else option_map (λ k. suc k) (place_in (ks ++ m ∷ []) n)) ≡ option_or (if b then Some 0 else option_map (λ k. suc k) (place_in ks n)) (if nat_eq n m then Some (suc (length ks)) else None)
    by true rest = refl
    by false rest =
        ap (option_map (λ k. suc k)) rest
        ∙ later (place_in ks n) (if nat_eq n m then Some (length ks) else None)
        ∙ ap (λ p. option_or (option_map (λ k. suc k) (place_in ks n)) p) (put (nat_eq n m))

named_at : (cs : List ClassScope) (n : ℕ) → class_named cs n ≡ option_and_then (slice_get cs) (place_in (map told_name cs) n)
named_at [] n = refl
named_at (c ∷ cs) n = by (nat_eq n c.name) (named_at cs n)
  where
    onward : (o : Option ℕ) → option_and_then (slice_get cs) o ≡ option_and_then (slice_get (c ∷ cs)) (option_map (λ k. suc k) o)
    onward None = refl
    onward (Some i) = refl

    by : (b : Bool) → class_named cs n ≡ option_and_then (slice_get cs) (place_in (map told_name cs) n)
        → (if b then Some c else class_named cs n) ≡ option_and_then (slice_get (c ∷ cs)) (if b then Some 0 else option_map (λ k. suc k) (place_in (map told_name cs) n))
    by true rest = refl
    by false rest = rest ∙ onward (place_in (map told_name cs) n)

nothing_more : (ns : List ℕ) → ns ++ [] ≡ ns
nothing_more [] = refl
nothing_more (n ∷ ns) = ap (λ l. n ∷ l) (nothing_more ns)

names_from : (earlier : List ClassScope) (xs : List KeptClass) → map told_name (told_from earlier xs) ≡ map told_name earlier ++ map name_of xs
names_from earlier [] = sym (nothing_more (map told_name earlier))
names_from earlier (x ∷ xs) =
    names_from (earlier ++ scope_of earlier x ∷ []) xs
    ∙ ap (λ l. l ++ map name_of xs) (map-append told_name earlier (scope_of earlier x ∷ []))
    ∙ append_assoc (map told_name earlier) (x.name ∷ []) (map name_of xs)

-- the base of a class, by its name and by its place
pub base_at : (xs : List KeptClass) (base : Option ℕ) → base_in (told_from [] xs) (option_and_then (place_in (map name_of xs)) base) ≡ base_class (told_from [] xs) base
base_at xs None = refl
base_at xs (Some n) = sym (named_at (told_from [] xs) n ∙ ap (λ ns. option_and_then (slice_get (told_from [] xs)) (place_in ns n)) (names_from [] xs))

push_cases : {X : Type 0} (xs : List X) (x y : X) (k : ℕ) → slice_get (xs ++ x ∷ []) k ≡ Some y → (slice_get xs k ≡ Some y) ⊎ ((k ≡ length xs) × (x ≡ y))
push_cases [] x y zero h = inr (refl, (let e : Some x ≡ Some y = h in cc))
push_cases [] x y (suc k) h = absurd (let e : None ≡ Some y = h in cc)
push_cases (z ∷ xs) x y zero h = inl h
push_cases (z ∷ xs) x y (suc k) h =
    elim (push_cases xs x y k h) [
      | inl old ↦ inl old
      | inr new ↦ inr (ap (λ i. suc i) new.0, new.1)
    ]

pub same_then : (f g : ℕ → Option ℕ) → ((n : ℕ) → f n ≡ g n) → (o : Option ℕ) → option_and_then f o ≡ option_and_then g o
same_then f g same None = refl
same_then f g same (Some n) = same n

-- one class more, whose base is among those before
pub bases_more : (xs : List KeptClass) (x : KeptClass) (base : Option ℕ) → HaveBasesBefore xs → x.base ≡ option_and_then (place_in (map name_of xs)) base → HaveBasesBefore (xs ++ x ∷ [])
bases_more xs x base before is k place class h e =
    elim (push_cases xs x class k h) [
      | inl old ↦ before k place class old e
      | inr new ↦ (let low = below base (sym is ∙ ap (λ (c : KeptClass). c.base) new.1 ∙ e) in omega (arith, low, new.0))
    ]
  where
    below : (base : Option ℕ) → option_and_then (place_in (map name_of xs)) base ≡ Some place → place < length xs
    below None h = absurd (let e : None ≡ Some place = h in cc)
    below (Some n) h = let size = length-map xs name_of in let low = place_within (map name_of xs) n place h in omega (arith, size, low)

eq_swap : (n m : ℕ) → nat_eq n m ≡ nat_eq m n
eq_swap n m = grind arith

-- the places of names, with one more
pub places_more : (old new : ℕ → Option ℕ) (xs : List KeptClass) (x : KeptClass) (name : ℕ) → x.name ≡ name → AreFirstPlaces old xs
    → ((n : ℕ) → new n ≡ option_or (old n) (if nat_eq name n then Some (length xs) else None)) → AreFirstPlaces new (xs ++ x ∷ [])
places_more old new xs x name is first put n =
    put n
    ∙ ap (λ o. option_or o (if nat_eq name n then Some (length xs) else None)) (first n)
    ∙ ap (λ b. option_or (place_in (map name_of xs) n) (if b then Some (length xs) else None)) (eq_swap name n ∙ ap (nat_eq n) (sym is))
    ∙ ap (λ i. option_or (place_in (map name_of xs) n) (if nat_eq n x.name then Some i else None)) (sym (length-map xs name_of))
    ∙ sym (ap (λ ns. place_in ns n) (map-append name_of xs (x ∷ [])) ∙ place_more (map name_of xs) x.name n)

-- ---- what is told of the class at a place, which is there or is not

pub chain_ends : (xs : List KeptClass) (place : Option ℕ) → None ≡ option_and_then (slice_get xs) place → chain_in (base_in (told_from [] xs) place) ≡ []
chain_ends xs None h = refl
chain_ends xs (Some k) h = ap chain_in (told_none xs k (sym h))

pub chain_goes : (xs : List KeptClass) (place : Option ℕ) (x : KeptClass) → HaveBasesBefore xs → Some x ≡ option_and_then (slice_get xs) place
    → chain_in (base_in (told_from [] xs) place) ≡ x.id ∷ chain_in (base_in (told_from [] xs) x.base)
chain_goes xs None x before h = absurd (let e : Some x ≡ None = h in cc)
chain_goes xs (Some k) x before h = ap chain_in (told_at xs k x (sym h)) ∙ ap (λ o. x.id ∷ chain_in o) (base_stays xs k x before (sym h))

-- what is read of the class at a place
pub told_some : {Y : Type 0} (read : Option ClassScope → Y) (xs ys : List KeptClass) (value : List ClassScope) (place : Option ℕ) (k : ℕ) (x : KeptClass)
    → told_from [] xs ≡ value → ys ≡ xs → place ≡ Some k → Some x ≡ option_and_then (slice_get ys) place
    → read (Some (scope_of (told_from [] (take k xs)) x)) ≡ read (slice_get value k)
told_some read xs ys value place k x view same is h =
    let at : slice_get xs k ≡ Some x = sym (h ∙ ap (λ l. option_and_then (slice_get l) place) same ∙ ap (option_and_then (slice_get xs)) is) in
    sym (ap (λ l. read (slice_get l k)) (sym view) ∙ ap read (told_at xs k x at))

pub told_nothing : {Y : Type 0} (read : Option ClassScope → Y) (xs ys : List KeptClass) (value : List ClassScope) (place : Option ℕ) (k : ℕ)
    → told_from [] xs ≡ value → ys ≡ xs → place ≡ Some k → None ≡ option_and_then (slice_get ys) place → read None ≡ read (slice_get value k)
told_nothing read xs ys value place k view same is h =
    let at : slice_get xs k ≡ None = sym (h ∙ ap (λ l. option_and_then (slice_get l) place) same ∙ ap (option_and_then (slice_get xs)) is) in
    sym (ap (λ l. read (slice_get l k)) (sym view) ∙ ap read (told_none xs k at))

-- the exception class at the end of a chain, from the base as it is kept
pub native_same : (texts : List (List ℕ)) (xs : List KeptClass) (place base : Option ℕ)
    → native_in texts (option_map (scope_of []) (option_and_then (slice_get xs) place)) base ≡ native_in texts (base_in (told_from [] xs) place) base
native_same texts xs None base = refl
native_same texts xs (Some k) base = by (slice_get xs k) refl
  where
    by : (o : Option KeptClass) → slice_get xs k ≡ o → native_in texts (option_map (scope_of []) (slice_get xs k)) base ≡ native_in texts (slice_get (told_from [] xs) k) base
    by None e = ap (λ o. native_in texts (option_map (scope_of []) o) base) e ∙ sym (ap (λ o. native_in texts o base) (told_none xs k e))
    by (Some x) e = ap (λ o. native_in texts (option_map (scope_of []) o) base) e ∙ sym (ap (λ o. native_in texts o base) (told_at xs k x e))

-- what is told of a class that is kept so
pub kept_told : (texts : List (List ℕ)) (earlier : List ClassScope) (kept : KeptClass) (class : ClassDef) (id name : ℕ) (base : Option ℕ) (inside : Members) (line : ℕ)
    → class ≡ class_def id name base inside line → kept.name ≡ name → kept.id ≡ id → base_in earlier kept.base ≡ base_class earlier base
    → option_and_then (slice_get exception_names) kept.native ≡ native_in texts (base_class earlier base) base → kept.bound ≡ named binds [] (uses_of_class class) → kept.methods ≡ method_rows inside
    → scope_of earlier kept ≡ class_scope texts earlier class
kept_told texts earlier kept class id name base inside line is n i b e bound methods =
    (λ j. record { name = n j; chain = i j ∷ chain_in (b j); native = e j; bound = (bound ∙ ap (λ c. named binds [] (uses_of_class c)) is) j; methods = methods j })
    ∙ ap (class_scope texts earlier) (sym is)

-- one method more
pub method_more : (rows : List MethodRow) (m : MethodRow) (n : ℕ) → method_named (rows ++ m ∷ []) n ≡ option_or (method_named rows n) (if nat_eq n m.name then Some m.fun else None)
method_more [] m n = refl
method_more (r ∷ rows) m n = by (nat_eq n r.name) (method_more rows m n)
  where
    by : (b : Bool) → method_named (rows ++ m ∷ []) n ≡ option_or (method_named rows n) (if nat_eq n m.name then Some m.fun else None)
        → (if b then Some r.fun else method_named (rows ++ m ∷ []) n) ≡ option_or (if b then Some r.fun else method_named rows n) (if nat_eq n m.name then Some m.fun else None)
    by true rest = refl
    by false rest = rest

-- the first methods by name, with one method more
pub first_more : (old new : ℕ → Option ℕ) (rows : List MethodRow) (i : ℕ) (m : MethodRow) → i < length rows → m ≡ get_or rows i m
    → ((n : ℕ) → old n ≡ method_named (take i rows) n) → ((n : ℕ) → new n ≡ option_or (old n) (if nat_eq m.name n then Some m.fun else None))
    → (n : ℕ) → new n ≡ method_named (take (i + 1) rows) n
first_more old new rows i m within is before put n =
    put n
    ∙ ap (λ o. option_or o (if nat_eq m.name n then Some m.fun else None)) (before n)
    ∙ ap (λ b. option_or (method_named (take i rows) n) (if b then Some m.fun else None)) (eq_swap m.name n)
    ∙ sym (ap (λ l. method_named l n) (take_more rows i m within ∙ ap (λ x. take i rows ++ x ∷ []) (sym is)) ∙ method_more (take i rows) m n)
