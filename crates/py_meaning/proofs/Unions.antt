-- A value belongs to the normal form of a union exactly where it belongs to one of its members.
use Rattle.std.proofs.Common.{◌≡◌, ◌≢◌, ℕ, zero, suc, ◌<◌, ◌≤◌, Bool, true, false, ◌&&◌, ◌||◌, not, nat_lt, nat_eq, if◌then◌else◌, List, [], ◌∷◌, ◌++◌, map, length, Option, Some, None, refl, sym, ap, subst, ◌∙◌, ◌⊎◌, inl, inr, arith}
use Rattle.std.specs.Prelude.{codes}
use Rattle.std.specs.List.{list_any, list_all}
use Rattle.std.specs.Str.{bytes_eq}
use Rattle.std.proofs.lemmas.Bool.Decides.{nat_tests}
use Rattle.std.proofs.lemmas.List.Folds.{list_any-append}
use Rattle.std.proofs.lemmas.Slice.Eq.{bytes_eq-Decides}
use Rattle.type_terms.specs.BuiltinNames.{has_name}
use Rattle.type_terms.specs.Exceptions.{exception_rows, exception_names, is_exception, climb, exception_chain}
use Rattle.type_terms.specs.Normal.{is_any, is_class, has_class, above, is_absorbed, IsAmong, here, there, IsKept, IsUnionOf, takes_all, nothing, alone, several}
use Rattle.type_terms.specs.Stubs as stubs
use Rattle.type_terms.specs.Stubs.{Stub}
use Rattle.type_terms.proofs.OrderLemmas.{split_among, none_among}
use Rattle.type_terms.specs.Terms.{Term, any, none, bool, int, float, str, bytes, list, dict, tuple, tuple_of, class, class_of, callable, union, Terms, no_terms, term, terms_of}
use Rattle.py_meaning.specs.Values.{Value, ref}
use Rattle.py_meaning.specs.Objects as object
use Rattle.py_meaning.specs.Objects.{Object, object_at}
use Rattle.py_meaning.specs.Programs.{Program, chain, class_text, exception_base, or_else}
use Rattle.py_meaning.specs.StubItems.{StubClass, dotted, found_among, class_under, stub_class_at, bases, exceptions_above, chain_of_stub_class}
use Rattle.py_meaning.specs.ClassTests.{exceptions_of, chain_named}
use Rattle.py_meaning.specs.Belongs.{Belongs, BelongsToOne, IsInstanceOf, names_of_class, names_above, within, all_within}
use Rattle.py_meaning.specs.UnionLaws.{BelongsToSome, LeavesExceptions, UnionsHaveTheirMembers}

-- ---- tests of lists

falsity : {A : Type 0} → true ≡ false → A
falsity e = absurd (let no : ⊥ = cc in no)

both : (a b : Bool) → (a && b) ≡ true → (a ≡ true) × (b ≡ true)
both true b h = (refl, h)
both false b h = falsity (sym h)

one_of_two : (a b : Bool) → (a || b) ≡ true → (a ≡ true) ⊎ (b ≡ true)
one_of_two true b h = inl refl
one_of_two false b h = inr h

first_true : (a b : Bool) → a ≡ true → (a || b) ≡ true
first_true true b h = refl
first_true false b h = falsity (sym h)

second_true : (a b : Bool) → b ≡ true → (a || b) ≡ true
second_true true b h = refl
second_true false b h = h

-- what all of a list have one of it has
of_all : (test : List ℕ → Bool) (names : List (List ℕ)) (name : List ℕ) → list_all test names ≡ true → has_name names name ≡ true → test name ≡ true
of_all test [] name h k = falsity (sym k)
of_all test (n ∷ ns) name h k =
    let parts = both (test n) (list_all test ns) h in
    elim (one_of_two (bytes_eq name n) (has_name ns name) k) [ inl e ↦ ap test ((bytes_eq-Decides name n).0 e) ∙ parts.0 | inr e ↦ of_all test ns name parts.1 e ]

some_of : (test : List ℕ → Bool) (names : List (List ℕ)) (name : List ℕ) → has_name names name ≡ true → test name ≡ true → list_any test names ≡ true
some_of test [] name h k = h
some_of test (n ∷ ns) name h k =
    elim (one_of_two (bytes_eq name n) (has_name ns name) h) [
      | inl e ↦ first_true (test n) (list_any test ns) (ap test (sym ((bytes_eq-Decides name n).0 e)) ∙ k)
      | inr e ↦ second_true (test n) (list_any test ns) (some_of test ns name e k)
    ]

-- ---- chains of builtin exception classes

-- each class in a chain has its own chain in it
abbrev is_closed : List ℕ → Bool
is_closed name = list_all (λ up. list_all (has_name (exception_chain name)) (exception_chain up)) (exception_chain name)

closed : list_all is_closed exception_names ≡ true
closed = refl

-- and a shorter one
abbrev is_shorter : List ℕ → Bool
is_shorter name = list_all (λ up. nat_lt (length (exception_chain up)) (length (exception_chain name)) && has_name (exception_chain name) up && is_exception up) (above (exception_chain name))

shorter : list_all is_shorter exception_names ≡ true
shorter = refl

abbrev is_own : List ℕ → Bool
is_own name = has_name (exception_chain name) name

own : list_all is_own exception_names ≡ true
own = refl

no_chain : (b : Bool) (name : List ℕ) (names : List (List ℕ)) → has_name (if b then names else []) name ≡ true → b ≡ true
no_chain true name names h = refl
no_chain false name names h = falsity (sym h)

-- what is in the chain of a class in a chain is in the chain
through : (base name up : List ℕ) → has_name (exception_chain base) name ≡ true → has_name (exception_chain name) up ≡ true → has_name (exception_chain base) up ≡ true
through base name up h k =
    let known : is_exception base ≡ true = no_chain (is_exception base) name _ h in
    let all : is_closed base ≡ true = of_all is_closed exception_names base closed known in
    of_all (has_name (exception_chain base)) (exception_chain name) up (of_all (λ n. list_all (has_name (exception_chain base)) (exception_chain n)) (exception_chain base) name all h) k

-- ---- names of stubs' classes have a dot, which no builtin exception class has

abbrev is_dot : ℕ → Bool
is_dot byte = nat_eq 46 byte

dotless : list_all (λ name. not (list_any is_dot name)) exception_names ≡ true
dotless = refl

dotted_is_none : (home name : List ℕ) → is_exception (dotted home name) ≡ true → ⊥
dotted_is_none home name h =
    let no : not (list_any is_dot (dotted home name)) ≡ true = of_all (λ n. not (list_any is_dot n)) exception_names (dotted home name) dotless h in
    let yes : list_any is_dot (dotted home name) ≡ true =
    list_any-append is_dot (home ++ codes ".") name ∙ first_true (list_any is_dot (home ++ codes ".")) (list_any is_dot name) (list_any-append is_dot home (codes ".") ∙ second_true (list_any is_dot home) true refl) in
    falsity (sym (sym (ap not yes) ∙ no))

among_has_dot : (home : List ℕ) (s : Stub) (cs : List stubs.Class) (name : List ℕ) (k : StubClass) → is_exception name ≡ true → found_among home s cs name ≡ Some k → ⊥
among_has_dot home s [] name k h e = cc
among_has_dot home s (c ∷ cs) name k h e =
    elim (bytes_eq name (dotted home c.name)) as (λ b. bytes_eq name (dotted home c.name) ≡ b → (if b then Some (record { home = home; stub = s; class = c }) else found_among home s cs name) ≡ Some k → ⊥) [
      | true ↦ λ same e. dotted_is_none home c.name (ap is_exception (sym ((bytes_eq-Decides name (dotted home c.name)).0 same)) ∙ h)
      | false ↦ λ other e. among_has_dot home s cs name k h e
    ] refl e

has_dot : (gs : List (List ℕ × Stub)) (name : List ℕ) (k : StubClass) → is_exception name ≡ true → class_under gs name ≡ Some k → ⊥
has_dot [] name k h e = cc
has_dot (g ∷ gs) name k h e =
    elim (found_among g.0 g.1 g.1.classes name) as (λ o. found_among g.0 g.1 g.1.classes name ≡ o → or_else o (class_under gs name) ≡ Some k → ⊥) [
      | None ↦ λ same e. has_dot gs name k h e
      | Some j ↦ λ same e. among_has_dot g.0 g.1 g.1.classes name j h same
    ] refl e

-- ---- a value of a builtin exception class is one of each class above it

module _ (p : Program) (leaves : LeavesExceptions p) (name up : List ℕ) (known : is_exception name ≡ true) (higher : has_name (exception_chain name) up ≡ true) where
  in_map : (home : List ℕ) (cs : List stubs.Class) → has_name (map (λ c. dotted home c.name) cs) name ≡ true → ⊥
  in_map home [] h = falsity (sym h)
  in_map home (c ∷ cs) h =
      elim (one_of_two (bytes_eq name (dotted home c.name)) (has_name (map (λ c. dotted home c.name) cs) name) h) [
        | inl e ↦ dotted_is_none home c.name (ap is_exception (sym ((bytes_eq-Decides name (dotted home c.name)).0 e)) ∙ known)
        | inr e ↦ in_map home cs e
      ]

  of_base : (o : Option (List ℕ)) → has_name (elim o [ None ↦ [] | Some base ↦ exception_chain base ]) name ≡ true → has_name (elim o [ None ↦ [] | Some base ↦ exception_chain base ]) up ≡ true
  of_base None h = falsity (sym h)
  of_base (Some base) h = through base name up h higher

  above_bases : (cs : List stubs.Class) → has_name (exceptions_above cs) name ≡ true → has_name (exceptions_above cs) up ≡ true
  above_bases [] h = falsity (sym h)
  above_bases (c ∷ []) h = of_base c.base h
  above_bases (c ∷ d ∷ cs) h = above_bases (d ∷ cs) h

  of_stub_class : (k : StubClass) → has_name (chain_of_stub_class k) name ≡ true → has_name (chain_of_stub_class k) up ≡ true
  of_stub_class k h =
      let own_names : List (List ℕ) = map (λ c. dotted k.home c.name) (bases k) in
      list_any-append (bytes_eq up) own_names (exceptions_above (bases k)) ∙ second_true (has_name own_names up) (has_name (exceptions_above (bases k)) up)
      (go own_names (one_of_two (has_name own_names name) (has_name (exceptions_above (bases k)) name) (sym (list_any-append (bytes_eq name) own_names (exceptions_above (bases k))) ∙ h)) (in_map k.home (bases k)))
    where
      go : (names : List (List ℕ)) → ((has_name names name ≡ true) ⊎ (has_name (exceptions_above (bases k)) name ≡ true)) → (has_name names name ≡ true → ⊥) → has_name (exceptions_above (bases k)) up ≡ true
      go names (inl e) out = absurd (out e)
      go names (inr e) out = above_bases (bases k) e

  chain_up : (d : List ℕ) (o : Option StubClass) → stub_class_at p d ≡ o → has_name (elim o [ None ↦ exception_chain d | Some k ↦ chain_of_stub_class k ]) name ≡ true → has_name (elim o [ None ↦ exception_chain d | Some k ↦ chain_of_stub_class k ]) up ≡ true
  chain_up d None e h = through d name up h higher
  chain_up d (Some k) e h = of_stub_class k h

  -- of the class itself
  self_up : (o : Option StubClass) → stub_class_at p name ≡ o → has_name (elim o [ None ↦ exception_chain name | Some k ↦ chain_of_stub_class k ]) up ≡ true
  self_up None e = higher
  self_up (Some k) e = absurd (has_dot p.stubs name k known e)

  no_int : has_name (codes "int" ∷ []) name ≡ true → ⊥
  no_int h = go (one_of_two (bytes_eq name (codes "int")) false h)
    where
      go : ((bytes_eq name (codes "int") ≡ true) ⊎ (false ≡ true)) → ⊥
      go (inl e) = falsity (sym known ∙ ap is_exception ((bytes_eq-Decides name (codes "int")).0 e))
      go (inr e) = falsity (sym e)

  tail_up : (d : List ℕ) (b : Bool) → bytes_eq d (codes "bool") ≡ b → ((bytes_eq name d ≡ true) ⊎ (has_name (if b then codes "int" ∷ [] else chain_named p d) name ≡ true)) → has_name (if b then codes "int" ∷ [] else chain_named p d) up ≡ true
  tail_up d true e (inl same) = falsity (sym known ∙ ap is_exception ((bytes_eq-Decides name d).0 same ∙ (bytes_eq-Decides d (codes "bool")).0 e))
  tail_up d true e (inr h) = absurd (no_int h)
  tail_up d false e (inl same) = subst (λ n. has_name (chain_named p n) up ≡ true) ((bytes_eq-Decides name d).0 same) (self_up (stub_class_at p name) refl)
  tail_up d false e (inr h) = chain_up d (stub_class_at p d) refl h

  above_up : (d : List ℕ) → has_name (names_above p d) name ≡ true → has_name (names_above p d) up ≡ true
  above_up d h = second_true (bytes_eq up d) _ (tail_up d (bytes_eq d (codes "bool")) refl (one_of_two (bytes_eq name d) _ h))

  or_false : (b : Bool) → (b || false) ≡ true → b ≡ true
  or_false true h = refl
  or_false false h = h

  mutual
    within_up : (d : Term) → within p d (class name) ≡ true → within p d (class up) ≡ true
    within_up (class d) h = first_true (has_name (names_above p d) up) false (above_up d (or_false (has_name (names_above p d) name) h))
    within_up (union ds) h = all_up ds h
    within_up any h = falsity (sym h)
    within_up none h = falsity (sym h)
    within_up bool h = falsity (sym h)
    within_up int h = falsity (sym h)
    within_up float h = falsity (sym h)
    within_up str h = falsity (sym h)
    within_up bytes h = falsity (sym h)
    within_up (list d) h = falsity (sym h)
    within_up (dict d e) h = falsity (sym h)
    within_up (tuple ds) h = falsity (sym h)
    within_up (tuple_of d) h = falsity (sym h)
    within_up (class_of d) h = falsity (sym h)
    within_up (callable d) h = falsity (sym h)

    all_up : (ds : Terms) → all_within p ds (class name) ≡ true → all_within p ds (class up) ≡ true
    all_up no_terms h = refl
    all_up (term d ds) h =
        let parts = both (within p d (class name)) (all_within p ds (class name)) h in
        ap (λ b. b && all_within p ds (class up)) (within_up d parts.0) ∙ all_up ds parts.1

  base_up : (o : Option (List ℕ)) → has_name (exceptions_of o) name ≡ true → has_name (exceptions_of o) up ≡ true
  base_up None h = falsity (sym h)
  base_up (Some base) h = through base name up h higher

  class_up : (c : ℕ) → has_name (names_of_class p c) name ≡ true → has_name (names_of_class p c) up ≡ true
  class_up c h =
      let names : List (List ℕ) = map (class_text p) (chain p c) in
      list_any-append (bytes_eq up) names (exceptions_of (exception_base p c)) ∙ second_true (has_name names up) (has_name (exceptions_of (exception_base p c)) up)
      (go names (leaves c) (one_of_two (has_name names name) (has_name (exceptions_of (exception_base p c)) name) (sym (list_any-append (bytes_eq name) names (exceptions_of (exception_base p c))) ∙ h)))
    where
      go : (names : List (List ℕ)) → list_any is_exception names ≡ false → ((has_name names name ≡ true) ⊎ (has_name (exceptions_of (exception_base p c)) name ≡ true)) → has_name (exceptions_of (exception_base p c)) up ≡ true
      go names free (inl e) = falsity (sym (some_of is_exception names name e known) ∙ free)
      go names free (inr e) = base_up (exception_base p c) e

  object_up : (o : Object) → IsInstanceOf p name o → IsInstanceOf p up o
  object_up (object.instance c es) h = class_up c h
  object_up (object.outside d) h = within_up d h
  object_up o h = absurd h

  value_up : (heap : List Object) (v : Value) → Belongs p heap (class name) v → Belongs p heap (class up) v
  value_up heap (ref place) h = object_up (object_at heap place) h
  value_up heap v h = absurd h

-- ---- of some types with a builtin exception class, a class above it stays

passes : (test : Term → Bool) (ts : List Term) → list_any test ts ≡ true → (t : Term) × IsAmong t ts × (test t ≡ true)
passes test [] h = falsity (sym h)
passes test (t ∷ ts) h = go (one_of_two (test t) (list_any test ts) h) (λ e. passes test ts e)
  where
    go : ((test t ≡ true) ⊎ (list_any test ts ≡ true)) → (list_any test ts ≡ true → (u : Term) × IsAmong u ts × (test u ≡ true)) → (u : Term) × IsAmong u (t ∷ ts) × (test u ≡ true)
    go (inl e) later = (t, here, e)
    go (inr e) later = let one = later e in (one.0, there one.1, one.2)

name_passes : (test : List ℕ → Bool) (names : List (List ℕ)) → list_any test names ≡ true → (n : List ℕ) × (has_name names n ≡ true) × (test n ≡ true)
name_passes test [] h = falsity (sym h)
name_passes test (n ∷ ns) h = go (one_of_two (test n) (list_any test ns) h) (λ e. name_passes test ns e)
  where
    go : ((test n ≡ true) ⊎ (list_any test ns ≡ true)) → (list_any test ns ≡ true → (m : List ℕ) × (has_name ns m ≡ true) × (test m ≡ true)) → (m : List ℕ) × (has_name (n ∷ ns) m ≡ true) × (test m ≡ true)
    go (inl e) later = (n, first_true (bytes_eq n n) (has_name ns n) ((bytes_eq-Decides n n).1 refl), e)
    go (inr e) later = let one = later e in (one.0, second_true (bytes_eq one.0 n) (has_name ns one.0) one.1, one.2)

class_is : (name : List ℕ) (t : Term) → is_class name t ≡ true → t ≡ class name
class_is name (class other) h = ap class (sym ((bytes_eq-Decides name other).0 h))
class_is name any h = falsity (sym h)
class_is name _ h = falsity (sym h)

below : (a b : ℕ) → nat_lt a b ≡ true → a < b
below a b h = grind (arith, nat_tests)

-- a class of some types that stays, which is the class itself or above it
abbrev Stays : List Term → List ℕ → Type 0
Stays ts name = (up : List ℕ) × IsKept ts (class up) × (has_name (exception_chain name) up ≡ true)

stays_in : (ts : List Term) (n : ℕ) (name : List ℕ) → length (exception_chain name) ≤ n → is_exception name ≡ true → IsAmong (class name) ts → Stays ts name
stays_in ts zero name le known at =
    let mine : has_name (exception_chain name) name ≡ true = of_all is_own exception_names name own known in
    absurd (go (exception_chain name) le mine)
  where
    go : (chain : List (List ℕ)) → length chain ≤ 0 → has_name chain name ≡ true → ⊥
    go [] le h = falsity (sym h)
    go (x ∷ xs) le h = omega (arith, le)
stays_in ts (suc n) name le known at = go (is_absorbed ts (class name)) refl (λ up lt k found. stays_in ts n up (omega (arith, le, lt)) k found)
  where
    go : (b : Bool) → is_absorbed ts (class name) ≡ b → ((up : List ℕ) → length (exception_chain up) < length (exception_chain name) → is_exception up ≡ true → IsAmong (class up) ts → Stays ts up) → Stays ts name
    go false e later = (name, record { among = at; stays = e }, of_all is_own exception_names name own known)
    go true e later =
        let up = name_passes (has_class ts) (above (exception_chain name)) e in
        let found = passes (is_class up.0) ts up.2 in
        let facts : (nat_lt (length (exception_chain up.0)) (length (exception_chain name)) && has_name (exception_chain name) up.0 && is_exception up.0) ≡ true =
        of_all (λ u. nat_lt (length (exception_chain u)) (length (exception_chain name)) && has_name (exception_chain name) u && is_exception u) (above (exception_chain name)) up.0 (of_all is_shorter exception_names name shorter known) up.1 in
        let two = both (nat_lt (length (exception_chain up.0)) (length (exception_chain name)) && has_name (exception_chain name) up.0) (is_exception up.0) facts in
        let one = both (nat_lt (length (exception_chain up.0)) (length (exception_chain name))) (has_name (exception_chain name) up.0) two.0 in
        let less : length (exception_chain up.0) < length (exception_chain name) = below (length (exception_chain up.0)) (length (exception_chain name)) one.0 in
        let higher = later up.0 less two.1 (subst (λ t. IsAmong t ts) (class_is up.0 found.0 found.2) found.1) in
        (higher.0, higher.1, through name up.0 higher.0 one.1 higher.2)

-- what is absorbed is a builtin exception class
absorbed_is_known : (ts : List Term) (name : List ℕ) → is_absorbed ts (class name) ≡ true → is_exception name ≡ true
absorbed_is_known ts name h = go (is_exception name) (climb exception_rows name) h
  where
    go : (b : Bool) (names : List (List ℕ)) → list_any (has_class ts) (above (if b then names else [])) ≡ true → b ≡ true
    go true names h = refl
    go false names h = falsity (sym h)

-- ---- the normal form

list_belongs : (p : Program) (heap : List Object) (ts : List Term) (v : Value) → BelongsToOne p heap (terms_of ts) v → BelongsToSome p heap ts v
list_belongs p heap [] v h = absurd h
list_belongs p heap (t ∷ ts) v (inl h) = (t, here, h)
list_belongs p heap (t ∷ ts) v (inr h) = let one = list_belongs p heap ts v h in (one.0, there one.1, one.2)

some_belongs : (p : Program) (heap : List Object) (ts : List Term) (v : Value) (t : Term) → IsAmong t ts → Belongs p heap t v → BelongsToOne p heap (terms_of ts) v
some_belongs p heap [] v t at h = absurd (none_among t at)
some_belongs p heap (u ∷ ts) v t at h =
    elim (split_among t u ts at) [ inl e ↦ inl (subst (λ x. Belongs p heap x v) e h) | inr later ↦ inr (some_belongs p heap ts v t later h) ]

any_is : (t : Term) → is_any t ≡ true → t ≡ any
any_is any h = refl
any_is none h = falsity (sym h)
any_is _ h = falsity (sym h)

-- a type that stays and has the value
abbrev Has : Program → List Object → List Term → Value → Type 0
Has p heap ts v = (t : Term) × IsKept ts t × Belongs p heap t v

kept_has : (p : Program) (leaves : LeavesExceptions p) (heap : List Object) (ts : List Term) (v : Value) (t : Term) → IsAmong t ts → Belongs p heap t v → Has p heap ts v
kept_has p leaves heap ts v t at h = go t refl (is_absorbed ts t) refl at h
  where
    of_class : (name : List ℕ) → is_absorbed ts (class name) ≡ true → IsAmong (class name) ts → Belongs p heap (class name) v → Has p heap ts v
    of_class name e at h =
        let known : is_exception name ≡ true = absorbed_is_known ts name e in
        let up : Stays ts name = stays_in ts (length (exception_chain name)) name (omega arith) known at in
        (class up.0, up.1, value_up p leaves name up.0 known up.2 heap v h)

    go : (u : Term) → t ≡ u → (b : Bool) → is_absorbed ts u ≡ b → IsAmong u ts → Belongs p heap u v → Has p heap ts v
    go u same false e at h = (u, record { among = at; stays = e }, h)
    go (class name) same true e at h = of_class name e at h
    go any same true e at h = falsity (sym e)
    go _ same true e at h = falsity (sym e)

-- some type stays
some_kept : (ts : List Term) (t : Term) → IsAmong t ts → (u : Term) × IsKept ts u
some_kept ts t at = go t (is_absorbed ts t) refl at
  where
    go : (u : Term) (b : Bool) → is_absorbed ts u ≡ b → IsAmong u ts → (u : Term) × IsKept ts u
    go u false e at = (u, record { among = at; stays = e })
    go (class name) true e at =
        let up : Stays ts name = stays_in ts (length (exception_chain name)) name (omega arith) (absorbed_is_known ts name e) at in (class up.0, up.1)
    go any true e at = falsity (sym e)
    go _ true e at = falsity (sym e)

from_form : (p : Program) (heap : List Object) (ts : List Term) (n : Term) (v : Value) → ts ≢ [] → IsUnionOf ts n → Belongs p heap n v → BelongsToSome p heap ts v
from_form p heap ts n v some (takes_all e) h =
    let one = passes is_any ts e in (one.0, one.1, subst (λ t. Belongs p heap t v) (sym (any_is one.0 one.2)) tt)
from_form p heap [] n v some (nothing e members) h = absurd (some refl)
from_form p heap (t ∷ ts) n v some (nothing e members) h = let one = some_kept (t ∷ ts) t here in absurd (none_among one.0 (members.all one.0 one.1))
from_form p heap ts n v some (alone {t = t} e members) h = (t, (members.stay t here).among, h)
from_form p heap ts n v some (several {t = t} {u = u} {us = us} e members) h =
    let one = list_belongs p heap (t ∷ u ∷ us) v h in (one.0, (members.stay one.0 one.1).among, one.2)

only_one : (p : Program) (heap : List Object) (v : Value) (t u : Term) → IsAmong u (t ∷ []) → Belongs p heap u v → Belongs p heap t v
only_one p heap v t u at h = elim (split_among u t [] at) [ inl e ↦ subst (λ x. Belongs p heap x v) e h | inr later ↦ absurd (none_among u later) ]

to_form : (p : Program) (leaves : LeavesExceptions p) (heap : List Object) (ts : List Term) (n : Term) (v : Value) → IsUnionOf ts n → BelongsToSome p heap ts v → Belongs p heap n v
to_form p leaves heap ts n v (takes_all e) h = tt
to_form p leaves heap ts n v (nothing e members) h = tt
to_form p leaves heap ts n v (alone {t = t} e members) h =
    let one = kept_has p leaves heap ts v h.0 h.1 h.2 in only_one p heap v t one.0 (members.all one.0 one.1) one.2
to_form p leaves heap ts n v (several {t = t} {u = u} {us = us} e members) h =
    let one = kept_has p leaves heap ts v h.0 h.1 h.2 in some_belongs p heap (t ∷ u ∷ us) v one.0 (members.all one.0 one.1) one.2

pub unions_have_their_members : UnionsHaveTheirMembers
unions_have_their_members p heap ts n v leaves some form = (from_form p heap ts n v some form, to_form p leaves heap ts n v form)
