-- Each type of a normal stub can be spelled, and its classes are known where they are read.
use Rattle.std.proofs.Common.{◌≡◌, ℕ, Bool, true, false, not, ◌&&◌, ◌||◌, cond, List, [], ◌∷◌, ◌++◌, map, inl, inr, Option, Some, None, refl, sym, ap, ◌∙◌, subst}
use Rattle.std.specs.List.{list_any, list_all, filter_map, cons_option, AllByRecursion}
use Rattle.std.specs.Str.{bytes_eq}
use Rattle.std.specs.Cmp.Lexicographic.{bytes_decides}
use Rattle.std.proofs.lemmas.Bool.{cases_Bool}
use Rattle.type_terms.specs.BuiltinNames.{has_name, taken_names, is_instance_name, is_class_name}
use Rattle.type_terms.specs.Normal.{parts, parts_of, IsAmong, here, there, IsUnionOf, takes_all, nothing, alone, several, IsNormalOf, AreNormalOf}
use Rattle.type_terms.specs.ProperStubs.{names_pass, all_names_pass, is_qualified, has_class_named}
use Rattle.type_terms.specs.Stubs.{Class, Stub}
use Rattle.type_terms.specs.Terms.{Term, any, none, bool, int, float, str, bytes, list, dict, tuple, tuple_of, class, class_of, callable, union, Terms, no_terms, term, terms_of, list_of}
use Rattle.pyi_write.specs.Imports.{within, all_within, module_of, module_named}
use Rattle.pyi_write.specs.Meanings.{is_among}
use Rattle.pyi_write.specs.NormalStubs.{IsPath, AllNames, EachAllNames}
use Rattle.pyi_write.specs.TypeGrammar.{bare_names, bare_in, bare}
use Rattle.pyi_write.proofs.Words.{and_first, and_second}
use Rattle.pyi_write.proofs.Spelling.{Sound, AllSound}
use Rattle.pyi_write.proofs.Modules.{IsIn, qualified_module}

-- ---- no union without members

abbrev mutual
  pub Full : Term → Type 0
  Full (list t) = Full t
  Full (dict t u) = Full t × Full u
  Full (tuple ts) = AllFull ts
  Full (tuple_of t) = Full t
  Full (callable t) = Full t
  Full (union no_terms) = ⊥
  Full (union (term t ts)) = Full t × AllFull ts
  Full _ = Unit {0}

  pub AllFull : Terms → Type 0
  AllFull no_terms = Unit {0}
  AllFull (term t ts) = Full t × AllFull ts

among_full : (t : Term) (ts : List Term) → IsAmong t ts → AllByRecursion Full ts → Full t
among_full t [] is h = elim is [ ]
among_full t (u ∷ us) here h = h.0
among_full t (u ∷ us) (there is) h = among_full t us is h.1

listed_full : (ts : Terms) (more : List Term) → AllFull ts → AllByRecursion Full more → AllByRecursion Full (list_of ts ++ more)
listed_full no_terms more h k = k
listed_full (term t ts) more h k = (h.0, listed_full ts more h.1 k)

part_full : (t : Term) (more : List Term) → Full t → AllByRecursion Full more → AllByRecursion Full (parts t ++ more)
part_full (union no_terms) more h k = absurd h
part_full (union (term t ts)) more h k = listed_full (term t ts) more h k
part_full any more h k = (h, k)
part_full none more h k = (h, k)
part_full bool more h k = (h, k)
part_full int more h k = (h, k)
part_full float more h k = (h, k)
part_full str more h k = (h, k)
part_full bytes more h k = (h, k)
part_full (list t) more h k = (h, k)
part_full (dict t u) more h k = (h, k)
part_full (tuple ts) more h k = (h, k)
part_full (tuple_of t) more h k = (h, k)
part_full (class n) more h k = (h, k)
part_full (class_of n) more h k = (h, k)
part_full (callable t) more h k = (h, k)

parts_full : (ns : Terms) → AllFull ns → AllByRecursion Full (parts_of ns)
parts_full no_terms h = tt
parts_full (term n ns) h = part_full n (parts_of ns) h.0 (parts_full ns h.1)

stays_full : (members : List Term) → ((t : Term) → IsAmong t members → Full t) → AllFull (terms_of members)
stays_full [] each = tt
stays_full (t ∷ ts) each = (each t here, stays_full ts (λ u is. each u (there is)))

union_full : (ts : List Term) (n : Term) → AllByRecursion Full ts → IsUnionOf ts n → Full n
union_full ts n h (takes_all is) = tt
union_full ts n h (nothing is members) = tt
union_full ts n h (alone {t = t} is members) = among_full t ts (members.stay t here).among h
union_full ts n h (several {t = t} {u = u} {us = us} is members) = stays_full (t ∷ u ∷ us) (λ v at. among_full v ts (members.stay v at).among h)

mutual
  pub normal_full : (t n : Term) → IsNormalOf t n → Full n
  normal_full (union ts) n h = union_full (parts_of h.0) n (parts_full h.0 (all_normal_full ts h.0 h.1)) h.2
  normal_full any any h = tt
  normal_full none none h = tt
  normal_full bool bool h = tt
  normal_full int int h = tt
  normal_full float float h = tt
  normal_full str str h = tt
  normal_full bytes bytes h = tt
  normal_full (list t) (list n) h = normal_full t n h
  normal_full (dict t u) (dict n m) h = (normal_full t n h.0, normal_full u m h.1)
  normal_full (tuple ts) (tuple ns) h = all_normal_full ts ns h
  normal_full (tuple_of t) (tuple_of n) h = normal_full t n h
  normal_full (class a) (class b) h = tt
  normal_full (class_of a) (class_of b) h = tt
  normal_full (callable t) (callable n) h = normal_full t n h
  normal_full _ _ h = absurd h

  all_normal_full : (ts ns : Terms) → AreNormalOf ts ns → AllFull ns
  all_normal_full no_terms no_terms h = tt
  all_normal_full (term t ts) (term n ns) h = (normal_full t n h.0, all_normal_full ts ns h.1)
  all_normal_full _ _ h = absurd h

-- ---- a class's name alone stands for that class

one_of_all : (test : List ℕ → Bool) (n : List ℕ) (xs : List (List ℕ)) → list_any (bytes_eq n) xs ≡ true → list_all test xs ≡ true → test n ≡ true
one_of_all test n [] h k = absurd (cc)
one_of_all test n (x ∷ xs) h k = elim (cases_Bool (bytes_eq n x)) [
  | inl is ↦ ap test ((bytes_decides n x).0 is) ∙ and_first (test x) (list_all test xs) k
  | inr other ↦ one_of_all test n xs (ap (λ t. t || list_any (bytes_eq n) xs) (sym other) ∙ h) (and_second (test x) (list_all test xs) k)
]

abbrev bare_words : List (List ℕ)
bare_words = map (λ (row : List ℕ × Term). row.0) bare_names

bare_class : (n : List ℕ) (rows : List (List ℕ × Term)) → list_any (bytes_eq n) (map (λ (row : List ℕ × Term). row.0) rows) ≡ false → class n ≡ bare_in rows n
bare_class n [] h = refl
bare_class n (row ∷ rows) h = elim (cases_Bool (bytes_eq n row.0)) [
  | inl is ↦ (let both : true ≡ false = sym (ap (λ t. t || list_any (bytes_eq n) (map (λ (r : List ℕ × Term). r.0) rows)) is) ∙ h in absurd (cc))
  | inr other ↦ bare_class n rows (ap (λ t. t || list_any (bytes_eq n) (map (λ (r : List ℕ × Term). r.0) rows)) (sym other) ∙ h) ∙ sym (ap (λ t. cond t row.1 (bare_in rows n)) other)
]

-- a name for which some test says that it is none of the bare names
by_test : (test : List ℕ → Bool) (n : List ℕ) → test n ≡ false → list_all test bare_words ≡ true → class n ≡ bare n
by_test test n fails each = elim (cases_Bool (list_any (bytes_eq n) bare_words)) [
  | inl is ↦ (let both : false ≡ true = sym fails ∙ one_of_all test n bare_words is each in absurd (cc))
  | inr other ↦ bare_class n bare_names other
]

own_free : (classes : List Class) (n : List ℕ) → has_class_named classes n ≡ true → list_any (λ (c : Class). has_name taken_names c.name) classes ≡ false → has_name taken_names n ≡ false
own_free [] n h k = absurd (cc)
own_free (c ∷ cs) n h k = elim (cases_Bool (has_name taken_names c.name)) [
  | inl taken ↦ (let both : true ≡ false = sym (ap (λ t. t || list_any (λ (d : Class). has_name taken_names d.name) cs) taken) ∙ k in absurd (cc))
  | inr free ↦ elim (cases_Bool (bytes_eq n c.name)) [
    | inl is ↦ ap (has_name taken_names) ((bytes_decides n c.name).0 is) ∙ free
    | inr other ↦ own_free cs n (ap (λ t. t || has_class_named cs n) (sym other) ∙ h) (ap (λ t. t || list_any (λ (d : Class). has_name taken_names d.name) cs) (sym free) ∙ k)
  ]
]

module _ (s : Stub) (own : list_any (λ (c : Class). has_name taken_names c.name) s.classes ≡ false) where
  known_bare : (n : List ℕ) (a b c : Bool) → has_class_named s.classes n ≡ a → is_instance_name n ≡ b → is_qualified n ≡ c → a || (b || c) ≡ true → class n ≡ bare n
  known_bare n true b c is instance qualified h = by_test (has_name taken_names) n (own_free s.classes n is own) refl
  known_bare n false true c is instance qualified h = by_test (λ x. not (is_instance_name x)) n (ap not instance) refl
  known_bare n false false true is instance qualified h = by_test (λ x. not (is_qualified x)) n (ap not qualified) refl
  known_bare n false false false is instance qualified h = absurd (cc)

  abbrev known_instance : List ℕ → Bool
  known_instance n = has_class_named s.classes n || (is_instance_name n || is_qualified n)

  abbrev known_class : List ℕ → Bool
  known_class n = has_class_named s.classes n || (is_class_name n || is_qualified n)

  mutual
    pub sound : (t : Term) → AllNames IsPath t → Full t → names_pass known_instance known_class t ≡ true → Sound t
    sound (list t) p f k = sound t p f k
    sound (dict t u) p f k = (sound t p.0 f.0 (and_first (names_pass known_instance known_class t) (names_pass known_instance known_class u) k), sound u p.1 f.1 (and_second (names_pass known_instance known_class t) (names_pass known_instance known_class u) k))
    sound (tuple ts) p f k = all_sound ts p f k
    sound (tuple_of t) p f k = sound t p f k
    sound (class n) p f k = (p, known_bare n (has_class_named s.classes n) (is_instance_name n) (is_qualified n) refl refl refl k)
    sound (class_of n) p f k = p
    sound (callable t) p f k = sound t p f k
    sound (union no_terms) p f k = absurd f
    sound (union (term t ts)) p f k = all_sound (term t ts) p f k
    sound any p f k = tt
    sound none p f k = tt
    sound bool p f k = tt
    sound int p f k = tt
    sound float p f k = tt
    sound str p f k = tt
    sound bytes p f k = tt

    all_sound : (ts : Terms) → EachAllNames IsPath ts → AllFull ts → all_names_pass known_instance known_class ts ≡ true → AllSound ts
    all_sound no_terms p f k = tt
    all_sound (term t ts) p f k = (
      sound t p.0 f.0 (and_first (names_pass known_instance known_class t) (all_names_pass known_instance known_class ts) k),
      all_sound ts p.1 f.1 (and_second (names_pass known_instance known_class t) (all_names_pass known_instance known_class ts) k),
    )

-- ---- what is known of the classes of other modules, where these modules are imported

filter_append : {X : Type 0} (f : X → Option (List ℕ)) (xs ys : List X) → filter_map f (xs ++ ys) ≡ filter_map f xs ++ filter_map f ys
filter_append f [] ys = refl
filter_append f (x ∷ xs) ys = ap (cons_option (f x)) (filter_append f xs ys) ∙ cons_append (f x) (filter_map f xs) (filter_map f ys)
  where
    cons_append : (o : Option (List ℕ)) (ls ms : List (List ℕ)) → cons_option o (ls ++ ms) ≡ cons_option o ls ++ ms
    cons_append None ls ms = refl
    cons_append (Some a) ls ms = refl

pub all_front : {X : Type 0} (P : X → Type 0) (xs ys : List X) → AllByRecursion P (xs ++ ys) → AllByRecursion P xs
all_front P [] ys h = tt
all_front P (x ∷ xs) ys h = (h.0, all_front P xs ys h.1)

pub all_rest : {X : Type 0} (P : X → Type 0) (xs ys : List X) → AllByRecursion P (xs ++ ys) → AllByRecursion P ys
all_rest P [] ys h = h
all_rest P (x ∷ xs) ys h = all_rest P xs ys h.1

-- the modules that a type names are among these
abbrev pub Covered : List (List ℕ) → List Term → Type 0
Covered mods ts = AllByRecursion (IsIn mods) (filter_map module_named ts)

pub covered_front : (mods : List (List ℕ)) (xs ys : List Term) → Covered mods (xs ++ ys) → Covered mods xs
covered_front mods xs ys h = all_front (IsIn mods) (filter_map module_named xs) (filter_map module_named ys) (subst (AllByRecursion (IsIn mods)) (filter_append module_named xs ys) h)

pub covered_rest : (mods : List (List ℕ)) (xs ys : List Term) → Covered mods (xs ++ ys) → Covered mods ys
covered_rest mods xs ys h = all_rest (IsIn mods) (filter_map module_named xs) (filter_map module_named ys) (subst (AllByRecursion (IsIn mods)) (filter_append module_named xs ys) h)

module _ (s : Stub) (mods : List (List ℕ)) where
  among : (n : List ℕ) (a b : Bool) → a || (b || is_qualified n) ≡ true → AllByRecursion (IsIn mods) (cons_option (module_of n) []) → a || (b || is_among mods (module_of n)) ≡ true
  among n true b h c = refl
  among n false true h c = refl
  among n false false h c =
      let found = qualified_module n h in
      let there : AllByRecursion (IsIn mods) (cons_option (Some found.0) []) = subst (λ (o : Option (List ℕ)). AllByRecursion (IsIn mods) (cons_option o [])) found.1 c in
      ap (is_among mods) found.1 ∙ there.0

  abbrev was_instance : List ℕ → Bool
  was_instance n = has_class_named s.classes n || (is_instance_name n || is_qualified n)

  abbrev was_class : List ℕ → Bool
  was_class n = has_class_named s.classes n || (is_class_name n || is_qualified n)

  abbrev now_instance : List ℕ → Bool
  now_instance n = has_class_named s.classes n || (is_instance_name n || is_among mods (module_of n))

  abbrev now_class : List ℕ → Bool
  now_class n = has_class_named s.classes n || (is_class_name n || is_among mods (module_of n))

  and_both : (a b : Bool) → a ≡ true → b ≡ true → a && b ≡ true
  and_both a b h k = ap (λ t. t && b) h ∙ k

  mutual
    pub known_too : (t : Term) → names_pass was_instance was_class t ≡ true → Covered mods (within t) → names_pass now_instance now_class t ≡ true
    known_too (list t) k c = known_too t k c
    known_too (dict t u) k c =
        and_both (names_pass now_instance now_class t) (names_pass now_instance now_class u)
        (known_too t (and_first (names_pass was_instance was_class t) (names_pass was_instance was_class u) k) (covered_front mods (within t) (within u) c))
        (known_too u (and_second (names_pass was_instance was_class t) (names_pass was_instance was_class u) k) (covered_rest mods (within t) (within u) c))
    known_too (tuple ts) k c = all_known_too ts k c
    known_too (tuple_of t) k c = known_too t k c
    known_too (class n) k c = among n (has_class_named s.classes n) (is_instance_name n) k c
    known_too (class_of n) k c = among n (has_class_named s.classes n) (is_class_name n) k c
    known_too (callable t) k c = known_too t k c
    known_too (union ts) k c = all_known_too ts k c
    known_too any k c = refl
    known_too none k c = refl
    known_too bool k c = refl
    known_too int k c = refl
    known_too float k c = refl
    known_too str k c = refl
    known_too bytes k c = refl

    all_known_too : (ts : Terms) → all_names_pass was_instance was_class ts ≡ true → Covered mods (all_within ts) → all_names_pass now_instance now_class ts ≡ true
    all_known_too no_terms k c = refl
    all_known_too (term t ts) k c =
        and_both (names_pass now_instance now_class t) (all_names_pass now_instance now_class ts)
        (known_too t (and_first (names_pass was_instance was_class t) (all_names_pass was_instance was_class ts) k) (covered_front mods (within t) (all_within ts) c))
        (all_known_too ts (and_second (names_pass was_instance was_class t) (all_names_pass was_instance was_class ts) k) (covered_rest mods (within t) (all_within ts) c))
