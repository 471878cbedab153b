-- Normal forms: there is one of a type, it is its own, and a union's depends on its members alone.
use Rattle.std.proofs.Common.{◌≡◌, ℕ, Bool, true, false, ◌||◌, List, [], ◌∷◌, ◌++◌, ◌⊎◌, inl, inr, ◌↔◌, refl, sym, ap, ◌∙◌, subst, true≢false}
use Rattle.std.specs.List.{list_any}
use Rattle.type_terms.specs.Exceptions.{exception_chain}
use Rattle.type_terms.specs.Terms.{Term, any, none, bool, int, float, str, bytes, list, dict, tuple, tuple_of, class, class_of, callable, union, Terms, no_terms, term, terms_of, list_of}
use Rattle.type_terms.specs.Normal.{parts, parts_of, is_any, has_any, is_class, has_class, above, is_absorbed, IsAmong, here, there, IsKept, AreMembersOf, IsUnionOf, takes_all, nothing, alone, several, IsNormalOf, AreNormalOf, IsNormal}
use Rattle.type_terms.proofs.OrderLemmas.{split_among, none_among, same_in_order}
use Rattle.type_terms.proofs.PartLemmas.{list_of-terms_of}

-- ---- tests that depend on the members alone

pub record SameTerms (ts us : List Term) : Type 0 where
  pub to : (t : Term) → IsAmong t ts → IsAmong t us
  pub from : (t : Term) → IsAmong t us → IsAmong t ts

turned : (ts us : List Term) → SameTerms ts us → SameTerms us ts
turned ts us same = record { to = same.from; from = same.to }

one_passes : (p : Term → Bool) (ts : List Term) (t : Term) → IsAmong t ts → p t ≡ true → list_any p ts ≡ true
one_passes p [] t among e = absurd (none_among t among)
one_passes p (u ∷ us) t among e = elim (split_among t u us among) [
  | inl same ↦ ap (λ b. b || list_any p us) (ap p (sym same) ∙ e)
  | inr more ↦ ap (λ b. p u || b) (one_passes p us t more e) ∙ or_true (p u)
]
  where
    or_true : (b : Bool) → (b || true) ≡ true
    or_true true = refl
    or_true false = refl

record Passes (p : Term → Bool) (ts : List Term) : Type 0 where
  term : Term
  among : IsAmong term ts
  passes : p term ≡ true

which_passes : (p : Term → Bool) (ts : List Term) → list_any p ts ≡ true → Passes p ts
which_passes p [] e = absurd (true≢false (sym e))
which_passes p (t ∷ ts) e =
    elim (p t) as (λ b. p t ≡ b → (b || list_any p ts) ≡ true → Passes p (t ∷ ts)) [
      | true ↦ λ here_is _. record { term = t; among = here; passes = here_is }
      | false ↦ λ _ more. let found = which_passes p ts more in record { term = found.term; among = there found.among; passes = found.passes }
    ] refl e

no_more_pass : (p : Term → Bool) (ts us : List Term) → ((t : Term) → IsAmong t ts → IsAmong t us) → list_any p ts ≡ true → list_any p us ≡ true
no_more_pass p ts us to e = let found = which_passes p ts e in one_passes p us found.term (to found.term found.among) found.passes

same_answers : (a b : Bool) → (a ≡ true → b ≡ true) → (b ≡ true → a ≡ true) → a ≡ b
same_answers true b to from = sym (to refl)
same_answers false true to from = from refl
same_answers false false to from = refl

same_any : (p : Term → Bool) (ts us : List Term) → SameTerms ts us → list_any p ts ≡ list_any p us
same_any p ts us same = same_answers (list_any p ts) (list_any p us) (no_more_pass p ts us same.to) (no_more_pass p us ts same.from)

same_any_above : (ts us : List Term) → SameTerms ts us → (ups : List (List ℕ)) → list_any (has_class ts) ups ≡ list_any (has_class us) ups
same_any_above ts us same [] = refl
same_any_above ts us same (up ∷ ups) = λ i. same_any (is_class up) ts us same i || same_any_above ts us same ups i

same_absorbed : (ts us : List Term) → SameTerms ts us → (t : Term) → is_absorbed ts t ≡ is_absorbed us t
same_absorbed ts us same (class name) = same_any_above ts us same (above (exception_chain name))
same_absorbed ts us same _ = refl

same_kept : (ts us : List Term) → SameTerms ts us → (t : Term) → IsKept ts t → IsKept us t
same_kept ts us same t kept = record { among = same.to t kept.among; stays = sym (same_absorbed ts us same t) ∙ kept.stays }

same_members : (ts us ms ns : List Term) → SameTerms ts us → AreMembersOf ts ms → AreMembersOf us ns → ms ≡ ns
same_members ts us ms ns same a b =
    same_in_order ms ns a.rises b.rises
    (λ t among. b.all t (same_kept ts us same t (a.stay t among)))
    (λ t among. a.all t (same_kept us ts (turned ts us same) t (b.stay t among)))

-- ---- a union depends on its parts alone

abbrev whole : List Term → Term
whole [] = any
whole (t ∷ []) = t
whole (t ∷ u ∷ us) = union (terms_of (t ∷ u ∷ us))

record Whole (ts : List Term) (n : Term) : Type 0 where
  members : List Term
  are : AreMembersOf ts members
  is : n ≡ whole members

taken_or_whole : (ts : List Term) (n : Term) → IsUnionOf ts n → ((has_any ts ≡ true) × (n ≡ any)) ⊎ ((has_any ts ≡ false) × Whole ts n)
taken_or_whole ts any (takes_all e) = inl (e, refl)
taken_or_whole ts any (nothing e are) = inr (e, record { members = []; are = are; is = refl })
taken_or_whole ts n (alone {t} e are) = inr (e, record { members = t ∷ []; are = are; is = refl })
taken_or_whole ts n (several {t} {u} {us} e are) = inr (e, record { members = t ∷ u ∷ us; are = are; is = refl })

pub same_union : (ts us : List Term) (n m : Term) → SameTerms ts us → IsUnionOf ts n → IsUnionOf us m → n ≡ m
same_union ts us n m same a b =
    let alike = same_any is_any ts us same in
    elim (taken_or_whole ts n a) [
      | inl x ↦ elim (taken_or_whole us m b) [
        | inl y ↦ x.1 ∙ sym y.1
        | inr y ↦ absurd (true≢false (sym x.0 ∙ alike ∙ y.0))
      ]
      | inr x ↦ elim (taken_or_whole us m b) [
        | inl y ↦ absurd (true≢false (sym y.0 ∙ sym alike ∙ x.0))
        | inr y ↦ let v = x.1 in let w = y.1 in v.is ∙ ap whole (same_members ts us v.members w.members same v.are w.are) ∙ sym w.is
      ]
    ]

-- ---- what the normal form of each kind of type is

any_form : (n : Term) → IsNormalOf any n → n ≡ any
any_form any p = refl
any_form _ p = absurd p

none_form : (n : Term) → IsNormalOf none n → n ≡ none
none_form none p = refl
none_form _ p = absurd p

bool_form : (n : Term) → IsNormalOf bool n → n ≡ bool
bool_form bool p = refl
bool_form _ p = absurd p

int_form : (n : Term) → IsNormalOf int n → n ≡ int
int_form int p = refl
int_form _ p = absurd p

float_form : (n : Term) → IsNormalOf float n → n ≡ float
float_form float p = refl
float_form _ p = absurd p

str_form : (n : Term) → IsNormalOf str n → n ≡ str
str_form str p = refl
str_form _ p = absurd p

bytes_form : (n : Term) → IsNormalOf bytes n → n ≡ bytes
bytes_form bytes p = refl
bytes_form _ p = absurd p

list_form : (t n : Term) → IsNormalOf (list t) n → (m : Term) × (n ≡ list m) × IsNormalOf t m
list_form t (list m) p = (m, refl, p)
list_form t _ p = absurd p

dict_form : (t u n : Term) → IsNormalOf (dict t u) n → (m : Term) × (k : Term) × (n ≡ dict m k) × IsNormalOf t m × IsNormalOf u k
dict_form t u (dict m k) p = (m, k, refl, p.0, p.1)
dict_form t u _ p = absurd p

tuple_form : (ts : Terms) (n : Term) → IsNormalOf (tuple ts) n → (ms : Terms) × (n ≡ tuple ms) × AreNormalOf ts ms
tuple_form ts (tuple ms) p = (ms, refl, p)
tuple_form ts _ p = absurd p

tuple_of_form : (t n : Term) → IsNormalOf (tuple_of t) n → (m : Term) × (n ≡ tuple_of m) × IsNormalOf t m
tuple_of_form t (tuple_of m) p = (m, refl, p)
tuple_of_form t _ p = absurd p

class_form : (name : List ℕ) (n : Term) → IsNormalOf (class name) n → n ≡ class name
class_form name (class other) p = ap class (sym p)
class_form name _ p = absurd p

class_of_form : (name : List ℕ) (n : Term) → IsNormalOf (class_of name) n → n ≡ class_of name
class_of_form name (class_of other) p = ap class_of (sym p)
class_of_form name _ p = absurd p

callable_form : (t n : Term) → IsNormalOf (callable t) n → (m : Term) × (n ≡ callable m) × IsNormalOf t m
callable_form t (callable m) p = (m, refl, p)
callable_form t _ p = absurd p

-- ---- there is one normal form

refl_terms : (ts : List Term) → SameTerms ts ts
refl_terms ts = record { to = λ t among. among; from = λ t among. among }

mutual
  pub one_form : (t n m : Term) → IsNormalOf t n → IsNormalOf t m → n ≡ m
  one_form any n m p q = any_form n p ∙ sym (any_form m q)
  one_form none n m p q = none_form n p ∙ sym (none_form m q)
  one_form bool n m p q = bool_form n p ∙ sym (bool_form m q)
  one_form int n m p q = int_form n p ∙ sym (int_form m q)
  one_form float n m p q = float_form n p ∙ sym (float_form m q)
  one_form str n m p q = str_form n p ∙ sym (str_form m q)
  one_form bytes n m p q = bytes_form n p ∙ sym (bytes_form m q)
  one_form (list t) n m p q =
      let a = list_form t n p in let b = list_form t m q in
      a.1 ∙ ap list (one_form t a.0 b.0 a.2 b.2) ∙ sym b.1
  one_form (dict t u) n m p q =
      let a = dict_form t u n p in let b = dict_form t u m q in
      let first = one_form t a.0 b.0 a.3 b.3 in let second = one_form u a.1 b.1 a.4 b.4 in
      a.2 ∙ (λ i. dict (first i) (second i)) ∙ sym b.2
  one_form (tuple ts) n m p q =
      let a = tuple_form ts n p in let b = tuple_form ts m q in
      a.1 ∙ ap tuple (one_form_each ts a.0 b.0 a.2 b.2) ∙ sym b.1
  one_form (tuple_of t) n m p q =
      let a = tuple_of_form t n p in let b = tuple_of_form t m q in
      a.1 ∙ ap tuple_of (one_form t a.0 b.0 a.2 b.2) ∙ sym b.1
  one_form (class name) n m p q = class_form name n p ∙ sym (class_form name m q)
  one_form (class_of name) n m p q = class_of_form name n p ∙ sym (class_of_form name m q)
  one_form (callable t) n m p q =
      let a = callable_form t n p in let b = callable_form t m q in
      a.1 ∙ ap callable (one_form t a.0 b.0 a.2 b.2) ∙ sym b.1
  one_form (union ts) n m p q =
      same_union (parts_of p.0) (parts_of q.0) n m (subst (λ ms. SameTerms (parts_of p.0) (parts_of ms)) (one_form_each ts p.0 q.0 p.1 q.1) (refl_terms (parts_of p.0))) p.2 q.2

  one_form_each : (ts ns ms : Terms) → AreNormalOf ts ns → AreNormalOf ts ms → ns ≡ ms
  one_form_each no_terms no_terms no_terms p q = refl
  one_form_each no_terms no_terms (term m ms) p q = absurd q
  one_form_each no_terms (term n ns) ms p q = absurd p
  one_form_each (term t ts) no_terms ms p q = absurd p
  one_form_each (term t ts) (term n ns) no_terms p q = absurd q
  one_form_each (term t ts) (term n ns) (term m ms) p q =
      let first = one_form t n m p.0 q.0 in let rest = one_form_each ts ns ms p.1 q.1 in
      λ i. term (first i) (rest i)

-- ---- where a part comes from

in_first : (x : Term) (ts us : List Term) → IsAmong x ts → IsAmong x (ts ++ us)
in_first x [] us among = absurd (none_among x among)
in_first x (t ∷ ts) us among = elim (split_among x t ts among) [
  | inl same ↦ subst (λ v. IsAmong v (t ∷ (ts ++ us))) (sym same) here
  | inr more ↦ there (in_first x ts us more)
]

in_second : (x : Term) (ts us : List Term) → IsAmong x us → IsAmong x (ts ++ us)
in_second x [] us among = among
in_second x (t ∷ ts) us among = there (in_second x ts us among)

in_either : (x : Term) (ts us : List Term) → IsAmong x (ts ++ us) → IsAmong x ts ⊎ IsAmong x us
in_either x [] us among = inr among
in_either x (t ∷ ts) us among = elim (split_among x t (ts ++ us) among) [
  | inl same ↦ inl (subst (λ v. IsAmong v (t ∷ ts)) (sym same) here)
  | inr more ↦ elim (in_either x ts us more) [ inl first ↦ inl (there first) | inr second ↦ inr second ]
]

record Origin (ts : Terms) (x : Term) : Type 0 where
  source : Term
  form : Term
  given : IsAmong source (list_of ts)
  normal : IsNormalOf source form
  part : IsAmong x (parts form)

origin : (ts ns : Terms) (x : Term) → AreNormalOf ts ns → IsAmong x (parts_of ns) → Origin ts x
origin no_terms no_terms x all among = absurd (none_among x among)
origin no_terms (term n ns) x all among = absurd all
origin (term t ts) no_terms x all among = absurd all
origin (term t ts) (term n ns) x all among = elim (in_either x (parts n) (parts_of ns) among) [
  | inl first ↦ record { source = t; form = n; given = here; normal = all.0; part = first }
  | inr more ↦ let o = origin ts ns x all.1 more in record { source = o.source; form = o.form; given = there o.given; normal = o.normal; part = o.part }
]

arrives : (ts ns : Terms) (t n x : Term) → AreNormalOf ts ns → IsAmong t (list_of ts) → IsNormalOf t n → IsAmong x (parts n) → IsAmong x (parts_of ns)
arrives no_terms ns t n x all given normal part = absurd (none_among t given)
arrives (term u us) no_terms t n x all given normal part = absurd all
arrives (term u us) (term m ms) t n x all given normal part = elim (split_among t u (list_of us) given) [
  | inl same ↦ in_first x (parts m) (parts_of ms) (subst (λ v. IsAmong x (parts v)) (one_form t n m normal (subst (λ v. IsNormalOf v m) (sym same) all.0)) part)
  | inr more ↦ in_second x (parts m) (parts_of ms) (arrives us ms t n x all.1 more normal part)
]

goes_over : (ts us ns ms : Terms) → ((t : Term) → IsAmong t (list_of ts) → IsAmong t (list_of us)) → AreNormalOf ts ns → AreNormalOf us ms → (x : Term) → IsAmong x (parts_of ns) → IsAmong x (parts_of ms)
goes_over ts us ns ms to a b x among =
    let o = origin ts ns x a among in
    arrives us ms o.source o.form x b (to o.source o.given) o.normal o.part

pub same_members_form : (ts us : Terms) (n m : Term) → ((t : Term) → IsAmong t (list_of ts) ↔ IsAmong t (list_of us)) → IsNormalOf (union ts) n → IsNormalOf (union us) m → n ≡ m
same_members_form ts us n m same p q =
    same_union (parts_of p.0) (parts_of q.0) n m
    (record { to = goes_over ts us p.0 q.0 (λ t. (same t).0) p.1 q.1; from = goes_over us ts q.0 p.0 (λ t. (same t).1) q.1 p.1 })
    p.2 q.2

-- ---- a normal form is its own

-- a part is in normal form, and no union
record IsPart (x : Term) : Type 0 where
  normal : IsNormal x
  itself : parts x ≡ x ∷ []

record Settled (n : Term) : Type 0 where
  normal : IsNormal n
  each : (x : Term) → IsAmong x (parts n) → IsPart x

single : (n x : Term) → IsAmong x (n ∷ []) → x ≡ n
single n x among = elim (split_among x n [] among) [ inl same ↦ same | inr more ↦ absurd (none_among x more) ]

settled_part : (n : Term) → IsPart n → Settled n
settled_part n is = record {
  normal = is.normal;
  each = λ x among. subst IsPart (sym (single n x (subst (IsAmong x) is.itself among))) is;
}

one_settled : (n : Term) → IsNormal n → parts n ≡ n ∷ [] → Settled n
one_settled n normal itself = settled_part n (record { normal = normal; itself = itself })

all_normal : (ms : List Term) → ((x : Term) → IsAmong x ms → IsPart x) → AreNormalOf (terms_of ms) (terms_of ms)
all_normal [] each = tt
all_normal (m ∷ ms) each = let first = each m here in (first.normal, all_normal ms (λ x among. each x (there among)))

all_parts : (ms : List Term) → ((x : Term) → IsAmong x ms → IsPart x) → parts_of (terms_of ms) ≡ ms
all_parts [] each = refl
all_parts (m ∷ ms) each =
    let first = each m here in let rest = all_parts ms (λ x among. each x (there among)) in
    λ i. first.itself i ++ rest i

fewer_above : (ts us : List Term) → ((t : Term) → IsAmong t ts → IsAmong t us) → (ups : List (List ℕ)) → list_any (has_class us) ups ≡ false → list_any (has_class ts) ups ≡ false
fewer_above ts us to [] e = refl
fewer_above ts us to (up ∷ ups) e =
    elim (has_class ts up) as (λ b. has_class ts up ≡ b → (b || list_any (has_class ts) ups) ≡ false) [
      | true ↦ λ has. absurd (true≢false (sym (no_more_pass (is_class up) ts us to has) ∙ first_false (has_class us up) (list_any (has_class us) ups) e))
      | false ↦ λ _. fewer_above ts us to ups (second_false (has_class us up) (list_any (has_class us) ups) e)
    ] refl
  where
    first_false : (a b : Bool) → (a || b) ≡ false → a ≡ false
    first_false true b e = e
    first_false false b e = refl

    second_false : (a b : Bool) → (a || b) ≡ false → b ≡ false
    second_false true b e = absurd (true≢false e)
    second_false false b e = e

fewer_absorbed : (ts us : List Term) → ((t : Term) → IsAmong t ts → IsAmong t us) → (x : Term) → is_absorbed us x ≡ false → is_absorbed ts x ≡ false
fewer_absorbed ts us to (class name) e = fewer_above ts us to (above (exception_chain name)) e
fewer_absorbed ts us to _ e = refl

fewer_any : (ts us : List Term) → ((t : Term) → IsAmong t ts → IsAmong t us) → has_any us ≡ false → has_any ts ≡ false
fewer_any ts us to e =
    elim (has_any ts) as (λ b. has_any ts ≡ b → b ≡ false) [
      | true ↦ λ has. absurd (true≢false (sym (no_more_pass is_any ts us to has) ∙ e))
      | false ↦ λ _. refl
    ] refl

still_members : (ts ms : List Term) → AreMembersOf ts ms → AreMembersOf ms ms
still_members ts ms are =
    let to : (t : Term) → IsAmong t ms → IsAmong t ts = λ t among. let kept = are.stay t among in kept.among in
    record {
      rises = are.rises;
      stay = λ t among. let kept = are.stay t among in record { among = among; stays = fewer_absorbed ms ts to t kept.stays };
      all = λ t kept. kept.among;
    }

settled_union : (ts : List Term) (n : Term) → ((x : Term) → IsAmong x ts → IsPart x) → IsUnionOf ts n → Settled n
settled_union ts any each (takes_all e) = one_settled any tt refl
settled_union ts any each (nothing e are) = one_settled any tt refl
settled_union ts n each (alone {t} e are) = let kept = are.stay t here in settled_part t (each t kept.among)
settled_union ts n each (several {t} {u} {us} e are) =
    let ms = t ∷ u ∷ us in
    let to : (x : Term) → IsAmong x ms → IsAmong x ts = λ x among. let kept = are.stay x among in kept.among in
    let parts_are : (x : Term) → IsAmong x ms → IsPart x = λ x among. each x (to x among) in
    record {
      normal = (terms_of ms, all_normal ms parts_are, subst (λ ps. IsUnionOf ps (union (terms_of ms))) (sym (all_parts ms parts_are)) (several (fewer_any ms ts to e) (still_members ts ms are)));
      each = λ x among. parts_are x (subst (IsAmong x) (list_of-terms_of ms) among);
    }

moved : (n m : Term) → n ≡ m → IsNormal m → IsNormal n
moved n m e normal = subst IsNormal (sym e) normal

settled_as : (n m : Term) → n ≡ m → Settled m → Settled n
settled_as n m e settled = subst Settled (sym e) settled

mutual
  settles : (t n : Term) → IsNormalOf t n → Settled n
  settles any n p = settled_as n any (any_form n p) (one_settled any tt refl)
  settles none n p = settled_as n none (none_form n p) (one_settled none tt refl)
  settles bool n p = settled_as n bool (bool_form n p) (one_settled bool tt refl)
  settles int n p = settled_as n int (int_form n p) (one_settled int tt refl)
  settles float n p = settled_as n float (float_form n p) (one_settled float tt refl)
  settles str n p = settled_as n str (str_form n p) (one_settled str tt refl)
  settles bytes n p = settled_as n bytes (bytes_form n p) (one_settled bytes tt refl)
  settles (list t) n p =
      let a = list_form t n p in let s = settles t a.0 a.2 in
      settled_as n (list a.0) a.1 (one_settled (list a.0) s.normal refl)
  settles (dict t u) n p =
      let a = dict_form t u n p in let s = settles t a.0 a.3 in let r = settles u a.1 a.4 in
      settled_as n (dict a.0 a.1) a.2 (one_settled (dict a.0 a.1) (s.normal, r.normal) refl)
  settles (tuple ts) n p =
      let a = tuple_form ts n p in
      settled_as n (tuple a.0) a.1 (one_settled (tuple a.0) (settles_each ts a.0 a.2).0 refl)
  settles (tuple_of t) n p =
      let a = tuple_of_form t n p in let s = settles t a.0 a.2 in
      settled_as n (tuple_of a.0) a.1 (one_settled (tuple_of a.0) s.normal refl)
  settles (class name) n p = settled_as n (class name) (class_form name n p) (one_settled (class name) refl refl)
  settles (class_of name) n p = settled_as n (class_of name) (class_of_form name n p) (one_settled (class_of name) refl refl)
  settles (callable t) n p =
      let a = callable_form t n p in let s = settles t a.0 a.2 in
      settled_as n (callable a.0) a.1 (one_settled (callable a.0) s.normal refl)
  settles (union ts) n p = settled_union (parts_of p.0) n (settles_each ts p.0 p.1).1 p.2

  settles_each : (ts ns : Terms) → AreNormalOf ts ns → AreNormalOf ns ns × ((x : Term) → IsAmong x (parts_of ns) → IsPart x)
  settles_each no_terms no_terms all = (tt, λ x among. absurd (none_among x among))
  settles_each no_terms (term n ns) all = absurd all
  settles_each (term t ts) no_terms all = absurd all
  settles_each (term t ts) (term n ns) all =
      let first = settles t n all.0 in let rest = settles_each ts ns all.1 in
      ((first.normal, rest.0), λ x among. elim (in_either x (parts n) (parts_of ns) among) [ inl a ↦ first.each x a | inr b ↦ rest.1 x b ])

pub settled : (t n : Term) → IsNormalOf t n → IsNormal n
settled t n p = let s = settles t n p in s.normal
