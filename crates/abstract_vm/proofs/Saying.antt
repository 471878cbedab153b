-- What is said by one after another.
use Rattle.std.proofs.Common.{◌≡◌, ◌↔◌, ◌⊎◌, inl, inr, ℕ, ◌+◌, ◌<◌, Bool, true, false, ◌||◌, Result, Ok, Err, OnOk, List, [], ◌∷◌, ◌++◌, length, get_or, take, IsTrue, refl, sym, ap, subst, ◌∙◌}
use Rattle.std.proofs.lemmas.List.{take_more}
use Rattle.std.proofs.Math.Seq.{take-length}
use Rattle.std.proofs.lemmas.List.Elements.{Contains-push, Contains-push_cases, Contains-append_left}
use Rattle.graph_walks.proofs.Lists.{empty}
use Rattle.abstract_vm.specs.declared.verdict.Verdict.{Verdict}
use Rattle.abstract_vm.specs.Marks.{Mark, Says, SaysToo, AnyTells}

-- what follows where a call succeeds
pub on_ok : {A E : Type 0} (r : Result A E) (P Q : Type 0) → (P → Q) → OnOk r P → OnOk r Q
on_ok (Ok x) P Q f h = f h
on_ok (Err e) P Q f h = h

pub nothing_more : (T : Mark → Type 0) (v : Verdict) → ((m : Mark) → T m → ⊥) → SaysToo T v v
nothing_more T v never = record { each = λ m. (λ h. inl h, λ h. elim h [ inl i ↦ i | inr t ↦ absurd (never m t) ]) }

pub both_more : (T U : Mark → Type 0) (a b c : Verdict) → SaysToo T a b → SaysToo U b c → SaysToo (λ m. T m ⊎ U m) a c
both_more T U a b c t u = record { each = λ m. (to m, from m) }
  where
    to : (m : Mark) → Says c m → Says a m ⊎ (T m ⊎ U m)
    to m h = elim ((u.each m).0 h) [ inl i ↦ elim ((t.each m).0 i) [ inl j ↦ inl j | inr j ↦ inr (inl j) ] | inr i ↦ inr (inr i) ]

    from : (m : Mark) → Says a m ⊎ (T m ⊎ U m) → Says c m
    from m (inl i) = (u.each m).1 (inl ((t.each m).1 (inl i)))
    from m (inr (inl i)) = (u.each m).1 (inl ((t.each m).1 (inr i)))
    from m (inr (inr i)) = (u.each m).1 (inr i)

pub same_more : (T U : Mark → Type 0) (a b : Verdict) → ((m : Mark) → T m ↔ U m) → SaysToo T a b → SaysToo U a b
same_more T U a b same t = record { each = λ m. (to m, from m) }
  where
    to : (m : Mark) → Says b m → Says a m ⊎ U m
    to m h = elim ((t.each m).0 h) [ inl i ↦ inl i | inr i ↦ inr ((same m).0 i) ]

    from : (m : Mark) → Says a m ⊎ U m → Says b m
    from m (inl i) = (t.each m).1 (inl i)
    from m (inr i) = (t.each m).1 (inr ((same m).1 i))

-- ---- by each of a list

module _ {X : Type 0} (T : X → Mark → Type 0) where
  no_item : (m : Mark) → AnyTells T [] m → ⊥
  no_item m h = empty h.item h.is

  pub none_told : (xs : List X) (v : Verdict) → SaysToo (AnyTells T (take 0 xs)) v v
  none_told xs v = nothing_more (AnyTells T (take 0 xs)) v no_item

  pub one_more_told : (xs : List X) (i : ℕ) (x : X) → i < length xs → x ≡ get_or xs i x → (a b c : Verdict) → SaysToo (AnyTells T (take i xs)) a b → SaysToo (T x) b c → SaysToo (AnyTells T (take (i + 1) xs)) a c
  one_more_told xs i x l is a b c t u = subst (λ ys. SaysToo (AnyTells T ys) a c) (sym taken) (same_more _ _ a c (λ m. (to m, from m)) (both_more _ _ a b c t u))
    where
      taken : take (i + 1) xs ≡ take i xs ++ x ∷ []
      taken = take_more xs i x l ∙ ap (λ y. take i xs ++ y ∷ []) (sym is)

      to : (m : Mark) → AnyTells T (take i xs) m ⊎ T x m → AnyTells T (take i xs ++ x ∷ []) m
      to m (inl h) = record { item = h.item; is = Contains-append_left (take i xs) (x ∷ []) h.item h.is; says = h.says }
      to m (inr h) = record { item = x; is = Contains-push (take i xs) x; says = h }

      from : (m : Mark) → AnyTells T (take i xs ++ x ∷ []) m → AnyTells T (take i xs) m ⊎ T x m
      from m h = elim (Contains-push_cases (take i xs) x h.item h.is) [ inl c ↦ inl (record { item = h.item; is = c; says = h.says }) | inr e ↦ inr (subst (λ y. T y m) (sym e) h.says) ]

  pub all_told : (xs : List X) (i : ℕ) → i ≡ length xs → (a b : Verdict) → SaysToo (AnyTells T (take i xs)) a b → SaysToo (AnyTells T xs) a b
  all_told xs i e a b t = subst (λ ys. SaysToo (AnyTells T ys) a b) (ap (λ k. take k xs) e ∙ take-length xs) t

-- ---- marks that are true of one of two

pub either_true : (a b : Bool) → IsTrue (a || b) ↔ (IsTrue a ⊎ (b ≡ true))
either_true true b = (λ h. inl refl, λ h. refl)
either_true false true = (λ h. inr refl, λ h. refl)
either_true false false = (λ h. inl h, λ h. elim h [ inl i ↦ i | inr e ↦ e ])
