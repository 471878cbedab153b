-- One list of names is printed.
use Rattle.std.proofs.Common.{◌≡◌, ℕ, Bool, true, false, ◌||◌, nat_eq, List, [], ◌∷◌, ◌++◌, All, if◌then◌else◌, refl, sym, ap, ◌∙◌, true≢false, arith}
use Rattle.std.proofs.lemmas.Bool.{eqb-true}
use Rattle.std.proofs.lemmas.Cmp.{nat_list_cmp_total}
use Rattle.std.proofs.lemmas.List.Elements.{All-head, All-tail}
use Rattle.std.proofs.lemmas.List.Folds.{list_any-append}
use Rattle.std.proofs.lemmas.Map.Text.{is_eq-slice_cmp}
use Rattle.std.specs.Cmp.Lexicographic.{bytes_decides}
use Rattle.std.specs.List.{AllByRecursion}
use Rattle.std.specs.List.Sorted.{IsStrictlySortedBy}
use Rattle.std.specs.Ordering.{is_lt, is_eq, ordering_reverse}
use Rattle.std.specs.declared.cmp.Ordering.{Ordering}
use Rattle.std.specs.declared.cmp.Ordering.TheVariants.{Less, Equal, Greater}
use Rattle.scope_rules.specs.declared.mention.Mention.{Mention}
use Rattle.scope_rules.specs.declared.mention.Role.{Role}
use Rattle.scope_rules.specs.NameLists.{has_name, with_name_if, text_of}
use Rattle.scope_rules.specs.Named.{named, mentioned}
use Rattle.scope_rules.specs.Printed.{text_order, placed, in_order, printed_of, ArePrinted, HaveOwnTexts}
use Rattle.scope_rules.specs.Roles.{is_value}
use Rattle.scope_rules.proofs.InOrder.{lt, in_order_up, in_order_has, placed_has}
use Rattle.scope_rules.proofs.MentionLemmas.{has_named}
use Rattle.scope_rules.proofs.Rising.{Up}

-- each name once
abbrev Once : List ℕ → Type 0
Once [] = Unit {0}
Once (n ∷ ns) = (has_name ns n ≡ false) × Once ns

neither : (a b : Bool) → (a || b) ≡ false → (a ≡ false) × (b ≡ false)
neither false b h = (refl, h)
neither true b h = absurd (true≢false h)

or_both : (a b : Bool) → a ≡ false → b ≡ false → (a || b) ≡ false
or_both false b p q = q
or_both true b p q = p

eq_self : (n : ℕ) → nat_eq n n ≡ true
eq_self n = grind arith

eq_swap : (n m : ℕ) → nat_eq n m ≡ nat_eq m n
eq_swap n m = grind arith

once_more : (ns : List ℕ) (n : ℕ) → Once ns → has_name ns n ≡ false → Once (ns ++ n ∷ [])
once_more [] n once new = (refl, tt)
once_more (m ∷ ms) n once new =
    let parts = neither (nat_eq n m) (has_name ms n) new in
    let here : has_name (ms ++ n ∷ []) m ≡ false =
    list_any-append (nat_eq m) ms (n ∷ []) ∙ or_both (has_name ms m) (nat_eq m n || false) once.0 (or_both (nat_eq m n) false (eq_swap m n ∙ parts.0) refl)
    in
    (here, once_more ms n once.1 parts.1)

once_with : (b : Bool) (ns : List ℕ) (n : ℕ) → Once ns → Once (with_name_if b ns n)
once_with false ns n once = once
once_with true ns n once = by (has_name ns n) refl
  where
    by : (b : Bool) → has_name ns n ≡ b → Once (if b then ns else ns ++ n ∷ [])
    by true e = once
    by false e = once_more ns n once e

named_once : (wanted : Role → Bool) (ns : List ℕ) (ms : List Mention) → Once ns → Once (named wanted ns ms)
named_once wanted ns [] once = once
named_once wanted ns (m ∷ ms) once = named_once wanted (with_name_if (wanted m.role) ns m.name) ms (once_with (wanted m.role) ns m.name once)

module _ (texts : List (List ℕ)) where
  -- from the order of two texts, and from the other way round
  itself : (n m : ℕ) → text_of texts n ≡ text_of texts m → text_order texts n m ≡ Less → ⊥
  itself n m same less =
      let eq : is_eq (text_order texts n m) ≡ true = is_eq-slice_cmp (text_of texts n) (text_of texts m) ∙ (bytes_decides (text_of texts n) (text_of texts m)).1 same in
      let no : is_eq Less ≡ true = sym (ap is_eq less) ∙ eq in
      absurd (true≢false (sym no))

  reversed : (n m : ℕ) → text_order texts n m ≡ ordering_reverse (text_order texts m n)
  reversed n m = nat_list_cmp_total.antisymm (text_of texts n) (text_of texts m)

  both_less : (n m : ℕ) → text_order texts n m ≡ Less → text_order texts m n ≡ Less → ⊥
  both_less n m p q =
      let e : Less ≡ Greater = sym p ∙ reversed n m ∙ ap ordering_reverse q in
      let no : is_lt Less ≡ is_lt Greater = ap is_lt e in
      true≢false no

  -- what doesn't come before another, of another text, comes after it
  comes_after : (n m : ℕ) → (text_of texts n ≡ text_of texts m → ⊥) → lt texts m n ≡ false → text_order texts n m ≡ Less
  comes_after n m differ not_before = by (text_order texts m n) refl
    where
      by : (r : Ordering) → text_order texts m n ≡ r → text_order texts n m ≡ Less
      by Less e = absurd (true≢false (sym (ap is_lt e) ∙ not_before))
      by Greater e = reversed n m ∙ ap ordering_reverse e
      by Equal e =
          let eq = sym (is_eq-slice_cmp (text_of texts m) (text_of texts n)) ∙ ap is_eq e in
          absurd (differ (sym ((bytes_decides (text_of texts m) (text_of texts n)).0 eq)))

  -- names of one text are one name
  abbrev Own : List ℕ → Type 0
  Own ns = (n m : ℕ) → has_name ns n ≡ true → has_name ns m ≡ true → text_of texts n ≡ text_of texts m → n ≡ m

  later : (n m : ℕ) (ns : List ℕ) → has_name ns m ≡ true → has_name (n ∷ ns) m ≡ true
  later n m ns there = by (nat_eq m n)
    where
      by : (b : Bool) → (b || has_name ns m) ≡ true
      by true = refl
      by false = there

  first_has : (n : ℕ) (ns : List ℕ) → has_name (n ∷ ns) n ≡ true
  first_has n ns = ap (λ b. b || has_name ns n) (eq_self n)

  own_later : (n : ℕ) (ns : List ℕ) → Own (n ∷ ns) → Own ns
  own_later n ns own m k p q e = own m k (later n m ns p) (later n k ns q) e

  each_later : (n : ℕ) (ns rest : List ℕ) → has_name ns n ≡ false → Own (n ∷ ns) → ((m : ℕ) → has_name rest m ≡ true → has_name ns m ≡ true) → All (λ y. lt texts y n ≡ false) rest
      → AllByRecursion (λ m. text_order texts n m ≡ Less) rest
  each_later n ns [] new own among up = tt
  each_later n ns (m ∷ ms) new own among up =
      let there = among m (first_has m ms) in
      let differ : text_of texts n ≡ text_of texts m → ⊥ = λ e. true≢false (sym there ∙ ap (has_name ns) (sym (own n m (first_has n ns) (later n m ns there) e)) ∙ new) in
      (comes_after n m differ (All-head (λ y. lt texts y n ≡ false) m ms up), each_later n ns ms new own (λ k h. among k (later m k ms h)) (All-tail (λ y. lt texts y n ≡ false) m ms up))

  rises : (ns : List ℕ) → Up (lt texts) ns → Once ns → Own ns → IsStrictlySortedBy (text_order texts) ns
  unfolding IsStrictlySortedBy
  rises [] up once own = tt
  rises (n ∷ ns) up once own = (each_later n ns ns once.0 own (λ m h. h) up.0, rises ns up.1 once.1 (own_later n ns own))

  -- a name among those that come after one
  after_at : (n m : ℕ) (ns : List ℕ) → AllByRecursion (λ y. text_order texts n y ≡ Less) ns → has_name ns m ≡ true → text_order texts n m ≡ Less
  after_at n m [] all there = absurd (true≢false (sym there))
  after_at n m (k ∷ ks) all there = by (nat_eq m k) refl there (after_at n m ks all.1)
    where
      by : (b : Bool) → nat_eq m k ≡ b → (b || has_name ks m) ≡ true → (has_name ks m ≡ true → text_order texts n m ≡ Less) → text_order texts n m ≡ Less
      by true e h rest = ap (text_order texts n) (eqb-true m k e) ∙ all.0
      by false e h rest = rest h

  own : (ns : List ℕ) → IsStrictlySortedBy (text_order texts) ns → Own ns
  unfolding IsStrictlySortedBy
  own [] up n m p q e = absurd (true≢false (sym p))
  own (k ∷ ks) up n m p q e = by (nat_eq n k) (nat_eq m k) refl refl p q (λ i j. own ks up.1 n m i j e)
    where
      by : (b c : Bool) → nat_eq n k ≡ b → nat_eq m k ≡ c → (b || has_name ks n) ≡ true → (c || has_name ks m) ≡ true → (has_name ks n ≡ true → has_name ks m ≡ true → n ≡ m) → n ≡ m
      by true true i j p q rest = eqb-true n k i ∙ sym (eqb-true m k j)
      by true false i j p q rest = absurd (itself k m (sym (ap (text_of texts) (eqb-true n k i)) ∙ e) (after_at k m ks up.0 q))
      by false true i j p q rest = absurd (itself k n (sym (ap (text_of texts) (eqb-true m k j)) ∙ sym e) (after_at k n ks up.0 p))
      by false false i j p q rest = rest p q

  not_later : (n : ℕ) (ns : List ℕ) → AllByRecursion (λ y. text_order texts n y ≡ Less) ns → has_name ns n ≡ false
  not_later n ns all = by (has_name ns n) refl
    where
      by : (b : Bool) → has_name ns n ≡ b → has_name ns n ≡ false
      by true e = absurd (itself n n refl (after_at n n ns all e))
      by false e = e

  one_list : (xs ys : List ℕ) → IsStrictlySortedBy (text_order texts) xs → IsStrictlySortedBy (text_order texts) ys → ((n : ℕ) → has_name xs n ≡ has_name ys n) → xs ≡ ys
  unfolding IsStrictlySortedBy
  one_list [] [] ux uy same = refl
  one_list [] (y ∷ ys) ux uy same = absurd (true≢false (sym (first_has y ys) ∙ sym (same y)))
  one_list (x ∷ xs) [] ux uy same = absurd (true≢false (sym (first_has x xs) ∙ same x))
  one_list (x ∷ xs) (y ∷ ys) ux uy same =
      let is : x ≡ y = heads (nat_eq x y) (nat_eq y x) refl refl (sym (same x) ∙ first_has x xs) (same y ∙ first_has y ys) in
      ap (λ z. z ∷ xs) is ∙ ap (λ zs. y ∷ zs) (one_list xs ys ux.1 uy.1 (λ n. tails is n (nat_eq n x) (nat_eq n y) refl refl (same n)))
    where
      heads : (b c : Bool) → nat_eq x y ≡ b → nat_eq y x ≡ c → (b || has_name ys x) ≡ true → (c || has_name xs y) ≡ true → x ≡ y
      heads true c i j p q = eqb-true x y i
      heads false true i j p q = sym (eqb-true y x j)
      heads false false i j p q = absurd (both_less y x (after_at y x ys uy.0 p) (after_at x y xs ux.0 q))

      tails : x ≡ y → (n : ℕ) (b c : Bool) → nat_eq n x ≡ b → nat_eq n y ≡ c → (b || has_name xs n) ≡ (c || has_name ys n) → has_name xs n ≡ has_name ys n
      tails is n true c i j h =
          let n_is_x = eqb-true n x i in
          ap (has_name xs) n_is_x ∙ not_later x xs ux.0 ∙ sym (ap (has_name ys) (n_is_x ∙ is) ∙ not_later y ys uy.0)
      tails is n false true i j h = absurd (true≢false (sym j ∙ ap (nat_eq n) (sym is) ∙ i))
      tails is n false false i j h = h

  pub printed_has : (us : List Mention) (n : ℕ) → has_name (printed_of texts us) n ≡ mentioned is_value n us
  printed_has us n = in_order_has texts (named is_value [] us) n ∙ has_named is_value us (named is_value [] us) n refl

  once_placed : (n : ℕ) (ns : List ℕ) → Once ns → has_name ns n ≡ false → Once (placed texts n ns)
  once_placed n [] once new = (refl, tt)
  once_placed n (m ∷ ms) once new = by (lt texts m n) (once_placed n ms once.1 (neither (nat_eq n m) (has_name ms n) new).1)
    where
      parts : (nat_eq n m ≡ false) × (has_name ms n ≡ false)
      parts = neither (nat_eq n m) (has_name ms n) new

      by : (b : Bool) → Once (placed texts n ms) → Once (if b then m ∷ placed texts n ms else n ∷ m ∷ ms)
      by true rest = (placed_has texts m n ms ∙ or_both (nat_eq m n) (has_name ms m) (eq_swap m n ∙ parts.0) once.0, rest)
      by false rest = (new, once)

  once_in_order : (ns : List ℕ) → Once ns → Once (in_order texts ns)
  once_in_order [] once = tt
  once_in_order (n ∷ ns) once = once_placed n (in_order texts ns) (once_in_order ns once.1) (in_order_has texts ns n ∙ once.0)

  pub printed_are : (us : List Mention) → HaveOwnTexts texts us → ArePrinted texts us (printed_of texts us)
  printed_are us own =
      record {
        members = printed_has us;
        rise =
            rises (printed_of texts us) (in_order_up texts (named is_value [] us)) (once_in_order (named is_value [] us) (named_once is_value [] us tt))
            (λ n m p q e. own n m (sym (printed_has us n) ∙ p) (sym (printed_has us m) ∙ q) e);
      }

  pub printed_is : (us : List Mention) (names : List ℕ) → ArePrinted texts us names → names ≡ printed_of texts us
  printed_is us names h =
      let own_texts : HaveOwnTexts texts us = λ n m p q e. own names h.rise n m (h.members n ∙ p) (h.members m ∙ q) e in
      one_list names (printed_of texts us) h.rise (printed_are us own_texts).rise (λ n. h.members n ∙ sym (printed_has us n))
