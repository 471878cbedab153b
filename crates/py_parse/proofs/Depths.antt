-- How the nesting goes from token to token.
use Rattle.std.proofs.Common.{◌≡◌, ℕ, zero, suc, ◌+◌, ◌<◌, ◌≤◌, ◌⊎◌, inl, inr, [], ◌∷◌, ◌++◌, List, length, sum, reverse, slice_get, Some, refl, sym, ap, ◌∙◌, arith, add-one}
use Rattle.std.proofs.lemmas.List.{length-reverse, reverse-append}
use Rattle.std.proofs.lemmas.List.Sums.{sum_by-cons, sum_by_push}
use Rattle.py_tokens.specs.declared.token.Token.{Token}
use Rattle.py_grammar.specs.Nesting.{Nest, after, closed, depth, depths_from, depths, IsTooDeep, too_deep}
use Rattle.py_parse.specs.declared.nesting.Turn.{Turn}
use Rattle.py_parse.specs.declared.nesting.Turn.TheVariants.{Opens, Closes, Resets, Adds, Indents, Dedents, Nothing}
use Rattle.py_parse.specs.Depths.{flat, after_in, turned, IsShallow, is_shallow, IsFirstDeep}

-- ---- The counts around, kept with the innermost at the end

sum-cons : (x : ℕ) (xs : List ℕ) → sum (x ∷ xs) ≡ x + sum xs
sum-cons x xs = sum_by-cons (λ (n : ℕ). n) x xs

sum-reverse : (xs : List ℕ) → sum (reverse xs) ≡ sum xs
sum-reverse [] = refl
sum-reverse (x ∷ xs) =
    let turned-over : sum (reverse (x ∷ xs)) ≡ sum (reverse xs ++ (x ∷ [])) = ap sum (reverse-append (x ∷ []) xs) in
    let pushed : sum (reverse xs ++ (x ∷ [])) ≡ sum (reverse xs) + x = sum_by_push (λ (n : ℕ). n) (reverse xs) x in
    omega (arith, turned-over, pushed, sum-cons x xs, sum-reverse xs)

-- the nesting, by what is kept
pub depth_kept : (b c o : ℕ) (xs : List ℕ) (n : Nest) → (let m : Nest = record { blocks = b; count = c; around = reverse xs } in m) ≡ n → o ≡ length xs + sum xs → depth n ≡ b + o + c
depth_kept b c o xs n e h = sym (ap depth e) ∙ omega (arith, length-reverse xs, sum-reverse xs)

-- ---- One turn

close_near : (b c : ℕ) (cs : List ℕ) → depth (closed b c cs) ≤ b + length cs + (c + sum cs) + 1
close_near b c [] = omega arith
close_near b c (x ∷ xs) = omega (arith, sum-cons x xs)

pub turn_near : (t : Turn) (n : Nest) → depth (turned t n) ≤ depth n + 1
turn_near Opens n = omega (arith, sum-cons n.count n.around)
turn_near Closes n = close_near n.blocks n.count n.around
turn_near Resets n = omega arith
turn_near Adds n = omega arith
turn_near Indents n = omega arith
turn_near Dedents n = omega arith
turn_near Nothing n = omega arith

-- ---- The nesting at a place

abbrev pub nest_at : Nest → List Token → ℕ → Nest
nest_at n ts zero = n
nest_at n [] (suc p) = n
nest_at n (t ∷ ts) (suc p) = nest_at (after t.kind n) ts p

pub nest_more : (n : Nest) (ts : List Token) (p : ℕ) → nest_at n ts (suc p) ≡ after_in (slice_get ts p) (nest_at n ts p)
nest_more n [] zero = refl
nest_more n [] (suc p) = refl
nest_more n (x ∷ xs) zero = refl
nest_more n (x ∷ xs) (suc p) = nest_more (after x.kind n) xs p

pub depth_at : (n : Nest) (ts : List Token) (p : ℕ) → p < length ts → slice_get (depths_from n ts) p ≡ Some (depth (nest_at n ts (suc p)))
depth_at n [] p h = absurd (omega arith)
depth_at n (x ∷ xs) zero h = refl
depth_at n (x ∷ xs) (suc p) h = let less : p < length xs = omega arith in depth_at (after x.kind n) xs p less

pub depth_within : (n : Nest) (ts : List Token) (p d : ℕ) → slice_get (depths_from n ts) p ≡ Some d → p < length ts
depth_within n [] p d h = absurd cc
depth_within n (x ∷ xs) zero d h = omega arith
depth_within n (x ∷ xs) (suc p) d h = let less : p < length xs = depth_within (after x.kind n) xs p d h in omega arith

-- ---- The search

pub record IsNested (ts : List Token) (p : ℕ) (n : Nest) : Type 0 where
  pub here : n ≡ nest_at flat ts p
  pub shallow : depth n < 65
  pub before : IsShallow ts p

pub nested_start : (ts : List Token) → IsNested ts 0 flat
nested_start ts = record { here = refl; shallow = omega arith; before = is_shallow (λ i d h s. absurd (omega arith)) }

new_nest : (ts : List Token) (p : ℕ) (n m : Nest) → n ≡ nest_at flat ts p → m ≡ after_in (slice_get ts p) n → m ≡ nest_at flat ts (suc p)
new_nest ts p n m e f = f ∙ ap (after_in (slice_get ts p)) e ∙ sym (nest_more flat ts p)

new_depth : (ts : List Token) (p : ℕ) (n m : Nest) → p < length ts → n ≡ nest_at flat ts p → m ≡ after_in (slice_get ts p) n → slice_get (depths ts) p ≡ Some (depth m)
new_depth ts p n m less e f = depth_at flat ts p less ∙ sym (ap (λ z. Some (depth z)) (new_nest ts p n m e f))

split_less : (i p : ℕ) → i < p + 1 → (i < p) ⊎ (i ≡ p)
split_less i p h = search arith

more_shallow : (ts : List Token) (p d : ℕ) → IsShallow ts p → slice_get (depths ts) p ≡ Some d → d < 65 → IsShallow ts (p + 1)
more_shallow ts p d (is_shallow before) s less =
    is_shallow (λ i e h r. elim (split_less i p h) [ inl k ↦ before i e k r | inr k ↦ (let same : Some e ≡ Some d = sym r ∙ ap (slice_get (depths ts)) k ∙ s in let equal : e ≡ d = cc in omega arith) ])

pub nested_step : (ts : List Token) (p : ℕ) (n m : Nest) → IsNested ts p n → p < length ts → m ≡ after_in (slice_get ts p) n → depth m < 65 → IsNested ts (p + 1) m
nested_step ts p n m h less f low = record { here = rw add-one (new_nest ts p n m h.here f); shallow = low; before = more_shallow ts p (depth m) h.before (new_depth ts p n m less h.here f) low }

pub nested_stop : (ts : List Token) (p : ℕ) (n m : Nest) → IsNested ts p n → p < length ts → m ≡ after_in (slice_get ts p) n → 65 ≤ depth m → IsFirstDeep ts p
nested_stop ts p n m h less f high = record { within = omega arith; before = h.before; here = λ _. record { nesting = depth m; there = new_depth ts p n m less h.here f; deep = high } }

pub nested_end : (ts : List Token) (p : ℕ) (n : Nest) → IsNested ts p n → p ≡ length ts → IsFirstDeep ts p
nested_end ts p n h e = record { within = omega arith; before = h.before; here = λ less. absurd (omega arith) }

-- ---- What the first one says

pub too_deep_here : (ts : List Token) (p : ℕ) → IsFirstDeep ts p → p < length ts → IsTooDeep ts
too_deep_here ts p h less = let at = h.here less in too_deep p at.nesting at.there at.deep

shallow_bars : (ts : List Token) (p i d : ℕ) → IsShallow ts p → i < p → slice_get (depths ts) i ≡ Some d → d < 65
shallow_bars ts p i d (is_shallow before) less s = before i d less s

pub never_deep : (ts : List Token) (p : ℕ) → IsFirstDeep ts p → length ts ≤ p → IsTooDeep ts → ⊥
never_deep ts p h le (too_deep i d s high) =
    let within : i < length ts = depth_within flat ts i d s in
    let less : i < p = omega arith in
    let low : d < 65 = shallow_bars ts p i d h.before less s in
    omega arith
