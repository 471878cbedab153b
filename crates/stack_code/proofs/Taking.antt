-- What a tree of ranges gives away for a place, and what is left of it.
use Rattle.std.proofs.Common.{◌≡◌, ℕ, suc, ◌<◌, ◌≤◌, Bool, true, false, cond, nat_le, nat_lt, ◌&&◌, List, [], ◌∷◌, ◌++◌, map, ◌⊎◌, inl, inr, refl, sym, ap, subst, ◌∙◌, arith, append_assoc}
use Rattle.std.specs.List.{All, Contains}
use Rattle.std.proofs.lemmas.Bool.Decides.{nat_tests}
use Rattle.std.proofs.lemmas.List.Elements.{All-append, All-weaker}
use Rattle.stack_code.specs.declared.code.Range.{Range}
use Rattle.stack_code.specs.Handlers.{covers}
use Rattle.stack_code.specs.Search.{handlers, handler_reached}
use Rattle.stack_code.specs.RangeTrees.{LiesBetween, covering, uncovered}
use Rattle.stack_code.proofs.Ways.{first_in, later_in, in_cases}

pub handlers_of_covering : (xs : List Range) (place : ℕ) → handlers xs place ≡ map handler_reached (covering xs place)
handlers_of_covering [] place = refl
handlers_of_covering (x ∷ xs) place = go (covers x place) (handlers_of_covering xs place)
  where
    go : (b : Bool) → handlers xs place ≡ map handler_reached (covering xs place) → cond b (record { place = x.goal; depth = x.depth } ∷ handlers xs place) (handlers xs place) ≡ map handler_reached (cond b (x ∷ covering xs place) (covering xs place))
    go true e = ap (λ rs. record { place = x.goal; depth = x.depth } ∷ rs) e
    go false e = e

-- ---- which they are

pub uncovered_among : (xs : List Range) (place : ℕ) (range : Range) → Contains (uncovered xs place) range → Contains xs range
uncovered_among [] place range c = c
uncovered_among (x ∷ xs) place range c = go (covers x place) c (uncovered_among xs place range)
  where
    at : (x ≡ range) ⊎ Contains (uncovered xs place) range → (Contains (uncovered xs place) range → Contains xs range) → Contains (x ∷ xs) range
    at (inl same) more = subst (λ r. Contains (x ∷ xs) r) same (first_in x xs)
    at (inr d) more = later_in x range xs (more d)

    go : (b : Bool) → Contains (cond b (uncovered xs place) (x ∷ uncovered xs place)) range → (Contains (uncovered xs place) range → Contains xs range) → Contains (x ∷ xs) range
    go true c more = later_in x range xs (more c)
    go false c more = at (in_cases x range (uncovered xs place) c) more

pub uncovered_stays : (xs : List Range) (place : ℕ) (range : Range) → Contains xs range → covers range place ≡ false → Contains (uncovered xs place) range
uncovered_stays [] place range c out = c
uncovered_stays (x ∷ xs) place range c out = go (in_cases x range xs c) (uncovered_stays xs place range)
  where
    later : (b : Bool) → Contains (uncovered xs place) range → Contains (cond b (uncovered xs place) (x ∷ uncovered xs place)) range
    later true d = d
    later false d = later_in x range (uncovered xs place) d

    go : (x ≡ range) ⊎ Contains xs range → (Contains xs range → covers range place ≡ false → Contains (uncovered xs place) range) → Contains (uncovered (x ∷ xs) place) range
    go (inl same) more =
        subst (λ b. Contains (cond b (uncovered xs place) (x ∷ uncovered xs place)) range) (sym (ap (λ r. covers r place) same ∙ out))
        (subst (λ r. Contains (x ∷ uncovered xs place) r) same (first_in x (uncovered xs place)))
    go (inr d) more = later (covers x place) (more d out)

-- ---- a branch

pub covering-append : (xs ys : List Range) (place : ℕ) → covering (xs ++ ys) place ≡ covering xs place ++ covering ys place
covering-append [] ys place = refl
covering-append (x ∷ xs) ys place = go (covers x place) (covering-append xs ys place)
  where
    go : (b : Bool) → covering (xs ++ ys) place ≡ covering xs place ++ covering ys place → cond b (x ∷ covering (xs ++ ys) place) (covering (xs ++ ys) place) ≡ cond b (x ∷ covering xs place) (covering xs place) ++ covering ys place
    go true e = ap (λ rs. x ∷ rs) e
    go false e = e

pub uncovered-append : (xs ys : List Range) (place : ℕ) → uncovered (xs ++ ys) place ≡ uncovered xs place ++ uncovered ys place
uncovered-append [] ys place = refl
uncovered-append (x ∷ xs) ys place = go (covers x place) (uncovered-append xs ys place)
  where
    go : (b : Bool) → uncovered (xs ++ ys) place ≡ uncovered xs place ++ uncovered ys place → cond b (uncovered (xs ++ ys) place) (x ∷ uncovered (xs ++ ys) place) ≡ cond b (uncovered xs place) (x ∷ uncovered xs place) ++ uncovered ys place
    go true e = e
    go false e = ap (λ rs. x ∷ rs) e

-- no range covers a place that isn't one of those between which they lie
outside_one : (range : Range) (first past place : ℕ) → LiesBetween first past range → (first ≤ place → place < past → ⊥) → (b : Bool) → covers range place ≡ b → b ≡ false
outside_one range first past place lies out false e = refl
outside_one range first past place lies out true e = go (nat_le range.first place) refl (nat_lt place range.past) refl
  where
    go : (a : Bool) → nat_le range.first place ≡ a → (c : Bool) → nat_lt place range.past ≡ c → true ≡ false
    go false f c g = sym e ∙ ap (λ t. t && nat_lt place range.past) f
    go true f false g = sym e ∙ ap (λ t. t && nat_lt place range.past) f ∙ g
    go true f true g =
        let from : range.first ≤ place = grind (arith, nat_tests) in
        let before : place < range.past = grind (arith, nat_tests) in
        absurd (out (omega (arith, from, lies.0)) (omega (arith, before, lies.1)))

pub covering_outside : (ranges : List Range) (first past place : ℕ) → All (LiesBetween first past) ranges → (first ≤ place → place < past → ⊥) → covering ranges place ≡ []
covering_outside [] first past place all out = refl
covering_outside (x ∷ xs) first past place all out =
    ap (λ b. cond b (x ∷ covering xs place) (covering xs place)) (outside_one x first past place (all 0 x (omega arith)) out (covers x place) refl)
    ∙ covering_outside xs first past place (λ k d l. all (suc k) d (omega (arith, l))) out

pub uncovered_outside : (ranges : List Range) (first past place : ℕ) → All (LiesBetween first past) ranges → (first ≤ place → place < past → ⊥) → uncovered ranges place ≡ ranges
uncovered_outside [] first past place all out = refl
uncovered_outside (x ∷ xs) first past place all out =
    ap (λ b. cond b (uncovered xs place) (x ∷ uncovered xs place)) (outside_one x first past place (all 0 x (omega arith)) out (covers x place) refl)
    ∙ ap (λ rs. x ∷ rs) (uncovered_outside xs first past place (λ k d l. all (suc k) d (omega (arith, l))) out)

-- what lies between the one or the other places lies between those around both
pub lies_joined : (xs ys : List Range) (a b c d first past : ℕ) → All (LiesBetween a b) xs → All (LiesBetween c d) ys → (first ≤ a) × (first ≤ c) → (b ≤ past) × (d ≤ past) → All (LiesBetween first past) (xs ++ ys)
lies_joined xs ys a b c d first past one other low high =
    All-append (LiesBetween first past) xs ys
    (All-weaker (LiesBetween a b) (LiesBetween first past) (λ r l. (omega (arith, l.0, low.0), omega (arith, l.1, high.0))) xs one)
    (All-weaker (LiesBetween c d) (LiesBetween first past) (λ r l. (omega (arith, l.0, low.1), omega (arith, l.1, high.1))) ys other)

pub branch_covering : (xs ys : List Range) (place : ℕ) (start mid end : List Range) → mid ≡ start ++ covering xs place → end ≡ mid ++ covering ys place → end ≡ start ++ covering (xs ++ ys) place
branch_covering xs ys place start mid end e f =
    f ∙ ap (λ m. m ++ covering ys place) e ∙ append_assoc start (covering xs place) (covering ys place) ∙ ap (λ m. start ++ m) (sym (covering-append xs ys place))

pub branch_uncovered : (xs ys xs' ys' : List Range) (place : ℕ) → xs' ≡ uncovered xs place → ys' ≡ uncovered ys place → xs' ++ ys' ≡ uncovered (xs ++ ys) place
branch_uncovered xs ys xs' ys' place e f =
    ap (λ m. m ++ ys') e ∙ ap (λ m. uncovered xs place ++ m) f ∙ sym (uncovered-append xs ys place)
