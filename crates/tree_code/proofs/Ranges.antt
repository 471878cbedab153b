-- Which range of a list covers a place, where the ranges lie in stretches of the code.
use Rattle.std.proofs.Common.{◌≡◌, ℕ, ◌-◌, ◌<◌, ◌≤◌, Bool, true, false, nat_lt, Option, Some, None, List, [], ◌∷◌, ◌++◌, refl, ap, ◌∙◌, arith, if◌then◌else◌}
use Rattle.std.proofs.lemmas.Bool.Decides.{nat_tests}
use Rattle.stack_code.specs.declared.code.Range.{Range}
use Rattle.stack_code.specs.Handlers.{covers, is_nearer, nearer, handler_at}
use Rattle.tree_code.specs.Standing.{RangesIn, or_else}

-- none of the ranges of a stretch covers a place before it, and none a place behind it
pub none_before : (first past place : ℕ) (rs : List Range) → RangesIn first past rs → place < first → handler_at rs place ≡ None
none_before first past place [] h l = refl
none_before first past place (r ∷ rs) h l =
    let begins : first ≤ r.first = h.0.0 in
    let misses : covers r place ≡ false = grind (arith, nat_tests) in
    ap (λ b. if b then nearer (Some r) (handler_at rs place) else handler_at rs place) misses ∙ none_before first past place rs h.1 l

pub none_behind : (first past place : ℕ) (rs : List Range) → RangesIn first past rs → past ≤ place → handler_at rs place ≡ None
none_behind first past place [] h l = refl
none_behind first past place (r ∷ rs) h l =
    let ends : r.past < past = h.0.2 in
    let misses : covers r place ≡ false = grind (arith, nat_tests) in
    ap (λ b. if b then nearer (Some r) (handler_at rs place) else handler_at rs place) misses ∙ none_behind first past place rs h.1 l

-- where the second ranges do not cover the place, the first decide
pub handler_left : (rs others : List Range) (place : ℕ) → handler_at others place ≡ None → handler_at (rs ++ others) place ≡ handler_at rs place
handler_left [] others place h = h
handler_left (r ∷ rs) others place h = ap (λ o. if covers r place then nearer (Some r) o else o) (handler_left rs others place h)

-- the nearer of a range and others is some range
some_nearer : (r : Range) (o : Option Range) → nearer (Some r) o ≡ None → ⊥
some_nearer r None e = cc
some_nearer r (Some other) e = one_of (is_nearer other (Some r)) e
  where
    one_of : (b : Bool) → (if b then Some other else Some r) ≡ None → ⊥
    one_of true e = cc
    one_of false e = cc

-- where the first ranges do not cover the place, the second decide
pub handler_right : (rs others : List Range) (place : ℕ) → handler_at rs place ≡ None → handler_at (rs ++ others) place ≡ handler_at others place
handler_right [] others place h = refl
handler_right (r ∷ rs) others place h = by_cover (covers r place) refl h (handler_right rs others place)
  where
    by_cover : (b : Bool) → covers r place ≡ b → (if b then nearer (Some r) (handler_at rs place) else handler_at rs place) ≡ None
        → (handler_at rs place ≡ None → handler_at (rs ++ others) place ≡ handler_at others place)
        → (if covers r place then nearer (Some r) (handler_at (rs ++ others) place) else handler_at (rs ++ others) place) ≡ handler_at others place
    by_cover true e none more = absurd (some_nearer r (handler_at rs place) none)
    by_cover false e none more = ap (λ b. if b then nearer (Some r) (handler_at (rs ++ others) place) else handler_at (rs ++ others) place) e ∙ more none

-- a range over a whole stretch is only asked where none of those inside it covers the place: they are shorter
pub inner_first : (r : Range) (place : ℕ) (rs : List Range) → RangesIn r.first r.past rs → nearer (Some r) (handler_at rs place) ≡ or_else (handler_at rs place) (Some r)
inner_first r place rs inside = shorter_first (handler_at rs place) (among rs inside)
  where
    IsShorter : Option Range → Type 0
    IsShorter None = Unit {0}
    IsShorter (Some x) = x.past - x.first < r.past - r.first

    chosen : (b : Bool) (x : Range) (o : Option Range) → IsShorter (Some x) → IsShorter o → IsShorter (if b then nearer (Some x) o else o)
    chosen false x o h k = k
    chosen true x None h k = h
    chosen true x (Some y) h k = pick (is_nearer y (Some x))
      where
        pick : (b : Bool) → IsShorter (if b then Some y else Some x)
        pick true = k
        pick false = h

    among : (xs : List Range) → RangesIn r.first r.past xs → IsShorter (handler_at xs place)
    among [] h = tt
    among (x ∷ xs) h =
        let begins : r.first ≤ x.first = h.0.0 in
        let ordered : x.first ≤ x.past = h.0.1 in
        let ends : x.past < r.past = h.0.2 in
        chosen (covers x place) x (handler_at xs place) (omega arith) (among xs h.1)

    shorter_first : (o : Option Range) → IsShorter o → nearer (Some r) o ≡ or_else o (Some r)
    shorter_first None s = refl
    shorter_first (Some x) s = let less : nat_lt (x.past - x.first) (r.past - r.first) ≡ true = grind (arith, nat_tests) in ap (λ b. if b then Some x else Some r) less

-- what has a handler within keeps it whatever is further out
pub or_else_twice : (o within outer : Option Range) → or_else (or_else o within) outer ≡ or_else o (or_else within outer)
or_else_twice None within outer = refl
or_else_twice (Some r) within outer = refl
