-- Code whose pieces flow is valid: each depth that a place may get is the one that stands there.
use Rattle.std.proofs.Common.{◌≡◌, ℕ, suc, zero, ◌+◌, ◌≤◌, true, false, Some, None, List, [], ◌∷◌, ◌++◌, map, length, get_or, slice_get, refl, sym, ap, subst, ◌∙◌, arith, length-append, append_assoc}
use Rattle.std.specs.List.{Contains}
use Rattle.std.proofs.lemmas.List.{length-map, get_or_at}
use Rattle.stack_code.specs.declared.op.Op.{Op}
use Rattle.stack_code.specs.declared.code.Code.{Code}
use Rattle.stack_code.specs.declared.code.Range.{Range}
use Rattle.stack_code.specs.Effects.{effect_of, falls, goal_of, depth_after, depth_at_goal}
use Rattle.stack_code.specs.Depths.{Gives, goes_on, jumps, HasDepth, begins, given, handles}
use Rattle.stack_code.specs.Validity.{IsRangeOf, IsValid}
use Rattle.tree_code.specs.declared.instr.Instr.{Instr}
use Rattle.tree_code.specs.Pieces.{Piece, one, instr, ◌⨾◌}
use Rattle.tree_code.specs.Flows.{Stands, IsRightAt, AreRight, RangesRight, Flows, Nothing}
use Rattle.tree_code.specs.Programs.{no_loop, closed}
use Rattle.tree_code.specs.Depths.{DepthsAt}
use Rattle.tree_code.proofs.Stands.{stands_first, stands_last, right_join}

-- a list stands where it is read
stands_list : (before xs : List ℕ) → Stands (λ p. get_or (before ++ xs) p 0) (length before) xs
stands_list before [] = tt
stands_list before (x ∷ xs) =
    let e : before ++ (x ∷ xs) ≡ (before ++ x ∷ []) ++ xs = sym (append_assoc before (x ∷ []) xs) in
    let n : length (before ++ x ∷ []) ≡ suc (length before) = length-append before (x ∷ []) ∙ omega arith in (
      get_or_at before x xs 0 (length before) refl,
      subst (λ p. Stands (λ q. get_or (before ++ (x ∷ xs)) q 0) p xs) n (subst (λ ys. Stands (λ q. get_or ys q 0) (length (before ++ x ∷ [])) xs) (sym e) (stands_list (before ++ x ∷ []) xs)),
    )

module _ (places : ℕ) (ds : ℕ → ℕ) where
  right_at : (is : List Instr) (place k : ℕ) (op : Op) → AreRight places ds place is → slice_get (map (λ i. i.op) is) k ≡ Some op → IsRightAt places ds (place + k) op
  right_at [] place k op r e = cc
  right_at (i ∷ is) place zero op r e =
      let same : i.op ≡ op = cc in
      let there : place ≡ place + 0 = omega arith in
      subst (λ p. IsRightAt places ds p op) there (subst (λ o. IsRightAt places ds place o) same r.0)
  right_at (i ∷ is) place (suc k) op r e =
      let there : suc place + k ≡ place + suc k = omega arith in
      subst (λ p. IsRightAt places ds p op) there (right_at is (suc place) k op r.1 e)

  range_at : (rs : List Range) (number : ℕ) (r : Range) → RangesRight places ds rs → slice_get rs number ≡ Some r → IsRangeOf places r × (ds r.goal ≡ r.depth)
  range_at [] number r right e = cc
  range_at (x ∷ rs) zero r right e = let same : x ≡ r = cc in subst (λ y. IsRangeOf places y × (ds y.goal ≡ y.depth)) same right.0
  range_at (x ∷ rs) (suc number) r right e = range_at rs number r right.1 e

  contained_at : (rs : List Range) (r : Range) → RangesRight places ds rs → Contains rs r → IsRangeOf places r × (ds r.goal ≡ r.depth)
  contained_at [] r right c = let z : ⊥ = omega (arith, c.1) in absurd z
  contained_at (x ∷ rs) r right (zero, l, e) = subst (λ y. IsRangeOf places y × (ds y.goal ≡ y.depth)) e right.0
  contained_at (x ∷ rs) r right (suc k, l, e) = contained_at rs r right.1 (k, omega (arith, l), e)

-- the depths fit the code: the first place has none, and each instruction and range is right
pub record Fits (code : Code) (ds : ℕ → ℕ) : Type 0 where
  pub begin : ds 0 ≡ 0
  pub all : (place : ℕ) (op : Op) → slice_get code.ops place ≡ Some op → IsRightAt (length code.ops) ds place op
  pub ranges : RangesRight (length code.ops) ds code.ranges

module _ (code : Code) (ds : ℕ → ℕ) (f : Fits code ds) where
  pub depth_is : (place depth : ℕ) → HasDepth code place depth → ds place ≡ depth
  depth_is place depth (begins l) = f.begin
  depth_is place depth (given {from = from} {before = before} {op = op} h stands gives l) = go place depth gives (depth_is from before h)
    where
      go : (to after : ℕ) → Gives op from before to after → ds from ≡ before → ds to ≡ after
      go to after (goes_on enough falls) here = (f.all from op stands).goes_on falls ∙ ap (depth_after op) here
      go to after (jumps {goal = goal} enough leads) here = ((f.all from op stands).jumps goal leads).1 ∙ ap (depth_at_goal op) here
  depth_is place depth (handles {range = range} h c over l) = (contained_at (length code.ops) ds code.ranges range f.ranges c).1

  pub is_valid : IsValid code
  is_valid =
      record {
        jumps = λ place goal op stands e. ((f.all place op stands).jumps goal e).0;
        depths = λ place one other h k. sym (depth_is place one h) ∙ depth_is place other k;
        slots = λ place depth op stands h. subst (λ d. (effect_of op).needs ≤ d) (depth_is place depth h) (f.all place op stands).enough;
        ranges = λ number range e. (range_at (length code.ops) ds code.ranges number range f.ranges e).0;
      }

-- the depths of a piece and of the instruction behind it
abbrev pub listed : List ℕ → ℕ → ℕ → ℕ
listed own after place = get_or (own ++ after ∷ []) place 0

pub closed_fits : (a : Piece) (after : ℕ) {own : List ℕ} → Flows Nothing 0 0 0 after own a → (last : Op) (line : ℕ) → (effect_of last).needs ≤ after → falls last ≡ false → goal_of last ≡ None → (locals params : ℕ)
    → Fits (closed (a ⨾ one last line) locals params) (listed own after)
closed_fits a after {own} f last line enough ends stays locals params =
    record { begin = begin; all = subst (λ n. AllRight n) (sym size) all; ranges = subst (λ n. RangesRight n ds (a.ranges 0 ++ [])) (sym size) ranges }
  where
    places : ℕ
    places = a.size + 1

    ds : ℕ → ℕ
    ds = listed own after

    whole : List Instr
    whole = a.code no_loop 0 ++ instr last line ∷ []

    AllRight : ℕ → Type 0
    AllRight n = (place : ℕ) (op : Op) → slice_get (map (λ i. i.op) whole) place ≡ Some op → IsRightAt n ds place op

    size : length (map (λ i. i.op) whole) ≡ places
    size = length-map whole (λ i. i.op) ∙ length-append (a.code no_loop 0) (instr last line ∷ []) ∙ ap (λ n. n + 1) (f.sized no_loop 0)

    stands : Stands ds 0 (own ++ after ∷ [])
    stands = stands_list [] (own ++ after ∷ [])

    begin : ds 0 ≡ 0
    begin = stands_first ds own after 0 stands ∙ f.starts

    end : ds a.size ≡ after
    end = let e : a.size ≡ 0 + length own = omega (arith, f.count) in ap ds e ∙ stands_last ds own after 0 stands

    right : AreRight places ds 0 (a.code no_loop 0) × RangesRight places ds (a.ranges 0)
    right = f.right places ds no_loop 0 (omega arith) (record { again_is_place = omega arith; out_is_place = omega arith; again_depth = begin; out_depth = begin }) stands tt

    last_right : IsRightAt places ds (length (a.code no_loop 0)) last
    last_right =
        record {
          enough = subst (λ d. (effect_of last).needs ≤ d) (sym (ap ds (f.sized no_loop 0) ∙ end)) enough;
          goes_on = λ e. let z : true ≡ false = sym e ∙ ends in cc;
          jumps = λ goal e. let z : Some goal ≡ None = sym e ∙ stays in cc;
        }

    all_right : AreRight places ds 0 whole
    all_right = right_join ds places (a.code no_loop 0) (instr last line ∷ []) 0 right.0 (subst (λ n. IsRightAt places ds n last) (omega arith) last_right, tt)

    all : (place : ℕ) (op : Op) → slice_get (map (λ i. i.op) whole) place ≡ Some op → IsRightAt places ds place op
    all place op e = subst (λ p. IsRightAt places ds p op) (omega arith) (right_at places ds whole 0 place op all_right e)

    ranges : RangesRight places ds (a.ranges 0 ++ [])
    ranges = right_ranges (a.ranges 0) right.1
      where
        right_ranges : (rs : List Range) → RangesRight places ds rs → RangesRight places ds (rs ++ [])
        right_ranges [] r = tt
        right_ranges (x ∷ rs) r = (r.0, right_ranges rs r.1)

-- a list that stands names the depth of each place that has one
stands_depths : (code : Code) (ds : ℕ → ℕ) → ((place depth : ℕ) → HasDepth code place depth → ds place ≡ depth) → (xs : List ℕ) (place : ℕ) → Stands ds place xs → DepthsAt code place xs
stands_depths code ds is [] place s = tt
stands_depths code ds is (x ∷ xs) place s = ((λ depth h. sym (is place depth h) ∙ s.0), stands_depths code ds is xs (suc place) s.1)

module _ (a : Piece) (after : ℕ) {own : List ℕ} (f : Flows Nothing 0 0 0 after own a) (last : Op) (line : ℕ) (enough : (effect_of last).needs ≤ after) (ends : falls last ≡ false) (stays : goal_of last ≡ None) (locals params : ℕ) where
  pub closed_valid : IsValid (closed (a ⨾ one last line) locals params)
  closed_valid = is_valid (closed (a ⨾ one last line) locals params) (listed own after) (closed_fits a after f last line enough ends stays locals params)

  pub closed_depths : DepthsAt (closed (a ⨾ one last line) locals params) 0 (own ++ after ∷ [])
  closed_depths =
      stands_depths (closed (a ⨾ one last line) locals params) (listed own after) (depth_is (closed (a ⨾ one last line) locals params) (listed own after) (closed_fits a after f last line enough ends stays locals params))
      (own ++ after ∷ []) 0 (stands_list [] (own ++ after ∷ []))
