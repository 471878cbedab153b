-- The depths of the parts of a piece whose listed depths are those of its places, for each way to put pieces together.
use Rattle.std.proofs.Common.{◌≡◌, ℕ, suc, ◌+◌, List, [], ◌∷◌, ◌++◌, length, subst, arith, append_assoc}
use Rattle.stack_code.specs.declared.code.Code.{Code}
use Rattle.stack_code.specs.Depths.{HasDepth}
use Rattle.tree_code.specs.Pieces.{Piece, ◌⨾◌}
use Rattle.tree_code.specs.Flows.{Flows, Nothing, first_depth}
use Rattle.tree_code.specs.Depths.{DepthsAt}
use Rattle.tree_code.proofs.Flows.{both_flow}

-- the place has this depth, where it has one
abbrev pub DepthIs : Code → ℕ → ℕ → Type 0
DepthIs code place d = (depth : ℕ) → HasDepth code place depth → depth ≡ d

module _ (code : Code) where
  pub depths_front : (place : ℕ) (xs ys : List ℕ) → DepthsAt code place (xs ++ ys) → DepthsAt code place xs
  depths_front place [] ys h = tt
  depths_front place (x ∷ xs) ys h = (h.0, depths_front (suc place) xs ys h.1)

  pub depths_back : (place : ℕ) (xs ys : List ℕ) → DepthsAt code place (xs ++ ys) → DepthsAt code (place + length xs) ys
  depths_back place [] ys h = let e : place ≡ place + 0 = omega arith in subst (λ p. DepthsAt code p ys) e h
  depths_back place (x ∷ xs) ys h =
      let e : suc place + length xs ≡ place + suc (length xs) = omega arith in
      subst (λ p. DepthsAt code p ys) e (depths_back (suc place) xs ys h.1)

  depths_first : (place : ℕ) (xs : List ℕ) (after : ℕ) → DepthsAt code place (xs ++ after ∷ []) → DepthIs code place (first_depth xs after)
  depths_first place [] after h = h.0
  depths_first place (x ∷ xs) after h = h.0

  depths_with : (place : ℕ) (xs : List ℕ) (after : ℕ) → DepthsAt code place xs → DepthIs code (place + length xs) after → DepthsAt code place (xs ++ after ∷ [])
  depths_with place [] after h k = let e : place + 0 ≡ place = omega arith in (subst (λ p. DepthIs code p after) e k, tt)
  depths_with place (x ∷ xs) after h k =
      let e : place + suc (length xs) ≡ suc place + length xs = omega arith in
      (h.0, depths_with (suc place) xs after h.1 (subst (λ p. DepthIs code p after) e k))

-- ---- `a b`

pub record ThenDepths (code : Code) (place middle after : ℕ) (own others : List ℕ) (a : Piece) : Type 0 where
  pub first : DepthsAt code place (own ++ middle ∷ [])
  pub second : DepthsAt code (place + a.size) (others ++ after ∷ [])

pub then_depths : {code : Code} {place again out before middle after : ℕ} {own others : List ℕ} {a b : Piece} → Flows Nothing again out before middle own a → Flows Nothing again out middle after others b
    → DepthsAt code place ((own ++ others) ++ after ∷ []) → ThenDepths code place middle after own others a
then_depths {code} {place} {middle = middle} {after = after} {own = own} {others = others} {a = a} f g h =
    let whole : DepthsAt code place (own ++ (others ++ after ∷ [])) = subst (λ xs. DepthsAt code place xs) (append_assoc own others (after ∷ [])) h in
    let back : DepthsAt code (place + length own) (others ++ after ∷ []) = depths_back code place own (others ++ after ∷ []) whole in
    record {
      first = depths_with code place own middle (depths_front code place own (others ++ after ∷ []) whole) (subst (λ d. DepthIs code (place + length own) d) g.starts (depths_first code (place + length own) others after back));
      second = subst (λ n. DepthsAt code (place + n) (others ++ after ∷ [])) f.count back;
    }

-- ---- `jump E a E:`

pub record OverDepths (code : Code) (place before after : ℕ) (own : List ℕ) : Type 0 where
  pub jumps : DepthIs code place before
  pub inner : DepthsAt code (place + 1) (own ++ after ∷ [])

pub over_depths : {code : Code} {place before after : ℕ} {own : List ℕ} → DepthsAt code place ((before ∷ own) ++ after ∷ []) → OverDepths code place before after own
over_depths {code} {place} {before} {after} {own} h = let e : suc place ≡ place + 1 = omega arith in record { jumps = h.0; inner = subst (λ p. DepthsAt code p (own ++ after ∷ [])) e h.1 }

-- ---- `a Jump E b E:`

pub record PastDepths (code : Code) (place after : ℕ) (own others : List ℕ) (a : Piece) : Type 0 where
  pub first : DepthsAt code place (own ++ after ∷ [])
  pub second : DepthsAt code (place + a.size + 1) (others ++ after ∷ [])

pub past_depths : {code : Code} {place again out before after : ℕ} {own others : List ℕ} {a : Piece} → Flows Nothing again out before after own a → DepthsAt code place ((own ++ after ∷ others) ++ after ∷ []) → PastDepths code place after own others a
past_depths {code} {place} {after = after} {own = own} {others = others} {a = a} f h =
    let whole : DepthsAt code place (own ++ (after ∷ (others ++ after ∷ []))) = subst (λ xs. DepthsAt code place xs) (append_assoc own (after ∷ others) (after ∷ [])) h in
    let back : DepthsAt code (place + a.size) (after ∷ (others ++ after ∷ [])) = subst (λ n. DepthsAt code (place + n) (after ∷ (others ++ after ∷ []))) f.count (depths_back code place own (after ∷ (others ++ after ∷ [])) whole) in
    let e : suc (place + a.size) ≡ place + a.size + 1 = omega arith in
    record {
      first = depths_with code place own after (depths_front code place own (after ∷ (others ++ after ∷ [])) whole) (depths_back code place own (after ∷ (others ++ after ∷ [])) whole).0;
      second = subst (λ p. DepthsAt code p (others ++ after ∷ [])) e back.1;
    }

-- ---- `JumpIfFalse L a Jump E L: b E:`

pub record ForkDepths (code : Code) (place before after : ℕ) (own others : List ℕ) (a : Piece) : Type 0 where
  pub tests : DepthIs code place before
  pub first : DepthsAt code (place + 1) (own ++ after ∷ [])
  pub second : DepthsAt code (place + 1 + a.size + 1) (others ++ after ∷ [])

pub fork_depths : {code : Code} {place again out before start after : ℕ} {own others : List ℕ} {a : Piece} → Flows Nothing again out start after own a → DepthsAt code place ((before ∷ own ++ after ∷ others) ++ after ∷ []) → ForkDepths code place before after own others a
fork_depths {code} {place} {before = before} {after = after} {own = own} {others = others} {a = a} f h =
    let rest : OverDepths code place before after (own ++ after ∷ others) = over_depths h in
    let both : PastDepths code (place + 1) after own others a = past_depths f rest.inner in
    record { tests = rest.jumps; first = both.first; second = both.second }

-- ---- `L: test leave E body Jump L E:`

pub record LoopDepths (code : Code) (place depth before after : ℕ) (tested inside : List ℕ) (test body : Piece) : Type 0 where
  pub tests : DepthsAt code place (tested ++ before ∷ [])
  pub turns : DepthsAt code (place + test.size + 1) (inside ++ depth ∷ [])
  pub behind : DepthIs code (place + test.size + 1 + body.size + 1) after

pub loop_depths : {code : Code} {place again out inner outer depth before start after : ℕ} {tested inside : List ℕ} {test body : Piece} → Flows Nothing again out depth before tested test → Flows Nothing inner outer start depth inside body
    → DepthsAt code place ((tested ++ (before ∷ inside ++ depth ∷ [])) ++ after ∷ []) → LoopDepths code place depth before after tested inside test body
loop_depths {code} {place} {depth = depth} {before = before} {after = after} {tested = tested} {inside = inside} {test = test} {body = body} f g h =
    let rest : List ℕ = before ∷ ((inside ++ depth ∷ []) ++ after ∷ []) in
    let whole : DepthsAt code place (tested ++ rest) = subst (λ xs. DepthsAt code place xs) (append_assoc tested (before ∷ (inside ++ depth ∷ [])) (after ∷ [])) h in
    let back : DepthsAt code (place + length tested) rest = depths_back code place tested rest whole in
    let there : DepthsAt code (place + test.size) rest = subst (λ n. DepthsAt code (place + n) rest) f.count back in
    let e : suc (place + test.size) ≡ place + test.size + 1 = omega arith in
    let in_body : DepthsAt code (place + test.size + 1) ((inside ++ depth ∷ []) ++ after ∷ []) = subst (λ p. DepthsAt code p ((inside ++ depth ∷ []) ++ after ∷ [])) e there.1 in
    let ended : DepthsAt code (place + test.size + 1) (inside ++ (depth ∷ (after ∷ []))) = subst (λ xs. DepthsAt code (place + test.size + 1) xs) (append_assoc inside (depth ∷ []) (after ∷ [])) in_body in
    let last : DepthsAt code (place + test.size + 1 + body.size) (depth ∷ (after ∷ [])) = subst (λ n. DepthsAt code (place + test.size + 1 + n) (depth ∷ (after ∷ []))) g.count (depths_back code (place + test.size + 1) inside (depth ∷ (after ∷ [])) ended) in
    let e' : suc (place + test.size + 1 + body.size) ≡ place + test.size + 1 + body.size + 1 = omega arith in
    record {
      tests = depths_with code place tested before (depths_front code place tested rest whole) back.0;
      turns = depths_front code (place + test.size + 1) (inside ++ depth ∷ []) (after ∷ []) in_body;
      behind = subst (λ p. DepthIs code p after) e' last.1.0;
    }

-- ---- `body otherwise Jump E H: handling E:`

pub record GuardedDepths (code : Code) (place middle after : ℕ) (own others handled : List ℕ) (body otherwise : Piece) : Type 0 where
  pub tries : DepthsAt code place (own ++ middle ∷ [])
  pub goes_on : DepthsAt code (place + body.size) (others ++ after ∷ [])
  pub handles : DepthsAt code (place + body.size + otherwise.size + 1) (handled ++ after ∷ [])

pub guarded_depths : {code : Code} {place again out before middle after : ℕ} {own others handled : List ℕ} {body otherwise : Piece} → Flows Nothing again out before middle own body → Flows Nothing again out middle after others otherwise
    → DepthsAt code place (((own ++ others) ++ after ∷ handled) ++ after ∷ []) → GuardedDepths code place middle after own others handled body otherwise
guarded_depths {code} {place} {again} {out} {middle = middle} {after = after} {own = own} {others = others} {handled = handled} {body = body} {otherwise = otherwise} f g h =
    let both : PastDepths code place after (own ++ others) handled (body ⨾ otherwise) = past_depths (both_flow again out _ middle after body otherwise f g) h in
    let parts : ThenDepths code place middle after own others body = then_depths f g both.first in
    let e : place + (body.size + otherwise.size) + 1 ≡ place + body.size + otherwise.size + 1 = omega arith in
    record { tries = parts.first; goes_on = parts.second; handles = subst (λ p. DepthsAt code p (handled ++ after ∷ [])) e both.second }
