-- Where the parts and the own instructions of a piece stand, for each way to put pieces together.
use Rattle.std.proofs.Common.{◌≡◌, ℕ, suc, ◌+◌, ◌-◌, ◌<◌, ◌≤◌, true, false, Option, Some, List, [], ◌∷◌, ◌++◌, length, ap, subst, ◌∙◌, arith, append_assoc, if◌then◌else◌}
use Rattle.std.proofs.lemmas.Bool.Decides.{nat_tests}
use Rattle.stack_code.specs.declared.code.Code.{Code}
use Rattle.stack_code.specs.declared.code.Range.{Range}
use Rattle.stack_code.specs.declared.op.Op.{Op}
use Rattle.stack_code.specs.declared.op.Op.TheVariants.{Jump, JumpIfFalse}
use Rattle.tree_code.specs.declared.instr.Instr.{Instr}
use Rattle.tree_code.specs.Pieces.{Piece, Labels, instr, one, ◌⨾◌, ahead, back, go_again, go_out, within, over, past, fork, loop, guarded}
use Rattle.stack_code.specs.Handlers.{covers, nearer, handler_at}
use Rattle.tree_code.specs.Standing.{RangesIn, IsSolid, InstrsAt, or_else, Lies, OpLies, guard_of}
use Rattle.tree_code.proofs.Solid.{ahead_solid, back_solid, then_solid, within_solid, skip_solid, past_solid, turn_solid}
use Rattle.tree_code.proofs.Ranges.{none_before, none_behind, handler_left, handler_right, inner_first, or_else_twice}

-- ---- instructions in a row

pub instrs_front : (code : Code) (place : ℕ) (is others : List Instr) → InstrsAt code place (is ++ others) → InstrsAt code place is
instrs_front code place [] others h = tt
instrs_front code place (i ∷ is) others h = (h.0, instrs_front code (suc place) is others h.1)

pub instrs_back : (code : Code) (place : ℕ) (is others : List Instr) → InstrsAt code place (is ++ others) → InstrsAt code (place + length is) others
instrs_back code place [] others h = let e : place ≡ place + 0 = omega arith in subst (λ p. InstrsAt code p others) e h
instrs_back code place (i ∷ is) others h =
    let e : suc place + length is ≡ place + suc (length is) = omega arith in
    subst (λ p. InstrsAt code p others) e (instrs_back code (suc place) is others h.1)

-- ---- one instruction

pub op_lies : {code : Code} {labels : Labels} {place : ℕ} {outer : Option Range} {o : Op} {line : ℕ} → Lies code labels place outer (one o line) → OpLies code place outer o line
op_lies {place = place} l = record { op_at = l.instrs.0.0; line_at = l.instrs.0.1; fits = omega (arith, l.fits); handled = l.handled place (omega arith) (omega arith) }

pub ahead_lies : {code : Code} {labels : Labels} {place : ℕ} {outer : Option Range} {line : ℕ} (jump : ℕ → Op) (count : ℕ) → Lies code labels place outer (ahead jump count line) → OpLies code place outer (jump (place + 1 + count)) line
ahead_lies {place = place} jump count l = record { op_at = l.instrs.0.0; line_at = l.instrs.0.1; fits = omega (arith, l.fits); handled = l.handled place (omega arith) (omega arith) }

back_lies : {code : Code} {labels : Labels} {place : ℕ} {outer : Option Range} {line : ℕ} (count : ℕ) → Lies code labels place outer (back count line) → OpLies code place outer (Jump (place - count)) line
back_lies {place = place} count l = record { op_at = l.instrs.0.0; line_at = l.instrs.0.1; fits = omega (arith, l.fits); handled = l.handled place (omega arith) (omega arith) }

pub again_lies : {code : Code} {labels : Labels} {place : ℕ} {outer : Option Range} {line : ℕ} → Lies code labels place outer (go_again line) → OpLies code place outer (Jump labels.again) line
again_lies {place = place} l = record { op_at = l.instrs.0.0; line_at = l.instrs.0.1; fits = omega (arith, l.fits); handled = l.handled place (omega arith) (omega arith) }

pub out_lies : {code : Code} {labels : Labels} {place : ℕ} {outer : Option Range} {line : ℕ} → Lies code labels place outer (go_out line) → OpLies code place outer (Jump labels.out) line
out_lies {place = place} l = record { op_at = l.instrs.0.0; line_at = l.instrs.0.1; fits = omega (arith, l.fits); handled = l.handled place (omega arith) (omega arith) }

-- a piece that stands at a place stands at an equal one
moved : {code : Code} {labels : Labels} {outer : Option Range} {a : Piece} (place other : ℕ) → place ≡ other → Lies code labels place outer a → Lies code labels other outer a
moved {code} {labels} {outer} {a} place other e l = subst (λ p. Lies code labels p outer a) e l

-- ---- `a b`

pub record ThenLies (code : Code) (labels : Labels) (place : ℕ) (outer : Option Range) (a b : Piece) : Type 0 where
  pub first : Lies code labels place outer a
  pub second : Lies code labels (place + a.size) outer b
  pub ends : place + a.size + b.size ≡ place + (a ⨾ b).size

pub then_lies : {code : Code} {labels : Labels} {place : ℕ} {outer : Option Range} {a b : Piece} → IsSolid a → IsSolid b → Lies code labels place outer (a ⨾ b) → ThenLies code labels place outer a b
then_lies {code} {labels} {place} {outer} {a} {b} s t l =
    record {
      first = record {
        instrs = instrs_front code place (a.code labels place) (b.code labels (place + a.size)) l.instrs;
        fits = omega (arith, l.fits);
        handled = λ p x y. l.handled p x (omega (arith, y)) ∙ ap (λ o. or_else o outer) (handler_left (a.ranges place) (b.ranges (place + a.size)) p (none_before (place + a.size) (place + a.size + b.size) p (b.ranges (place + a.size)) (t.inside (place + a.size)) y));
      };
      second = record {
        instrs = subst (λ n. InstrsAt code (place + n) (b.code labels (place + a.size))) (s.sized labels place) (instrs_back code place (a.code labels place) (b.code labels (place + a.size)) l.instrs);
        fits = omega (arith, l.fits);
        handled = λ p x y. l.handled p (omega (arith, x)) (omega (arith, y)) ∙ ap (λ o. or_else o outer) (handler_right (a.ranges place) (b.ranges (place + a.size)) p (none_behind place (place + a.size) p (a.ranges place) (s.inside place) x));
      };
      ends = omega arith;
    }

-- ---- `jump E a E:`

pub record OverLies (code : Code) (labels : Labels) (place : ℕ) (outer : Option Range) (jump : ℕ → Op) (line : ℕ) (a : Piece) : Type 0 where
  pub jumps : OpLies code place outer (jump (place + (over jump line a).size)) line
  pub inner : Lies code labels (place + 1) outer a
  pub ends : place + 1 + a.size ≡ place + (over jump line a).size

pub over_lies : {code : Code} {labels : Labels} {place : ℕ} {outer : Option Range} {line : ℕ} {a : Piece} (jump : ℕ → Op) → IsSolid a → Lies code labels place outer (over jump line a) → OverLies code labels place outer jump line a
over_lies {code} {labels} {place} {outer} {line} {a} jump s l =
    let both : ThenLies code labels place outer (ahead jump a.size line) a = then_lies (ahead_solid jump a.size line) s l in
    record { jumps = subst (λ goal. OpLies code place outer (jump goal) line) both.ends (ahead_lies jump a.size both.first); inner = both.second; ends = both.ends }

-- ---- `a Jump E b E:`

pub record PastLies (code : Code) (labels : Labels) (place : ℕ) (outer : Option Range) (line : ℕ) (a b : Piece) : Type 0 where
  pub first : Lies code labels place outer a
  pub jumps : OpLies code (place + a.size) outer (Jump (place + (past line a b).size)) line
  pub second : Lies code labels (place + a.size + 1) outer b
  pub ends : place + a.size + 1 + b.size ≡ place + (past line a b).size

pub past_lies : {code : Code} {labels : Labels} {place : ℕ} {outer : Option Range} {line : ℕ} {a b : Piece} → IsSolid a → IsSolid b → Lies code labels place outer (past line a b) → PastLies code labels place outer line a b
past_lies {code} {labels} {place} {outer} {line} {a} {b} s t l =
    let both : ThenLies code labels place outer a (ahead Jump b.size line ⨾ b) = then_lies s (skip_solid line t) l in
    let rest : ThenLies code labels (place + a.size) outer (ahead Jump b.size line) b = then_lies (ahead_solid Jump b.size line) t both.second in
    let ends : place + a.size + 1 + b.size ≡ place + (past line a b).size = omega arith in
    record { first = both.first; jumps = subst (λ goal. OpLies code (place + a.size) outer (Jump goal) line) ends (ahead_lies Jump b.size rest.first); second = rest.second; ends = ends }

-- ---- `JumpIfFalse L a Jump E L: b E:`

pub record ForkLies (code : Code) (labels : Labels) (place : ℕ) (outer : Option Range) (line : ℕ) (a b : Piece) : Type 0 where
  pub tests : OpLies code place outer (JumpIfFalse (place + 1 + a.size + 1)) line
  pub first : Lies code labels (place + 1) outer a
  pub jumps : OpLies code (place + 1 + a.size) outer (Jump (place + (fork line a b).size)) line
  pub second : Lies code labels (place + 1 + a.size + 1) outer b
  pub ends : place + 1 + a.size + 1 + b.size ≡ place + (fork line a b).size

pub fork_lies : {code : Code} {labels : Labels} {place : ℕ} {outer : Option Range} {line : ℕ} {a b : Piece} → IsSolid a → IsSolid b → Lies code labels place outer (fork line a b) → ForkLies code labels place outer line a b
fork_lies {code} {labels} {place} {outer} {line} {a} {b} s t l =
    let both : ThenLies code labels place outer (ahead JumpIfFalse (a.size + 1) line) (past line a b) = then_lies (ahead_solid JumpIfFalse (a.size + 1) line) (past_solid line s t) l in
    let rest : PastLies code labels (place + 1) outer line a b = past_lies s t both.second in
    let start : place + 1 + (a.size + 1) ≡ place + 1 + a.size + 1 = omega arith in
    record {
      tests = subst (λ goal. OpLies code place outer (JumpIfFalse goal) line) start (ahead_lies JumpIfFalse (a.size + 1) both.first);
      first = rest.first;
      jumps = subst (λ goal. OpLies code (place + 1 + a.size) outer (Jump goal) line) both.ends rest.jumps;
      second = rest.second;
      ends = rest.ends ∙ both.ends;
    }

-- ---- `L: test leave E body Jump L E:`

pub record LoopLies (code : Code) (labels : Labels) (place : ℕ) (outer : Option Range) (leave : ℕ → Op) (line : ℕ) (test body : Piece) : Type 0 where
  pub tests : Lies code labels place outer test
  pub leaves : OpLies code (place + test.size) outer (leave (place + (loop leave line test body).size)) line
  pub turns : Lies code (record { again = place; out = place + (loop leave line test body).size }) (place + test.size + 1) outer body
  pub returns : OpLies code (place + test.size + 1 + body.size) outer (Jump place) line
  pub ends : place + test.size + 1 + body.size + 1 ≡ place + (loop leave line test body).size

pub loop_lies : {code : Code} {labels : Labels} {place : ℕ} {outer : Option Range} {line : ℕ} {test body : Piece} (leave : ℕ → Op) → IsSolid test → IsSolid body → Lies code labels place outer (loop leave line test body) → LoopLies code labels place outer leave line test body
loop_lies {code} {labels} {place} {outer} {line} {test} {body} leave s t l =
    let n : ℕ = test.size in
    let m : ℕ = body.size in
    let inside : Piece = within (n + 1) 1 body in
    let again : Piece = back (n + 1 + m) line in
    let both : ThenLies code labels place outer test (ahead leave (m + 1) line ⨾ inside ⨾ again) = then_lies s (then_solid (ahead_solid leave (m + 1) line) (turn_solid line test t)) l in
    let rest : ThenLies code labels (place + n) outer (ahead leave (m + 1) line) (inside ⨾ again) = then_lies (ahead_solid leave (m + 1) line) (turn_solid line test t) both.second in
    let turn : ThenLies code labels (place + n + 1) outer inside again = then_lies (within_solid (n + 1) 1 t) (back_solid (n + 1 + m) line) rest.second in
    let out : place + n + 1 + (m + 1) ≡ place + (n + (1 + (m + 1))) = omega arith in
    let end : place + n + 1 + m + 1 ≡ place + (n + (1 + (m + 1))) = omega arith in
    let start : place + n + 1 - (n + 1) ≡ place = omega arith in
    let start_again : place + n + 1 + m - (n + 1 + m) ≡ place = omega arith in
    let in_loop : Lies code (record { again = place + n + 1 - (n + 1); out = place + n + 1 + m + 1 }) (place + n + 1) outer body = record { instrs = turn.first.instrs; fits = turn.first.fits; handled = turn.first.handled } in
    record {
      tests = both.first;
      leaves = subst (λ goal. OpLies code (place + n) outer (leave goal) line) out (ahead_lies leave (m + 1) rest.first);
      turns = subst (λ p. Lies code (record { again = p; out = place + (n + (1 + (m + 1))) }) (place + n + 1) outer body) start
          (subst (λ p. Lies code (record { again = place + n + 1 - (n + 1); out = p }) (place + n + 1) outer body) end in_loop);
      returns = subst (λ goal. OpLies code (place + n + 1 + m) outer (Jump goal) line) start_again (back_lies (n + 1 + m) turn.second);
      ends = end;
    }

-- ---- `body otherwise Jump E H: handling E:`

pub record GuardedLies (code : Code) (labels : Labels) (place : ℕ) (outer : Option Range) (depth line : ℕ) (body otherwise handling : Piece) : Type 0 where
  pub tries : Lies code labels place (Some (guard_of place depth body otherwise)) body
  pub goes_on : Lies code labels (place + body.size) outer otherwise
  pub jumps : OpLies code (place + body.size + otherwise.size) outer (Jump (place + (guarded depth line body otherwise handling).size)) line
  pub handles : Lies code labels (place + body.size + otherwise.size + 1) outer handling
  pub ends : place + body.size + otherwise.size + 1 + handling.size ≡ place + (guarded depth line body otherwise handling).size

pub guarded_lies : {code : Code} {labels : Labels} {place : ℕ} {outer : Option Range} {depth line : ℕ} {body otherwise handling : Piece} → IsSolid body → IsSolid otherwise → IsSolid handling
    → Lies code labels place outer (guarded depth line body otherwise handling) → GuardedLies code labels place outer depth line body otherwise handling
guarded_lies {code} {labels} {place} {outer} {depth} {line} {body} {otherwise} {handling} s t u l =
    record { tries = tries; goes_on = parts.first; jumps = subst (λ goal. OpLies code (behind + otherwise.size) outer (Jump goal) line) end parts.jumps; handles = parts.second; ends = parts.ends ∙ end }
  where
    -- the place behind the body, and what stands there
    behind : ℕ
    behind = place + body.size

    rest : Piece
    rest = past line otherwise handling

    guard : Range
    guard = guard_of place depth body otherwise

    end : behind + rest.size ≡ place + (guarded depth line body otherwise handling).size
    end = omega arith

    same : place + (body.size + otherwise.size) ≡ behind + otherwise.size
    same = omega arith

    instrs_are : (guarded depth line body otherwise handling).code labels place ≡ body.code labels place ++ rest.code labels behind
    instrs_are =
        append_assoc (body.code labels place) (otherwise.code labels behind) _
        ∙ ap (λ n. body.code labels place ++ (otherwise.code labels behind ++ (instr (Jump (n + 1 + handling.size)) line ∷ handling.code labels (n + 1)))) same

    ranges_are : (past line (body ⨾ otherwise) handling).ranges place ≡ body.ranges place ++ rest.ranges behind
    ranges_are = append_assoc (body.ranges place) (otherwise.ranges behind) _ ∙ ap (λ n. body.ranges place ++ (otherwise.ranges behind ++ handling.ranges (n + 1))) same

    instrs : InstrsAt code place (body.code labels place ++ rest.code labels behind)
    instrs = subst (λ is. InstrsAt code place is) instrs_are l.instrs

    -- what the range of the body and those further in say of a place
    own : ℕ → List Range → Option Range
    own p rs = if covers guard p then nearer (Some guard) (handler_at rs p) else handler_at rs p

    handled : (p : ℕ) → place ≤ p → p < behind + rest.size → handler_at code.ranges p ≡ or_else (own p (body.ranges place ++ rest.ranges behind)) outer
    handled p x y = l.handled p x (omega (arith, y)) ∙ ap (λ rs. or_else (own p rs) outer) ranges_are

    rest_inside : RangesIn behind (behind + rest.size) (rest.ranges behind)
    rest_inside = (past_solid line t u).inside behind

    rest_lies : Lies code labels behind outer rest
    rest_lies =
        record {
          instrs = subst (λ n. InstrsAt code (place + n) (rest.code labels behind)) (s.sized labels place) (instrs_back code place (body.code labels place) (rest.code labels behind) instrs);
          fits = omega (arith, l.fits);
          handled = λ p x y.
              let misses : covers guard p ≡ false = grind (arith, nat_tests) in
              handled p (omega (arith, x)) y
              ∙ ap (λ b. or_else (if b then nearer (Some guard) (handler_at (body.ranges place ++ rest.ranges behind) p) else handler_at (body.ranges place ++ rest.ranges behind) p) outer) misses
              ∙ ap (λ o. or_else o outer) (handler_right (body.ranges place) (rest.ranges behind) p (none_behind place behind p (body.ranges place) (s.inside place) x));
        }

    parts : PastLies code labels behind outer line otherwise handling
    parts = past_lies t u rest_lies

    tries : Lies code labels place (Some guard) body
    tries =
        record {
          instrs = instrs_front code place (body.code labels place) (rest.code labels behind) instrs;
          fits = omega (arith, l.fits);
          handled = λ p x y.
              let meets : covers guard p ≡ true = grind (arith, nat_tests) in
              handled p x (omega (arith, y))
              ∙ ap (λ b. or_else (if b then nearer (Some guard) (handler_at (body.ranges place ++ rest.ranges behind) p) else handler_at (body.ranges place ++ rest.ranges behind) p) outer) meets
              ∙ ap (λ o. or_else (nearer (Some guard) o) outer) (handler_left (body.ranges place) (rest.ranges behind) p (none_before behind (behind + rest.size) p (rest.ranges behind) rest_inside y))
              ∙ ap (λ o. or_else o outer) (inner_first guard p (body.ranges place) (s.inside place))
              ∙ or_else_twice (handler_at (body.ranges place) p) (Some guard) outer;
        }
