-- Pieces that are put together from solid pieces are solid.
use Rattle.std.proofs.Common.{ℕ, ◌+◌, ◌<◌, ◌≤◌, List, [], ◌∷◌, ◌++◌, length, refl, ap, ◌∙◌, arith, length-append}
use Rattle.stack_code.specs.declared.code.Range.{Range}
use Rattle.stack_code.specs.declared.op.Op.{Op}
use Rattle.stack_code.specs.declared.op.Op.TheVariants.{Jump, JumpIfFalse}
use Rattle.tree_code.specs.Pieces.{Piece, nothing, one, ◌⨾◌, ahead, back, go_again, go_out, within, over, past, fork, loop, guarded}
use Rattle.tree_code.specs.Standing.{IsSized, RangesIn, IsSolid}

-- ---- ranges of a stretch

ranges_join : (first past : ℕ) (xs ys : List Range) → RangesIn first past xs → RangesIn first past ys → RangesIn first past (xs ++ ys)
ranges_join first past [] ys h k = k
ranges_join first past (x ∷ xs) ys h k = (h.0, ranges_join first past xs ys h.1 k)

ranges_wider : (first past low high : ℕ) (xs : List Range) → low ≤ first → past ≤ high → RangesIn first past xs → RangesIn low high xs
ranges_wider first past low high [] l m h = tt
ranges_wider first past low high (x ∷ xs) l m h =
    let begins : first ≤ x.first = h.0.0 in
    let ends : x.past < past = h.0.2 in
    ((omega arith, h.0.1, omega arith), ranges_wider first past low high xs l m h.1)

-- ---- sizes

pub then_sized : (a b : Piece) → IsSized a → IsSized b → IsSized (a ⨾ b)
then_sized a b s t =
    λ labels place. length-append (a.code labels place) (b.code labels (place + a.size)) ∙ ap (λ n. n + length (b.code labels (place + a.size))) (s labels place) ∙ ap (λ n. a.size + n) (t labels (place + a.size))

-- ---- pieces

pub nothing_solid : IsSolid nothing
nothing_solid = record { sized = λ labels place. refl; inside = λ place. tt }

pub one_solid : (op : Op) (line : ℕ) → IsSolid (one op line)
one_solid op line = record { sized = λ labels place. refl; inside = λ place. tt }

pub ahead_solid : (jump : ℕ → Op) (count line : ℕ) → IsSolid (ahead jump count line)
ahead_solid jump count line = record { sized = λ labels place. refl; inside = λ place. tt }

pub back_solid : (count line : ℕ) → IsSolid (back count line)
back_solid count line = record { sized = λ labels place. refl; inside = λ place. tt }

pub again_solid : (line : ℕ) → IsSolid (go_again line)
again_solid line = record { sized = λ labels place. refl; inside = λ place. tt }

pub out_solid : (line : ℕ) → IsSolid (go_out line)
out_solid line = record { sized = λ labels place. refl; inside = λ place. tt }

pub then_solid : {a b : Piece} → IsSolid a → IsSolid b → IsSolid (a ⨾ b)
then_solid {a} {b} s t =
    record {
      sized = then_sized a b s.sized t.sized;
      inside = λ place.
          ranges_join place (place + (a.size + b.size)) (a.ranges place) (b.ranges (place + a.size))
          (ranges_wider place (place + a.size) place (place + (a.size + b.size)) (a.ranges place) (omega arith) (omega arith) (s.inside place))
          (ranges_wider (place + a.size) (place + a.size + b.size) place (place + (a.size + b.size)) (b.ranges (place + a.size)) (omega arith) (omega arith) (t.inside (place + a.size)));
    }

pub within_solid : (before after : ℕ) {a : Piece} → IsSolid a → IsSolid (within before after a)
within_solid before after s = record { sized = λ labels place. s.sized _ place; inside = s.inside }

pub over_solid : (jump : ℕ → Op) (line : ℕ) {a : Piece} → IsSolid a → IsSolid (over jump line a)
over_solid jump line {a} s = then_solid (ahead_solid jump a.size line) s

-- the jump over the second piece, and that piece
pub skip_solid : (line : ℕ) {b : Piece} → IsSolid b → IsSolid (ahead Jump b.size line ⨾ b)
skip_solid line {b} t = then_solid (ahead_solid Jump b.size line) t

pub past_solid : (line : ℕ) {a b : Piece} → IsSolid a → IsSolid b → IsSolid (past line a b)
past_solid line s t = then_solid s (skip_solid line t)

pub fork_solid : (line : ℕ) {a b : Piece} → IsSolid a → IsSolid b → IsSolid (fork line a b)
fork_solid line {a} s t = then_solid (ahead_solid JumpIfFalse (a.size + 1) line) (past_solid line s t)

-- the body of a loop and the jump back
pub turn_solid : (line : ℕ) (test : Piece) {body : Piece} → IsSolid body → IsSolid (within (test.size + 1) 1 body ⨾ back (test.size + 1 + body.size) line)
turn_solid line test {body} t = then_solid (within_solid (test.size + 1) 1 t) (back_solid (test.size + 1 + body.size) line)

pub loop_solid : (leave : ℕ → Op) (line : ℕ) {test body : Piece} → IsSolid test → IsSolid body → IsSolid (loop leave line test body)
loop_solid leave line {test} {body} s t = then_solid s (then_solid (ahead_solid leave (body.size + 1) line) (turn_solid line test t))

pub guarded_solid : (depth line : ℕ) {body otherwise handling : Piece} → IsSolid body → IsSolid otherwise → IsSolid handling → IsSolid (guarded depth line body otherwise handling)
guarded_solid depth line {body} {otherwise} {handling} s t u =
    let plain : IsSolid (past line (body ⨾ otherwise) handling) = past_solid line (then_solid s t) u in
    record { sized = plain.sized; inside = λ place. ((omega arith, omega arith, omega arith), plain.inside place) }
