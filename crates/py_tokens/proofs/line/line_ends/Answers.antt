-- A byte that ends a line is one more, and any other none.
use Rattle.std.proofs.Common.{◌≡◌, ℕ, ◌+◌, ◌-◌, ◌<◌, Bool, cond, List, ◌∷◌, length, take, drop, get_or, sym, ap, ◌∙◌, arith}
use Rattle.std.proofs.lemmas.List.{at_drop_more, take_rest}
use Rattle.py_tokens.specs.Literals.{ends_line, line_ends}
use Rattle.py_tokens.proofs.line.line_ends.Goals as goal
use Rattle.py_tokens.proofs.line.line_ends.Goals.{then-ends_line, else-ends_line}

-- the line ends of what is left, by whether its first byte ends a line
one_more : (bytes : List ℕ) (at : ℕ) (b : Bool) → at < length bytes → b ≡ ends_line (take (length bytes - at) (drop at bytes)) →
    line_ends (drop at bytes) ≡ cond b 1 0 + line_ends (drop (at + 1) bytes)
one_more bytes at b h is =
    let test : ends_line (get_or bytes at 0 ∷ drop (at + 1) bytes) ≡ b = sym (is ∙ ap ends_line (take_rest bytes at) ∙ at_drop_more ends_line bytes at 0 h) in
    at_drop_more line_ends bytes at 0 h ∙ ap (λ t. cond t 1 0 + line_ends (drop (at + 1) bytes)) test

pub loop-at-preserved : goal.loop-at-preserved
loop-at-preserved c =
    let bytes = c.args.bytes.now in
    let at = c.loop-at.at in
    let more = one_more bytes at c.ends_line.result c.loop-at-test.true c.ends_line.ensures in
    elim c.if-ends_line.branch [
      | then-ends_line w ↦
          let one : line_ends (drop at bytes) ≡ 1 + line_ends (drop (at + 1) bytes) = more ∙ ap (λ b. cond b 1 0 + line_ends (drop (at + 1) bytes)) w.if-ends_line.true in
          (omega (arith, one, w.count-is, c.loop-at.invariant.0), omega (arith, w.count-is, c.loop-at.invariant.1))
      | else-ends_line w ↦
          let none : line_ends (drop at bytes) ≡ 0 + line_ends (drop (at + 1) bytes) = more ∙ ap (λ b. cond b 1 0 + line_ends (drop (at + 1) bytes)) w.if-ends_line.false in
          (omega (arith, none, w.count-is, c.loop-at.invariant.0), omega (arith, w.count-is, c.loop-at.invariant.1))
    ]
