-- Which instructions stand in a code, read off its pieces: what holds of those of each piece holds of each instruction of the whole. A premise for an instruction that a tree's forms never give is met so.
use Rattle.std.proofs.Common.{◌≡◌, ℕ, suc, zero, ◌+◌, ◌-◌, Some, List, [], ◌∷◌, ◌++◌, map, slice_get, subst}
use Rattle.py_tree.specs.Tree.{Stmts}
use Rattle.stack_code.specs.declared.op.Op.{Op}
use Rattle.stack_code.specs.declared.op.Op.TheVariants as op
use Rattle.tree_code.specs.declared.instr.Instr.{Instr}
use Rattle.tree_code.specs.Pieces.{Piece, Labels, nothing, one, ◌⨾◌, ahead, back, go_again, go_out, within, over, past, fork, loop, guarded}
use Rattle.tree_code.specs.Programs.{no_loop, in_module, module_code, last_line}
use Rattle.tree_code.specs.Statements.{body_code}

module _ (Is : Op → Type 0) where
  abbrev pub AllOps : List Instr → Type 0
  AllOps [] = Unit {0}
  AllOps (i ∷ is) = Is i.op × AllOps is

  pub record OnlyOps (a : Piece) : Type 0 where
    pub each : (labels : Labels) (place : ℕ) → AllOps (a.code labels place)

  all_join : (is others : List Instr) → AllOps is → AllOps others → AllOps (is ++ others)
  all_join [] others h k = k
  all_join (i ∷ is) others h k = (h.0, all_join is others h.1 k)

  pub nothing_only : OnlyOps nothing
  nothing_only = record { each = λ labels place. tt }

  pub one_only : (o : Op) (line : ℕ) → Is o → OnlyOps (one o line)
  one_only o line h = record { each = λ labels place. (h, tt) }

  pub then_only : {a b : Piece} → OnlyOps a → OnlyOps b → OnlyOps (a ⨾ b)
  then_only {a} {b} h k = record { each = λ labels place. all_join (a.code labels place) (b.code labels (place + a.size)) (h.each labels place) (k.each labels (place + a.size)) }

  pub ahead_only : (jump : ℕ → Op) (count line : ℕ) → ((goal : ℕ) → Is (jump goal)) → OnlyOps (ahead jump count line)
  ahead_only jump count line h = record { each = λ labels place. (h (place + 1 + count), tt) }

  module _ (jumps : (goal : ℕ) → Is (op.Jump goal)) where
    pub again_only : (line : ℕ) → OnlyOps (go_again line)
    again_only line = record { each = λ labels place. (jumps labels.again, tt) }

    pub out_only : (line : ℕ) → OnlyOps (go_out line)
    out_only line = record { each = λ labels place. (jumps labels.out, tt) }

    back_only : (count line : ℕ) → OnlyOps (back count line)
    back_only count line = record { each = λ labels place. (jumps (place - count), tt) }

    pub past_only : (line : ℕ) {a b : Piece} → OnlyOps a → OnlyOps b → OnlyOps (past line a b)
    past_only line {a} {b} h k = then_only h (then_only (ahead_only op.Jump b.size line jumps) k)

    pub fork_only : (line : ℕ) {a b : Piece} → ((goal : ℕ) → Is (op.JumpIfFalse goal)) → OnlyOps a → OnlyOps b → OnlyOps (fork line a b)
    fork_only line {a} {b} tests h k = then_only (ahead_only op.JumpIfFalse (a.size + 1) line tests) (past_only line h k)

    pub loop_only : (leave : ℕ → Op) (line : ℕ) {test body : Piece} → ((goal : ℕ) → Is (leave goal)) → OnlyOps test → OnlyOps body → OnlyOps (loop leave line test body)
    loop_only leave line {test} {body} leaves h k =
        let inside : OnlyOps (within (test.size + 1) 1 body) = record { each = λ labels place. k.each (record { again = place - (test.size + 1); out = place + body.size + 1 }) place } in
        then_only h (then_only (ahead_only leave (body.size + 1) line leaves) (then_only inside (back_only (test.size + 1 + body.size) line)))

    pub guarded_only : (depth line : ℕ) {body otherwise handling : Piece} → OnlyOps body → OnlyOps otherwise → OnlyOps handling → OnlyOps (guarded depth line body otherwise handling)
    guarded_only depth line {body} {otherwise} {handling} h k u =
        let whole : OnlyOps (past line (body ⨾ otherwise) handling) = past_only line (then_only h k) u in
        record { each = whole.each }

  pub over_only : (jump : ℕ → Op) (line : ℕ) {a : Piece} → ((goal : ℕ) → Is (jump goal)) → OnlyOps a → OnlyOps (over jump line a)
  over_only jump line {a} tests h = then_only (ahead_only jump a.size line tests) h

  -- ---- in a code

  op_among : (is : List Instr) (place : ℕ) (o : Op) → AllOps is → slice_get (map (λ i. i.op) is) place ≡ Some o → Is o
  op_among [] place o h e = cc
  op_among (i ∷ is) zero o h e = let same : i.op ≡ o = cc in subst Is same h.0
  op_among (i ∷ is) (suc place) o h e = op_among is place o h.1 e

  pub op_in_module : (error : ℕ) (body : Stmts) (place : ℕ) (o : Op) → OnlyOps (body_code (in_module error) body) → Is op.End → slice_get (module_code error body).ops place ≡ Some o → Is o
  op_in_module error body place o h end e =
      let whole : OnlyOps (body_code (in_module error) body ⨾ one op.End (last_line 1 body)) = then_only h (one_only op.End (last_line 1 body) end) in
      op_among ((body_code (in_module error) body ⨾ one op.End (last_line 1 body)).code no_loop 0) place o (whole.each no_loop 0) e
