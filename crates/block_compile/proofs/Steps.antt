-- The same of buffers that are known by what each call left in them.
use Rattle.std.proofs.Common.{◌≡◌, ℕ, ◌<◌, List, [], ◌∷◌, ◌++◌, length, sym, ap, subst, ◌∙◌, arith, length-append}
use Rattle.stack_code.specs.declared.code.Range.{Range}
use Rattle.stack_code.specs.declared.op.Op.{Op}
use Rattle.stack_code.specs.declared.op.Op.TheVariants.{Caught, Jump, JumpIfFalse}
use Rattle.tree_code.specs.Pieces.{Piece, Labels, instr, one, ◌⨾◌, past, fork, loop, guarded}
use Rattle.expr_compile.specs.Emitted.{Emitted, with_piece, with_instr, with_aim}
use Rattle.tree_code.specs.Standing.{IsSized}
use Rattle.block_compile.specs.Emits.{Emits, Begins, EndsOpen, Guards, Catches, labelled}
use Rattle.expr_compile.specs.Jumps.{landed, left, unset, with_range}
use Rattle.block_compile.proofs.Emitting.{length-turned, sized_one, sized_then, emits_one, emits_then}
use Rattle.block_compile.proofs.Loops.{loop_emitted, emits_guarded, arm_begins, clause_begins}

-- ---- places that are there

pub opened_there : (place : ℕ) (op : Op) (line : ℕ) (old new : Emitted) → place ≡ length old.instrs → new ≡ with_instr op line old → place < length new.instrs
opened_there place op line old new at is = omega (arith, at, ap (λ (x : Emitted). length x.instrs) is, length-append old.instrs (instr op line ∷ []))

pub pushed_there : (place : ℕ) (op : Op) (line : ℕ) (old new : Emitted) → place < length old.instrs → new ≡ with_instr op line old → place < length new.instrs
pushed_there place op line old new l is = omega (arith, l, ap (λ (x : Emitted). length x.instrs) is, length-append old.instrs (instr op line ∷ []))

pub emitted_there : (a : Piece) (again place : ℕ) (old new : Emitted) → place < length old.instrs → Emits a again old new → place < length new.instrs
emitted_there a again place old new l f = omega (arith, l, ap (λ (x : Emitted). length x.instrs) f.adds, length-append old.instrs (labelled a again (length old.instrs) 0))

pub left_there : (place : ℕ) (outer : List ℕ) (old new : Emitted) → place < length old.instrs → new ≡ left outer old → place < length new.instrs
left_there place outer old new l is = omega (arith, l, ap (λ (x : Emitted). length x.instrs) is, length-turned (length old.instrs) old.leaves old.instrs)

-- ---- arms and clauses

pub arm_done : (line again : ℕ) (test body : Piece) (old tested opened mid ended new : Emitted) (jump end next : ℕ) → IsSized test → IsSized body
    → ((labels : Labels) → tested ≡ with_piece test labels old) → jump ≡ length tested.instrs → opened ≡ with_instr (JumpIfFalse 0) line tested → Emits body again opened mid
    → end ≡ length mid.instrs → ended ≡ with_instr (Jump 0) line mid → next ≡ length ended.instrs → new ≡ with_aim jump (JumpIfFalse next) line ended
    → Begins (λ rest. test ⨾ fork line body rest) again old new end
arm_done line again test body old tested opened mid ended new jump end next s t is at opens f end_at ends next_at aims =
    let whole : Piece → Piece = λ rest. test ⨾ fork line body rest in
    let last : Emitted = with_instr (Jump 0) line mid in
    let same : new ≡ with_aim (length tested.instrs) (JumpIfFalse (length last.instrs)) line last =
    aims ∙ ap (λ p. with_aim p (JumpIfFalse next) line ended) at ∙ ap (λ n. with_aim (length tested.instrs) (JumpIfFalse n) line ended) (next_at ∙ ap (λ (x : Emitted). length x.instrs) ends) ∙ ap (with_aim (length tested.instrs) (JumpIfFalse (length last.instrs)) line) ends in
    subst (λ x. Begins whole again old x end) (sym same)
    (subst (λ p. Begins whole again old (with_aim (length tested.instrs) (JumpIfFalse (length last.instrs)) line last) p) (sym end_at)
    (arm_begins line again test body old tested mid s t is (subst (λ x. Emits body again x mid) opens f)))

pub clause_done : (line again : ℕ) (test body : Piece) (op : Op) (old tested matched opened ended new : Emitted) (jump end next : ℕ) → IsSized test → IsSized body
    → ((labels : Labels) → tested ≡ with_piece test labels old) → matched ≡ with_instr op line tested → jump ≡ length matched.instrs → opened ≡ with_instr (JumpIfFalse 0) line matched → EndsOpen body line again opened ended end
    → next ≡ length ended.instrs → new ≡ with_aim jump (JumpIfFalse next) line ended
    → Begins (λ rest. test ⨾ one op line ⨾ fork line body rest) again old new end
clause_done line again test body op old tested matched opened ended new jump end next s t is matches at opens f next_at aims =
    let whole : Piece → Piece = λ rest. test ⨾ one op line ⨾ fork line body rest in
    let there : Emitted = with_instr op line tested in
    let same : new ≡ with_aim (length there.instrs) (JumpIfFalse (length ended.instrs)) line ended =
    aims ∙ ap (λ p. with_aim p (JumpIfFalse next) line ended) (at ∙ ap (λ (x : Emitted). length x.instrs) matches) ∙ ap (λ n. with_aim (length there.instrs) (JumpIfFalse n) line ended) next_at in
    subst (λ x. Begins whole again old x end) (sym same)
    (clause_begins line again test body op old tested ended end s t is (subst (λ x. EndsOpen body line again x ended end) (opens ∙ ap (with_instr (JumpIfFalse 0) line) matches) f))

-- ---- loops and ranges

pub loop_done : (leave : ℕ → Op) (line again : ℕ) (test body : Piece) (old tested opened begun inside jumped closed new : Emitted) (jump end : ℕ) (outer : List ℕ) → IsSized test → IsSized body
    → again ≡ length old.instrs → ((labels : Labels) → tested ≡ with_piece test labels old) → jump ≡ length tested.instrs → opened ≡ with_instr (leave 0) line tested → outer ≡ opened.leaves → begun ≡ record opened { leaves = [] }
    → Emits body again begun inside → jumped ≡ with_instr (Jump again) line inside → closed ≡ left outer jumped → end ≡ length closed.instrs → new ≡ with_aim jump (leave end) line closed
    → (labels : Labels) → new ≡ with_piece (loop leave line test body) labels old
loop_done leave line again test body old tested opened begun inside jumped closed new jump end outer s t again_is is at opens outer_is begins f jumps closes end_at aims labels =
    let start : begun ≡ record (with_instr (leave 0) line tested) { leaves = [] } = begins ∙ ap (λ (x : Emitted). record x { leaves = [] }) opens in
    let g : Emits body (length old.instrs) (record (with_instr (leave 0) line tested) { leaves = [] }) inside = subst (λ n. Emits body n (record (with_instr (leave 0) line tested) { leaves = [] }) inside) again_is (subst (λ x. Emits body again x inside) start f) in
    let leaves : outer ≡ tested.leaves = outer_is ∙ ap (λ (x : Emitted). x.leaves) opens in
    let last : closed ≡ left tested.leaves (with_instr (Jump (length old.instrs)) line inside) =
    closes ∙ ap (λ ls. left ls jumped) leaves ∙ ap (left tested.leaves) jumps ∙ ap (λ n. left tested.leaves (with_instr (Jump n) line inside)) again_is in
    aims
    ∙ ap (λ p. with_aim p (leave end) line closed) at
    ∙ ap (λ n. with_aim (length tested.instrs) (leave n) line closed) end_at
    ∙ ap (λ (x : Emitted). with_aim (length tested.instrs) (leave (length x.instrs)) line x) last
    ∙ loop_emitted leave line test body old tested inside s t is g labels

-- the body in a range that is yet to be set
pub guard_done : (a : Piece) (again number first past : ℕ) (old begun new : Emitted) → first ≡ length old.instrs → number ≡ length old.ranges → begun ≡ record old { ranges = old.ranges ++ unset (length old.instrs) ∷ [] } → Emits a again begun new → past ≡ length new.instrs
    → Guards a again old new number first past
guard_done a again number first past old begun new starts counts begins f ends = record { emits = subst (λ x. Emits a again x new) begins f; counts = counts; starts = starts; ends = ends }

-- the body, the `else` body and the clauses
pub guarded_done : (depth line again : ℕ) (body otherwise clauses : Piece) (old mid ready caught done new : Emitted) (number first past end : ℕ) → IsSized body → IsSized otherwise → IsSized clauses
    → Guards body again old mid number first past → Emits otherwise again mid ready → Catches depth line number first past ready caught end → Emits clauses again caught done → new ≡ landed (end ∷ []) done
    → Emits (guarded depth line body otherwise (one Caught line ⨾ clauses)) again old new
guarded_done depth line again body otherwise clauses old mid ready caught done new number first past end s t u guard f catch g lands =
    let last : Emitted = with_instr (Jump 0) line ready in
    let whole : Range = record { first = length old.instrs; past = length mid.instrs; goal = length last.instrs; depth = depth } in
    let ranged : Emitted = with_range (length old.ranges) whole last in
    let caught_is : caught ≡ with_instr Caught line ranged =
    catch.catches
    ∙ ap (λ n. with_instr Caught line (with_range n (record { first = first; past = past; goal = length last.instrs; depth = depth }) last)) guard.counts
    ∙ ap (λ p. with_instr Caught line (with_range (length old.ranges) (record { first = p; past = past; goal = length last.instrs; depth = depth }) last)) guard.starts
    ∙ ap (λ p. with_instr Caught line (with_range (length old.ranges) (record { first = length old.instrs; past = p; goal = length last.instrs; depth = depth }) last)) guard.ends in
    let begin : Emits (one Caught line) again ranged caught = subst (λ x. Emits (one Caught line) again ranged x) (sym caught_is) (emits_one again Caught line ranged) in
    let handling : Emits (one Caught line ⨾ clauses) again ranged done = emits_then again (one Caught line) clauses ranged caught done (sized_one Caught line) begin g in
    subst (λ x. Emits (guarded depth line body otherwise (one Caught line ⨾ clauses)) again old x) (sym (lands ∙ ap (λ p. landed (p ∷ []) done) catch.stands))
    (emits_guarded depth line again body otherwise (one Caught line ⨾ clauses) (unset (length old.instrs)) old mid ready done s t (sized_then (one Caught line) clauses (sized_one Caught line) u) guard.emits f handling)
