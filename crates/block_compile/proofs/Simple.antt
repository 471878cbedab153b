-- Statements that have no body.
use Rattle.std.proofs.Common.{◌≡◌, ℕ, Bool, true, false, cond, sym, ap, subst, ◌∙◌}
use Rattle.py_tree.specs.declared.definition.ClassDef as rust_class
use Rattle.py_tree.specs.declared.definition.ClassDef.{out-ClassDef}
use Rattle.py_tree.specs.Tree.{Members}
use Rattle.py_tree.specs.View.{class_view, members_view}
use Rattle.stack_code.specs.declared.op.Op.{Op}
use Rattle.stack_code.specs.declared.op.Op.TheVariants as op
use Rattle.tree_code.specs.Pieces.{Piece, one, ◌⨾◌, go_out}
use Rattle.tree_code.specs.Statements.{member_values, defines_class}
use Rattle.expr_compile.specs.Emitted.{Emitted, with_piece, with_instr}
use Rattle.expr_compile.specs.Growth.{Grows}
use Rattle.expr_compile.specs.Jumps.{with_leave}
use Rattle.tree_code.specs.Standing.{IsSized}
use Rattle.block_compile.specs.Emits.{Emits}
use Rattle.block_compile.proofs.Emitting.{sized_one, emits_one, emits_then}
use Rattle.block_compile.proofs.Loops.{piece_then, piece_one, emits_leave}
use Rattle.block_compile.proofs.Bodies.{members_sized}
use Rattle.py_tree.proofs.NodeViews.{class_def_parts}

-- ---- jumps out of a loop

pub break_popped : (keeps : Bool) (line : ℕ) (old mid new : Emitted) → keeps ≡ true → mid ≡ with_instr op.Pop line old → new ≡ with_leave line mid
    → (again : ℕ) → Emits (cond keeps (one op.Pop line ⨾ go_out line) (go_out line)) again old new
break_popped true line old mid new is pops leaves again =
    let first : Emits (one op.Pop line) again old mid = subst (λ x. Emits (one op.Pop line) again old x) (sym pops) (emits_one again op.Pop line old) in
    let second : Emits (go_out line) again mid new = subst (λ x. Emits (go_out line) again mid x) (sym leaves) (emits_leave again line mid) in
    emits_then again (one op.Pop line) (go_out line) old mid new (sized_one op.Pop line) first second
break_popped false line old mid new is pops leaves again = cc

pub break_left : (keeps : Bool) (line : ℕ) (old mid new : Emitted) → keeps ≡ false → mid ≡ old → new ≡ with_leave line mid
    → (again : ℕ) → Emits (cond keeps (one op.Pop line ⨾ go_out line) (go_out line)) again old new
break_left true line old mid new is same leaves again = cc
break_left false line old mid new is same leaves again = subst (λ x. Emits (go_out line) again old x) (sym (leaves ∙ ap (with_leave line) same)) (emits_leave again line old)

-- ---- pieces that lead to no label

pub grows_then : (a b : Piece) (old mid new : Emitted) → IsSized a → Grows a old mid → Grows b mid new → Grows (a ⨾ b) old new
grows_then a b old mid new s f g labels = g labels ∙ ap (λ x. with_piece b labels x) (f labels) ∙ piece_then a b labels old s

pub grows_one : (o : Op) (line : ℕ) (old new : Emitted) → new ≡ with_instr o line old → Grows (one o line) old new
grows_one o line old new is labels = is ∙ piece_one o line labels old

pub class_done : (line : ℕ) (c : rust_class.ClassDef) (old mid made new : Emitted) → Grows (member_values (out-ClassDef c).id (members_view (out-ClassDef c).members.items)) old mid
    → made ≡ with_instr (op.Class (out-ClassDef c).id) line mid → new ≡ with_instr (op.StoreName (out-ClassDef c).name) line made → Grows (defines_class line (class_view c)) old new
class_done line c old mid made new members makes stores =
    let id : ℕ = (out-ClassDef c).id in
    let inside : Members = members_view (out-ClassDef c).members.items in
    let last : Grows (one (op.Class id) line ⨾ one (op.StoreName (out-ClassDef c).name) line) mid new =
    grows_then (one (op.Class id) line) (one (op.StoreName (out-ClassDef c).name) line) mid made new (sized_one (op.Class id) line) (grows_one (op.Class id) line mid made makes) (grows_one (op.StoreName (out-ClassDef c).name) line made new stores) in
    subst (λ x. Grows (defines_class line x) old new) (sym (class_def_parts c))
    (grows_then (member_values id inside) (one (op.Class id) line ⨾ one (op.StoreName (out-ClassDef c).name) line) old mid new (members_sized id inside) members last)
