-- A loop takes a run from its test to the place behind it, and each of its turns from its body to there.
use Rattle.std.proofs.Common.{ℕ, suc, ◌+◌, true, false, List, [], ◌∷◌, refl, arith}
use Rattle.py_tree.specs.Tree.{Expr, Stmts}
use Rattle.stack_code.specs.declared.op.Op.TheVariants as op
use Rattle.tree_code.specs.Pieces.{Piece, nothing, ◌⨾◌}
use Rattle.tree_code.specs.Expressions.{value, put}
use Rattle.tree_code.specs.Statements.{in_while, in_for, body_code}
use Rattle.tree_code.specs.Standing.{IsSolid}
use Rattle.tree_code.proofs.Solid.{nothing_solid, then_solid}
use Rattle.tree_code.proofs.SolidTrees.{value_solid, put_solid, body_solid}
use Rattle.tree_code.proofs.Parts.{then_lies, LoopLies, loop_lies}
use Rattle.py_meaning.specs.Values.{Value}
use Rattle.py_meaning.specs.Programs.{Program}
use Rattle.py_meaning.specs.Events.{not_iterable}
use Rattle.py_meaning.specs.Truth.{truth_of}
use Rattle.py_meaning.specs.Iteration.{Step, no_items, ended, element, iterate}
use Rattle.py_meaning.specs.Expressions.{eval, chosen}
use Rattle.py_meaning.specs.Targets as targets
use Rattle.py_meaning.specs.Statements.{through, run_while, for_step, run_for, once_more, exec_all}
use Rattle.py_meaning.specs.Calls.{perform}
use Rattle.py_meaning.specs.Actions.{Memory, Flow, goes_on, breaks, continues, returns, while_turn, for_turn, Outcome, came, threw, gives, turn, bind, fails}
use Rattle.py_meaning.specs.Holds.{Holds}
use Rattle.py_meaning.proofs.Holding.{holds_bind, holds_map}
use Rattle.tree_covering.specs.Trails.{Trail, whole, without, Around, Round, LiesIn, At, ValueAt, DoneAt, SentOver, place_of, FlowAt, SentFrom}
use Rattle.tree_covering.specs.Turns.{while_code, for_code, WhileWay, ForWay, LoopEnds, LoopAnswers, of_loop, account}
use Rattle.tree_covering.specs.Follows.{ChoiceAt, NextAt, Follows}
use Rattle.tree_covering.proofs.Going.{seq_over, at_to, may_then, holds_chosen}
use Rattle.tree_covering.proofs.Values.{Both, value_goes}
use Rattle.tree_covering.proofs.Targets.{put_goes}

module _ (t : Trail) where
  -- in a loop that begins at a place and ends at another
  abbrev pub in_loop : Around t → (again out : ℕ) → Around t
  in_loop x again out = record { context = x.context; since = x.since; labels = record { again = again; out = out }; outer = x.outer }

  abbrev pub while_round : Round t → (again out : ℕ) → Round t
  while_round r again out = record { around = in_loop r.around again out; stack = r.stack; out = r.stack; keeps = false; leaves = whole; looped = true; in_function = r.in_function }

  abbrev pub for_round : Round t → (again out : ℕ) → Value → Round t
  for_round r again out v = record { around = in_loop r.around again out; stack = v ∷ r.stack; out = r.stack; keeps = true; leaves = without; looped = true; in_function = r.in_function }

module _ (t : Trail) (p : Program) (steps : Follows t p) where
  -- the end of a loop is one of a statement
  pub loop_flow : (r : Round t) (place : ℕ) (flow : Flow) (g : t.Kept) (m : Memory) → LoopEnds t r place g m flow → FlowAt t r place g m flow
  loop_flow r place goes_on g m h = h
  loop_flow r place breaks g m h = absurd h
  loop_flow r place continues g m h = absurd h
  loop_flow r place (returns v) g m h = h

  through_ends : (r : Round t) (place : ℕ) (o : Outcome) (g : t.Kept) (m : Memory) → LoopAnswers t r place o g m → Holds (account t) (LoopEnds t r place) (SentFrom t r) g m (through o)
  through_ends r place (came flow) g m h = h
  through_ends r place (threw v) g m h = h

  -- ---- `while`

  module _ (test : Expr) (body : Stmts) (w : WhileWay t test body) where
    abbrev pub while_around : Round t
    while_around = w.round

    abbrev tested : Piece
    tested = value (t.locals w.round.around.context) test

    abbrev inside : Piece
    inside = body_code (in_while (place_of t w.round)) body

    abbrev pub while_end : ℕ
    while_end = w.place + (while_code t w.round w.line test body).size

    abbrev pub while_inner : Round t
    while_inner = while_round t w.round w.place while_end

    abbrev pub while_back : ℕ
    while_back = w.place + tested.size + 1 + inside.size

    abbrev WhileLies : Type 0
    WhileLies = LoopLies (t.code w.round.around.context) w.round.around.labels w.place w.round.around.outer op.JumpIfFalse w.line tested inside

    while_parts : WhileLies
    while_parts = loop_lies op.JumpIfFalse (value_solid (t.locals w.round.around.context) test) (body_solid (in_while (place_of t w.round)) body) w.lies

    pub while_body_lies : LiesIn t while_inner.around (w.place + tested.size + 1) inside
    while_body_lies = while_parts.turns

    pub while_runs : (g : t.Kept) (m : Memory) → At t w.round.around w.place w.round.stack g m → Holds (account t) (LoopEnds t w.round while_end) (SentFrom t w.round) g m (run_while p test body)
    while_runs g m k =
        let x : Around t = w.round.around in
        let stack : List Value = w.round.stack in
        let q : ℕ = w.place + tested.size in
        holds_bind (account t) (ValueAt t x q stack) (LoopEnds t w.round while_end) (SentFrom t w.round) (eval p test) (λ v. bind (truth_of v) (λ z. chosen z (turn (while_turn test body) through) (gives goes_on))) g m
        (value_goes t p steps test x w.place q stack g m refl while_parts.tests k) (λ v g1 m1 k1.
        holds_bind (account t) (ChoiceAt t x (suc q) while_end stack stack) (LoopEnds t w.round while_end) (SentFrom t w.round) (truth_of v) (λ z. chosen z (turn (while_turn test body) through) (gives goes_on)) g1 m1
        (steps.leaves_if_false x q w.line while_end v stack g1 m1 while_parts.leaves k1) (λ z g2 m2 c.
        holds_chosen t p steps (LoopEnds t w.round while_end) (SentFrom t w.round) x (suc q) while_end stack stack z (turn (while_turn test body) through) (gives goes_on) g2 m2 c
        (λ k2. (steps.always x (suc q) stack g2 m2 k2, (of_loop w, at_to t p steps x (suc q) (q + 1) stack g2 m2 (omega arith) k2, λ o g' m' h. through_ends w.round while_end o g' m' h)))
        (λ k2. k2)))

    -- after the body: back to the test, or out
    while_again : (flow : Flow) (g : t.Kept) (m : Memory) → FlowAt t while_inner while_back g m flow → Holds (account t) (LoopEnds t w.round while_end) (SentFrom t w.round) g m (once_more flow (run_while p test body))
    while_again goes_on g m k = while_runs g m (steps.jumps w.round.around while_back w.line w.place w.round.stack g m while_parts.returns k)
    while_again continues g m k = while_runs g m k.1
    while_again breaks g m k = k.1
    while_again (returns v) g m k = k

    pub while_performs : ((g : t.Kept) (m : Memory) → At t while_inner.around (w.place + tested.size + 1) w.round.stack g m → Holds (account t) (FlowAt t while_inner while_back) (SentFrom t w.round) g m (exec_all p body)) →
        (g : t.Kept) (m : Memory) → At t w.round.around (w.place + tested.size + 1) w.round.stack g m → Holds (account t) (LoopEnds t w.round while_end) (SentFrom t w.round) g m (perform p (while_turn test body))
    while_performs go g m k = holds_bind (account t) (FlowAt t while_inner while_back) (LoopEnds t w.round while_end) (SentFrom t w.round) (exec_all p body) (λ flow. once_more flow (run_while p test body)) g m (go g m k) (λ flow g1 m1 k1. while_again flow g1 m1 k1)

  -- ---- `for`

  module _ (target : Expr) (body : Stmts) (line : ℕ) (w : ForWay t target body line) (v : Value) where
    abbrev taken : Piece
    taken = put (t.locals w.round.around.context) target

    abbrev inside_for : Piece
    inside_for = body_code (in_for (place_of t w.round)) body

    abbrev pub for_end : ℕ
    for_end = w.place + (for_code t w.round line target body).size

    abbrev pub for_inner : Round t
    for_inner = for_round t w.round w.place for_end v

    abbrev pub for_start : ℕ
    for_start = w.place + 0 + 1 + taken.size

    abbrev pub for_back : ℕ
    for_back = for_start + inside_for.size

    abbrev ForLies : Type 0
    ForLies = LoopLies (t.code w.round.around.context) w.round.around.labels w.place w.round.around.outer op.ForNext line nothing (taken ⨾ inside_for)

    taken_solid : IsSolid taken
    taken_solid = put_solid (t.locals w.round.around.context) target

    inside_solid : IsSolid inside_for
    inside_solid = body_solid (in_for (place_of t w.round)) body

    for_parts : ForLies
    for_parts = loop_lies op.ForNext nothing_solid (then_solid taken_solid inside_solid) w.lies

    for_both : Both t for_inner.around (w.place + 0 + 1) taken inside_for
    for_both = then_lies taken_solid inside_solid for_parts.turns

    pub for_body_lies : LiesIn t for_inner.around for_start inside_for
    for_body_lies = for_both.second

    stepped : (step : Step) (g : t.Kept) (m : Memory) → NextAt t w.round.around (suc (w.place + 0)) for_end line v w.round.stack g m step → Holds (account t) (LoopEnds t w.round for_end) (SentFrom t w.round) g m (for_step target body line v step)
    stepped no_items g m h = holds_map (account t) (λ g' m' flow. ⊥) (LoopEnds t w.round for_end) (SentFrom t w.round) (SentFrom t w.round) (fails {A = Flow} line not_iterable) g m h (λ flow g' m' z. absurd z) (λ u g' m' r. r)
    stepped ended g m h = h
    stepped (element u) g m h =
        (steps.always w.round.around (suc (w.place + 0)) (u ∷ v ∷ w.round.stack) g m h, (of_loop w, at_to t p steps w.round.around (suc (w.place + 0)) (w.place + 0 + 1) (u ∷ v ∷ w.round.stack) g m (omega arith) h, λ o g' m' z. through_ends w.round for_end o g' m' z))

    pub for_runs : (g : t.Kept) (m : Memory) → At t w.round.around w.place (v ∷ w.round.stack) g m → Holds (account t) (LoopEnds t w.round for_end) (SentFrom t w.round) g m (run_for p target body line v)
    for_runs g m k =
        let x : Around t = w.round.around in
        let stack : List Value = w.round.stack in
        let q : ℕ = w.place + 0 in
        let there : At t x q (v ∷ stack) g m = at_to t p steps x w.place q (v ∷ stack) g m (omega arith) k in
        may_then t p steps (LoopEnds t w.round for_end) x q line (op.ForNext for_end) (v ∷ []) stack (bind (iterate p v) (for_step target body line v)) g m for_parts.leaves refl there
        (holds_bind (account t) (NextAt t x (suc q) for_end line v stack) (LoopEnds t w.round for_end) (SentFrom t w.round) (iterate p v) (for_step target body line v) g m (steps.next x q line for_end v stack g m for_parts.leaves there) (λ step g1 m1 h. stepped step g1 m1 h))

    for_again : (flow : Flow) (g : t.Kept) (m : Memory) → FlowAt t for_inner for_back g m flow → Holds (account t) (LoopEnds t w.round for_end) (SentFrom t w.round) g m (once_more flow (run_for p target body line v))
    for_again goes_on g m k =
        for_runs g m (steps.jumps w.round.around (w.place + 0 + 1 + (taken ⨾ inside_for).size) line w.place (v ∷ w.round.stack) g m for_parts.returns (at_to t p steps w.round.around for_back (w.place + 0 + 1 + (taken ⨾ inside_for).size) (v ∷ w.round.stack) g m (omega arith) k))
    for_again continues g m k = for_runs g m k.1
    for_again breaks g m k = k.1
    for_again (returns u) g m k = k

    pub for_performs : ((g : t.Kept) (m : Memory) → At t for_inner.around for_start (v ∷ w.round.stack) g m → Holds (account t) (FlowAt t for_inner for_back) (SentFrom t for_inner) g m (exec_all p body)) →
        (u : Value) (g : t.Kept) (m : Memory) → At t w.round.around (w.place + 0 + 1) (u ∷ v ∷ w.round.stack) g m → Holds (account t) (LoopEnds t w.round for_end) (SentFrom t w.round) g m (perform p (for_turn target body line v u))
    for_performs go u g m k =
        let x : Around t = for_inner.around in
        let stack : List Value = w.round.stack in
        seq_over t p steps (DoneAt t x for_start (v ∷ stack)) (SentOver t x (v ∷ stack)) (LoopEnds t w.round for_end) (SentFrom t w.round) (targets.put p target u) (λ z. bind (exec_all p body) (λ flow. once_more flow (run_for p target body line v))) g m
        (put_goes t p steps target x u (w.place + 0 + 1) for_start (v ∷ stack) g m refl for_both.first k) (λ z g' m' r. steps.sinks x stack v z g' m' r) (λ z g1 m1 k1.
        seq_over t p steps (FlowAt t for_inner for_back) (SentFrom t for_inner) (LoopEnds t w.round for_end) (SentFrom t w.round) (exec_all p body) (λ flow. once_more flow (run_for p target body line v)) g1 m1 (go g1 m1 k1) (λ z g' m' r. steps.sinks x stack v z g' m' r) (λ flow g2 m2 k2.
        for_again flow g2 m2 k2))
