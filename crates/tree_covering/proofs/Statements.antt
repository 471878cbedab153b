-- Statements take a run from their first place to the place behind them, or to where they leave.
use Rattle.std.proofs.Common.{◌≡◌, ℕ, suc, ◌+◌, Bool, true, false, cond, Option, Some, None, List, [], ◌∷◌, ◌++◌, length, refl, arith}
use Rattle.std.specs.Prelude.{codes}
use Rattle.py_tree.specs.declared.literal.Literal.TheVariants as literal
use Rattle.py_tree.specs.Tree as tree
use Rattle.py_tree.specs.Tree.{Expr, site_of, statement, StmtKind, Stmts, no_stmts, stmt, Arms, no_arms, arm, Handlers, no_handlers, handler}
use Rattle.scope_rules.specs.declared.jump.Jump.{Jump}
use Rattle.scope_rules.specs.Jumps.{jumps_of, jumps, jumps_of_arms, jumps_of_handlers, returns as return_jumps}
use Rattle.stack_code.specs.declared.code.Range.{Range}
use Rattle.stack_code.specs.declared.op.Op.TheVariants as op
use Rattle.tree_code.specs.Names.{kind_of, store, forget}
use Rattle.tree_code.specs.Pieces.{Piece, nothing, one, ◌⨾◌, over, past, fork, loop, go_out}
use Rattle.tree_code.specs.Expressions.{put}
use Rattle.tree_code.specs.Statements.{in_for, value_or_none, dropped, raised, put_all, caught, uncaught, kind_code, body_code, arms_code, handlers_code}
use Rattle.tree_code.specs.Standing.{IsSolid, guard_of}
use Rattle.tree_code.proofs.Solid.{nothing_solid, one_solid, then_solid, over_solid, fork_solid, loop_solid, out_solid}
use Rattle.tree_code.proofs.SolidTrees.{value_solid, put_solid, put_all_solid, dropped_solid, clause_solid, kind_solid, body_solid, arms_solid, handlers_solid}
use Rattle.tree_code.proofs.Parts.{then_lies, OverLies, over_lies, PastLies, past_lies, ForkLies, fork_lies, GuardedLies, guarded_lies, op_lies, again_lies, out_lies}
use Rattle.py_meaning.specs.Values.{Value, none}
use Rattle.py_meaning.specs.Programs.{Program}
use Rattle.py_meaning.specs.Truth.{truth_of}
use Rattle.py_meaning.specs.ClassTests.{matches}
use Rattle.py_meaning.specs.Names.{builtin_value, unbound}
use Rattle.py_meaning.specs.Names as names
use Rattle.py_meaning.specs.Expressions.{eval, chosen}
use Rattle.py_meaning.specs.Targets.{put_each, augment}
use Rattle.py_meaning.specs.Imports.{module_name, import_all, take_all}
use Rattle.py_meaning.specs.Exceptions.{made_exception, raise_value, raise_made, raise_again, raise_assertion, with_handled, handling}
use Rattle.py_meaning.specs.Statements as statements
use Rattle.py_meaning.specs.Statements.{and_on, then_next, evaluated, returned_value, assertion, annotation, run_while, run_for, define_function, define_class, named, exec_kind, exec_all, exec_arms, exec_handlers}
use Rattle.py_meaning.specs.Actions as actions
use Rattle.py_meaning.specs.Actions.{Memory, with_scope, Flow, goes_on, breaks, continues, returns, Action, gives, raises, bind, then_do, afterwards, changes, done}
use Rattle.py_meaning.specs.Holds.{Post, Holds}
use Rattle.py_meaning.proofs.Holding.{holds_attempt, holds_bind, holds_map, holds_afterwards}
use Rattle.tree_covering.specs.Leaving.{MayStand}
use Rattle.tree_covering.specs.Trails.{Trail, Out, whole, without, Around, Round, LiesIn, OpIn, At, ValueAt, DoneAt, SentOver, place_of, FlowAt, SentFrom}
use Rattle.tree_covering.specs.Turns.{WhileWay, ForWay, LoopEnds, account}
use Rattle.tree_covering.specs.Follows.{during, ChoiceAt, Restores, Catches, Follows}
use Rattle.tree_covering.proofs.Leaving.{may_first, may_second, is_looped}
use Rattle.tree_covering.proofs.Going.{seq_over, at_to, may_then, may_give, holds_chosen}
use Rattle.tree_covering.proofs.Values.{Both, code_of, value_goes}
use Rattle.tree_covering.proofs.Targets.{store_goes, chain_goes, augment_goes, drop_goes, annotation_goes, imports_go, froms_go}
use Rattle.tree_covering.proofs.Classes.{function_goes, class_goes}
use Rattle.tree_covering.proofs.Loops.{loop_flow, while_runs, while_end, for_runs, for_end}

module _ (t : Trail) (p : Program) (steps : Follows t p) where
  abbrev pub FlowHolds : Round t → ℕ → t.Kept → Memory → Action Flow → Type 0
  FlowHolds r to g m a = Holds (account t) (FlowAt t r to) (SentFrom t r) g m a

  -- ---- the flow of statements

  -- the next statement goes on where the one before it ended
  flow_on : (r : Round t) (middle to : ℕ) (flow : Flow) (a : Action Flow) (g : t.Kept) (m : Memory) → FlowAt t r middle g m flow → (At t r.around middle r.stack g m → FlowHolds r to g m a) → FlowHolds r to g m (then_next flow a)
  flow_on r middle to goes_on a g m k h = h k
  flow_on r middle to breaks a g m k h = k
  flow_on r middle to continues a g m k h = k
  flow_on r middle to (returns v) a g m k h = k

  flow_moved : (r : Round t) (middle to : ℕ) (flow : Flow) (g : t.Kept) (m : Memory) → (At t r.around middle r.stack g m → At t r.around to r.stack g m) → FlowAt t r middle g m flow → FlowAt t r to g m flow
  flow_moved r middle to goes_on g m h k = h k
  flow_moved r middle to breaks g m h k = k
  flow_moved r middle to continues g m h k = k
  flow_moved r middle to (returns v) g m h k = k

  -- statements that end at one place lead to another
  ends_moved : (r : Round t) (middle to : ℕ) (a : Action Flow) (g : t.Kept) (m : Memory) → ((g' : t.Kept) (m' : Memory) → At t r.around middle r.stack g' m' → At t r.around to r.stack g' m') → FlowHolds r middle g m a → FlowHolds r to g m a
  ends_moved r middle to a g m h d = holds_map (account t) (FlowAt t r middle) (FlowAt t r to) (SentFrom t r) (SentFrom t r) a g m d (λ flow g' m' k. flow_moved r middle to flow g' m' (h g' m') k) (λ v g' m' k. k)

  -- what is done, and then the next statement
  and_on_goes : {A : Type 0} (P : Post (account t) A) (r : Round t) (to : ℕ) (a : Action A) (g : t.Kept) (m : Memory) → Holds (account t) P (SentFrom t r) g m a → ((x : A) (g' : t.Kept) (m' : Memory) → P g' m' x → At t r.around to r.stack g' m') → FlowHolds r to g m (and_on a)
  and_on_goes P r to a g m h k = holds_bind (account t) P (FlowAt t r to) (SentFrom t r) a (λ x. gives goes_on) g m h k

  -- an action that only raises
  never_gives : {A : Type 0} (Q : Post (account t) A) (R : Post (account t) Value) (a : Action A) (g : t.Kept) (m : Memory) → Holds (account t) (λ g' m' x. ⊥) R g m a → Holds (account t) Q R g m a
  never_gives Q R a g m h = holds_map (account t) (λ g' m' x. ⊥) Q R R a g m h (λ x g' m' z. absurd z) (λ v g' m' r. r)

  -- ---- simple statements

  dropped_goes : (o : Option Expr) (x : Around t) (line place to : ℕ) (stack : List Value) (g : t.Kept) (m : Memory) → place + (dropped (t.locals x.context) line o).size ≡ to → LiesIn t x place (dropped (t.locals x.context) line o) → At t x place stack g m →
      Holds (account t) (DoneAt t x to stack) (SentOver t x stack) g m (evaluated p o)
  dropped_goes None x line place to stack g m e l k = at_to t p steps x place to stack g m (omega (arith, e)) k
  dropped_goes (Some a) x line place to stack g m e l k = drop_goes t p steps a x line place to stack g m e l k

  -- what is made an exception, and raised
  raised_goes : (Q : Post (account t) Flow) (x : Around t) (place site line : ℕ) (v : Value) (stack : List Value) (g : t.Kept) (m : Memory) → LiesIn t x place (one (op.MakeRaised site) line ⨾ one op.Raise line) → At t x place (v ∷ stack) g m →
      Holds (account t) Q (SentOver t x stack) g m (raise_made {A = Flow} p v site line)
  raised_goes Q x place site line v stack g m l k =
      let both : Both t x place (one (op.MakeRaised site) line) (one op.Raise line) = then_lies (one_solid (op.MakeRaised site) line) (one_solid op.Raise line) l in
      holds_bind (account t) (ValueAt t x (suc place) stack) Q (SentOver t x stack) (made_exception v site line) (raise_value p) g m (steps.makes_raised x site v place line stack g m (op_lies both.first) k) (λ w g1 m1 k1.
      never_gives Q (SentOver t x stack) (raise_value p w) g1 m1 (steps.raises x w (place + 1) line stack g1 m1 (op_lies both.second) (at_to t p steps x (suc place) (place + 1) (w ∷ stack) g1 m1 (omega arith) k1)))

  raise_goes : (o cause : Option Expr) (r : Round t) (line place to : ℕ) (g : t.Kept) (m : Memory) → LiesIn t r.around place (raised (t.locals r.around.context) line o cause) → At t r.around place r.stack g m → FlowHolds r to g m (statements.raised p line o cause)
  raise_goes None cause r line place to g m l k = never_gives (FlowAt t r to) (SentFrom t r) raise_again g m (steps.raises_again r.around place line r.stack g m (op_lies l) k)
  raise_goes (Some a) cause r line place to g m l k =
      let x : Around t = r.around in
      let ls : List ℕ = t.locals x.context in
      let va : Piece = code_of t x a in
      let vc : Piece = dropped ls line cause in
      let last : Piece = one (op.MakeRaised (site_of a)) line ⨾ one op.Raise line in
      let sl : IsSolid last = then_solid (one_solid (op.MakeRaised (site_of a)) line) (one_solid op.Raise line) in
      let q : ℕ = place + va.size in
      let l0 : Both t x place va (vc ⨾ last) = then_lies (value_solid ls a) (then_solid (dropped_solid ls line cause) sl) l in
      let l1 : Both t x q vc last = then_lies (dropped_solid ls line cause) sl l0.second in
      holds_bind (account t) (ValueAt t x q r.stack) (FlowAt t r to) (SentFrom t r) (eval p a) (λ v. then_do (evaluated p cause) (raise_made p v (site_of a) line)) g m (value_goes t p steps a x place q r.stack g m refl l0.first k) (λ v g1 m1 k1.
      seq_over t p steps (DoneAt t x (q + vc.size) (v ∷ r.stack)) (SentOver t x (v ∷ r.stack)) (FlowAt t r to) (SentFrom t r) (evaluated p cause) (λ u. raise_made p v (site_of a) line) g1 m1
      (dropped_goes cause x line q (q + vc.size) (v ∷ r.stack) g1 m1 refl l1.first k1) (λ u g' m' z. steps.sinks x r.stack v u g' m' z) (λ u g2 m2 k2.
      raised_goes (FlowAt t r to) x (q + vc.size) (site_of a) line v r.stack g2 m2 l1.second k2))

  assert_goes : (a : Expr) (message : Option Expr) (r : Round t) (line place to : ℕ) (g : t.Kept) (m : Memory) → place + (kind_code (place_of t r) line (tree.assert a message)).size ≡ to → LiesIn t r.around place (kind_code (place_of t r) line (tree.assert a message)) → At t r.around place r.stack g m →
      FlowHolds r to g m (assertion p line a message)
  assert_goes a message r line place to g m e l k =
      let x : Around t = r.around in
      let ls : List ℕ = t.locals x.context in
      let va : Piece = code_of t x a in
      let vm : Piece = dropped ls line message in
      let load_error : Piece = one (op.LoadName t.error) line in
      let last : Piece = one (op.MakeRaised (site_of a)) line ⨾ one op.Raise line in
      let sm : IsSolid vm = dropped_solid ls line message in
      let sl : IsSolid last = then_solid (one_solid (op.MakeRaised (site_of a)) line) (one_solid op.Raise line) in
      let s1 : IsSolid (load_error ⨾ last) = then_solid (one_solid (op.LoadName t.error) line) sl in
      let sf : IsSolid (vm ⨾ load_error ⨾ last) = then_solid sm s1 in
      let q : ℕ = place + va.size in
      let end : ℕ = q + (over op.JumpIfTrue line (vm ⨾ load_error ⨾ last)).size in
      let l0 : Both t x place va (over op.JumpIfTrue line (vm ⨾ load_error ⨾ last)) = then_lies (value_solid ls a) (over_solid op.JumpIfTrue line sf) l in
      let parts : OverLies (t.code x.context) x.labels q x.outer op.JumpIfTrue line (vm ⨾ load_error ⨾ last) = over_lies op.JumpIfTrue sf l0.second in
      let l1 : Both t x (q + 1) vm (load_error ⨾ last) = then_lies sm s1 parts.inner in
      let q2 : ℕ = q + 1 + vm.size in
      let l2 : Both t x q2 load_error last = then_lies (one_solid (op.LoadName t.error) line) sl l1.second in
      let Q : Post (account t) Flow = FlowAt t r to in
      let R : Post (account t) Value = SentFrom t r in
      holds_bind (account t) (ValueAt t x q r.stack) Q R (eval p a) (λ v. bind (truth_of v) (λ z. chosen z (gives goes_on) (then_do (evaluated p message) (raise_assertion p (site_of a) line)))) g m (value_goes t p steps a x place q r.stack g m refl l0.first k) (λ v g1 m1 k1.
      holds_bind (account t) (ChoiceAt t x end (suc q) r.stack r.stack) Q R (truth_of v) (λ z. chosen z (gives goes_on) (then_do (evaluated p message) (raise_assertion p (site_of a) line))) g1 m1 (steps.leaves_if_true x q line end v r.stack g1 m1 parts.jumps k1) (λ z g2 m2 c.
      holds_chosen t p steps Q R x end (suc q) r.stack r.stack z (gives goes_on) (then_do (evaluated p message) (raise_assertion p (site_of a) line)) g2 m2 c
      (λ k2. at_to t p steps x end to r.stack g2 m2 (omega (arith, e)) k2)
      (λ k2. holds_bind (account t) (DoneAt t x q2 r.stack) Q R (evaluated p message) (λ u. raise_assertion p (site_of a) line) g2 m2 (dropped_goes message x line (q + 1) q2 r.stack g2 m2 refl l1.first (at_to t p steps x (suc q) (q + 1) r.stack g2 m2 (omega arith) k2)) (λ u g3 m3 k3.
      holds_bind (account t) (ValueAt t x (q2 + 1) r.stack) Q R (then_do actions.may_raise (builtin_value (codes "AssertionError"))) (λ c. raise_made p c (site_of a) line) g3 m3
      (may_give t p steps x (op.LoadName t.error) [] (λ line. builtin_value (codes "AssertionError")) (steps.loads_error x) refl q2 (q2 + 1) line r.stack g3 m3 (omega arith) (op_lies l2.first) k3) (λ c g4 m4 k4.
      raised_goes Q x (q2 + 1) (site_of a) line c r.stack g4 m4 l2.second k4)))))

  -- a `break` takes the iterable of a `for` off
  left_goes : (x : Around t) (keeps : Bool) (stack out : List Value) (line place : ℕ) (g : t.Kept) (m : Memory) → Out keeps stack out → LiesIn t x place (cond keeps (one op.Pop line ⨾ go_out line) (go_out line)) → At t x place stack g m → At t x x.labels.out out g m
  left_goes x false stack _ line place g m (whole) l k = steps.jumps x place line x.labels.out stack g m (out_lies l) k
  left_goes x true _ out line place g m (without {v = v}) l k =
      let both : Both t x place (one op.Pop line) (go_out line) = then_lies (one_solid op.Pop line) (out_solid line) l in
      steps.jumps x (place + 1) line x.labels.out out g m (out_lies both.second) (at_to t p steps x (suc place) (place + 1) out g m (omega arith) (steps.pops x v place line out g m (op_lies both.first) k))

  return_goes : (o : Option Expr) (r : Round t) (line place to : ℕ) (g : t.Kept) (m : Memory) → MayStand r.in_function (return_jumps o line) → LiesIn t r.around place (value_or_none (t.locals r.around.context) line o ⨾ one op.Return line) → At t r.around place r.stack g m →
      FlowHolds r to g m (returned_value p o)
  return_goes None r line place to g m may l k =
      let x : Around t = r.around in
      let both : Both t x place (one (op.Const (kind_of literal.NoneValue)) line) (one op.Return line) = then_lies (one_solid _ line) (one_solid op.Return line) l in
      (may.0, steps.returns x (place + 1) none r.stack g m (op_lies both.second).op_at (at_to t p steps x (suc place) (place + 1) (none ∷ r.stack) g m (omega arith) (steps.constant x literal.NoneValue place line r.stack g m (op_lies both.first) k)))
  return_goes (Some a) r line place to g m may l k =
      let x : Around t = r.around in
      let va : Piece = code_of t x a in
      let both : Both t x place va (one op.Return line) = then_lies (value_solid (t.locals x.context) a) (one_solid op.Return line) l in
      holds_bind (account t) (ValueAt t x (place + va.size) r.stack) (FlowAt t r to) (SentFrom t r) (eval p a) (λ v. gives (returns v)) g m (value_goes t p steps a x place (place + va.size) r.stack g m refl both.first k) (λ v g1 m1 k1.
      (may.0, steps.returns x (place + va.size) v r.stack g1 m1 (op_lies both.second).op_at k1))

  -- ---- a clause that binds a name

  -- the name is unbound where the clause ends, however it does
  forgotten : (r : Round t) (place to n line : ℕ) (flow : Flow) (g : t.Kept) (m : Memory) → suc place ≡ to → OpIn t r.around place (forget (t.locals r.around.context) n) line → FlowAt t r place g m flow → FlowAt t r to g (with_scope (unbound p n m.scope) m) flow
  forgotten r place to n line goes_on g m e l k = at_to t p steps r.around (suc place) to r.stack g (with_scope (unbound p n m.scope) m) e (steps.forgets r.around place line n r.stack g m l k)
  forgotten r place to n line breaks g m e l k = (k.0, steps.still_at r.around r.around.labels.out n r.out g m k.1)
  forgotten r place to n line continues g m e l k = (k.0, steps.still_at r.around r.around.labels.again n r.stack g m k.1)
  forgotten r place to n line (returns v) g m e l k = (k.0, steps.still_returned r.around n v g m k.1)

  clause_goes : (r : Round t) (name : Option ℕ) (body : Piece) (a : Action Flow) → IsSolid body →
      ((q end : ℕ) (g : t.Kept) (m : Memory) → q + body.size ≡ end → LiesIn t r.around q body → At t r.around q r.stack g m → FlowHolds r end g m a) →
      (line place to : ℕ) (v : Value) (g : t.Kept) (m : Memory) → place + (caught (t.locals r.around.context) line name ⨾ body ⨾ uncaught (t.locals r.around.context) line name).size ≡ to →
      LiesIn t r.around place (caught (t.locals r.around.context) line name ⨾ body ⨾ uncaught (t.locals r.around.context) line name) → At t r.around place (v ∷ r.stack) g m → FlowHolds r to g m (named p name v a)
  clause_goes r None body a s go line place to v g m e l k =
      let x : Around t = r.around in
      let l0 : Both t x place (one op.Pop line) (body ⨾ nothing) = then_lies (one_solid op.Pop line) (then_solid s nothing_solid) l in
      let l1 : Both t x (place + 1) body nothing = then_lies s nothing_solid l0.second in
      go (place + 1) to g m (omega (arith, e)) l1.first (at_to t p steps x (suc place) (place + 1) r.stack g m (omega arith) (steps.pops x v place line r.stack g m (op_lies l0.first) k))
  clause_goes r (Some n) body a s go line place to v g m e l k =
      let x : Around t = r.around in
      let ls : List ℕ = t.locals x.context in
      let last : Piece = one (forget ls n) line in
      let q : ℕ = place + 1 + body.size in
      let l0 : Both t x place (one (store ls n) line) (body ⨾ last) = then_lies (one_solid (store ls n) line) (then_solid s (one_solid (forget ls n) line)) l in
      let l1 : Both t x (place + 1) body last = then_lies s (one_solid (forget ls n) line) l0.second in
      holds_bind (account t) (DoneAt t x (place + 1) r.stack) (FlowAt t r to) (SentFrom t r) (names.store p n v) (λ u. afterwards a (unbound p n)) g m (store_goes t p steps x place (place + 1) line n v r.stack g m (omega arith) (op_lies l0.first) k) (λ u g1 m1 k1.
      holds_afterwards (account t) (FlowAt t r q) (FlowAt t r to) (SentFrom t r) (SentFrom t r) a (unbound p n) g1 m1 (go (place + 1) q g1 m1 refl l1.first k1)
      (λ flow g2 m2 k2. forgotten r q to n line flow g2 m2 (omega (arith, e)) (op_lies l1.second) k2) (λ w g2 m2 z. steps.still_sent x n r.stack w g2 m2 z))

  -- ---- the end of a handler

  restored : (r : Round t) (within : t.Since) (before : Option Value) (to : ℕ) (flow : Flow) (g : t.Kept) (m : Memory) → Restores t r.around within before → FlowAt t (record r { around = during t r.around within }) to g m flow → FlowAt t r to g (with_scope (with_handled before m.scope) m) flow
  restored r within before to goes_on g m back k = back.at to r.stack g m k
  restored r within before to breaks g m back k = (k.0, back.at r.around.labels.out r.out g m k.1)
  restored r within before to continues g m back k = (k.0, back.at r.around.labels.again r.stack g m k.1)
  restored r within before to (returns v) g m back k = (k.0, back.returned v g m k.1)

  -- ---- statements

  abbrev KindGoes : StmtKind → Type 0
  KindGoes kind =
      (r : Round t) (line place to : ℕ) (g : t.Kept) (m : Memory) → MayStand r.in_function (jumps_of r.looped kind line) → place + (kind_code (place_of t r) line kind).size ≡ to → LiesIn t r.around place (kind_code (place_of t r) line kind) → At t r.around place r.stack g m →
      FlowHolds r to g m (exec_kind p kind line)

  abbrev pub BodyGoes : Stmts → Type 0
  BodyGoes ss =
      (r : Round t) (place to : ℕ) (g : t.Kept) (m : Memory) → MayStand r.in_function (jumps r.looped ss) → place + (body_code (place_of t r) ss).size ≡ to → LiesIn t r.around place (body_code (place_of t r) ss) → At t r.around place r.stack g m →
      FlowHolds r to g m (exec_all p ss)

  mutual
    kind_goes : (kind : StmtKind) → KindGoes kind
    kind_goes tree.pass r line place to g m may e l k = at_to t p steps r.around place to r.stack g m (omega (arith, e)) k
    kind_goes tree.ellipsis r line place to g m may e l k = at_to t p steps r.around place to r.stack g m (omega (arith, e)) k
    kind_goes (tree.global ns) r line place to g m may e l k = at_to t p steps r.around place to r.stack g m (omega (arith, e)) k
    kind_goes tree.break r line place to g m may e l k = (is_looped r.in_function r.looped line may, left_goes r.around r.keeps r.stack r.out line place g m r.leaves l k)
    kind_goes tree.continue r line place to g m may e l k = (is_looped r.in_function r.looped line may, steps.jumps r.around place line r.around.labels.again r.stack g m (again_lies l) k)
    kind_goes (tree.return o) r line place to g m may e l k = return_goes o r line place to g m may l k
    kind_goes (tree.raise o cause) r line place to g m may e l k = raise_goes o cause r line place to g m l k
    kind_goes (tree.assert a message) r line place to g m may e l k = assert_goes a message r line place to g m e l k
    kind_goes (tree.import ps) r line place to g m may e l k = and_on_goes (DoneAt t r.around to r.stack) r to (import_all p ps) g m (imports_go t p steps ps r.around line place to r.stack g m e l k) (λ u g1 m1 k1. k1)
    kind_goes (tree.from path ps) r line place to g m may e l k = and_on_goes (DoneAt t r.around to r.stack) r to (take_all p (module_name p path) ps) g m (froms_go t p steps path ps r.around line place to r.stack g m e l k) (λ u g1 m1 k1. k1)
    kind_goes (tree.assign ts a) r line place to g m may e l k =
        let x : Around t = r.around in
        let ls : List ℕ = t.locals x.context in
        let q : ℕ = place + (code_of t x a).size in
        let both : Both t x place (code_of t x a) (put_all ls line ts) = then_lies (value_solid ls a) (put_all_solid ls line ts) l in
        and_on_goes (DoneAt t x to r.stack) r to (bind (eval p a) (put_each p ts)) g m
        (holds_bind (account t) (ValueAt t x q r.stack) (DoneAt t x to r.stack) (SentFrom t r) (eval p a) (put_each p ts) g m (value_goes t p steps a x place q r.stack g m refl both.first k) (λ v g1 m1 k1. chain_goes t p steps ts x v line q to r.stack g1 m1 (omega (arith, e)) both.second k1)) (λ u g1 m1 k1. k1)
    kind_goes (tree.augment target o a) r line place to g m may e l k = and_on_goes (DoneAt t r.around to r.stack) r to (augment p o line target a) g m (augment_goes t p steps target o a r.around line place to r.stack g m e l k) (λ u g1 m1 k1. k1)
    kind_goes (tree.annotated target o) r line place to g m may e l k = and_on_goes (DoneAt t r.around to r.stack) r to (annotation p target o) g m (annotation_goes t p steps target o r.around line place to r.stack g m e l k) (λ u g1 m1 k1. k1)
    kind_goes (tree.expression a) r line place to g m may e l k =
        let x : Around t = r.around in
        let q : ℕ = place + (code_of t x a).size in
        let both : Both t x place (code_of t x a) (one op.Pop line) = then_lies (value_solid (t.locals x.context) a) (one_solid op.Pop line) l in
        and_on_goes (ValueAt t x q r.stack) r to (eval p a) g m (value_goes t p steps a x place q r.stack g m refl both.first k) (λ v g1 m1 k1. at_to t p steps x (suc q) to r.stack g1 m1 (omega (arith, e)) (steps.pops x v q line r.stack g1 m1 (op_lies both.second) k1))
    kind_goes (tree.if arms otherwise) r line place to g m may e l k =
        arms_go arms r line place to (body_code (place_of t r) otherwise) (exec_all p otherwise) g m (may_first r.in_function (jumps_of_arms r.looped arms) (jumps r.looped otherwise) may) (body_solid (place_of t r) otherwise)
        (λ q g1 m1 e1 l1 k1. body_goes otherwise r q to g1 m1 (may_second r.in_function (jumps_of_arms r.looped arms) (jumps r.looped otherwise) may) e1 l1 k1) e l k
    kind_goes (tree.while test body) r line place to g m may e l k =
        let w : WhileWay t test body = record { round = r; line = line; place = place; lies = l; leaves = may } in
        let end : ℕ = while_end t p steps test body w in
        ends_moved r end to (run_while p test body) g m (λ g1 m1 k1. at_to t p steps r.around end to r.stack g1 m1 e k1)
        (holds_map (account t) (LoopEnds t r end) (FlowAt t r end) (SentFrom t r) (SentFrom t r) (run_while p test body) g m (while_runs t p steps test body w g m k) (λ flow g1 m1 h. loop_flow t p steps r end flow g1 m1 h) (λ v g1 m1 h. h))
    kind_goes (tree.for target a body) r line place to g m may e l k =
        let x : Around t = r.around in
        let ls : List ℕ = t.locals x.context in
        let va : Piece = code_of t x a in
        let q : ℕ = place + va.size in
        let inside : Piece = put ls target ⨾ body_code (in_for (place_of t r)) body in
        let both : Both t x place va (loop op.ForNext line nothing inside) = then_lies (value_solid ls a) (loop_solid op.ForNext line nothing_solid (then_solid (put_solid ls target) (body_solid (in_for (place_of t r)) body))) l in
        let w : ForWay t target body line = record { round = r; place = q; lies = both.second; leaves = may } in
        holds_bind (account t) (ValueAt t x q r.stack) (FlowAt t r to) (SentFrom t r) (eval p a) (run_for p target body line) g m (value_goes t p steps a x place q r.stack g m refl both.first k) (λ v g1 m1 k1.
        let end : ℕ = for_end t p steps target body line w v in
        ends_moved r end to (run_for p target body line v) g1 m1 (λ g2 m2 k2. at_to t p steps x end to r.stack g2 m2 (omega (arith, e)) k2)
        (holds_map (account t) (LoopEnds t r end) (FlowAt t r end) (SentFrom t r) (SentFrom t r) (run_for p target body line v) g1 m1 (for_runs t p steps target body line w v g1 m1 k1) (λ flow g2 m2 h. loop_flow t p steps r end flow g2 m2 h) (λ u g2 m2 h. h)))
    kind_goes (tree.try body handlers otherwise) r line place to g m may e l k =
        let x : Around t = r.around in
        let vb : Piece = body_code (place_of t r) body in
        let vo : Piece = body_code (place_of t r) otherwise in
        let vh : Piece = handlers_code (place_of t r) line handlers in
        let sb : IsSolid vb = body_solid (place_of t r) body in
        let so : IsSolid vo = body_solid (place_of t r) otherwise in
        let sh : IsSolid vh = handlers_solid (place_of t r) line handlers in
        let sc : IsSolid (one op.Caught line) = one_solid op.Caught line in
        let parts : GuardedLies (t.code x.context) x.labels place x.outer (length r.stack) line vb vo (one op.Caught line ⨾ vh) = guarded_lies sb so (then_solid sc sh) l in
        let guard : Range = guard_of place (length r.stack) vb vo in
        let inner : Round t = record r { around = record { context = x.context; since = x.since; labels = x.labels; outer = Some guard } } in
        let own : List Jump = jumps r.looped body in
        let caught_ones : List Jump = jumps_of_handlers r.looped handlers in
        let others : List Jump = jumps r.looped otherwise in
        let may_both : MayStand r.in_function (own ++ caught_ones) = may_first r.in_function (own ++ caught_ones) others may in
        let middle : ℕ = place + vb.size in
        let end : ℕ = place + vb.size + vo.size in
        let handles : Both t x guard.goal (one op.Caught line) vh = then_lies sc sh parts.handles in
        holds_attempt (account t) (FlowAt t r middle) (SentFrom t inner) (FlowAt t r to) (SentFrom t r) (exec_all p body) (λ flow. then_next flow (exec_all p otherwise)) (λ v. handling v (exec_handlers p v handlers)) g m
        (body_goes body inner place middle g m (may_first r.in_function own caught_ones may_both) refl parts.tries k)
        (λ flow g1 m1 k1. flow_on r middle to flow (exec_all p otherwise) g1 m1 k1 (λ k2.
        ends_moved r end to (exec_all p otherwise) g1 m1 (λ g2 m2 k3. at_to t p steps x (place + (kind_code (place_of t r) line (tree.try body handlers otherwise)).size) to r.stack g2 m2 e (steps.jumps x end line (place + (kind_code (place_of t r) line (tree.try body handlers otherwise)).size) r.stack g2 m2 parts.jumps k3))
        (body_goes otherwise r middle end g1 m1 (may_second r.in_function (own ++ caught_ones) others may) refl parts.goes_on k2)))
        (λ v g1 m1 q.
        let c : Catches t x guard.goal r.stack v g1 m1 = steps.catches x guard line r.stack v g1 m1 refl (op_lies handles.first) q in
        let within : Round t = record r { around = during t x c.within } in
        let start : Memory = with_scope (with_handled (Some v) m1.scope) m1 in
        holds_afterwards (account t) (FlowAt t within to) (FlowAt t r to) (SentFrom t within) (SentFrom t r) (exec_handlers p v handlers) (with_handled m1.scope.handled) g1 start
        (handlers_go handlers within line (guard.goal + 1) to v g1 start (may_second r.in_function own caught_ones may_both) c.handled (omega (arith, e)) handles.second
        (at_to t p steps within.around (suc guard.goal) (guard.goal + 1) (v ∷ r.stack) g1 start (omega arith) c.at))
        (λ flow g2 m2 h. restored r c.within m1.scope.handled to flow g2 m2 c.restores h) (λ u g2 m2 h. c.restores.sent x.outer r.stack u g2 m2 h))
    kind_goes (tree.def f) r line place to g m may e l k = and_on_goes (DoneAt t r.around to r.stack) r to (define_function p f) g m (function_goes t p steps f r.around line place to r.stack g m e l k) (λ u g1 m1 k1. k1)
    kind_goes (tree.class c) r line place to g m may e l k = and_on_goes (DoneAt t r.around to r.stack) r to (define_class p c) g m (class_goes t p steps c r.around line place to r.stack g m e l k) (λ u g1 m1 k1. k1)

    pub body_goes : (ss : Stmts) → BodyGoes ss
    body_goes no_stmts r place to g m may e l k = at_to t p steps r.around place to r.stack g m (omega (arith, e)) k
    body_goes (stmt (statement kind line) ss) r place to g m may e l k =
        let vk : Piece = kind_code (place_of t r) line kind in
        let vs : Piece = body_code (place_of t r) ss in
        let q : ℕ = place + vk.size in
        let both : Both t r.around place vk vs = then_lies (kind_solid (place_of t r) line kind) (body_solid (place_of t r) ss) l in
        holds_bind (account t) (FlowAt t r q) (FlowAt t r to) (SentFrom t r) (exec_kind p kind line) (λ flow. then_next flow (exec_all p ss)) g m
        (kind_goes kind r line place q g m (may_first r.in_function (jumps_of r.looped kind line) (jumps r.looped ss) may) refl both.first k) (λ flow g1 m1 k1.
        flow_on r q to flow (exec_all p ss) g1 m1 k1 (λ k2. body_goes ss r q to g1 m1 (may_second r.in_function (jumps_of r.looped kind line) (jumps r.looped ss) may) (omega (arith, e)) both.second k2))

    arms_go : (arms : Arms) (r : Round t) (line place to : ℕ) (otherwise : Piece) (others : Action Flow) (g : t.Kept) (m : Memory) → MayStand r.in_function (jumps_of_arms r.looped arms) → IsSolid otherwise →
        ((q : ℕ) (g : t.Kept) (m : Memory) → q + otherwise.size ≡ to → LiesIn t r.around q otherwise → At t r.around q r.stack g m → FlowHolds r to g m others) →
        place + (arms_code (place_of t r) line arms otherwise).size ≡ to → LiesIn t r.around place (arms_code (place_of t r) line arms otherwise) → At t r.around place r.stack g m → FlowHolds r to g m (exec_arms p arms others)
    arms_go no_arms r line place to otherwise others g m may so go e l k = go place g m e l k
    arms_go (arm test body arms) r line place to otherwise others g m may so go e l k =
        let x : Around t = r.around in
        let vt : Piece = code_of t x test in
        let va : Piece = body_code (place_of t r) body in
        let vb : Piece = arms_code (place_of t r) line arms otherwise in
        let sa : IsSolid va = body_solid (place_of t r) body in
        let sb : IsSolid vb = arms_solid (place_of t r) line arms so in
        let q : ℕ = place + vt.size in
        let other : ℕ = q + 1 + va.size + 1 in
        let end : ℕ = q + (fork line va vb).size in
        let both : Both t x place vt (fork line va vb) = then_lies (value_solid (t.locals x.context) test) (fork_solid line sa sb) l in
        let parts : ForkLies (t.code x.context) x.labels q x.outer line va vb = fork_lies sa sb both.second in
        let own : List Jump = jumps r.looped body in
        let rest : List Jump = jumps_of_arms r.looped arms in
        holds_bind (account t) (ValueAt t x q r.stack) (FlowAt t r to) (SentFrom t r) (eval p test) (λ v. bind (truth_of v) (λ z. chosen z (exec_all p body) (exec_arms p arms others))) g m (value_goes t p steps test x place q r.stack g m refl both.first k) (λ v g1 m1 k1.
        holds_bind (account t) (ChoiceAt t x (suc q) other r.stack r.stack) (FlowAt t r to) (SentFrom t r) (truth_of v) (λ z. chosen z (exec_all p body) (exec_arms p arms others)) g1 m1 (steps.leaves_if_false x q line other v r.stack g1 m1 parts.tests k1) (λ z g2 m2 c.
        holds_chosen t p steps (FlowAt t r to) (SentFrom t r) x (suc q) other r.stack r.stack z (exec_all p body) (exec_arms p arms others) g2 m2 c
        (λ k2. ends_moved r (q + 1 + va.size) to (exec_all p body) g2 m2 (λ g3 m3 k3. at_to t p steps x end to r.stack g3 m3 (omega (arith, e)) (steps.jumps x (q + 1 + va.size) line end r.stack g3 m3 parts.jumps k3))
        (body_goes body r (q + 1) (q + 1 + va.size) g2 m2 (may_first r.in_function own rest may) refl parts.first (at_to t p steps x (suc q) (q + 1) r.stack g2 m2 (omega arith) k2)))
        (λ k2. arms_go arms r line other to otherwise others g2 m2 (may_second r.in_function own rest may) so go (omega (arith, e)) parts.second k2)))

    handlers_go : (hs : Handlers) (r : Round t) (line place to : ℕ) (v : Value) (g : t.Kept) (m : Memory) → MayStand r.in_function (jumps_of_handlers r.looped hs) → t.IsHandled r.around.since v → place + (handlers_code (place_of t r) line hs).size ≡ to →
        LiesIn t r.around place (handlers_code (place_of t r) line hs) → At t r.around place (v ∷ r.stack) g m → FlowHolds r to g m (exec_handlers p v hs)
    handlers_go no_handlers r line place to v g m may up e l k =
        let x : Around t = r.around in
        let both : Both t x place (one op.Pop line) (one op.Reraise line) = then_lies (one_solid op.Pop line) (one_solid op.Reraise line) l in
        let there : At t x (place + 1) r.stack g m = at_to t p steps x (suc place) (place + 1) r.stack g m (omega arith) (steps.pops x v place line r.stack g m (op_lies both.first) k) in
        may_then t p steps (FlowAt t r to) x (place + 1) line op.Reraise [] r.stack (raises v) g m (op_lies both.second) refl there (steps.lets_go x (place + 1) line v r.stack g m (op_lies both.second) up there)
    handlers_go (handler None name body own hs) r line place to v g m may up e l k =
        let x : Around t = r.around in
        let ls : List ℕ = t.locals x.context in
        let vb : Piece = body_code (place_of t r) body in
        let clause : Piece = caught ls own name ⨾ vb ⨾ uncaught ls own name in
        let vh : Piece = handlers_code (place_of t r) line hs in
        let sb : IsSolid vb = body_solid (place_of t r) body in
        let parts : PastLies (t.code x.context) x.labels place x.outer own clause vh = past_lies (clause_solid ls own name sb) (handlers_solid (place_of t r) line hs) l in
        let end : ℕ = place + (past own clause vh).size in
        ends_moved r (place + clause.size) to (named p name v (exec_all p body)) g m (λ g1 m1 k1. at_to t p steps x end to r.stack g1 m1 e (steps.jumps x (place + clause.size) own end r.stack g1 m1 parts.jumps k1))
        (clause_goes r name vb (exec_all p body) sb (λ q to' g1 m1 e1 l1 k1. body_goes body r q to' g1 m1 (may_first r.in_function (jumps r.looped body) (jumps_of_handlers r.looped hs) may) e1 l1 k1) own place (place + clause.size) v g m refl parts.first k)
    handlers_go (handler (Some test) name body own hs) r line place to v g m may up e l k =
        let x : Around t = r.around in
        let ls : List ℕ = t.locals x.context in
        let vt : Piece = code_of t x test in
        let vb : Piece = body_code (place_of t r) body in
        let clause : Piece = caught ls own name ⨾ vb ⨾ uncaught ls own name in
        let vh : Piece = handlers_code (place_of t r) line hs in
        let sb : IsSolid vb = body_solid (place_of t r) body in
        let sc : IsSolid clause = clause_solid ls own name sb in
        let sh : IsSolid vh = handlers_solid (place_of t r) line hs in
        let sf : IsSolid (fork own clause vh) = fork_solid own sc sh in
        let q : ℕ = place + vt.size in
        let l0 : Both t x place vt (one op.MatchError own ⨾ fork own clause vh) = then_lies (value_solid ls test) (then_solid (one_solid op.MatchError own) sf) l in
        let l1 : Both t x q (one op.MatchError own) (fork own clause vh) = then_lies (one_solid op.MatchError own) sf l0.second in
        let parts : ForkLies (t.code x.context) x.labels (q + 1) x.outer own clause vh = fork_lies sc sh l1.second in
        let yes : ℕ = q + 1 + 1 in
        let no : ℕ = q + 1 + 1 + clause.size + 1 in
        let end : ℕ = q + 1 + (fork own clause vh).size in
        let Q : Post (account t) Flow = FlowAt t r to in
        let R : Post (account t) Value = SentFrom t r in
        let here : List Jump = jumps r.looped body in
        let rest : List Jump = jumps_of_handlers r.looped hs in
        seq_over t p steps (ValueAt t x q (v ∷ r.stack)) (SentOver t x (v ∷ r.stack)) Q R (eval p test) (λ c. then_do actions.may_raise (bind (matches p v c) (λ z. chosen z (named p name v (exec_all p body)) (exec_handlers p v hs)))) g m
        (value_goes t p steps test x place q (v ∷ r.stack) g m refl l0.first k) (λ u g' m' z. steps.sinks x r.stack v u g' m' z) (λ c g1 m1 k1.
        may_then t p steps Q x q own op.MatchError (c ∷ v ∷ []) r.stack (bind (matches p v c) (λ z. chosen z (named p name v (exec_all p body)) (exec_handlers p v hs))) g1 m1 (op_lies l1.first) refl k1
        (holds_bind (account t) (ChoiceAt t x yes no (v ∷ r.stack) (v ∷ r.stack)) Q R (matches p v c) (λ z. chosen z (named p name v (exec_all p body)) (exec_handlers p v hs)) g1 m1 (steps.matches_class x q own own no c v r.stack g1 m1 (op_lies l1.first) parts.tests k1) (λ z g2 m2 h.
        holds_chosen t p steps Q R x yes no (v ∷ r.stack) (v ∷ r.stack) z (named p name v (exec_all p body)) (exec_handlers p v hs) g2 m2 h
        (λ k2. ends_moved r (yes + clause.size) to (named p name v (exec_all p body)) g2 m2 (λ g3 m3 k3. at_to t p steps x end to r.stack g3 m3 (omega (arith, e)) (steps.jumps x (yes + clause.size) own end r.stack g3 m3 parts.jumps k3))
        (clause_goes r name vb (exec_all p body) sb (λ q1 to' g3 m3 e1 l3 k3. body_goes body r q1 to' g3 m3 (may_first r.in_function here rest may) e1 l3 k3) own yes (yes + clause.size) v g2 m2 refl parts.first k2))
        (λ k2. handlers_go hs r line no to v g2 m2 (may_second r.in_function here rest may) up (omega (arith, e)) parts.second k2))))
