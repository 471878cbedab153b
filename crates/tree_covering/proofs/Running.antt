-- A run of a module goes along its code, turn by turn, to its end or to where an exception leaves it.
use Rattle.std.proofs.Common.{◌≡◌, ℕ, zero, suc, ◌+◌, true, false, Option, Some, None, List, [], ◌∷◌, slice_get, refl, arith}
use Rattle.std.specs.List.{Contains}
use Rattle.std.proofs.lemmas.List.Elements.{All-nil, Contains-append_right}
use Rattle.py_tree.specs.declared.literal.Literal.TheVariants as literal
use Rattle.py_tree.specs.Tree.{Stmts, Module}
use Rattle.type_terms.specs.Stubs.{Stub}
use Rattle.scope_rules.specs.Jumps.{jumps}
use Rattle.stack_code.specs.declared.op.Op.TheVariants as op
use Rattle.stack_code.specs.declared.op.ConstKind.TheVariants as kind
use Rattle.tree_code.specs.Statements.{body_code}
use Rattle.py_meaning.specs.Values.{Value, none, entry}
use Rattle.py_meaning.specs.Programs.{Program, program, printed}
use Rattle.py_meaning.specs.Expressions.{value_of_flow}
use Rattle.py_meaning.specs.Statements.{exec_all}
use Rattle.py_meaning.specs.Calls.{perform}
use Rattle.py_meaning.specs.Actions.{Memory, Flow, goes_on, breaks, continues, returns, OutsideCall, Request, call, while_turn, for_turn, outside_call, looks, then_do}
use Rattle.py_meaning.specs.Runs.{turns_within, carry_out, start, no_memory, tell_if, tell_names, module_action, can_be_called, call_if, make_calls, answer}
use Rattle.py_meaning.specs.Holds.{Lasts, Holds, HoldsAfter}
use Rattle.py_meaning.proofs.Holding.{holds_bind, holds_then, holds_map, GaveInside, RaisedInside, runs_hold}
use Rattle.tree_covering.specs.Leaving.{MayStand}
use Rattle.tree_covering.specs.Trails.{Trail, Around, LiesIn, OpIn, At, DoneAt, SentOver, place_of, FlowAt}
use Rattle.tree_covering.specs.Turns.{LoopWay, LoopAsked, TurnWay, of_loop, otherwise, TurnAsked, account}
use Rattle.tree_covering.specs.Follows.{Follows}
use Rattle.tree_covering.specs.Modules.{module_round, function_round, end_of, Whole, OthersGo}
use Rattle.tree_covering.proofs.Loops.{while_inner, while_back, while_body_lies, while_performs, for_inner, for_start, for_back, for_body_lies, for_performs}
use Rattle.tree_covering.proofs.Statements.{body_goes}

module _ (t : Trail) (p : Program) (steps : Follows t p) where
  -- ---- turns

  loops_perform : (q : Request) (w : LoopWay t q) (g : t.Kept) (m : Memory) → LoopAsked t q w g m → Holds (account t) (GaveInside (account t) q (of_loop w) g m) (RaisedInside (account t) q (of_loop w) g m) g m (perform p q)
  loops_perform (while_turn test body) w g m asked =
      while_performs t p steps test body w (λ g1 m1 k1. body_goes t p steps body (while_inner t p steps test body w) _ (while_back t p steps test body w) g1 m1 w.leaves refl (while_body_lies t p steps test body w) k1) g m asked
  loops_perform (for_turn target body line v u) w g m asked =
      for_performs t p steps target body line w v (λ g1 m1 k1. body_goes t p steps body (for_inner t p steps target body line w v) (for_start t p steps target body line w v) (for_back t p steps target body line w v) g1 m1 w.leaves refl (for_body_lies t p steps target body line w v) k1) u g m asked
  loops_perform (call f given site line) w g m asked = absurd w
  loops_perform (outside_call c) w g m asked = absurd w

  turns_perform : OthersGo t p → (q : Request) (way : TurnWay t q) (g : t.Kept) (m : Memory) → t.Always g m → TurnAsked t q way g m → Holds (account t) (GaveInside (account t) q way g m) (RaisedInside (account t) q way g m) g m (perform p q)
  turns_perform others q (of_loop w) g m always asked = loops_perform q w g m asked
  turns_perform others q (otherwise w) g m always asked = others q w g m always asked

  -- ---- the body of a function

  -- it returns a value, None where it comes to its end
  pub function_body_goes : (body : Stmts) (x : Around t) (place line : ℕ) (g : t.Kept) (m : Memory) → MayStand true (jumps false body) → LiesIn t x place (body_code (place_of t (function_round t x)) body) →
      OpIn t x (place + (body_code (place_of t (function_round t x)) body).size) (op.Const kind.NoneValue) line →
      slice_get (t.code x.context).ops (suc (place + (body_code (place_of t (function_round t x)) body).size)) ≡ Some op.Return → At t x place [] g m →
      Holds (account t) (λ g' m' flow. t.IsReturned x.context x.since (value_of_flow flow) g' m') (SentOver t x []) g m (exec_all p body)
  function_body_goes body x place line g m may l at_end last k =
      let end : ℕ = place + (body_code (place_of t (function_round t x)) body).size in
      holds_map (account t) (FlowAt t (function_round t x) end) (λ g' m' flow. t.IsReturned x.context x.since (value_of_flow flow) g' m') (SentOver t x []) (SentOver t x []) (exec_all p body) g m
      (body_goes t p steps body (function_round t x) place end g m may refl l k) (λ flow g' m' h. returned flow g' m' h) (λ v g' m' r. r)
    where
      returned : (flow : Flow) (g : t.Kept) (m : Memory) → FlowAt t (function_round t x) (place + (body_code (place_of t (function_round t x)) body).size) g m flow → t.IsReturned x.context x.since (value_of_flow flow) g m
      returned goes_on g m h = steps.returns x (suc (place + (body_code (place_of t (function_round t x)) body).size)) none [] g m last (steps.constant x literal.NoneValue (place + (body_code (place_of t (function_round t x)) body).size) line [] g m at_end h)
      returned breaks g m h = let z : ⊥ = cc in absurd z
      returned continues g m h = let z : ⊥ = cc in absurd z
      returned (returns v) g m h = h.1

  -- ---- a whole module

  module _ (calls : List OutsideCall) (w : Whole t p calls) where
    abbrev end : ℕ
    end = end_of t p w.top

    abbrev Ended : t.Kept → Memory → Unit {0} → Type 0
    Ended = DoneAt t w.top end []

    abbrev Left : t.Kept → Memory → Value → Type 0
    Left = SentOver t w.top []

    names_go : (names : List ℕ) (g : t.Kept) (m : Memory) → At t w.top end [] g m → Holds (account t) Ended Left g m (tell_names names)
    names_go [] g m k = k
    names_go (n ∷ names) g m k = one (entry m.scope.globals n) refl (names_go names g m k)
      where
        one : (o : Option Value) → entry m.scope.globals n ≡ o → Holds (account t) Ended Left g m (tell_names names) → Holds (account t) Ended Left g m (tell_if n o (tell_names names))
        one None e h = h
        one (Some v) e h = (w.told n v g m k e, h)

    calls_go : (some : List OutsideCall) → ((c : OutsideCall) → Contains some c → Contains calls c) → (g : t.Kept) (m : Memory) → At t w.top end [] g m → Holds (account t) Ended Left g m (make_calls p some)
    calls_go [] among g m k = k
    calls_go (c ∷ some) among g m k =
        holds_then (account t) Ended Ended Left (looks (λ m. call_if (can_be_called p m.heap c) c)) (make_calls p some) g m (w.outside c g m (among c (zero, omega arith, refl)) k)
        (λ u g1 m1 k1. calls_go some (λ d inside. among d (Contains-append_right (c ∷ []) some d inside)) g1 m1 k1)

    ended_goes : (flow : Flow) (g : t.Kept) (m : Memory) → FlowAt t (module_round t w.top) end g m flow → Holds (account t) Ended Left g m (tell_names (printed p))
    ended_goes goes_on g m k = names_go (printed p) g m k
    ended_goes breaks g m k = let z : ⊥ = cc in absurd z
    ended_goes continues g m k = let z : ⊥ = cc in absurd z
    ended_goes (returns v) g m k = let z : ⊥ = cc in absurd z

    module_goes : Holds (account t) Ended Left w.first no_memory (then_do (module_action p) (make_calls p calls))
    module_goes =
        holds_then (account t) Ended Ended Left (module_action p) (make_calls p calls) w.first no_memory
        (holds_bind (account t) (FlowAt t (module_round t w.top) end) Ended Left (exec_all p p.body) (λ flow. tell_names (printed p)) w.first no_memory (body_goes t p steps p.body (module_round t w.top) 0 end w.first no_memory w.leaves (omega arith) w.lies w.begins) (λ flow g m k. ended_goes flow g m k))
        (λ u g m k. calls_go calls (λ c inside. inside) g m k)

    pub runs_go : Lasts (account t) → OthersGo t p → (n : ℕ) (choices : List ℕ) → HoldsAfter (account t) Ended Left (carry_out (turns_within p n) (then_do (module_action p) (make_calls p calls)) (start n choices))
    runs_go lasts others n choices =
        runs_hold (account t) lasts p (turns_perform others) Ended Left n (then_do (module_action p) (make_calls p calls)) w.first (start n choices) (All-nil (t.Told w.first no_memory)) module_goes

-- Every answer of a run of the module holds, as far as steps, ends and other turns do.
pub answers_go : (t : Trail) (m : Module) (stubs : List (List ℕ × Stub)) (calls : List OutsideCall) → Follows t (program m stubs) → (w : Whole t (program m stubs) calls) → Lasts (account t) → OthersGo t (program m stubs) → (n : ℕ) (choices : List ℕ) →
    HoldsAfter (account t) (DoneAt t w.top (end_of t (program m stubs) w.top) []) (SentOver t w.top []) (answer m stubs n choices calls)
unfolding answer
answers_go t m stubs calls steps w lasts others n choices = runs_go t (program m stubs) steps calls w lasts others n choices
