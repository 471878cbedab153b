-- What an object is stays, and a call leaves its caller's frame.
use Rattle.std.proofs.Common.{◌≡◌, ℕ, zero, suc, ◌<◌, ◌≢◌, List, [], ◌∷◌, ◌++◌, map, length, append_assoc, slice_set, slice_get, unwrap_or, refl, ap, ◌∙◌, arith}
use Rattle.type_terms.specs.Terms as term
use Rattle.py_meaning.specs.Values.{Value}
use Rattle.py_meaning.specs.Objects as object
use Rattle.py_meaning.specs.Objects.{Object, Filling, of_values, of_pairs, of_entries, refilled, object_at}
use Rattle.py_meaning.specs.Programs.{Program}
use Rattle.py_meaning.specs.Calls.{perform}
use Rattle.py_meaning.specs.Actions.{Scope, Argument, Flow, OutsideCall, call, outside_call}
use Rattle.py_meaning.specs.Runs.{State, Answer, gave, raised, stopped, carry_out, begin_turn, come_back, turns_within}
use Rattle.py_meaning.specs.ObjectLaws.{head, ObjectsStay, PartsChangeByOneStep, LeavesScope, CallsLeaveFrames}
use Rattle.py_meaning.proofs.Carrying.{Steady, append_nil, all_go}

-- ---- heads

head_refilled : (o : Object) (new : Filling) → head (refilled o new) ≡ head o
head_refilled (object.list site vs) (of_values ws) = refl
head_refilled (object.dict site qs) (of_pairs rs) = refl
head_refilled (object.instance c es) (of_entries ds) = refl
head_refilled (object.class c es) (of_entries ds) = refl
head_refilled o new = refl

pub heads_set : (os : List Object) (place : ℕ) (new : Filling) → map head (slice_set os place (refilled (unwrap_or (slice_get os place) (object.outside term.any)) new)) ≡ map head os
heads_set [] place new = refl
heads_set (o ∷ os) zero new = ap (λ x. x ∷ map head os) (head_refilled o new)
heads_set (o ∷ os) (suc place) new = ap (λ xs. head o ∷ xs) (heads_set os place new)

pub heads_push : (os : List Object) (o : Object) → map head (os ++ o ∷ []) ≡ map head os ++ head o ∷ []
heads_push [] o = refl
heads_push (x ∷ xs) o = ap (λ ys. head x ∷ ys) (heads_push xs o)

abbrev pub heads : State → List Object
heads s = map head s.memory.heap

abbrev pub heads_stay : Steady
heads_stay = record {
  Goes = λ s t. (more : List Object) × (heads t ≡ heads s ++ more);
  self = λ s. ([], append_nil (heads s));
  on = λ s t u g h. (g.0 ++ h.0, h.1 ∙ ap (λ os. os ++ h.0) g.1 ∙ append_assoc (heads s) g.0 h.0);
  scope = λ s c. ([], append_nil (heads s));
  object = λ s o. (head o ∷ [], heads_push s.memory.heap o);
  filling = λ s place new. ([], heads_set s.memory.heap place new ∙ append_nil (heads s));
  event = λ s e. ([], append_nil (heads s));
  choice = λ s c cs e. ([], append_nil (heads s));
  a_turn = λ s n e. ([], append_nil (heads s));
}

pub objects_stay : ObjectsStay
objects_stay p n a s = all_go heads_stay p n a s

-- ---- steps

got_before : (os : List Object) (o : Object) (place : ℕ) → place < length os → slice_get (os ++ o ∷ []) place ≡ slice_get os place
got_before [] o place lt = absurd (omega (arith, lt))
got_before (x ∷ xs) o zero lt = refl
got_before (x ∷ xs) o (suc place) lt = got_before xs o place (omega (arith, lt))

got_beside : (os : List Object) (at place : ℕ) (o : Object) → place ≢ at → slice_get (slice_set os at o) place ≡ slice_get os place
got_beside [] at place o ne = refl
got_beside (x ∷ xs) zero zero o ne = absurd (ne refl)
got_beside (x ∷ xs) zero (suc place) o ne = refl
got_beside (x ∷ xs) (suc at) zero o ne = refl
got_beside (x ∷ xs) (suc at) (suc place) o ne = got_beside xs at place o (λ e. ne (ap suc e))

pub parts_change_by_one_step : PartsChangeByOneStep
parts_change_by_one_step = record {
  scopes = λ c m. refl;
  new_objects = λ o m place lt. got_before m.heap o place lt;
  fillings = λ at place new m ne. got_beside m.heap at place (refilled (object_at m.heap at) new) ne;
}

-- ---- frames

call_leaves : (f : Value) (given : List Argument) (site line : ℕ) (c : Scope) (r : Answer Flow) → LeavesScope c (come_back (call f given site line) c r)
call_leaves f given site line c (gave flow s) = (refl, refl)
call_leaves f given site line c (raised v s) = (refl, refl)
call_leaves f given site line c (stopped why s) = tt

outside_call_leaves : (o : OutsideCall) (c : Scope) (r : Answer Flow) → LeavesScope c (come_back (outside_call o) c r)
outside_call_leaves o c (gave flow s) = (refl, refl)
outside_call_leaves o c (raised v s) = (refl, refl)
outside_call_leaves o c (stopped why s) = tt

turn_leaves : (p : Program) (n : ℕ) (f : Value) (given : List Argument) (site line : ℕ) (s : State) → LeavesScope s.memory.scope (turns_within p n (call f given site line) s)
unfolding turns_within
turn_leaves p zero f given site line s = tt
turn_leaves p (suc n) f given site line s = call_leaves f given site line s.memory.scope (begin_turn s.turns (carry_out (turns_within p n) (perform p (call f given site line))) s)

outside_turn_leaves : (p : Program) (n : ℕ) (c : OutsideCall) (s : State) → LeavesScope s.memory.scope (turns_within p n (outside_call c) s)
unfolding turns_within
outside_turn_leaves p zero c s = tt
outside_turn_leaves p (suc n) c s = outside_call_leaves c s.memory.scope (begin_turn s.turns (carry_out (turns_within p n) (perform p (outside_call c))) s)

pub calls_leave_frames : CallsLeaveFrames
calls_leave_frames = record { calls = turn_leaves; outside_calls = outside_turn_leaves }
