-- Depths go along with runs: of a module whose calls and values nothing is said of, each step is one of the code.
use Rattle.std.proofs.Common.{◌≡◌, ℕ, suc, ◌+◌, ◌*◌, Bool, true, false, not, if◌then◌else◌, Option, Some, None, List, [], ◌∷◌, ◌++◌, map, length, refl, ap, subst, arith}
use Rattle.std.specs.Prelude.{codes}
use Rattle.std.specs.Option.{option_and_then}
use Rattle.std.proofs.lemmas.List.{length-map}
use Rattle.py_tree.specs.Tree.{Args, no_args, arg, Member, method, Stmts, fun_def}
use Rattle.stack_code.specs.declared.code.Code.{Code}
use Rattle.stack_code.specs.declared.code.Range.{Range}
use Rattle.stack_code.specs.declared.op.Op.{Op}
use Rattle.stack_code.specs.declared.op.Op.TheVariants as op
use Rattle.stack_code.specs.Depths.{HasDepth, given, handles, goes_on as falls_on, jumps as jumps_on}
use Rattle.stack_code.specs.Effects.{falls, goal_of, may_raise, depth_after, depth_at_goal}
use Rattle.stack_code.specs.Validity.{IsValid}
use Rattle.stack_code.proofs.Nearest.{handler_is}
use Rattle.tree_code.specs.Expressions.{positionals, keywords}
use Rattle.tree_code.specs.Programs.{module_code}
use Rattle.tree_code.specs.Standing.{OpLies}
use Rattle.tree_code.proofs.Programs.{module_valid}
use Rattle.py_meaning.specs.Values.{Value, none, truth, whole, float, octets, ref}
use Rattle.py_meaning.specs.Values as values
use Rattle.py_meaning.specs.Objects as object
use Rattle.py_meaning.specs.Objects.{Object, object_at}
use Rattle.py_meaning.specs.Programs.{Program, text_at}
use Rattle.py_meaning.specs.StubItems.{stub_at, item_in}
use Rattle.py_meaning.specs.Operators.{binary, unary, compare}
use Rattle.py_meaning.specs.Subscripts.{read_item, read_slice, store_item, unpack_one}
use Rattle.py_meaning.specs.Attributes.{read_attribute, store_attribute}
use Rattle.py_meaning.specs.ClassTests.{matches}
use Rattle.py_meaning.specs.Names.{builtin_value, value_in_frame}
use Rattle.py_meaning.specs.Expressions.{call_value, super_in}
use Rattle.py_meaning.specs.Targets.{in_place}
use Rattle.py_meaning.specs.Imports.{module_name, module_value, imported_item}
use Rattle.py_meaning.specs.Truth.{truth_of, truth_of_object}
use Rattle.py_meaning.specs.Iteration.{Step, no_items, ended, element, iterate}
use Rattle.py_meaning.specs.Exceptions.{made_exception, handled_or_error, is_exception_value}
use Rattle.py_meaning.specs.Statements.{set_member, with_member, put_method}
use Rattle.py_meaning.specs.Actions as actions
use Rattle.py_meaning.specs.Actions.{Memory, Flow, Argument, Action, gives, raises, takes, counts, turn, looks, becomes, makes, refills, tells, raise_builtin}
use Rattle.py_meaning.specs.Holds.{Post, Holds}
use Rattle.py_meaning.proofs.Holding.{holds_bind, holds_may_raise}
use Rattle.tree_covering.specs.Trails.{Trail, pushed, pushed_pairs, Around, At, ValueAt, DoneAt, SentOver}
use Rattle.tree_covering.specs.Turns.{otherwise, account}
use Rattle.tree_covering.specs.Follows.{names_of, Gives, Takes, ChoiceAt, NextAt, Follows}
use Rattle.tree_covering.specs.Reached.{RaisesTo}

module _ (error : ℕ) (body : Stmts) where
  abbrev code : Code
  code = module_code error body

  valid : IsValid code
  valid = module_valid error body

  -- a place has the depth of the stack, and an exception comes from an instruction that may raise
  abbrev pub depths : Trail
  depths =
      record {
        Context = Unit {0};
        code = λ c. code;
        locals = λ c. [];
        error = error;
        Since = Unit {0};
        Kept = Unit {0};
        Always = λ g m. Unit {0};
        Made = λ g m o later. Unit {0};
        Told = λ g m e. Unit {0};
        Way = λ q. Unit {0};
        Asked = λ q way g m. Unit {0};
        Answered = λ q way g m o later m'. Unit {0};
        IsAt = λ c s place stack g m. HasDepth code place (length stack);
        IsSent = λ c s outer stack v g m. RaisesTo code outer;
        IsReturned = λ c s v g m. Unit {0};
        IsHandled = λ s v. Unit {0};
      }

  -- ---- instructions

  on : {place line : ℕ} {outer : Option Range} {o : Op} (before after : ℕ) → OpLies code place outer o line → falls o ≡ true → depth_after o before ≡ after → HasDepth code place before → HasDepth code (suc place) after
  on {place} {o = o} before after l f e k = subst (λ d. HasDepth code (suc place) d) e (given k l.op_at (falls_on (valid.slots place before o l.op_at k) f) l.fits)

  there : {place line : ℕ} {outer : Option Range} {o : Op} (goal before after : ℕ) → OpLies code place outer o line → goal_of o ≡ Some goal → depth_at_goal o before ≡ after → HasDepth code place before → HasDepth code goal after
  there {place} {o = o} goal before after l f e k = subst (λ d. HasDepth code goal d) e (given k l.op_at (jumps_on (valid.slots place before o l.op_at k) f) (valid.jumps place goal o l.op_at f))

  from : {place line : ℕ} {outer : Option Range} {o : Op} (depth : ℕ) → OpLies code place outer o line → may_raise o ≡ true → HasDepth code place depth → RaisesTo code outer
  from {place} {o = o} depth l may k = record { place = place; depth = depth; op = o; stands = l.op_at; may = may; reached = k; goes_to = l.handled }

  -- ---- actions of which nothing is said

  pub whatever : {A : Type 0} (P : Post (account depths) A) (R : Post (account depths) Value) (a : Action A) (g : Unit {0}) (m : Memory) → ((g' : Unit {0}) (m' : Memory) (x : A) → P g' m' x) → ((g' : Unit {0}) (m' : Memory) (v : Value) → R g' m' v) → Holds (account depths) P R g m a
  whatever P R (gives x) g m p r = p g m x
  whatever P R (raises v) g m p r = r g m v
  whatever P R (takes k) g m p r = (tt, λ c. whatever P R (k c) g m p r)
  whatever P R (counts k) g m p r = λ n. whatever P R (k n) g m p r
  whatever P R (turn q k) g m p r = (tt, (otherwise tt, tt, λ o g' m' h. whatever P R (k o) g' m' p r))
  whatever P R (looks k) g m p r = whatever P R (k m) g m p r
  whatever P R (becomes c a) g m p r = whatever P R a g (actions.with_scope c m) p r
  whatever P R (makes o k) g m p r = (tt, tt, whatever P R (k (ref (length m.heap))) tt (actions.with_new o m) p r)
  whatever P R (refills place new a) g m p r = whatever P R a g (actions.with_parts place new m) p r
  whatever P R (tells e a) g m p r = (tt, whatever P R a g m p r)

  -- what never raises

  truth_of_any : (P : Post (account depths) Bool) (R : Post (account depths) Value) (o : Object) (g : Unit {0}) (m : Memory) → ((g' : Unit {0}) (m' : Memory) (b : Bool) → P g' m' b) → Holds (account depths) P R g m (truth_of_object o)
  truth_of_any P R (object.view site native receiver xs) g m p = (tt, λ c. p g m _)
  truth_of_any P R (object.outside t) g m p = (tt, λ c. p g m _)
  truth_of_any P R _ g m p = p g m _

  test_of : (P : Post (account depths) Bool) (R : Post (account depths) Value) (v : Value) (g : Unit {0}) (m : Memory) → ((g' : Unit {0}) (m' : Memory) (b : Bool) → P g' m' b) → Holds (account depths) P R g m (truth_of v)
  test_of P R none g m p = p g m _
  test_of P R (truth b) g m p = p g m _
  test_of P R (whole n) g m p = p g m _
  test_of P R float g m p = (tt, λ c. p g m _)
  test_of P R (values.text empty) g m p = p g m _
  test_of P R (octets empty) g m p = p g m _
  test_of P R (ref place) g m p = truth_of_any P R (object_at m.heap place) g m p

  put_in : (P : Post (account depths) (Unit {0})) (R : Post (account depths) Value) (place n : ℕ) (v : Value) (o : Object) (g : Unit {0}) (m : Memory) → ((g' : Unit {0}) (m' : Memory) (u : Unit {0}) → P g' m' u) → Holds (account depths) P R g m (with_member place n v o)
  put_in P R place n v (object.class c es) g m p = p g _ tt
  put_in P R place n v _ g m p = p g m tt

  member_of : (P : Post (account depths) (Unit {0})) (R : Post (account depths) Value) (place n : ℕ) (v : Value) (g : Unit {0}) (m : Memory) → ((g' : Unit {0}) (m' : Memory) (u : Unit {0}) → P g' m' u) → Holds (account depths) P R g m (set_member place n v)
  member_of P R place n v g m p = put_in P R place n v (object_at m.heap place) g m p

  method_of : (P : Post (account depths) (Unit {0})) (R : Post (account depths) Value) (place : ℕ) (f : Member) (g : Unit {0}) (m : Memory) → ((g' : Unit {0}) (m' : Memory) (u : Unit {0}) → P g' m' u) → Holds (account depths) P R g m (put_method place f)
  method_of P R place (method (fun_def id n params body line)) g m p = (tt, tt, member_of P R place n (ref (length m.heap)) tt (actions.with_new (object.function id) m) p)
  method_of P R place _ g m p = p g m tt

  -- what always raises

  value_raised : (R : Post (account depths) Value) (b : Bool) (v : Value) (g : Unit {0}) (m : Memory) → ((g' : Unit {0}) (m' : Memory) (u : Value) → R g' m' u) → Holds (account depths) (λ g' m' flow. ⊥) R g m (if b then raises v else raise_builtin {A = Flow} (codes "TypeError"))
  value_raised R true v g m r = r g m v
  value_raised R false v g m r = (tt, tt, r tt _ _)

  handled_raised : (R : Post (account depths) Value) (o : Option Value) (g : Unit {0}) (m : Memory) → ((g' : Unit {0}) (m' : Memory) (u : Value) → R g' m' u) → Holds (account depths) (λ g' m' flow. ⊥) R g m (handled_or_error {A = Flow} o)
  handled_raised R None g m r = (tt, tt, r tt _ _)
  handled_raised R (Some v) g m r = r g m v

  -- ---- how many slots there are

  length_pushed : (vs stack : List Value) → length (pushed vs stack) ≡ length vs + length stack
  length_pushed [] stack = omega arith
  length_pushed (v ∷ vs) stack = omega (arith, length_pushed vs (v ∷ stack))

  length_pairs : (qs : List (Value × Value)) (stack : List Value) → length (pushed_pairs qs stack) ≡ 2 * length qs + length stack
  length_pairs [] stack = omega arith
  length_pairs (q ∷ qs) stack = omega (arith, length_pairs qs (q.1 ∷ q.0 ∷ stack))

  all_named : (xs : Args) → positionals xs + length (keywords xs) ≡ length (names_of xs)
  all_named no_args = omega arith
  all_named (arg None x xs) = omega (arith, all_named xs)
  all_named (arg (Some n) x xs) = omega (arith, all_named xs)

  given_count : (xs : Args) (args : List Argument) (f : Value) (stack : List Value) → map (λ a. a.name) args ≡ names_of xs → length (pushed (map (λ a. a.value) args) (f ∷ stack)) ≡ positionals xs + length (keywords xs) + 1 + length stack
  given_count xs args f stack e =
      omega (arith, length_pushed (map (λ a. a.value) args) (f ∷ stack), length-map args (λ a. a.value), length-map args (λ a. a.name), ap length e, all_named xs)

  -- ---- tests

  choice : (x : Around depths) (if_true if_false : ℕ) (on_true on_false : List Value) (g : Unit {0}) (m : Memory) (b : Bool) → HasDepth code if_true (length on_true) → HasDepth code if_false (length on_false) → ChoiceAt depths x if_true if_false on_true on_false g m b
  choice x if_true if_false on_true on_false g m true h k = h
  choice x if_true if_false on_true on_false g m false h k = k

  step_to : (x : Around depths) (next behind line : ℕ) (v : Value) (stack : List Value) (g : Unit {0}) (m : Memory) (step : Step) → RaisesTo code x.outer → HasDepth code behind (length stack) → HasDepth code next (suc (suc (length stack))) → NextAt depths x next behind line v stack g m step
  step_to x next behind line v stack g m no_items r h k = (tt, (tt, tt, r))
  step_to x next behind line v stack g m ended r h k = h
  step_to x next behind line v stack g m (element u) r h k = k

  tested : (x : Around depths) (if_true if_false : ℕ) (on_true on_false stack : List Value) (v : Value) (g : Unit {0}) (m : Memory) → HasDepth code if_true (length on_true) → HasDepth code if_false (length on_false) →
      Holds (account depths) (ChoiceAt depths x if_true if_false on_true on_false) (SentOver depths x stack) g m (truth_of v)
  tested x if_true if_false on_true on_false stack v g m h k =
      test_of (ChoiceAt depths x if_true if_false on_true on_false) (SentOver depths x stack) v g m (λ g' m' b. choice x if_true if_false on_true on_false g' m' b h k)

  -- ---- instructions that may raise

  gives_any : (x : Around depths) (o : Op) (used : List Value) (action : ℕ → Action Value) → falls o ≡ true → may_raise o ≡ true → ((stack : List Value) → depth_after o (length (used ++ stack)) ≡ suc (length stack)) → Gives depths x o used action
  gives_any x o used action f may after place line stack g m l k =
      whatever (ValueAt depths x (suc place) stack) (SentOver depths x stack) (action line) g m (λ g' m' v. on (length (used ++ stack)) (suc (length stack)) l f (after stack) k) (λ g' m' v. from (length (used ++ stack)) l may k)

  takes_any : (x : Around depths) (o : Op) (used : List Value) (action : ℕ → Action (Unit {0})) → falls o ≡ true → may_raise o ≡ true → ((stack : List Value) → depth_after o (length (used ++ stack)) ≡ length stack) → Takes depths x o used action
  takes_any x o used action f may after place line stack g m l k =
      whatever (DoneAt depths x (suc place) stack) (SentOver depths x stack) (action line) g m (λ g' m' u. on (length (used ++ stack)) (length stack) l f (after stack) k) (λ g' m' v. from (length (used ++ stack)) l may k)

  module _ (p : Program) where
    pub depth_steps : Follows depths p
    depth_steps =
        record {
          always = λ x place stack g m k. tt;
          sinks = λ x stack u v g m k. k;
          raises_any = λ x place line o stack g m name l may k. (tt, tt, from (length stack) l may k);
          constant = λ x z place line stack g m l k. on (length stack) (suc (length stack)) l refl (omega arith) k;
          pops = λ x v place line stack g m l k. on (suc (length stack)) (length stack) l refl (omega arith) k;
          picks = λ x place line below stack v g m l e k. on (length stack) (suc (length stack)) l refl (omega arith) k;
          jumps = λ x place line goal stack g m l k. there goal (length stack) (length stack) l refl (omega arith) k;
          leaves_if_false = λ x place line goal v stack g m l k. tested x (suc place) goal stack stack stack v g m (on (suc (length stack)) (length stack) l refl (omega arith) k) (there goal (suc (length stack)) (length stack) l refl (omega arith) k);
          leaves_if_true = λ x place line goal v stack g m l k. tested x goal (suc place) stack stack stack v g m (there goal (suc (length stack)) (length stack) l refl (omega arith) k) (on (suc (length stack)) (length stack) l refl (omega arith) k);
          keeps_if_false = λ x place line goal v stack g m l k. tested x (suc place) goal stack (v ∷ stack) stack v g m (on (suc (length stack)) (length stack) l refl (omega arith) k) (there goal (suc (length stack)) (suc (length stack)) l refl (omega arith) k);
          keeps_if_true = λ x place line goal v stack g m l k. tested x goal (suc place) (v ∷ stack) stack stack v g m (there goal (suc (length stack)) (suc (length stack)) l refl (omega arith) k) (on (suc (length stack)) (length stack) l refl (omega arith) k);
          inverts = λ x v place line stack g m l k.
              holds_bind (account depths) (λ g' m' b. Unit {0}) (ValueAt depths x (suc place) stack) (SentOver depths x stack) (truth_of v) (λ b. gives (truth (not b))) g m
              (test_of (λ g' m' b. Unit {0}) (SentOver depths x stack) v g m (λ g' m' b. tt)) (λ b g' m' h. on (suc (length stack)) (suc (length stack)) l refl (omega arith) k);
          next = λ x place line goal v stack g m l k.
              whatever (NextAt depths x (suc place) goal line v stack) (SentOver depths x stack) (iterate p v) g m
              (λ g' m' step. step_to x (suc place) goal line v stack g' m' step (from (suc (length stack)) l refl k) (there goal (suc (length stack)) (length stack) l refl (omega arith) k) (on (suc (length stack)) (suc (suc (length stack))) l refl (omega arith) k))
              (λ g' m' u. from (suc (length stack)) l refl k);
          loads = λ x n. gives_any x (op.LoadName n) ([]) (λ line. looks (λ m. value_in_frame p m.scope n m.scope.frame)) refl refl (λ s. omega arith);
          stores = λ x place line n v stack g m l k. on (suc (length stack)) (length stack) l refl (omega arith) k;
          forgets = λ x place line n stack g m l k. on (length stack) (length stack) l refl (omega arith) k;
          still_at = λ x place n stack g m k. k;
          still_sent = λ x n stack v g m k. k;
          still_returned = λ x n v g m k. tt;
          does_unary = λ x o v. gives_any x (op.Unary o) (v ∷ []) (λ line. unary o line v) refl refl (λ s. omega arith);
          does_binary = λ x o site v w. gives_any x (op.Binary o site) (w ∷ v ∷ []) (λ line. binary p o site line v w) refl refl (λ s. omega arith);
          does_in_place = λ x o site v w. gives_any x (op.InPlace o site) (w ∷ v ∷ []) (λ line. in_place p o site line v w) refl refl (λ s. omega arith);
          compares = λ x o v w. gives_any x (op.Compare o) (w ∷ v ∷ []) (λ line. compare o line v w) refl refl (λ s. omega arith);
          reads_attribute = λ x n v. gives_any x (op.Attr n) (v ∷ []) (λ line. read_attribute p line v n) refl refl (λ s. omega arith);
          reads_super = λ x n. gives_any x (op.Super n) ([]) (λ line. looks (λ m. super_in p line n m.scope.frame)) refl refl (λ s. omega arith);
          stores_attribute = λ x n v w. takes_any x (op.StoreAttr n) (w ∷ v ∷ []) (λ line. store_attribute line v n w) refl refl (λ s. omega arith);
          reads_item = λ x v i. gives_any x op.Item (i ∷ v ∷ []) (λ line. read_item p line v i) refl refl (λ s. omega arith);
          stores_item = λ x v i w. takes_any x op.StoreItem (w ∷ i ∷ v ∷ []) (λ line. store_item line v i w) refl refl (λ s. omega arith);
          reads_slice = λ x site v low high step. gives_any x (op.Slice site) (step ∷ high ∷ low ∷ v ∷ []) (λ line. read_slice p site line v) refl refl (λ s. omega arith);
          unpacks = λ x place line part count got v stack g m e l k.
              let full : List Value = got ++ (v ∷ stack) in
              whatever (λ g' m' w. At depths x (suc place) (w ∷ full) g' m') (SentOver depths x (v ∷ stack)) (unpack_one p line part count v) g m (λ g' m' u. on (length full) (suc (length full)) l refl (omega arith) k) (λ g' m' u. from (length full) l refl k);
          makes_tuple = λ x place line site vs stack g m l k. (tt, tt, on (length (pushed vs stack)) (suc (length stack)) l refl (omega (arith, length_pushed vs stack)) k);
          makes_list = λ x place line site vs stack g m l k. (tt, tt, on (length (pushed vs stack)) (suc (length stack)) l refl (omega (arith, length_pushed vs stack)) k);
          makes_dict = λ x place line site qs stack g m l k. (tt, tt, on (length (pushed_pairs qs stack)) (suc (length stack)) l refl (omega (arith, length_pairs qs stack)) k);
          makes_function = λ x id place line stack g m l k. (tt, tt, on (length stack) (suc (length stack)) l refl (omega arith) k);
          makes_class = λ x place line id n base inside own stack g m0 l k.
              record {
                later = tt;
                made = tt;
                within = tt;
                at = k;
                fills = record {
                  member = λ n v place line stack g m l k. member_of (DoneAt depths x (suc place) stack) (SentOver depths x stack) (length m0.heap) n v g m (λ g' m' u. on (suc (length stack)) (length stack) l refl (omega arith) k);
                  method = λ f place stack g m k. method_of (DoneAt depths x place stack) (SentOver depths x stack) (length m0.heap) f g m (λ g' m' u. k);
                  ends = λ place line stack g m l k. on (length stack) (suc (length stack)) l refl (omega arith) k;
                  sent = λ outer stack v g m k. k;
                };
              };
          functions_in_module = λ x place line id l. refl;
          classes_in_module = λ x place line id l. refl;
          calls = λ x place line site xs args f stack g m e l k.
              let n : ℕ = length (pushed (map (λ a. a.value) args) (f ∷ stack)) in
              whatever (ValueAt depths x (suc place) stack) (SentOver depths x stack) (call_value f args site line) g m (λ g' m' u. on n (suc (length stack)) l refl (omega (arith, given_count xs args f stack e)) k) (λ g' m' u. from n l refl k);
          returns = λ x place v stack g m l k. tt;
          makes_raised = λ x site v. gives_any x (op.MakeRaised site) (v ∷ []) (λ line. made_exception v site line) refl refl (λ s. omega arith);
          raises = λ x v place line stack g m l k.
              holds_may_raise (account depths) (λ g' m' flow. ⊥) (SentOver depths x stack) (looks (λ m. if is_exception_value p m.heap v then raises v else raise_builtin {A = Flow} (codes "TypeError"))) g m tt (λ name. (tt, tt, from (suc (length stack)) l refl k))
              (value_raised (SentOver depths x stack) (is_exception_value p m.heap v) v g m (λ g' m' u. from (suc (length stack)) l refl k));
          raises_again = λ x place line stack g m l k.
              holds_may_raise (account depths) (λ g' m' flow. ⊥) (SentOver depths x stack) (looks (λ m. handled_or_error {A = Flow} m.scope.handled)) g m tt (λ name. (tt, tt, from (length stack) l refl k))
              (handled_raised (SentOver depths x stack) m.scope.handled g m (λ g' m' u. from (length stack) l refl k));
          lets_go = λ x place line v stack g m l up k. from (length stack) l refl k;
          catches = λ x range line stack v g m e l q.
              let in_range = handler_is code.ranges q.place range q.goes_to in
              let here : HasDepth code range.goal (length stack) = subst (λ d. HasDepth code range.goal d) e (handles q.reached in_range.0 in_range.1 (omega (arith, l.fits))) in
              record {
                within = tt;
                at = on (length stack) (suc (length stack)) l refl (omega arith) here;
                handled = tt;
                restores = record { at = λ place stack g m k. k; sent = λ outer stack v g m k. k; returned = λ v g m k. tt };
              };
          matches_class = λ x place line other goal c v stack g m l l2 k.
              let first : HasDepth code (suc place) (suc (suc (length stack))) = on (suc (suc (length stack))) (suc (suc (length stack))) l refl (omega arith) k in
              let e : suc place ≡ place + 1 = omega arith in
              let e2 : suc (place + 1) ≡ place + 1 + 1 = omega arith in
              let second : HasDepth code (place + 1) (suc (suc (length stack))) = subst (λ n. HasDepth code n (suc (suc (length stack)))) e first in
              whatever (ChoiceAt depths x (place + 1 + 1) goal (v ∷ stack) (v ∷ stack)) (SentOver depths x stack) (matches p v c) g m
              (λ g' m' b. choice x (place + 1 + 1) goal (v ∷ stack) (v ∷ stack) g' m' b (subst (λ n. HasDepth code n (suc (length stack))) e2 (on (suc (suc (length stack))) (suc (length stack)) l2 refl (omega arith) second)) (there goal (suc (suc (length stack))) (suc (length stack)) l2 refl (omega arith) second))
              (λ g' m' u. from (suc (suc (length stack))) l refl k);
          loads_error = λ x. gives_any x (op.LoadName error) [] (λ line. builtin_value (codes "AssertionError")) refl refl (λ s. omega arith);
          imports = λ x path. gives_any x (op.Import path) ([]) (λ line. module_value (module_name p path) (stub_at p (module_name p path))) refl refl (λ s. omega arith);
          imports_from = λ x path n. gives_any x (op.ImportFrom path n) ([]) (λ line. imported_item p (module_name p path) (text_at p n) (option_and_then (λ s. item_in s (module_name p path) (text_at p n)) (stub_at p (module_name p path)))) refl refl (λ s. omega arith);
          stores_nothing = λ x before place line other v stack g m i l k. on (suc (length stack)) (length stack) l refl (omega arith) k;
        }
