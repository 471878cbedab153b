-- What each kind of instruction has to give, so that runs go along every code: one lemma a field. An instruction that stands in none of the codes gives it for nothing.
use Rattle.std.specs.Prelude.{◌≡◌, ℕ, suc, ◌+◌, Bool, true, false, not, List, [], ◌∷◌, ◌++◌, Option, Some, map, length, slice_get, codes}
use Rattle.std.specs.Option.{option_and_then}
use Rattle.place_ids.specs.declared.operators.BinOp.{BinOp}
use Rattle.place_ids.specs.declared.operators.CompareOp.{CompareOp}
use Rattle.place_ids.specs.declared.operators.UnaryOp.{UnaryOp}
use Rattle.py_tree.specs.declared.literal.Literal.{Literal}
use Rattle.py_tree.specs.Tree.{Args, no_args, arg, class_def, Member, Members}
use Rattle.type_terms.specs.Terms as term
use Rattle.stack_code.specs.declared.code.Range.{Range}
use Rattle.stack_code.specs.declared.op.Op.{Op}
use Rattle.stack_code.specs.declared.op.Op.TheVariants as op
use Rattle.stack_code.specs.Effects.{may_raise}
use Rattle.tree_code.specs.Names.{kind_of, load, store, forget}
use Rattle.tree_code.specs.Expressions.{positionals, keywords}
use Rattle.tree_code.specs.Statements.{defines_class}
use Rattle.py_meaning.specs.Values.{Value, ref, truth, literal_value}
use Rattle.py_meaning.specs.Objects as object
use Rattle.py_meaning.specs.Events.{not_iterable}
use Rattle.py_meaning.specs.Programs.{Program, text_at}
use Rattle.py_meaning.specs.StubItems.{stub_at, item_in}
use Rattle.py_meaning.specs.Truth.{truth_of}
use Rattle.py_meaning.specs.Operators.{binary, unary, compare}
use Rattle.py_meaning.specs.Iteration.{Step, no_items, ended, element, iterate}
use Rattle.py_meaning.specs.Subscripts.{read_item, read_slice, store_item, unpack_one}
use Rattle.py_meaning.specs.Attributes.{read_attribute, store_attribute}
use Rattle.py_meaning.specs.ClassTests.{matches}
use Rattle.py_meaning.specs.Names.{builtin_value, value_in_frame, bound, unbound}
use Rattle.py_meaning.specs.Expressions.{call_value, super_in}
use Rattle.py_meaning.specs.Targets.{in_place}
use Rattle.py_meaning.specs.Imports.{module_name, module_value, imported_item}
use Rattle.py_meaning.specs.Exceptions.{made_exception, raise_value, raise_again, with_handled}
use Rattle.py_meaning.specs.Statements.{set_member, put_method}
use Rattle.py_meaning.specs.Actions.{Memory, with_scope, with_new, Argument, Flow, Action, gives, looks, bind, allocate, fails}
use Rattle.py_meaning.specs.Holds.{Holds}
use Rattle.tree_covering.specs.Trails.{Trail, pushed, pushed_pairs, Around, LiesIn, OpIn, At, ValueAt, DoneAt, SentOver}
use Rattle.tree_covering.specs.Turns.{account}

-- the keywords of arguments, in their order
abbrev pub names_of : Args → List (Option ℕ)
names_of no_args = []
names_of (arg n x xs) = n ∷ names_of xs

module _ (t : Trail) where
  -- an instruction takes these off the stack, for the value of an action
  abbrev pub Gives : Around t → Op → List Value → (ℕ → Action Value) → Type 0
  Gives x o used action =
      (place line : ℕ) (stack : List Value) (g : t.Kept) (m : Memory) → OpIn t x place o line → At t x place (used ++ stack) g m →
      Holds (account t) (ValueAt t x (suc place) stack) (SentOver t x stack) g m (action line)

  -- the same, for nothing
  abbrev pub Takes : Around t → Op → List Value → (ℕ → Action (Unit {0})) → Type 0
  Takes x o used action =
      (place line : ℕ) (stack : List Value) (g : t.Kept) (m : Memory) → OpIn t x place o line → At t x place (used ++ stack) g m →
      Holds (account t) (DoneAt t x (suc place) stack) (SentOver t x stack) g m (action line)

  -- an instruction leaves memory alone, and has these slots in place of the others
  abbrev pub Turns : Around t → Op → (before after : List Value) → Type 0
  Turns x o before after =
      (place line : ℕ) (stack : List Value) (g : t.Kept) (m : Memory) → OpIn t x place o line → At t x place (before ++ stack) g m → At t x (suc place) (after ++ stack) g m

  -- it always raises
  abbrev pub OnlyRaises : Around t → Op → List Value → Action Flow → Type 0
  OnlyRaises x o used action =
      (place line : ℕ) (stack : List Value) (g : t.Kept) (m : Memory) → OpIn t x place o line → At t x place (used ++ stack) g m → Holds (account t) (λ g' m' flow. ⊥) (SentOver t x stack) g m action

  -- where a run is after a test, by the test's truth
  abbrev pub ChoiceAt : Around t → (if_true if_false : ℕ) → (on_true on_false : List Value) → t.Kept → Memory → Bool → Type 0
  ChoiceAt x if_true if_false on_true on_false g m true = At t x if_true on_true g m
  ChoiceAt x if_true if_false on_true on_false g m false = At t x if_false on_false g m

  -- where it is after a step through an iterable: at the body with the element, or behind the loop
  abbrev pub NextAt : Around t → (body behind line : ℕ) → Value → List Value → t.Kept → Memory → Step → Type 0
  NextAt x body behind line v stack g m no_items = Holds (account t) (λ g' m' flow. ⊥) (SentOver t x stack) g m (fails {A = Flow} line not_iterable)
  NextAt x body behind line v stack g m ended = At t x behind stack g m
  NextAt x body behind line v stack g m (element u) = At t x body (u ∷ v ∷ stack) g m

  -- the same code, with what was so since another moment
  abbrev pub during : Around t → t.Since → Around t
  during x since = record { context = x.context; since = since; labels = x.labels; outer = x.outer }

  -- what holds while an exception is handled holds after it, where what was handled before is so again
  pub record Restores (x : Around t) (within : t.Since) (handled : Option Value) : Type 0 where
    pub at : (place : ℕ) (stack : List Value) (g : t.Kept) (m : Memory) → At t (during x within) place stack g m → At t x place stack g (with_scope (with_handled handled m.scope) m)
    pub sent : (outer : Option Range) (stack : List Value) (v : Value) (g : t.Kept) (m : Memory) → t.IsSent x.context within outer stack v g m → t.IsSent x.context x.since outer stack v g (with_scope (with_handled handled m.scope) m)
    pub returned : (v : Value) (g : t.Kept) (m : Memory) → t.IsReturned x.context within v g m → t.IsReturned x.context x.since v g (with_scope (with_handled handled m.scope) m)

  -- what a handler has of an exception: the run stands behind `Caught`, with the exception on the stack and under way
  pub record Catches (x : Around t) (place : ℕ) (stack : List Value) (v : Value) (g : t.Kept) (m : Memory) : Type 0 where
    pub within : t.Since
    pub at : At t (during x within) (suc place) (v ∷ stack) g (with_scope (with_handled (Some v) m.scope) m)
    pub handled : t.IsHandled within v
    pub restores : Restores x within m.scope.handled

  -- while a class is made, its object has a place; its members are put into it
  pub record Fills (x : Around t) (within : t.Since) (class object : ℕ) : Type 0 where
    pub member : (n : ℕ) (v : Value) → Takes (during x within) (op.StoreMember class n) (v ∷ []) (λ line. set_member object n v)
    pub method : (f : Member) (place : ℕ) (stack : List Value) (g : t.Kept) (m : Memory) → At t (during x within) place stack g m →
        Holds (account t) (DoneAt t (during x within) place stack) (SentOver t (during x within) stack) g m (put_method object f)
    pub ends : (place line : ℕ) (stack : List Value) (g : t.Kept) (m : Memory) → OpIn t x place (op.Class class) line → At t (during x within) place stack g m → At t x (suc place) (ref object ∷ stack) g m
    pub sent : (outer : Option Range) (stack : List Value) (v : Value) (g : t.Kept) (m : Memory) → t.IsSent x.context within outer stack v g m → t.IsSent x.context x.since outer stack v g m

  pub record Makes (x : Around t) (place class : ℕ) (stack : List Value) (g : t.Kept) (m : Memory) : Type 0 where
    pub later : t.Kept
    pub made : t.Made g m (object.class class []) later
    pub within : t.Since
    pub at : At t (during x within) place stack later (with_new (object.class class []) m)
    pub fills : Fills x within class (length m.heap)

  -- an instance of a builtin exception class is made and raised
  abbrev pub RaisesNew : Around t → List Value → t.Kept → Memory → List ℕ → Type 0
  RaisesNew x stack g m name =
      (later : t.Kept) × t.Made g m (object.outside (term.class name)) later × t.IsSent x.context x.since x.outer stack (ref (length m.heap)) later (with_new (object.outside (term.class name)) m)

  -- one field for each kind of instruction, and a few for what no instruction stands for
  pub record Follows (p : Program) : Type 0 where
    -- ---- wherever a run is
    pub always : (x : Around t) (place : ℕ) (stack : List Value) (g : t.Kept) (m : Memory) → At t x place stack g m → t.Always g m
    pub sinks : (x : Around t) (stack : List Value) (u v : Value) (g : t.Kept) (m : Memory) → SentOver t x (u ∷ stack) g m v → SentOver t x stack g m v
    -- whatever may raise raises an instance of any builtin exception class
    pub raises_any : (x : Around t) (place line : ℕ) (o : Op) (stack : List Value) (g : t.Kept) (m : Memory) (name : List ℕ) → OpIn t x place o line → may_raise o ≡ true → At t x place stack g m → RaisesNew x stack g m name
    -- ---- the stack alone
    pub constant : (x : Around t) (l : Literal) → Turns x (op.Const (kind_of l)) [] (literal_value l ∷ [])
    pub pops : (x : Around t) (v : Value) → Turns x op.Pop (v ∷ []) []
    pub picks : (x : Around t) (place line below : ℕ) (stack : List Value) (v : Value) (g : t.Kept) (m : Memory) → OpIn t x place (op.Pick below) line → slice_get stack below ≡ Some v → At t x place stack g m → At t x (suc place) (v ∷ stack) g m
    pub jumps : (x : Around t) (place line goal : ℕ) (stack : List Value) (g : t.Kept) (m : Memory) → OpIn t x place (op.Jump goal) line → At t x place stack g m → At t x goal stack g m
    -- ---- tests
    pub leaves_if_false : (x : Around t) (place line goal : ℕ) (v : Value) (stack : List Value) (g : t.Kept) (m : Memory) → OpIn t x place (op.JumpIfFalse goal) line → At t x place (v ∷ stack) g m →
        Holds (account t) (ChoiceAt x (suc place) goal stack stack) (SentOver t x stack) g m (truth_of v)
    pub leaves_if_true : (x : Around t) (place line goal : ℕ) (v : Value) (stack : List Value) (g : t.Kept) (m : Memory) → OpIn t x place (op.JumpIfTrue goal) line → At t x place (v ∷ stack) g m →
        Holds (account t) (ChoiceAt x goal (suc place) stack stack) (SentOver t x stack) g m (truth_of v)
    pub keeps_if_false : (x : Around t) (place line goal : ℕ) (v : Value) (stack : List Value) (g : t.Kept) (m : Memory) → OpIn t x place (op.JumpIfFalseKeep goal) line → At t x place (v ∷ stack) g m →
        Holds (account t) (ChoiceAt x (suc place) goal stack (v ∷ stack)) (SentOver t x stack) g m (truth_of v)
    pub keeps_if_true : (x : Around t) (place line goal : ℕ) (v : Value) (stack : List Value) (g : t.Kept) (m : Memory) → OpIn t x place (op.JumpIfTrueKeep goal) line → At t x place (v ∷ stack) g m →
        Holds (account t) (ChoiceAt x goal (suc place) (v ∷ stack) stack) (SentOver t x stack) g m (truth_of v)
    pub inverts : (x : Around t) (v : Value) → Gives x op.Not (v ∷ []) (λ line. bind (truth_of v) (λ b. gives (truth (not b))))
    pub next : (x : Around t) (place line goal : ℕ) (v : Value) (stack : List Value) (g : t.Kept) (m : Memory) → OpIn t x place (op.ForNext goal) line → At t x place (v ∷ stack) g m →
        Holds (account t) (NextAt x (suc place) goal line v stack) (SentOver t x stack) g m (iterate p v)
    -- ---- names
    pub loads : (x : Around t) (n : ℕ) → Gives x (load (t.locals x.context) n) [] (λ line. looks (λ m. value_in_frame p m.scope n m.scope.frame))
    pub stores : (x : Around t) (place line n : ℕ) (v : Value) (stack : List Value) (g : t.Kept) (m : Memory) → OpIn t x place (store (t.locals x.context) n) line → At t x place (v ∷ stack) g m → At t x (suc place) stack g (with_scope (bound p n v m.scope) m)
    pub forgets : (x : Around t) (place line n : ℕ) (stack : List Value) (g : t.Kept) (m : Memory) → OpIn t x place (forget (t.locals x.context) n) line → At t x place stack g m → At t x (suc place) stack g (with_scope (unbound p n m.scope) m)
    -- a name that is unbound on another way out of its clause
    pub still_at : (x : Around t) (place n : ℕ) (stack : List Value) (g : t.Kept) (m : Memory) → At t x place stack g m → At t x place stack g (with_scope (unbound p n m.scope) m)
    pub still_sent : (x : Around t) (n : ℕ) (stack : List Value) (v : Value) (g : t.Kept) (m : Memory) → SentOver t x stack g m v → SentOver t x stack g (with_scope (unbound p n m.scope) m) v
    pub still_returned : (x : Around t) (n : ℕ) (v : Value) (g : t.Kept) (m : Memory) → t.IsReturned x.context x.since v g m → t.IsReturned x.context x.since v g (with_scope (unbound p n m.scope) m)
    -- ---- operators, parts and attributes
    pub does_unary : (x : Around t) (o : UnaryOp) (v : Value) → Gives x (op.Unary o) (v ∷ []) (λ line. unary o line v)
    pub does_binary : (x : Around t) (o : BinOp) (site : ℕ) (v w : Value) → Gives x (op.Binary o site) (w ∷ v ∷ []) (λ line. binary p o site line v w)
    pub does_in_place : (x : Around t) (o : BinOp) (site : ℕ) (v w : Value) → Gives x (op.InPlace o site) (w ∷ v ∷ []) (λ line. in_place p o site line v w)
    pub compares : (x : Around t) (o : CompareOp) (v w : Value) → Gives x (op.Compare o) (w ∷ v ∷ []) (λ line. compare o line v w)
    pub reads_attribute : (x : Around t) (n : ℕ) (v : Value) → Gives x (op.Attr n) (v ∷ []) (λ line. read_attribute p line v n)
    pub reads_super : (x : Around t) (n : ℕ) → Gives x (op.Super n) [] (λ line. looks (λ m. super_in p line n m.scope.frame))
    pub stores_attribute : (x : Around t) (n : ℕ) (v w : Value) → Takes x (op.StoreAttr n) (w ∷ v ∷ []) (λ line. store_attribute line v n w)
    pub reads_item : (x : Around t) (v i : Value) → Gives x op.Item (i ∷ v ∷ []) (λ line. read_item p line v i)
    pub stores_item : (x : Around t) (v i w : Value) → Takes x op.StoreItem (w ∷ i ∷ v ∷ []) (λ line. store_item line v i w)
    pub reads_slice : (x : Around t) (site : ℕ) (v low high step : Value) → Gives x (op.Slice site) (step ∷ high ∷ low ∷ v ∷ []) (λ line. read_slice p site line v)
    pub unpacks : (x : Around t) (place line part count : ℕ) (got : List Value) (v : Value) (stack : List Value) (g : t.Kept) (m : Memory) → length got + suc part ≡ count → OpIn t x place (op.Part part count) line → At t x place (got ++ (v ∷ stack)) g m →
        Holds (account t) (λ g' m' w. At t x (suc place) (w ∷ (got ++ (v ∷ stack))) g' m') (SentOver t x (v ∷ stack)) g m (unpack_one p line part count v)
    -- ---- new objects
    pub makes_tuple : (x : Around t) (place line site : ℕ) (vs stack : List Value) (g : t.Kept) (m : Memory) → OpIn t x place (op.NewTuple (length vs) site) line → At t x place (pushed vs stack) g m →
        Holds (account t) (ValueAt t x (suc place) stack) (SentOver t x stack) g m (allocate (object.tuple site object.places vs))
    pub makes_list : (x : Around t) (place line site : ℕ) (vs stack : List Value) (g : t.Kept) (m : Memory) → OpIn t x place (op.NewList (length vs) site) line → At t x place (pushed vs stack) g m →
        Holds (account t) (ValueAt t x (suc place) stack) (SentOver t x stack) g m (allocate (object.list site vs))
    pub makes_dict : (x : Around t) (place line site : ℕ) (qs : List (Value × Value)) (stack : List Value) (g : t.Kept) (m : Memory) → OpIn t x place (op.NewDict (length qs) site) line → At t x place (pushed_pairs qs stack) g m →
        Holds (account t) (ValueAt t x (suc place) stack) (SentOver t x stack) g m (allocate (object.dict site qs))
    pub makes_function : (x : Around t) (id : ℕ) → Gives x (op.Fun id) [] (λ line. allocate (object.function id))
    pub makes_class : (x : Around t) (place line : ℕ) (id n : ℕ) (base : Option ℕ) (inside : Members) (own : ℕ) (stack : List Value) (g : t.Kept) (m : Memory) → LiesIn t x place (defines_class line (class_def id n base inside own)) → At t x place stack g m →
        Makes x place id stack g m
    -- functions and classes are defined in the module's own code, which has no locals
    pub functions_in_module : (x : Around t) (place line id : ℕ) → OpIn t x place (op.Fun id) line → t.locals x.context ≡ []
    pub classes_in_module : (x : Around t) (place line id : ℕ) → OpIn t x place (op.Class id) line → t.locals x.context ≡ []
    -- ---- calls
    pub calls : (x : Around t) (place line site : ℕ) (xs : Args) (given : List Argument) (f : Value) (stack : List Value) (g : t.Kept) (m : Memory) → map (λ a. a.name) given ≡ names_of xs →
        OpIn t x place (op.Call (positionals xs) (keywords xs) site) line → At t x place (pushed (map (λ a. a.value) given) (f ∷ stack)) g m → Holds (account t) (ValueAt t x (suc place) stack) (SentOver t x stack) g m (call_value f given site line)
    pub returns : (x : Around t) (place : ℕ) (v : Value) (stack : List Value) (g : t.Kept) (m : Memory) → slice_get (t.code x.context).ops place ≡ Some op.Return → At t x place (v ∷ stack) g m → t.IsReturned x.context x.since v g m
    -- ---- exceptions
    pub makes_raised : (x : Around t) (site : ℕ) (v : Value) → Gives x (op.MakeRaised site) (v ∷ []) (λ line. made_exception v site line)
    pub raises : (x : Around t) (v : Value) → OnlyRaises x op.Raise (v ∷ []) (raise_value p v)
    pub raises_again : (x : Around t) → OnlyRaises x op.Reraise [] raise_again
    pub lets_go : (x : Around t) (place line : ℕ) (v : Value) (stack : List Value) (g : t.Kept) (m : Memory) → OpIn t x place op.Reraise line → t.IsHandled x.since v → At t x place stack g m → SentOver t x stack g m v
    pub catches : (x : Around t) (range : Range) (line : ℕ) (stack : List Value) (v : Value) (g : t.Kept) (m : Memory) → range.depth ≡ length stack → OpIn t x range.goal op.Caught line → t.IsSent x.context x.since (Some range) stack v g m → Catches x range.goal stack v g m
    pub matches_class : (x : Around t) (place line other goal : ℕ) (k v : Value) (stack : List Value) (g : t.Kept) (m : Memory) → OpIn t x place op.MatchError line → OpIn t x (place + 1) (op.JumpIfFalse goal) other → At t x place (k ∷ v ∷ stack) g m →
        Holds (account t) (ChoiceAt x (place + 1 + 1) goal (v ∷ stack) (v ∷ stack)) (SentOver t x stack) g m (matches p v k)
    -- the class that `assert` raises
    pub loads_error : (x : Around t) → Gives x (op.LoadName t.error) [] (λ line. builtin_value (codes "AssertionError"))
    -- ---- imports
    pub imports : (x : Around t) (path : List ℕ) → Gives x (op.Import path) [] (λ line. module_value (module_name p path) (stub_at p (module_name p path)))
    pub imports_from : (x : Around t) (path : List ℕ) (n : ℕ) → Gives x (op.ImportFrom path n) [] (λ line. imported_item p (module_name p path) (text_at p n) (option_and_then (λ s. item_in s (module_name p path) (text_at p n)) (stub_at p (module_name p path))))
    -- a path without names binds none, though its code has a store
    pub stores_nothing : (x : Around t) (before place line other : ℕ) (v : Value) (stack : List Value) (g : t.Kept) (m : Memory) → OpIn t x before (op.Import []) line → OpIn t x place (store (t.locals x.context) 0) other → At t x place (v ∷ stack) g m → At t x (suc place) stack g m
