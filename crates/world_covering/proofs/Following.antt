-- Along the code of a module of the covered forms, every instruction keeps a walk of the run.
use Rattle.std.proofs.Common.{◌≡◌, ℕ, zero, suc, ◌+◌, ◌<◌, Bool, true, false, Option, Some, None, List, [], ◌∷◌, ◌++◌, length, slice_get, refl, sym, ap, subst, ◌∙◌, arith, if◌then◌else◌}
use Rattle.std.specs.Prelude.{codes}
use Rattle.std.specs.List.{Contains}
use Rattle.place_ids.specs.Names as names
use Rattle.place_ids.specs.Names.{with_name, number_in}
use Rattle.py_tree.specs.Tree.{Members, Module, class_def}
use Rattle.type_terms.specs.Stubs.{Stub}
use Rattle.scope_rules.specs.NameLists.{has_name, text_of, text_in}
use Rattle.stack_code.specs.declared.code.Range.{Range}
use Rattle.stack_code.specs.declared.op.Op.{Op}
use Rattle.stack_code.specs.declared.op.Op.TheVariants as op
use Rattle.stack_code.specs.Effects.{goal_of}
use Rattle.stack_code.specs.Validity.{IsValid}
use Rattle.graph_walks.proofs.Lists.{first}
use Rattle.tree_code.specs.Programs.{in_module, error_name, module_code}
use Rattle.tree_code.specs.Standing.{OpLies}
use Rattle.tree_code.specs.Pieces.{one, ◌⨾◌}
use Rattle.tree_code.specs.Statements.{body_code, defines_class, member_values}
use Rattle.tree_code.proofs.Parts.{ThenLies, op_lies, then_lies}
use Rattle.tree_code.proofs.Programs.{module_valid}
use Rattle.tree_code.proofs.Solid.{one_solid, then_solid}
use Rattle.tree_code.proofs.SolidTrees.{members_solid}
use Rattle.world_rules.specs.declared.row.Yield.TheVariants as yields
use Rattle.world_rules.specs.declared.seat.Seat.TheVariants as seat
use Rattle.world_rules.specs.declared.transfer.SeatReading.{SeatReading}
use Rattle.world_rules.specs.declared.transfer.Transfer.{Transfer}
use Rattle.world_rules.specs.declared.transfer.Transfer.TheVariants as transfer
use Rattle.world_rules.specs.Places.{Context, main, global, thread_of}
use Rattle.world_rules.specs.Sources.{Source}
use Rattle.world_rules.specs.Items.{Item}
use Rattle.world_rules.specs.Readings.{own, builtin, global_read, nothing_read}
use Rattle.world_rules.specs.Rows.{row_of}
use Rattle.world_rules.specs.Rules.{readings_at, IsClosed}
use Rattle.py_meaning.specs.Values.{Value, entry}
use Rattle.py_meaning.specs.Objects as object
use Rattle.type_terms.specs.Terms as type
use Rattle.py_meaning.specs.Programs.{Program, program, text_at, is_bound}
use Rattle.py_meaning.specs.Names.{found_or, builtin_value, value_in_frame}
use Rattle.py_meaning.specs.Exceptions.{handled_or_error}
use Rattle.py_meaning.specs.Actions.{Memory, Flow, Action, looks, with_new}
use Rattle.py_meaning.specs.Holds.{Holds}
use Rattle.py_meaning.proofs.Holding.{holds_may_raise}
use Rattle.tree_covering.specs.Trails.{Trail, Around, LiesIn, OpIn, ValueAt, SentOver}
use Rattle.tree_covering.specs.Turns.{account}
use Rattle.tree_covering.specs.Follows.{Follows}
use Rattle.tree_covering.proofs.OnlyOps.{OnlyOps, op_in_module}
use Rattle.world_covering.specs.RowLaws.{Stays, Gave}
use Rattle.world_covering.specs.Modules.{Settings, source_of}
use Rattle.world_covering.specs.Keeping.{code_in, IsSeated, Kept, Pending}
use Rattle.world_covering.proofs.Built.{IsBuilt}
use Rattle.world_covering.proofs.Growing.{stays_here, stays_new}
use Rattle.world_covering.proofs.Instructions.{constant_kept, copy_kept, pop_kept, jump_kept, false_leaves, false_keeps, true_keeps, true_leaves, binary_kept, in_place_kept, compare_kept, unary_kept, not_kept}
use Rattle.world_covering.proofs.Names.{kept_unbound, pending_unbound, stores_name, forgets_name}
use Rattle.world_covering.proofs.Rows.{gave}
use Rattle.world_covering.proofs.RowsHold.{rows_hold}
use Rattle.world_covering.proofs.Steps.{pending_at, pending_under, pushes}
use Rattle.world_covering.proofs.Trails.{covering, along}

-- ---- the program's names begin with the module's

got_front : (xs : List (List ℕ)) (x : List ℕ) (n : ℕ) → n < length xs → slice_get (xs ++ x ∷ []) n ≡ slice_get xs n
got_front [] x n lt = absurd (omega (arith, lt))
got_front (y ∷ xs) x zero lt = refl
got_front (y ∷ xs) x (suc n) lt = got_front xs x n (omega (arith, lt))

same_text : (xs : List (List ℕ)) (x : List ℕ) (n : ℕ) → n < length xs → text_of (with_name xs x) n ≡ text_of xs n
same_text xs x n lt = go (names.has_name xs x)
  where
    go : (b : Bool) → text_in (slice_get (if b then xs else xs ++ x ∷ []) n) ≡ text_in (slice_get xs n)
    go true = refl
    go false = ap text_in (got_front xs x n lt)

module _ (m : Module) (stubs : List (List ℕ × Stub)) (settings : Settings) (items : List Item) (closed : IsClosed (source_of m stubs settings) items) where
  abbrev pub source : Source
  source = source_of m stubs settings

  abbrev pub meant : Program
  meant = program m stubs

  -- the number of AssertionError in the code
  abbrev pub error : ℕ
  error = number_in m.names error_name

  -- a number that no name of the module has
  abbrev pub no_name : ℕ
  no_name = length m.names

  abbrev pub trail : Trail
  trail = covering source items no_name

  -- ---- names that are read

  module _ (x : Around trail) (place line n : ℕ) (stack : List Value) (mem : Memory) (lt : n < length m.names) (l : OpIn trail x place (op.LoadName n) line) (k : Kept source items x.context x.since place stack mem) where
    abbrev Loaded : Action Value → Type 0
    Loaded action = Holds (account trail) (ValueAt trail x (suc place) stack) (SentOver trail x stack) tt mem action

    sent : (later : Memory) → Stays mem later → Pending source items x.context x.since x.outer stack later
    sent later stays = pending_at source items x.since x.context place line x.outer (op.LoadName n) [] stack mem later l refl k stays

    of_module : thread_of x.context ≡ Rattle.world_rules.specs.declared.seat.Thread.TheVariants.OfModule
    of_module = ap thread_of k.here

    read_bound : has_name source.scopes.bound n ≡ true → readings_at source x.context (length stack) (op.LoadName n) ≡ record { seats = own (seat.Global n) ∷ []; transfer = transfer.Copies } ∷ []
    read_bound b = ap (λ z. if z then global_read (thread_of x.context) n else nothing_read (builtin n (text_of source.program.names n))) b ∙ ap (λ z. global_read z n) of_module

    read_unbound : has_name source.scopes.bound n ≡ false → readings_at source x.context (length stack) (op.LoadName n) ≡ record { seats = []; transfer = builtin n (text_of source.program.names n) } ∷ []
    read_unbound b = ap (λ z. if z then global_read (thread_of x.context) n else nothing_read (builtin n (text_of source.program.names n))) b

    loads_global : has_name source.scopes.bound n ≡ true → (o : Option Value) → entry mem.scope.globals n ≡ o → Loaded (found_or (codes "NameError") o)
    loads_global b None e = (tt, tt, sent (with_new (object.outside (type.class (codes "NameError"))) mem) (stays_new mem (object.outside (type.class (codes "NameError")))))
    loads_global b (Some v) e =
        let y : IsSeated k.shapes mem.heap (global n) v = k.globals n v e in
        let r : SeatReading = record { seats = own (seat.Global n) ∷ []; transfer = transfer.Copies } in
        pushes source items x.since closed x.context place line x.outer (op.LoadName n) stack mem l k (omega arith) stack mem v r (y.shape ∷ []) refl refl refl (omega arith) refl (subst (λ z. Contains z r) (sym (read_bound b)) (first r [])) (y.has, tt) k.slots
        (gave (row_of transfer.Copies (y.shape ∷ [])) (y.shape ∷ []) mem v (yields.Read 0) y.shape (first (yields.Read 0) []) refl y.stands)

    loads_builtin : has_name source.scopes.bound n ≡ false → Loaded (builtin_value (text_at meant n))
    loads_builtin b =
        let text : List ℕ = text_of source.program.names n in
        let rule : Transfer = builtin n text in
        let r : SeatReading = record { seats = []; transfer = rule } in
        subst (λ z. Loaded (builtin_value z)) (same_text m.names error_name n lt)
        (along source items no_name (λ e. ⊥) (λ h e told. absurd told) (λ g later u. Gave (row_of rule []) [] mem later u) (λ g later u. Stays mem later) (ValueAt trail x (suc place) stack) (SentOver trail x stack)
        (λ later u gives. pushes source items x.since closed x.context place line x.outer (op.LoadName n) stack mem l k (omega arith) stack later u r [] refl refl refl (omega arith) refl (subst (λ z. Contains z r) (sym (read_unbound b)) (first r [])) tt k.slots gives)
        (λ later u stays. sent later stays) (builtin_value text) mem (rows_hold.unbound n text mem))

    loads_name : (b : Bool) → is_bound meant n ≡ b → Loaded (if b then found_or (codes "NameError") (entry mem.scope.globals n) else builtin_value (text_at meant n))
    loads_name true b = loads_global b (entry mem.scope.globals n) refl
    loads_name false b = loads_builtin b

    loads_here : Loaded (value_in_frame meant mem.scope n mem.scope.frame)
    loads_here = subst (λ f. Loaded (value_in_frame meant mem.scope n f)) (sym k.frame) (loads_name (is_bound meant n) refl)

  -- ---- `raise` alone

  raises_handled : (x : Around trail) (place line : ℕ) (stack : List Value) (mem : Memory) → OpIn trail x place op.Reraise line → Kept source items x.context x.since place stack mem → (o : Option Value) →
      Holds (account trail) (λ g later flow. ⊥) (SentOver trail x stack) tt mem (handled_or_error {A = Flow} o)
  raises_handled x place line stack mem l k None =
      (tt, tt, pending_at source items x.since x.context place line x.outer op.Reraise [] stack mem (with_new (object.outside (type.class (codes "RuntimeError"))) mem) l refl k (stays_new mem (object.outside (type.class (codes "RuntimeError")))))
  raises_handled x place line stack mem l k (Some v) = pending_at source items x.since x.context place line x.outer op.Reraise [] stack mem mem l refl k (stays_here mem)

  -- ---- which instructions there are

  module _ (only : OnlyOps (IsBuilt no_name) (body_code (in_module error) m.body)) where
    built_at : (c : Context) (place : ℕ) (o : Op) → c ≡ main → slice_get (code_in source c).ops place ≡ Some o → IsBuilt no_name o
    built_at c place o here e = op_in_module (IsBuilt no_name) error m.body place o only tt (subst (λ c. slice_get (code_in source c).ops place ≡ Some o) here e)

    built : {c : Context} {place line : ℕ} {outer : Option Range} {o : Op} → c ≡ main → OpLies (code_in source c) place outer o line → IsBuilt no_name o
    built {c} {place} {line} {outer} {o} here l = built_at c place o here l.op_at

    valid : IsValid (module_code error m.body)
    valid = module_valid error m.body

    inside : (x : Around trail) (place line goal : ℕ) (o : Op) → x.context ≡ main → goal_of o ≡ Some goal → OpIn trail x place o line → goal < length (code_in source x.context).ops
    inside x place line goal o here e l =
        subst (λ c. goal < length (code_in source c).ops) (sym here) (valid.jumps place goal o (subst (λ c. slice_get (code_in source c).ops place ≡ Some o) here l.op_at) e)

    -- the code of a class isn't there
    no_class : (x : Around trail) (place line id n : ℕ) (base : Option ℕ) (ms : Members) (at : ℕ) → x.context ≡ main → LiesIn trail x place (defines_class line (class_def id n base ms at)) → ⊥
    no_class x place line id n base ms at here l =
        let tail : ThenLies (code_in source x.context) x.labels place x.outer (member_values id ms) (one (op.Class id) line ⨾ one (op.StoreName n) line) = then_lies (members_solid id ms) (then_solid (one_solid (op.Class id) line) (one_solid (op.StoreName n) line)) l in
        let defined : ThenLies (code_in source x.context) x.labels (place + (member_values id ms).size) x.outer (one (op.Class id) line) (one (op.StoreName n) line) = then_lies (one_solid (op.Class id) line) (one_solid (op.StoreName n) line) tail.second in
        built here (op_lies defined.first)

    pub steps : Follows trail meant
    steps =
        record {
          always = λ x place stack g mem k. tt;
          sinks = λ x stack u v g mem q. pending_under source items x.since x.context x.outer u stack mem q;
          raises_any = λ x place line o stack g mem name l may k.
              (tt, tt, pending_at source items x.since x.context place line x.outer o [] stack mem (with_new (object.outside (type.class name)) mem) l may k (stays_new mem (object.outside (type.class name))));
          constant = λ x a place line stack g mem l k. constant_kept source items no_name closed x a place line stack mem l k;
          pops = λ x v place line stack g mem l k. pop_kept source items no_name closed x place line stack v mem l k;
          picks = λ x place line below stack v g mem l e k. copy_kept source items no_name closed x place line below stack v mem l e k;
          jumps = λ x place line goal stack g mem l k. jump_kept source items no_name closed x place line goal stack mem (inside x place line goal (op.Jump goal) k.here refl l) l k;
          leaves_if_false = λ x place line goal v stack g mem l k. false_leaves source items no_name closed x place line goal stack mem (inside x place line goal (op.JumpIfFalse goal) k.here refl l) v l k;
          leaves_if_true = λ x place line goal v stack g mem l k. true_leaves source items no_name closed x place line goal stack mem (inside x place line goal (op.JumpIfTrue goal) k.here refl l) v l k;
          keeps_if_false = λ x place line goal v stack g mem l k. false_keeps source items no_name closed x place line goal stack mem (inside x place line goal (op.JumpIfFalseKeep goal) k.here refl l) v l k;
          keeps_if_true = λ x place line goal v stack g mem l k. true_keeps source items no_name closed x place line goal stack mem (inside x place line goal (op.JumpIfTrueKeep goal) k.here refl l) v l k;
          inverts = λ x v. not_kept source items no_name closed x v;
          next = λ x place line goal v stack g mem l k. absurd (built k.here l);
          loads = λ x n place line stack g mem l k. loads_here x place line n stack mem (built k.here l) l k;
          stores = λ x place line n v stack g mem l k. stores_name source items x.since meant closed x.context place line n x.outer v stack mem l k;
          forgets = λ x place line n stack g mem l k. forgets_name source items x.since meant closed x.context place line n x.outer stack mem l k;
          still_at = λ x place n stack g mem k. kept_unbound source items x.since meant x.context place n stack mem k;
          still_sent = λ x n stack v g mem q. pending_unbound source items x.since meant x.context x.outer n stack mem q;
          still_returned = λ x n v g mem r. r;
          does_unary = λ x o v. unary_kept source items no_name closed x o v;
          does_binary = λ x o site v w. binary_kept source items no_name closed x meant o site v w;
          does_in_place = λ x o site v w. in_place_kept source items no_name closed x meant o site v w;
          compares = λ x o v w. compare_kept source items no_name closed x o v w;
          reads_attribute = λ x n v place line stack g mem l k. absurd (built k.here l);
          reads_super = λ x n place line stack g mem l k. absurd (built k.here l);
          stores_attribute = λ x n v w place line stack g mem l k. absurd (built k.here l);
          reads_item = λ x v i place line stack g mem l k. absurd (built k.here l);
          stores_item = λ x v i w place line stack g mem l k. absurd (built k.here l);
          reads_slice = λ x site v low high step place line stack g mem l k. absurd (built k.here l);
          unpacks = λ x place line part count got v stack g mem e l k. absurd (built k.here l);
          makes_tuple = λ x place line site vs stack g mem l k. absurd (built k.here l);
          makes_list = λ x place line site vs stack g mem l k. absurd (built k.here l);
          makes_dict = λ x place line site qs stack g mem l k. absurd (built k.here l);
          makes_function = λ x id place line stack g mem l k. absurd (built k.here l);
          makes_class = λ x place line id n base ms at stack g mem l k. absurd (no_class x place line id n base ms at k.here l);
          functions_in_module = λ x place line id l. refl;
          classes_in_module = λ x place line id l. refl;
          calls = λ x place line site xs given f stack g mem e l k. absurd (built k.here l);
          returns = λ x place v stack g mem e k. absurd (built_at x.context place op.Return k.here e);
          makes_raised = λ x site v place line stack g mem l k. absurd (built k.here l);
          raises = λ x v place line stack g mem l k. absurd (built k.here l);
          raises_again = λ x place line stack g mem l k.
              holds_may_raise (account trail) (λ g later flow. ⊥) (SentOver trail x stack) (looks (λ z. handled_or_error {A = Flow} z.scope.handled)) tt mem tt
              (λ name. (tt, tt, pending_at source items x.since x.context place line x.outer op.Reraise [] stack mem (with_new (object.outside (type.class name)) mem) l refl k (stays_new mem (object.outside (type.class name)))))
              (raises_handled x place line stack mem l k mem.scope.handled);
          lets_go = λ x place line v stack g mem l up k. pending_at source items x.since x.context place line x.outer op.Reraise [] stack mem mem l refl k (stays_here mem);
          catches = λ x range line stack v g mem e l q. absurd (built q.kept.here l);
          matches_class = λ x place line other goal c v stack g mem l jump k. absurd (built k.here l);
          loads_error = λ x place line stack g mem l k. let below : no_name < no_name = built k.here l in absurd (omega (arith, below));
          imports = λ x path place line stack g mem l k. absurd (built k.here l);
          imports_from = λ x path n place line stack g mem l k. absurd (built k.here l);
          stores_nothing = λ x before place line other v stack g mem i l k. absurd (built k.here i);
        }
