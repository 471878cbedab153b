-- A run of a module of the covered forms, turn by turn, to its end: each event is told rightly.
use Rattle.std.proofs.Common.{◌≡◌, ℕ, Bool, true, false, ◌&&◌, is_some, Some, None, List, [], ◌∷◌, length, slice_get, inl, refl, sym, subst, arith}
use Rattle.std.specs.Prelude.{IsTrue}
use Rattle.std.specs.List.{Contains, All}
use Rattle.py_tree.specs.Tree.{Module}
use Rattle.type_terms.specs.Stubs.{Stub}
use Rattle.scope_rules.specs.Jumps.{jumps}
use Rattle.graph_walks.specs.Worlds.{nothing}
use Rattle.graph_walks.proofs.Lists.{empty}
use Rattle.graph_walks.specs.Walks.{start as begin_walk, Visible}
use Rattle.stack_code.specs.declared.op.Op.{Op}
use Rattle.stack_code.specs.declared.op.Op.TheVariants as op
use Rattle.stack_code.specs.Depths.{HasDepth, begins}
use Rattle.tree_code.specs.Programs.{no_loop, in_module, module_code}
use Rattle.tree_code.specs.Pieces.{Piece}
use Rattle.tree_code.specs.Standing.{Lies}
use Rattle.tree_code.specs.Statements.{body_code}
use Rattle.tree_code.proofs.Bodies.{module_lies, module_ends}
use Rattle.world_rules.specs.Places.{main, global, at, op_at}
use Rattle.world_rules.specs.Items.{Item, a_context, has_context, is_root, world_of}
use Rattle.world_rules.specs.Rules.{of_module, IsClosed}
use Rattle.world_rules.proofs.Extending.{within}
use Rattle.world_rules.proofs.Members.{item_context}
use Rattle.py_meaning.specs.Values.{Value, entry}
use Rattle.py_meaning.specs.Programs.{Program}
use Rattle.py_meaning.specs.Actions.{Memory}
use Rattle.py_meaning.specs.Runs.{no_memory, Answer, gave, raised, stopped, run_of, answer}
use Rattle.py_meaning.specs.Holds.{HoldsAfter}
use Rattle.tree_covering.specs.Leaving.{MayStand}
use Rattle.tree_covering.specs.Trails.{Trail, Around, LiesIn, DoneAt, SentOver}
use Rattle.tree_covering.specs.Turns.{account}
use Rattle.tree_covering.specs.Modules.{Whole}
use Rattle.tree_covering.proofs.OnlyOps.{OnlyOps}
use Rattle.tree_covering.proofs.Running.{answers_go}
use Rattle.world_covering.specs.Forms.{IsPlainBody}
use Rattle.world_covering.specs.Modules.{Settings, source_of}
use Rattle.world_covering.specs.Keeping.{IsSeated, Entry, Kept}
use Rattle.world_covering.specs.Covering.{IsEnding}
use Rattle.world_covering.proofs.Built.{IsBuilt, same_body}
use Rattle.world_covering.proofs.Following as following
use Rattle.world_covering.proofs.Following.{steps}
use Rattle.world_covering.proofs.Growing.{grows_self}
use Rattle.world_covering.proofs.Trails.{IsTold, lasts}

both : (a b : Bool) → a ≡ true → b ≡ true → IsTrue (a && b)
both a b h k = rw h k

some_first : (xs : List Op) (k : ℕ) (o : Op) → slice_get xs k ≡ Some o → is_some (slice_get xs 0) ≡ true
some_first [] k o e = cc
some_first (x ∷ xs) k o e = refl

module _ (m : Module) (stubs : List (List ℕ × Stub)) (settings : Settings) (items : List Item) (closed : IsClosed (source_of m stubs settings) items) (only : OnlyOps (IsBuilt (length m.names)) (body_code (in_module (following.error m stubs settings items closed)) m.body))
    (plain : IsPlainBody m.body) (leaves : MayStand false (jumps false m.body)) where
  abbrev trail : Trail
  trail = following.trail m stubs settings items closed

  abbrev meant : Program
  meant = following.meant m stubs settings items closed

  abbrev error_number : ℕ
  error_number = following.error m stubs settings items closed

  -- the module begins with nothing
  abbrev at_start : Entry
  at_start = record { heap = []; globals = []; shapes = nothing }

  abbrev top : Around trail
  top = record { context = main; since = at_start; labels = no_loop; outer = None }

  abbrev piece : Piece
  piece = body_code (in_module (length m.names)) m.body

  same_piece : body_code (in_module error_number) m.body ≡ piece
  same_piece = same_body error_number (length m.names) m.body plain

  lies : LiesIn trail top 0 piece
  lies = subst (λ z. Lies (module_code error_number m.body) no_loop 0 None z) same_piece (module_lies error_number m.body)

  at_end : slice_get (module_code error_number m.body).ops piece.size ≡ Some op.End
  at_end = subst (λ z. slice_get (module_code error_number m.body).ops z.size ≡ Some op.End) same_piece (module_ends error_number m.body).0.0

  -- ---- where the run begins

  main_there : Contains items (a_context main)
  main_there = closed.has _ of_module

  begun : Kept (following.source m stubs settings items closed) items main at_start 0 [] no_memory
  begun =
      record {
        here = refl;
        context = main_there;
        shapes = nothing;
        walk = begin_walk (both (is_some (op_at (following.source m stubs settings items closed).program main 0)) (has_context items main) (some_first (module_code error_number m.body).ops piece.size op.End at_end) (item_context items main main_there));
        point = record { code = module_code error_number m.body; of = refl; has_depth = begins (omega (arith, lies.fits)) };
        slots = tt;
        globals = λ n v e. cc;
        leaves = record { others = λ x apart. refl; globals = λ apart. refl; heap = grows_self [] };
        frame = refl;
      }

  -- ---- what a name holds at the end

  abbrev Ended : Unit {0} → Memory → Unit {0} → Type 0
  Ended = DoneAt trail top piece.size []

  abbrev Left : Unit {0} → Memory → Value → Type 0
  Left = SentOver trail top []

  ending : (n : ℕ) (v : Value) (mem : Memory) → Kept (following.source m stubs settings items closed) items main at_start piece.size [] mem → entry mem.scope.globals n ≡ Some v → IsEnding (following.source m stubs settings items closed) items mem.heap n v
  ending n v mem k e =
      let y : IsSeated k.shapes mem.heap (global n) v = k.globals n v e in
      let seen : Visible (world_of (following.source m stubs settings items closed) items) (at main piece.size 0) (Rattle.world_rules.specs.Items.map_of (global n ∷ []) (y.shape ∷ [])) =
      record { memory = k.shapes; walk = k.walk; holds = record { at = within k.shapes (global n ∷ []) (y.shape ∷ []) (y.has, tt) } } in
      record {
        shape = y.shape;
        ends = record {
          place = piece.size;
          depth = 0;
          context = main_there;
          stands = record { code = module_code error_number m.body; of = refl; op = at_end; has_depth = begun_depth k };
          seen = inl seen;
        };
        stands = y.stands;
      }
    where
      begun_depth : Kept (following.source m stubs settings items closed) items main at_start piece.size [] mem → HasDepth (module_code error_number m.body) piece.size 0
      begun_depth k = let same : k.point.code ≡ module_code error_number m.body = Rattle.world_covering.proofs.Seats.some_same (sym k.point.of) in subst (λ z. HasDepth z piece.size 0) same k.point.has_depth

  abbrev whole : Whole trail meant []
  whole =
      record {
        top = top;
        lies = lies;
        leaves = leaves;
        first = tt;
        begins = begun;
        told = λ n v g mem k e. ending n v mem k e;
        outside = λ c g mem inside k. absurd (empty c inside);
      }

  -- ---- the run, whose turns are those of loops

  answer_goes : (n : ℕ) (choices : List ℕ) → HoldsAfter (account trail) Ended Left (answer m stubs n choices [])
  answer_goes n choices =
      answers_go trail m stubs [] (steps m stubs settings items closed only) whole (lasts (following.source m stubs settings items closed) items (length m.names)) (λ q way g mem always asked. absurd way) n choices

  each_told : (a : Answer (Unit {0})) → HoldsAfter (account trail) Ended Left a → All (IsTold (following.source m stubs settings items closed) items (length m.names) (run_of a).heap) (run_of a).events
  each_told (gave u z) h = h.1
  each_told (raised v z) h = h.1
  each_told (stopped why z) h = h.1

  pub run_told : (n : ℕ) (choices : List ℕ) → All (IsTold (following.source m stubs settings items closed) items (length m.names) (run_of (answer m stubs n choices [])).heap) (run_of (answer m stubs n choices [])).events
  run_told n choices = each_told (answer m stubs n choices []) (answer_goes n choices)
