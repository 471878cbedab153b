-- Names of the module: what is stored, and what is unbound.
use Rattle.std.proofs.Common.{◌≡◌, ◌==◌, ℕ, suc, Option, Some, None, List, [], ◌∷◌, length, refl, sym, ap, subst, ◌∙◌, arith, false}
use Rattle.std.specs.List.{Contains}
use Rattle.graph_walks.specs.Walks.{Walk, unasked}
use Rattle.graph_walks.proofs.Lists.{first}
use Rattle.stack_code.specs.declared.code.Range.{Range}
use Rattle.stack_code.specs.declared.op.Op.{Op}
use Rattle.stack_code.specs.declared.op.Op.TheVariants as op
use Rattle.stack_code.specs.Effects.{depth_after}
use Rattle.abstract_shapes.specs.Shapes.{Shape}
use Rattle.tree_code.specs.Standing.{OpLies}
use Rattle.world_rules.specs.declared.row.Yield.TheVariants as yields
use Rattle.world_rules.specs.declared.transfer.SeatReading.{SeatReading}
use Rattle.world_rules.specs.declared.transfer.Transfer.TheVariants as transfer
use Rattle.world_rules.specs.Places.{Context, main, global, at}
use Rattle.world_rules.specs.Sources.{Source}
use Rattle.world_rules.specs.Items.{Item, world_of}
use Rattle.world_rules.specs.Readings.{slot_below}
use Rattle.world_rules.specs.Rules.{HasPlace, Stands as OpStands, it, IsClosed}
use Rattle.world_rules.specs.Memories.{updated}
use Rattle.world_rules.proofs.Extending.{assigns_on, passes_on}
use Rattle.py_meaning.specs.Values.{Value, with_entry, without_entry}
use Rattle.py_meaning.specs.Programs.{Program}
use Rattle.py_meaning.specs.Names.{with_globals, changed_in_frame, bound, unbound}
use Rattle.py_meaning.specs.Actions.{Memory, Scope, with_scope}
use Rattle.world_covering.specs.Standing.{Stands}
use Rattle.world_covering.specs.Keeping.{code_in, IsSeated, Kept, Pending, IsWithin, itself, owner_of, Entry}
use Rattle.world_covering.proofs.Seats.{at_new, seats_beside, seats_without, without, kept_without, beside_without, Stored, new, old, stored, left, left_beside}
use Rattle.world_covering.proofs.Steps.{others_updated, op_stands, target_is, next_place}

bound_here : (p : Program) (n : ℕ) (v : Value) (c : Scope) → c.frame ≡ None → bound p n v c ≡ with_globals (λ es. with_entry es n v) c
bound_here p n v c e = ap (λ f. changed_in_frame p n (λ es. with_entry es n v) f c) e

unbound_here : (p : Program) (n : ℕ) (c : Scope) → c.frame ≡ None → unbound p n c ≡ with_globals (λ es. without_entry es n) c
unbound_here p n c e = ap (λ f. changed_in_frame p n (λ es. without_entry es n) f c) e

module _ (s : Source) (items : List Item) (entered : Entry) (p : Program) where
  -- a walk that is kept goes on to be, where a name is unbound
  pub kept_unbound : (c : Context) (place n : ℕ) (stack : List Value) (m : Memory) → Kept s items c entered place stack m → Kept s items c entered place stack (with_scope (unbound p n m.scope) m)
  kept_unbound c place n stack m k =
      subst (λ z. Kept s items c entered place stack (with_scope z m)) (sym (unbound_here p n m.scope k.frame)) (record {
        here = k.here;
        context = k.context;
        shapes = k.shapes;
        walk = k.walk;
        point = k.point;
        slots = k.slots;
        globals = λ i u e. k.globals i u (left m.scope.globals n i u e);
        leaves = record { others = k.leaves.others; globals = λ apart. absurd (apart k.here); heap = k.leaves.heap };
        frame = k.frame;
      })

  pub pending_unbound : (c : Context) (outer : Option Range) (n : ℕ) (stack : List Value) (m : Memory) → Pending s items c entered outer stack m → Pending s items c entered outer stack (with_scope (unbound p n m.scope) m)
  pending_unbound c outer n stack m q =
      record { place = q.place; above = q.above; op = q.op; kept = kept_unbound c q.place n _ m q.kept; stands = q.stands; may = q.may; goes_to = q.goes_to }

  -- the value on the top goes into a name
  pub stores_name : IsClosed s items → (c : Context) (place line n : ℕ) (outer : Option Range) (v : Value) (stack : List Value) (m : Memory) → OpLies (code_in s c) place outer (op.StoreName n) line → Kept s items c entered place (v ∷ stack) m →
      Kept s items c entered (suc place) stack (with_scope (bound p n v m.scope) m)
  stores_name closed c place line n outer v stack m l k =
      let depth : ℕ = suc (length stack) in
      let o : Op = op.StoreName n in
      let st : OpStands s c place depth o = op_stands s items c place depth line outer o k.point l in
      let e : depth_after o depth ≡ length stack = omega arith in
      let next : HasPlace s c (suc place) (depth_after o depth) = next_place s items c place depth line outer o k.point l (omega arith) refl in
      let r : SeatReading = record { seats = slot_below depth 0 ∷ []; transfer = transfer.Stores n } in
      let t : Shape = k.slots.0.shape in
      subst (λ z. Kept s items c entered (suc place) stack (with_scope z m)) (sym (bound_here p n v m.scope k.frame)) (record {
        here = k.here;
        context = k.context;
        shapes = updated k.shapes (global n) t;
        walk = subst (λ d. Walk (world_of s items) (at c (suc place) d) (updated k.shapes (global n) t)) e
            (assigns_on s items closed c place depth o k.shapes k.context st k.walk refl refl next unasked r (t ∷ []) (first r []) refl (k.slots.0.has, tt) (yields.Read 0) t (first (yields.Read 0) []) (it refl) (global n) (target_is s items c place depth o st));
        point = subst (λ d. HasPlace s c (suc place) d) e next;
        slots = seats_beside c k.shapes n t m.heap stack k.slots.1;
        globals = λ i u y. seat i u (stored m.scope.globals n i v u y);
        leaves = record { others = others_updated c entered k.shapes (global n) t (subst (λ z. IsWithin z main) (sym k.here) itself) k.leaves.others; globals = λ apart. absurd (apart k.here); heap = k.leaves.heap };
        frame = k.frame;
      })
    where
      seat : (i : ℕ) (u : Value) → Stored m.scope.globals n v i u → IsSeated (updated k.shapes (global n) k.slots.0.shape) m.heap (global i) u
      seat i u (new a b) =
          record { shape = k.slots.0.shape; has = ap (λ z. updated k.shapes (global n) k.slots.0.shape (global z)) a ∙ at_new k.shapes (global n) k.slots.0.shape; stands = subst (λ z. Stands m.heap z k.slots.0.shape) b k.slots.0.stands }
      seat i u (old a b) =
          let y : IsSeated k.shapes m.heap (global i) u = k.globals i u b in
          record { shape = y.shape; has = ap (λ z. Rattle.std.specs.Prelude.cond z (Some k.slots.0.shape) (k.shapes (global i))) a ∙ y.has; stands = y.stands }

  -- a name is forgotten
  pub forgets_name : IsClosed s items → (c : Context) (place line n : ℕ) (outer : Option Range) (stack : List Value) (m : Memory) → OpLies (code_in s c) place outer (op.ForgetName n) line → Kept s items c entered place stack m →
      Kept s items c entered (suc place) stack (with_scope (unbound p n m.scope) m)
  forgets_name closed c place line n outer stack m l k =
      let depth : ℕ = length stack in
      let o : Op = op.ForgetName n in
      let st : OpStands s c place depth o = op_stands s items c place depth line outer o k.point l in
      let e : depth_after o depth ≡ length stack = omega arith in
      let next : HasPlace s c (suc place) (depth_after o depth) = next_place s items c place depth line outer o k.point l (omega arith) refl in
      subst (λ z. Kept s items c entered (suc place) stack (with_scope z m)) (sym (unbound_here p n m.scope k.frame)) (record {
        here = k.here;
        context = k.context;
        shapes = without k.shapes n;
        walk = subst (λ d. Walk (world_of s items) (at c (suc place) d) (without k.shapes n)) e
            (passes_on s items closed c place depth o k.shapes (without k.shapes n) k.context st k.walk refl refl next unasked (λ x t h. let w = kept_without k.shapes n x t h in (λ z. w.0 (sym (target_is s items c place depth o st) ∙ z), w.1)));
        point = subst (λ d. HasPlace s c (suc place) d) e next;
        slots = seats_without c k.shapes n m.heap stack k.slots;
        globals = λ i u h. seat i u (left_beside m.scope.globals n i u h) (k.globals i u (left m.scope.globals n i u h));
        leaves = record { others = λ x apart. beside_without k.shapes n x (λ z. apart (subst (λ y. IsWithin c (owner_of y)) z (subst (λ y. IsWithin y main) (sym k.here) itself))) ∙ k.leaves.others x apart; globals = λ apart. absurd (apart k.here); heap = k.leaves.heap };
        frame = k.frame;
      })
    where
      seat : (i : ℕ) (u : Value) → (n == i) ≡ false → IsSeated k.shapes m.heap (global i) u → IsSeated (without k.shapes n) m.heap (global i) u
      seat i u q y = record { shape = y.shape; has = ap (λ b. Rattle.std.specs.Prelude.cond b None (k.shapes (global i))) q ∙ y.has; stands = y.stands }
