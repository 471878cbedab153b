-- The items of `x = 1`, one after another.
use Rattle.std.proofs.Common.{◌≡◌, ℕ, Bool, true, false, cond, Some, None, List, [], ◌∷◌, ◌⊎◌, inl, inr, refl, sym, ap, subst, arith}
use Rattle.std.specs.List.{Contains}
use Rattle.graph_walks.specs.Worlds.{Memory, nothing, Edge, Fact}
use Rattle.graph_walks.specs.Walks.{unasked, Comes, made, start, step}
use Rattle.graph_walks.proofs.Lists.{empty, first, later, first_or_later}
use Rattle.stack_code.specs.declared.op.Op.TheVariants as op
use Rattle.stack_code.specs.declared.op.ConstKind.TheVariants as const
use Rattle.stack_code.specs.Depths.{HasDepth, begins, given, goes_on}
use Rattle.abstract_shapes.specs.Shapes.{Shape, int}
use Rattle.world_rules.specs.declared.row.Yield.TheVariants as yields
use Rattle.world_rules.specs.Places.{main, Variable, slot, Point, at, same_variable}
use Rattle.world_rules.specs.Items.{Item, a_context, an_edge, a_fact, map_of, world_of}
use Rattle.world_rules.specs.Rules.{HasPlace, Stands, on, fall_edge, IsSeen, it, result, of_module, leads, of_point, IsDerived, derived}
use Rattle.world_rules.specs.Samples.{one_line, stored_int}
use Rattle.world_rules.proofs.Same.{variable_equal}

none_there : (j : Item) → Contains [] j → IsDerived one_line j
none_there j c = empty j c

more_there : (i : Item) (items : List Item) → IsDerived one_line i → ((j : Item) → Contains items j → IsDerived one_line j) → (j : Item) → Contains (i ∷ items) j → IsDerived one_line j
more_there i items d from j c = go (first_or_later i j items c)
  where
    go : (j ≡ i) ⊎ Contains items j → IsDerived one_line j
    go (inl e) = subst (λ z. IsDerived one_line z) (sym e) d
    go (inr k) = from j k

depth_0 : HasDepth one_line.program.body 0 0
depth_0 = begins (omega arith)

depth_1 : HasDepth one_line.program.body 1 1
depth_1 = given depth_0 refl (goes_on (omega arith) refl) (omega arith)

stands_0 : Stands one_line main 0 0 (op.Const const.Int)
stands_0 = record { code = one_line.program.body; of = refl; op = refl; has_depth = depth_0 }

stands_1 : Stands one_line main 1 1 (op.StoreName 0)
stands_1 = record { code = one_line.program.body; of = refl; op = refl; has_depth = depth_1 }

place_1 : HasPlace one_line main 1 1
place_1 = record { code = one_line.program.body; of = refl; has_depth = depth_1 }

abbrev the_context : Item
the_context = a_context main

abbrev the_edge : Edge Point Variable Shape
the_edge = fall_edge main 0 0 (op.Const const.Int)

abbrev the_fact : Fact Point Variable Shape
the_fact = record { point = at main 0 0; shape = int; source = map_of [] [] }

context_derived : IsDerived one_line the_context
context_derived = derived [] none_there of_module

from_context : (j : Item) → Contains (the_context ∷ []) j → IsDerived one_line j
from_context = more_there the_context [] context_derived none_there

edge_derived : IsDerived one_line (an_edge the_edge)
edge_derived = derived (the_context ∷ []) from_context (leads (first the_context []) stands_0 (on refl refl) place_1)

start_seen : IsSeen one_line (the_context ∷ []) (at main 0 0) (map_of [] [])
start_seen = inl (record { memory = nothing; walk = start refl; holds = record { at = λ v t h. cc } })

fact_derived : IsDerived one_line (a_fact the_fact)
fact_derived =
    derived (the_context ∷ []) from_context (of_point (result [] yields.Int (record {
      context = first the_context [];
      op = op.Const const.Int;
      stands = stands_0;
      is_reading = first _ [];
      asked = refl;
      agree = tt;
      seen = start_seen;
    }) (first _ []) (it refl)))

abbrev three : List Item
three = a_fact the_fact ∷ an_edge the_edge ∷ the_context ∷ []

from_three : (j : Item) → Contains three j → IsDerived one_line j
from_three = more_there (a_fact the_fact) (an_edge the_edge ∷ the_context ∷ []) fact_derived (more_there (an_edge the_edge) (the_context ∷ []) edge_derived from_context)

abbrev held : Memory Variable Shape
held = map_of (slot main 0 ∷ []) (int ∷ [])

comes : (v : Variable) (t : Shape) → held v ≡ Some t → Comes (world_of one_line three) the_edge nothing v t
comes v t h = go (same_variable (slot main 0) v) refl h
  where
    go : (b : Bool) → same_variable (slot main 0) v ≡ b → cond b (Some int) None ≡ Some t → Comes (world_of one_line three) the_edge nothing v t
    go false e h = cc
    go true e h =
        let i : slot main 0 ≡ v = variable_equal (slot main 0) v e in
        let j : int ≡ t = cc in
        made (ap Some i) (map_of [] []) (subst (λ x. Contains (the_fact ∷ []) (record { point = at main 0 0; shape = x; source = map_of [] [] })) j (first the_fact [])) (record { at = λ x u k. cc })

seen_1 : IsSeen one_line three (at main 1 1) held
seen_1 = inl (record { memory = held; walk = step the_edge (start refl) (record { edge = first the_edge []; answers = unasked; comes = comes }); holds = record { at = λ v t h. h } })

pub stored_derived : IsDerived one_line stored_int
stored_derived =
    derived three from_three (of_point (result (int ∷ []) (yields.Read 0) (record {
      context = later (a_fact the_fact) the_context (an_edge the_edge ∷ the_context ∷ []) (later (an_edge the_edge) the_context (the_context ∷ []) (first the_context []));
      op = op.StoreName 0;
      stands = stands_1;
      is_reading = first _ [];
      asked = refl;
      agree = (refl, tt);
      seen = seen_1;
    }) (first _ []) (it refl)))
