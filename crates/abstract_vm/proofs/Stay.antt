-- Where numbers stay, what they stand for stays.
use Rattle.std.proofs.Common.{◌≡◌, ℕ, ◌<◌, ◌≤◌, Some, List, [], get_or, length, map, slice_get, refl, sym, ap, subst, ◌∙◌, arith}
use Rattle.std.specs.Option.{unwrap_or}
use Rattle.std.specs.List.{All, Contains}
use Rattle.std.proofs.lemmas.List.Elements.{All-contains}
use Rattle.typegraph.specs.declared.goals.Binding.{Binding}
use Rattle.typegraph.specs.Validity.{IsBindingThere}
use Rattle.abstract_shapes.specs.Numbering.{structures}
use Rattle.abstract_shapes.specs.Shapes.{Shape, any}
use Rattle.world_rules.specs.Places.{Context, Variable, Point, main, at, global}
use Rattle.world_rules.specs.Sources.{Source}
use Rattle.world_rules.specs.Items.{a_fact, map_of}
use Rattle.world_tables.specs.Tables.{Tables, the_shape, the_variable, memory_at, AreBindings, IsNumbering}
use Rattle.world_tables.specs.Rows.{contexts_from, contexts_of, point_of, variable_of, tables_of}
use Rattle.world_tables.proofs.Items.{there}
use Rattle.world_tables.proofs.Stays.{same_map}
use Rattle.world_tables.proofs.There.{count_vars, count_shapes}
use Rattle.abstract_vm.specs.Worlds.{WorldState, point_in}
use Rattle.abstract_vm.specs.Steps.{NumbersStay, shapes_in, fact_in, entry_in}

pub stay_itself : (w : WorldState) → NumbersStay w w
stay_itself w = record { flow = refl; finished = refl; points = refl; variables = refl; shapes = λ id x h. h; facts = λ q f c. c; truths = omega arith; budget = refl; library = refl }

pub stay_same : (v w : WorldState) → w ≡ v → NumbersStay v w
stay_same v w e = subst (NumbersStay v) (sym e) (stay_itself v)

pub stay_on : (u v w : WorldState) → NumbersStay u v → NumbersStay v w → NumbersStay u w
stay_on u v w a b =
    let l : length u.rows.graph.truths ≤ length v.rows.graph.truths = a.truths in
    let m : length v.rows.graph.truths ≤ length w.rows.graph.truths = b.truths in
    record {
      flow = b.flow ∙ a.flow;
      finished = b.finished ∙ a.finished;
      points = b.points ∙ a.points;
      variables = b.variables ∙ a.variables;
      shapes = λ id x h. b.shapes id x (a.shapes id x h);
      facts = λ q f c. b.facts q f (a.facts q f c);
      truths = omega (arith, l, m);
      budget = b.budget ∙ a.budget;
      library = b.library ∙ a.library;
    }

module _ (old new : WorldState) (n : NumbersStay old new) where
  pub contexts_stay : contexts_of new.rows ≡ contexts_of old.rows
  contexts_stay = λ i. contexts_from [] (n.points i) ((n.flow i).contexts)

  pub points_stay : (tables_of new.rows).points ≡ (tables_of old.rows).points
  points_stay = λ i. map (point_of (contexts_stay i)) (n.points i)

  pub variables_stay : (tables_of new.rows).variables ≡ (tables_of old.rows).variables
  variables_stay = λ i. map (variable_of (contexts_stay i)) (n.variables i)

  pub point_stays : (id : ℕ) → point_in new id ≡ point_in old id
  point_stays id = ap (λ ps. unwrap_or (slice_get ps id) (at main 0 0)) points_stay

  variable_stays : (id : ℕ) → the_variable (tables_of new.rows) id ≡ the_variable (tables_of old.rows) id
  variable_stays id = ap (λ xs. unwrap_or (slice_get xs id) (global 0)) variables_stay

  module _ (s : Source) (numbered : IsNumbering s (tables_of old.rows)) where
    pub shape_stays : (id : ℕ) → id < length old.rows.graph.truths → the_shape (tables_of new.rows) id ≡ the_shape (tables_of old.rows) id
    shape_stays id h =
        let at_old : slice_get (structures old.rows.shapes) id ≡ Some (the_shape (tables_of old.rows) id) = there (structures old.rows.shapes) id any (count_shapes s (tables_of old.rows) numbered id h) in
        ap (λ o. unwrap_or o any) (n.shapes id _ at_old)

    pub choice_stays : (ids : List ℕ) → All (λ id. id < length old.rows.graph.truths) ids → shapes_in new ids ≡ shapes_in old ids
    choice_stays ids h = same_map (the_shape (tables_of new.rows)) (the_shape (tables_of old.rows)) ids (λ id c. shape_stays id (All-contains (λ id. id < length old.rows.graph.truths) ids id h c))

    pub memory_stays : (goals : List Binding) → All (IsBindingThere old.rows.graph.flow.vars (length old.rows.graph.truths)) goals → memory_at (tables_of new.rows) goals ≡ memory_at (tables_of old.rows) goals
    memory_stays goals h =
        let e : map (λ b. the_variable (tables_of new.rows) b.var) goals ≡ map (λ b. the_variable (tables_of old.rows) b.var) goals =
        same_map (λ b. the_variable (tables_of new.rows) b.var) (λ b. the_variable (tables_of old.rows) b.var) goals (λ b c. variable_stays b.var) in
        let f : map (λ b. the_shape (tables_of new.rows) b.shape) goals ≡ map (λ b. the_shape (tables_of old.rows) b.shape) goals =
        same_map (λ b. the_shape (tables_of new.rows) b.shape) (λ b. the_shape (tables_of old.rows) b.shape) goals
        (λ b c. shape_stays b.shape (All-contains (IsBindingThere old.rows.graph.flow.vars (length old.rows.graph.truths)) goals b h c).shape) in
        λ i. map_of (e i) (f i)

    pub fact_stays : (point shape : ℕ) (goals : List Binding) → shape < length old.rows.graph.truths → All (IsBindingThere old.rows.graph.flow.vars (length old.rows.graph.truths)) goals → fact_in new point shape goals ≡ fact_in old point shape goals
    fact_stays point shape goals h k =
        let p : point_in new point ≡ point_in old point = point_stays point in
        let x : the_shape (tables_of new.rows) shape ≡ the_shape (tables_of old.rows) shape = shape_stays shape h in
        let m : memory_at (tables_of new.rows) goals ≡ memory_at (tables_of old.rows) goals = memory_stays goals k in
        λ i. a_fact (record { point = p i; shape = x i; source = m i })

    pub bindings_there : (goals : List Binding) → All (IsBindingThere old.rows.graph.flow.vars (length old.rows.graph.truths)) goals → AreBindings (tables_of old.rows) goals
    bindings_there goals h b c =
        let x : IsBindingThere old.rows.graph.flow.vars (length old.rows.graph.truths) b = All-contains (IsBindingThere old.rows.graph.flow.vars (length old.rows.graph.truths)) goals b h c in
        record { var = count_vars s (tables_of old.rows) numbered b.var x.var; shape = count_shapes s (tables_of old.rows) numbered b.shape x.shape }

  -- what was there by its number is there
  pub choice_there : (ids : List ℕ) → All (λ id. id < length old.rows.graph.truths) ids → All (λ id. id < length new.rows.graph.truths) ids
  choice_there ids h k d l = let x : get_or ids k d < length old.rows.graph.truths = h k d l in let m : length old.rows.graph.truths ≤ length new.rows.graph.truths = n.truths in omega (arith, x, m)

  pub goals_there : (goals : List Binding) → All (IsBindingThere old.rows.graph.flow.vars (length old.rows.graph.truths)) goals → All (IsBindingThere new.rows.graph.flow.vars (length new.rows.graph.truths)) goals
  goals_there goals h k d l =
      let x : IsBindingThere old.rows.graph.flow.vars (length old.rows.graph.truths) (get_or goals k d) = h k d l in
      let m : length old.rows.graph.truths ≤ length new.rows.graph.truths = n.truths in
      record { var = subst (λ f. (get_or goals k d).var < f.vars) (sym n.flow) x.var; shape = omega (arith, x.shape, m) }
