-- A choice by numbers is a map that gives variables their shapes, and each such map whose pairs facts give is a choice.
use Rattle.std.proofs.Common.{◌≡◌, ℕ, ◌<◌, Some, None, option_map, List, [], ◌∷◌, map, length, slice_get, inl, inr, refl, sym, ap, subst, ◌∙◌}
use Rattle.std.specs.Option.{unwrap_or}
use Rattle.std.specs.List.{Contains}
use Rattle.graph_walks.specs.Worlds.{Memory, FactGives, AllGiven}
use Rattle.graph_walks.proofs.Lists as lists
use Rattle.graph_walks.proofs.Lists.{empty, first, later, first_or_later, stands}
use Rattle.typegraph.specs.declared.goals.Binding.{Binding}
use Rattle.typegraph.specs.Clashes.{IsConsistent}
use Rattle.typegraph.specs.Graphs.{IsGiven}
use Rattle.typegraph.specs.Maps.{IsJoined, HasTwoShapes}
use Rattle.typegraph.proofs.Agree.{rising_once}
use Rattle.typegraph.proofs.Joins.{only_list, two_shapes}
use Rattle.typegraph.proofs.Looks.{look_once}
use Rattle.graph_queries.specs.Choices.{AreGiven, bindings}
use Rattle.graph_queries.proofs.Given.{all_given}
use Rattle.abstract_shapes.specs.Shapes.{Shape, any}
use Rattle.world_rules.specs.Places.{Variable, global}
use Rattle.world_rules.specs.Sources.{Source}
use Rattle.world_rules.specs.Items.{map_of, Agree, world_of}
use Rattle.world_rules.proofs.Extending.{some_same}
use Rattle.world_tables.specs.Tables.{Tables, the_variable, the_shape, items_of, memory_at, AreBindings, IsNumbering}
use Rattle.world_tables.proofs.Given.{has_numbers, given_same}
use Rattle.world_tables.proofs.Items.{there, below}
use Rattle.world_tables.proofs.Memories.{of_number, Known, known, unknown, find, same_memory}
use Rattle.world_tables.proofs.Naming.{no_two}
use Rattle.world_tables.proofs.There.{count_shapes}
use Rattle.world_queries.specs.Choices.{AreNumbersOf, shapes_by, IsChoice, HasChoice, AreMap}
use Rattle.world_queries.proofs.Joining.{joined_pairs, joined_look, HasMap, has_map}

head_same : {A : Type 0} {x y : A} {xs ys : List A} → x ∷ xs ≡ y ∷ ys → x ≡ y
head_same e = cc

tail_same : {A : Type 0} {x y : A} {xs ys : List A} → x ∷ xs ≡ y ∷ ys → xs ≡ ys
tail_same e = cc

the_shape_is : (t : Tables) (k : ℕ) (y : Shape) → slice_get t.shapes k ≡ Some y → the_shape t k ≡ y
the_shape_is t k y e = ap (λ o. unwrap_or o any) e

the_variable_is : (t : Tables) (v : ℕ) (x : Variable) → slice_get t.variables v ≡ Some x → the_variable t v ≡ x
the_variable_is t v x e = ap (λ o. unwrap_or o (global 0)) e

module _ (s : Source) (t : Tables) (n : IsNumbering s t) where
  -- ---- numbers of variables

  pub numbers_once : (xs : List Variable) (vars others : List ℕ) → AreNumbersOf t vars xs → AreNumbersOf t others xs → vars ≡ others
  numbers_once [] [] [] h k = refl
  numbers_once [] [] (o ∷ os) h k = cc
  numbers_once [] (v ∷ vs) others h k = cc
  numbers_once (x ∷ xs) [] others h k = cc
  numbers_once (x ∷ xs) (v ∷ vs) [] h k = cc
  numbers_once (x ∷ xs) (v ∷ vs) (o ∷ os) h k =
      let first_is : v ≡ o = n.variables_once v o x (head_same h) (head_same k) in
      let rest_is : vs ≡ os = numbers_once xs vs os (tail_same h) (tail_same k) in
      λ i. first_is i ∷ rest_is i

  -- what facts give a shape has a number
  pub numbers_given : (m : Memory Variable Shape) → AllGiven (world_of s (items_of t)) m → (xs : List Variable) (shapes : List Shape) → Agree xs shapes m → (vars : List ℕ) × AreNumbersOf t vars xs
  numbers_given m g [] shapes a = ([], refl)
  numbers_given m g (x ∷ xs) [] a = absurd a
  numbers_given m g (x ∷ xs) (y ∷ ys) a =
      let v : lists.Stands t.variables x = stands t.variables x (has_numbers s t n x y (g.at x y a.0)).0 in
      let rest : (vars : List ℕ) × AreNumbersOf t vars xs = numbers_given m g xs ys a.1 in
      (v.place ∷ rest.0, λ i. v.at i ∷ rest.1 i)

  -- ---- the pairs of a choice

  pub shape_there : (v k : ℕ) → IsGiven t.graph v k → k < length t.shapes
  shape_there v k g = subst (λ m. m < length t.shapes) g.shape_is (count_shapes s t n g.fact.shape (n.graph_valid.facts g.point g.fact g.is).shape)

  record IsPair (b : Binding) : Type 0 where
    given : IsGiven t.graph b.var b.shape
    var : b.var < length t.variables

  each_pair : (vars ids : List ℕ) (xs : List Variable) → AreNumbersOf t vars xs → AreGiven t.graph vars ids → (b : Binding) → Contains (bindings vars ids) b → IsPair b
  each_pair [] [] xs h g b c = empty b c
  each_pair [] (k ∷ ks) xs h g b c = absurd g
  each_pair (v ∷ vs) [] xs h g b c = absurd g
  each_pair (v ∷ vs) (k ∷ ks) [] h g b c = cc
  each_pair (v ∷ vs) (k ∷ ks) (x ∷ xs) h g b c =
      elim (first_or_later (record { var = v; shape = k }) b (bindings vs ks) c) [
        | inl e ↦ subst IsPair (sym e) (record { given = g.0; var = below t.variables v x (head_same h) })
        | inr d ↦ each_pair vs ks xs (tail_same h) g.1 b d
      ]

  module _ (m : Memory Variable Shape) where
    -- what a memory has of each pair's variable it has of the variables
    to_agree : (vars ids : List ℕ) (xs : List Variable) → AreNumbersOf t vars xs → AreGiven t.graph vars ids →
        ((b : Binding) → Contains (bindings vars ids) b → m (the_variable t b.var) ≡ Some (the_shape t b.shape)) → Agree xs (shapes_by t ids) m
    to_agree [] [] [] h g each = tt
    to_agree [] [] (x ∷ xs) h g each = cc
    to_agree [] (k ∷ ks) xs h g each = absurd g
    to_agree (v ∷ vs) [] xs h g each = absurd g
    to_agree (v ∷ vs) (k ∷ ks) [] h g each = cc
    to_agree (v ∷ vs) (k ∷ ks) (x ∷ xs) h g each = (
      subst (λ z. m z ≡ Some (the_shape t k)) (the_variable_is t v x (head_same h)) (each (record { var = v; shape = k }) (first _ (bindings vs ks))),
      to_agree vs ks xs (tail_same h) g.1 (λ b c. each b (later _ b (bindings vs ks) c)),
    )

    from_agree : (vars ids : List ℕ) (xs : List Variable) → AreNumbersOf t vars xs → AreGiven t.graph vars ids → Agree xs (shapes_by t ids) m →
        (b : Binding) → Contains (bindings vars ids) b → m (the_variable t b.var) ≡ Some (the_shape t b.shape)
    from_agree [] [] xs h g a b c = empty b c
    from_agree [] (k ∷ ks) xs h g a b c = absurd g
    from_agree (v ∷ vs) [] xs h g a b c = absurd g
    from_agree (v ∷ vs) (k ∷ ks) [] h g a b c = absurd a
    from_agree (v ∷ vs) (k ∷ ks) (x ∷ xs) h g a b c =
        elim (first_or_later (record { var = v; shape = k }) b (bindings vs ks) c) [
          | inl e ↦ subst (λ z. m (the_variable t z.var) ≡ Some (the_shape t z.shape)) (sym e) (ap m (the_variable_is t v x (head_same h)) ∙ a.0)
          | inr d ↦ from_agree vs ks xs (tail_same h) g.1 a.1 b d
        ]

    -- so a variable has one shape
    one_shape : (vars ids : List ℕ) (xs : List Variable) → AreNumbersOf t vars xs → AreGiven t.graph vars ids → Agree xs (shapes_by t ids) m → IsConsistent (bindings vars ids)
    one_shape vars ids xs h g a v k l c d =
        let same : Some (the_shape t k) ≡ Some (the_shape t l) = sym (from_agree vars ids xs h g a (record { var = v; shape = k }) c) ∙ from_agree vars ids xs h g a (record { var = v; shape = l }) d in
        no_two t.shapes n.shapes_once any k l
        (shape_there v k (each_pair vars ids xs h g (record { var = v; shape = k }) c).given)
        (shape_there v l (each_pair vars ids xs h g (record { var = v; shape = l }) d).given)
        (some_same same)

  -- ---- a choice is a map

  module _ (vars ids : List ℕ) (xs : List Variable) (h : AreNumbersOf t vars xs) (goals : List Binding) (k : IsChoice t.graph vars ids goals) where
    pair_of : (b : Binding) → Contains (bindings vars ids) b → IsPair b
    pair_of = each_pair vars ids xs h k.given

    listed : (b : Binding) → Contains goals b → Contains (bindings vars ids) b
    listed b c = only_list (bindings vars ids) b.var b.shape ((joined_pairs (bindings vars ids) goals k.joined b.var b.shape).0 (look_once goals b.var b.shape (rising_once goals k.rising) c))

    list_there : AreBindings t (bindings vars ids)
    list_there b c = record { var = (pair_of b c).var; shape = shape_there b.var b.shape (pair_of b c).given }

    goals_there : AreBindings t goals
    goals_there b c = list_there b (listed b c)

    variables_are : (vars ids : List ℕ) (xs : List Variable) → AreNumbersOf t vars xs → AreGiven t.graph vars ids → map (λ b. the_variable t b.var) (bindings vars ids) ≡ xs
    variables_are [] [] [] h g = refl
    variables_are [] [] (x ∷ xs) h g = cc
    variables_are [] (k ∷ ks) xs h g = absurd g
    variables_are (v ∷ vs) [] xs h g = absurd g
    variables_are (v ∷ vs) (k ∷ ks) [] h g = cc
    variables_are (v ∷ vs) (k ∷ ks) (x ∷ xs) h g =
        let rest_is : map (λ b. the_variable t b.var) (bindings vs ks) ≡ xs = variables_are vs ks xs (tail_same h) g.1 in
        λ i. the_variable_is t v x (head_same h) i ∷ rest_is i

    shapes_are : (vars ids : List ℕ) → AreGiven t.graph vars ids → map (λ b. the_shape t b.shape) (bindings vars ids) ≡ shapes_by t ids
    shapes_are [] [] g = refl
    shapes_are [] (k ∷ ks) g = absurd g
    shapes_are (v ∷ vs) [] g = absurd g
    shapes_are (v ∷ vs) (k ∷ ks) g = ap (λ ys. the_shape t k ∷ ys) (shapes_are vs ks g.1)

    map_is : memory_at t goals ≡ map_of xs (shapes_by t ids)
    map_is =
        same_memory t n.variables_once goals (bindings vars ids) goals_there list_there (joined_look (bindings vars ids) goals k.joined)
        ∙ (λ i. map_of (variables_are vars ids xs h k.given i) (shapes_are vars ids k.given i))

    at_pair : (b : Binding) → Contains (bindings vars ids) b → memory_at t goals (the_variable t b.var) ≡ Some (the_shape t b.shape)
    at_pair b c =
        of_number t n.variables_once goals goals_there b.var (pair_of b c).var
        ∙ ap (option_map (the_shape t)) ((joined_pairs (bindings vars ids) goals k.joined b.var b.shape).1 (inr c))

    gives : (x : Variable) (y : Shape) → memory_at t goals x ≡ Some y → FactGives (world_of s (items_of t)) x y
    gives x y e = go (find t n.variables_once goals x)
      where
        go : Known t n.variables_once goals x → FactGives (world_of s (items_of t)) x y
        go (known b c same) =
            let shape : the_shape t b.shape ≡ y = some_same (sym (at_pair b (listed b c)) ∙ (ap (memory_at t goals) same ∙ e)) in
            let l : AreBindings t goals = goals_there in
            subst (λ z. FactGives (world_of s (items_of t)) z y) same
            (subst (FactGives (world_of s (items_of t)) (the_variable t b.var)) shape
            ((given_same s t n b.var b.shape (the_variable t b.var) (the_shape t b.shape) (there t.variables b.var (global 0) (l b c).var) (there t.shapes b.shape any (l b c).shape)).1 (pair_of b (listed b c)).given))
        go (unknown none) = let no : None ≡ Some y = sym none ∙ e in cc

    pub choice_map : AreMap s t goals xs (shapes_by t ids)
    choice_map =
        record {
          there = goals_there;
          map_is = map_is;
          agree = to_agree (map_of xs (shapes_by t ids)) vars ids xs h k.given (λ b c. ap (λ m. m (the_variable t b.var)) (sym map_is) ∙ at_pair b c);
          given = all_given t.graph vars ids k.given (Some goals) k.joined;
          items_give = record { at = λ x y e. gives x y (ap (λ m. m x) map_is ∙ e) };
        }

  -- ---- a map is a choice

  record HasIds (vars : List ℕ) (shapes : List Shape) : Type 0 where
    ids : List ℕ
    given : AreGiven t.graph vars ids
    shapes_are : shapes_by t ids ≡ shapes

  find_ids : (m : Memory Variable Shape) → AllGiven (world_of s (items_of t)) m → (vars : List ℕ) (xs : List Variable) (shapes : List Shape) → AreNumbersOf t vars xs → Agree xs shapes m → HasIds vars shapes
  find_ids m g [] [] [] h a = record { ids = []; given = tt; shapes_are = refl }
  find_ids m g [] [] (y ∷ ys) h a = absurd a
  find_ids m g [] (x ∷ xs) shapes h a = cc
  find_ids m g (v ∷ vs) [] shapes h a = cc
  find_ids m g (v ∷ vs) (x ∷ xs) [] h a = absurd a
  find_ids m g (v ∷ vs) (x ∷ xs) (y ∷ ys) h a =
      let f : FactGives (world_of s (items_of t)) x y = g.at x y a.0 in
      let k : lists.Stands t.shapes y = stands t.shapes y (has_numbers s t n x y f).1 in
      let rest : HasIds vs ys = find_ids m g vs xs ys (tail_same h) a.1 in
      record {
        ids = k.place ∷ rest.ids;
        given = ((given_same s t n v k.place x y (head_same h) k.at).0 f, rest.given);
        shapes_are = λ i. the_shape_is t k.place y k.at i ∷ rest.shapes_are i;
      }

  pub map_choice : (vars : List ℕ) (xs : List Variable) → AreNumbersOf t vars xs → (shapes : List Shape) → Agree xs shapes (map_of xs shapes) → AllGiven (world_of s (items_of t)) (map_of xs shapes) →
      HasChoice t vars shapes
  map_choice vars xs h shapes a g =
      let r : HasIds vars shapes = find_ids (map_of xs shapes) g vars xs shapes h a in
      let once : IsConsistent (bindings vars r.ids) = one_shape (map_of xs shapes) vars r.ids xs h r.given (subst (λ ys. Agree xs ys (map_of xs shapes)) (sym r.shapes_are) a) in
      let m : HasMap (bindings vars r.ids) = has_map (bindings vars r.ids) once in
      record { ids = r.ids; goals = m.map; is = record { given = r.given; joined = m.is; rising = m.rising }; shapes_are = r.shapes_are }

  pub no_map : (vars : List ℕ) (xs : List Variable) → AreNumbersOf t vars xs → (ids : List ℕ) → AreGiven t.graph vars ids → IsJoined [] (bindings vars ids) None →
      Agree xs (shapes_by t ids) (map_of xs (shapes_by t ids)) → ⊥
  no_map vars xs h ids g none a =
      let two : HasTwoShapes [] (bindings vars ids) = two_shapes [] (bindings vars ids) none in
      two.differ
      (one_shape (map_of xs (shapes_by t ids)) vars ids xs h g a two.var two.one two.other (only_list (bindings vars ids) two.var two.one two.has_one) (only_list (bindings vars ids) two.var two.other two.has_other))
