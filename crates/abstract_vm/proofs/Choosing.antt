-- What choices and shapes tell, one after another.
use Rattle.std.proofs.Common.{◌≡◌, ◌↔◌, ◌⊎◌, inl, inr, ℕ, ◌<◌, Some, None, List, [], ◌∷◌, length, sym, ap, subst, ◌∙◌}
use Rattle.std.specs.List.{Contains}
use Rattle.graph_walks.proofs.Lists.{empty, first_or_later, only}
use Rattle.typegraph.specs.declared.goals.Binding.{Binding}
use Rattle.typegraph.specs.Graphs.{GraphTables, IsGiven}
use Rattle.typegraph.specs.Maps.{look, IsJoined, clash, IsRising}
use Rattle.typegraph.specs.Validity.{IsValid}
use Rattle.typegraph.proofs.Clashing.{joined_look, consistent}
use Rattle.typegraph.proofs.Joins.{only_list}
use Rattle.graph_queries.specs.Choices.{AreGiven, bindings}
use Rattle.world_rules.specs.declared.transfer.Transfer.{Transfer}
use Rattle.abstract_vm.specs.declared.verdict.Verdict.{Verdict}
use Rattle.abstract_vm.specs.Marks.{Mark, SaysToo, AnyTells}
use Rattle.abstract_vm.specs.Telling.{Asked, GoalsTell, IdsTell, ChoicesTell, ShapeWeighs, VarWeighs, Weighs}
use Rattle.abstract_vm.proofs.Saying.{nothing_more, same_more}

-- the shapes that facts give are there
pub ids_there : (g : GraphTables) → IsValid g → (vars ids : List ℕ) → AreGiven g vars ids → (id : ℕ) → Contains ids id → id < length g.truths
ids_there g valid [] [] h id c = empty id c
ids_there g valid [] (s ∷ ss) h id c = absurd h
ids_there g valid (v ∷ vs) [] h id c = absurd h
ids_there g valid (v ∷ vs) (s ∷ ss) h id c = go (first_or_later s id ss c) (ids_there g valid vs ss h.1 id)
  where
    here : s < length g.truths
    here = subst (λ x. x < length g.truths) h.0.shape_is (valid.facts h.0.point h.0.fact h.0.is).shape

    go : (id ≡ s) ⊎ Contains ss id → (Contains ss id → id < length g.truths) → id < length g.truths
    go (inl e) more = subst (λ x. x < length g.truths) (sym e) here
    go (inr d) more = more d

-- bindings that are a map don't clash
pub no_clash : (list map : List Binding) → IsJoined [] list (Some map) → IsJoined [] list None → ⊥
no_clash list map j (clash t) = t.differ (consistent list map j t.var t.one t.other (only_list list t.var t.one t.has_one) (only_list list t.var t.other t.has_other))

module _ (a : Asked) (rule : Transfer) (vars : List ℕ) where
  -- what is told of one map of the ids is told of them
  pub ids_more : (ids : List ℕ) (goals : List Binding) → IsJoined [] (bindings vars ids) (Some goals) → IsRising goals → (v w : Verdict) → SaysToo (GoalsTell a rule ids (look goals)) v w → SaysToo (IdsTell a rule vars ids) v w
  ids_more ids goals is rising v w t = same_more _ _ v w (λ m. (λ h. record { goals = goals; joined = is; rising = rising; tells = h }, from m)) t
    where
      from : (m : Mark) → IdsTell a rule vars ids m → GoalsTell a rule ids (look goals) m
      from m h = subst (λ l. GoalsTell a rule ids l m) (joined_look (bindings vars ids) h.goals h.joined ∙ sym (joined_look (bindings vars ids) goals is)) h.tells

  pub ids_clash : (ids : List ℕ) → IsJoined [] (bindings vars ids) None → (v : Verdict) → SaysToo (IdsTell a rule vars ids) v v
  ids_clash ids none v = nothing_more (IdsTell a rule vars ids) v (λ m h. no_clash (bindings vars ids) h.goals h.joined none)

  -- all choices
  pub choices_more : (chosen : List (List ℕ)) → ((ids : List ℕ) → Contains chosen ids ↔ AreGiven a.rows.graph vars ids) → (v w : Verdict) → SaysToo (AnyTells (IdsTell a rule vars) chosen) v w → SaysToo (ChoicesTell a rule vars) v w
  choices_more chosen all v w t = same_more _ _ v w (λ m. (to m, from m)) t
    where
      to : (m : Mark) → AnyTells (IdsTell a rule vars) chosen m → ChoicesTell a rule vars m
      to m h = record { ids = h.item; goals = h.says.goals; is = record { given = (all h.item).0 h.is; joined = h.says.joined; rising = h.says.rising }; tells = h.says.tells }

      from : (m : Mark) → ChoicesTell a rule vars m → AnyTells (IdsTell a rule vars) chosen m
      from m h = record { item = h.ids; is = (all h.ids).1 h.is.given; says = record { goals = h.goals; joined = h.is.joined; rising = h.is.rising; tells = h.tells } }

-- ---- shapes of one variable

module _ (a : Asked) (var : ℕ) where
  pub shape_more : (shape : ℕ) (goals : List Binding) → IsJoined [] (bindings (var ∷ []) (shape ∷ [])) (Some goals) → (v w : Verdict) → SaysToo (Weighs a (look goals)) v w → SaysToo (ShapeWeighs a var shape) v w
  shape_more shape goals is v w t = subst (λ l. SaysToo (Weighs a l) v w) (joined_look (bindings (var ∷ []) (shape ∷ [])) goals is) t

  -- one binding has no other beside it
  pub shape_no_clash : (shape : ℕ) → IsJoined [] (bindings (var ∷ []) (shape ∷ [])) None → ⊥
  shape_no_clash shape (clash t) = t.differ (is t.one t.has_one ∙ sym (is t.other t.has_other))
    where
      is : (s : ℕ) → (look [] t.var ≡ Some s) ⊎ Contains (bindings (var ∷ []) (shape ∷ [])) (record { var = t.var; shape = s }) → s ≡ shape
      is s h =
          let found : Binding = record { var = t.var; shape = s } in
          let same : found ≡ record { var = var; shape = shape } = only (record { var = var; shape = shape }) found (only_list (bindings (var ∷ []) (shape ∷ [])) t.var s h) in
          ap (λ (b : Binding). b.shape) same

  pub shapes_more : (shapes : List ℕ) → ((shape : ℕ) → Contains shapes shape ↔ IsGiven a.rows.graph var shape) → (v w : Verdict) → SaysToo (AnyTells (ShapeWeighs a var) shapes) v w → SaysToo (VarWeighs a var) v w
  shapes_more shapes all v w t = same_more _ _ v w (λ m. (to m, from m)) t
    where
      to : (m : Mark) → AnyTells (ShapeWeighs a var) shapes m → VarWeighs a var m
      to m h = record { shape = h.item; given = (all h.item).0 h.is; weighs = h.says }

      from : (m : Mark) → VarWeighs a var m → AnyTells (ShapeWeighs a var) shapes m
      from m h = record { item = h.shape; is = (all h.shape).1 h.given; says = h.weighs }
