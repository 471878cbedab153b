-- What the shapes of the output's variables tell is what the output tells by structure.
use Rattle.std.proofs.Common.{◌≡◌, ◌↔◌, ℕ, List, [], ◌∷◌, refl, ap, subst, ◌∙◌, arith}
use Rattle.std.specs.List.{Contains}
use Rattle.graph_walks.specs.Backs.{Heavy}
use Rattle.typegraph.specs.declared.goals.Binding.{Binding}
use Rattle.typegraph.specs.Graphs.{GraphTables, IsGiven}
use Rattle.typegraph.specs.Maps.{look, IsRising}
use Rattle.typegraph.proofs.Clashing.{joined_look}
use Rattle.typegraph.proofs.Joins.{joined_rising}
use Rattle.goal_solver.specs.Graphs as numbers
use Rattle.graph_queries.specs.Choices.{AreGiven, bindings}
use Rattle.world_rules.specs.Sources.{Source}
use Rattle.world_tables.specs.declared.spot.PointSpot.{PointSpot}
use Rattle.world_queries.specs.Choices.{IsChoice}
use Rattle.world_queries.specs.Queries.{HasHeavyChoice}
use Rattle.abstract_vm.specs.declared.judging.Judging.{Judging}
use Rattle.abstract_vm.specs.declared.verdict.Verdict.{Verdict}
use Rattle.abstract_vm.specs.Marks.{Mark, a_fault, is_unchecked, is_heavy, SaysToo, AnyTells}
use Rattle.abstract_vm.specs.Telling.{asked, Asked, VarWeighs}
use Rattle.abstract_vm.specs.Asking.{IsAsked, IsOutputNumber, tables_in, HeavyOutput, OutputTells}
use Rattle.abstract_vm.proofs.Saying.{same_more}
use Rattle.abstract_vm.proofs.Standing.{op_is, stands_at}

-- ---- a choice for one variable

abbrev one_binding : ℕ → ℕ → List Binding
one_binding var shape = record { var = var; shape = shape } ∷ []

one_rising : (var shape : ℕ) → IsRising (one_binding var shape)
one_rising var shape i k d l m = absurd (omega (arith, l, m))

one_choice : (g : GraphTables) (var shape : ℕ) → IsGiven g var shape → IsChoice g (var ∷ []) (shape ∷ []) (one_binding var shape)
one_choice g var shape h = record { given = (h, _); joined = joined_rising (one_binding var shape) (one_rising var shape); rising = one_rising var shape }

-- its only shape
record OneShape (g : GraphTables) (var : ℕ) (ids : List ℕ) : Type 0 where
  shape : ℕ
  is : ids ≡ shape ∷ []
  given : IsGiven g var shape

one_shape : (g : GraphTables) (var : ℕ) (ids : List ℕ) → AreGiven g (var ∷ []) ids → OneShape g var ids
one_shape g var [] h = absurd h
one_shape g var (s ∷ []) h = record { shape = s; is = refl; given = h.0 }
one_shape g var (s ∷ t ∷ ts) h = absurd h.1

module _ (s : Source) (j : Judging) (spot : PointSpot) where
  abbrev a : Asked
  a = asked j s.budget

  heavy_to : (var : ℕ) → VarWeighs a var is_heavy → HasHeavyChoice s (tables_in j) j.point (var ∷ [])
  heavy_to var h = record { ids = h.shape ∷ []; goals = one_binding var h.shape; is = one_choice (tables_in j).graph var h.shape h.given; heavy = h.weighs }

  heavy_from : (var : ℕ) → HasHeavyChoice s (tables_in j) j.point (var ∷ []) → VarWeighs a var is_heavy
  heavy_from var h =
      let o : OneShape (tables_in j).graph var h.ids = one_shape (tables_in j).graph var h.ids h.is.given in
      let same : look h.goals ≡ look (one_binding var o.shape) = joined_look (bindings (var ∷ []) h.ids) h.goals h.is.joined ∙ ap (λ ids. look (bindings (var ∷ []) ids)) o.is in
      record { shape = o.shape; given = o.given; weighs = subst (λ l. Heavy (numbers.world_of (tables_in j).graph) j.point l s.budget) same h.heavy }

  module _ (known : IsAsked s j s.budget spot) (vars : List ℕ) (all : (var : ℕ) → Contains vars var ↔ IsOutputNumber j spot var) where
    to_output : (var : ℕ) → IsOutputNumber j spot var → VarWeighs a var is_heavy → HeavyOutput s j spot
    to_output var o h =
        record {
          op = o.op;
          stands = stands_at s j s.budget spot known o.op o.op_is;
          shape = record { variable = o.variable; is_output = o.is_output; var = var; number_is = o.number_is; choice = heavy_to var h };
        }

    to : (m : Mark) → AnyTells (VarWeighs a) vars m → OutputTells s j spot m
    to (a_fault f) h = h.says.weighs
    to is_unchecked h = h.says.weighs
    to is_heavy h = to_output h.item ((all h.item).0 h.is) h.says

    from : (m : Mark) → OutputTells s j spot m → AnyTells (VarWeighs a) vars m
    from (a_fault f) h = absurd h
    from is_unchecked h = absurd h
    from is_heavy h =
        record {
          item = h.shape.var;
          is = (all h.shape.var).1 (record {
            op = h.op;
            op_is = op_is s j s.budget spot known spot.place spot.depth h.op h.stands.stands;
            variable = h.shape.variable;
            is_output = h.shape.is_output;
            number_is = h.shape.number_is;
          });
          says = heavy_from h.shape.var h.shape.choice;
        }

    pub output_more : (v w : Verdict) → SaysToo (AnyTells (VarWeighs a) vars) v w → SaysToo (OutputTells s j spot) v w
    output_more v w t = same_more _ _ v w (λ m. (to m, from m)) t
