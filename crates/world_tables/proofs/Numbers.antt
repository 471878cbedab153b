-- The names of points, variables and shapes are their numbers.
use Rattle.std.proofs.Common.{◌≡◌, ℕ, ◌<◌, Some, length, slice_get, sym, ap, ◌∙◌}
use Rattle.std.proofs.Math.Decide.{ℕ_discrete}
use Rattle.graph_walks.specs.Renamings.{Names}
use Rattle.abstract_shapes.specs.Same.{same_structure}
use Rattle.abstract_shapes.specs.SameLaws.{decided, structure_is, structure_itself}
use Rattle.abstract_shapes.specs.Shapes.{Shape, any}
use Rattle.world_rules.specs.Places.{Context, main, context-discrete, Variable, global, variable-discrete, Point, at, point-discrete}
use Rattle.world_rules.specs.Sources.{Source}
use Rattle.world_tables.specs.Tables.{Tables, the_point, the_variable, the_shape, IsNumbering}
use Rattle.world_tables.proofs.Items.{there}
use Rattle.world_tables.proofs.Naming.{numbered}

contexts_discrete : Discrete Context
contexts_discrete = context-discrete ℕ_discrete

points_discrete : Discrete Point
points_discrete = point-discrete contexts_discrete ℕ_discrete

variables_discrete : Discrete Variable
variables_discrete = variable-discrete contexts_discrete ℕ_discrete

shapes_discrete : Discrete Shape
shapes_discrete x y = decided (same_structure x y) (structure_is x y) (λ e. ap (same_structure x) (sym e) ∙ structure_itself x)

module _ (s : Source) (t : Tables) (n : IsNumbering s t) where
  pub points : Names Point ℕ
  points = numbered points_discrete t.points n.points_once

  pub variables : Names Variable ℕ
  variables = numbered variables_discrete t.variables n.variables_once

  pub shapes : Names Shape ℕ
  shapes = numbered shapes_discrete t.shapes n.shapes_once

  -- a name tells what stands at a number, and what stands there has it

  pub point_name : (k : ℕ) (p : Point) → slice_get t.points k ≡ Some p → points.name p ≡ Some k
  unfolding points
  point_name k p h = points.names p k h

  pub point_of_name : (k : ℕ) (p : Point) → points.name p ≡ Some k → slice_get t.points k ≡ Some p
  unfolding points
  point_of_name k p h = points.named p k h

  pub variable_name : (k : ℕ) (x : Variable) → slice_get t.variables k ≡ Some x → variables.name x ≡ Some k
  unfolding variables
  variable_name k x h = variables.names x k h

  pub variable_of_name : (k : ℕ) (x : Variable) → variables.name x ≡ Some k → slice_get t.variables k ≡ Some x
  unfolding variables
  variable_of_name k x h = variables.named x k h

  pub variable_at : (k : ℕ) → variables.thing k ≡ slice_get t.variables k
  unfolding variables
  variable_at k = λ i. slice_get t.variables k

  pub shape_name : (k : ℕ) (x : Shape) → slice_get t.shapes k ≡ Some x → shapes.name x ≡ Some k
  unfolding shapes
  shape_name k x h = shapes.names x k h

  pub shape_of_name : (k : ℕ) (x : Shape) → shapes.name x ≡ Some k → slice_get t.shapes k ≡ Some x
  unfolding shapes
  shape_of_name k x h = shapes.named x k h

  -- a number that is there is the name of what it stands for

  pub the_point_name : (k : ℕ) → k < length t.points → points.name (the_point t k) ≡ Some k
  the_point_name k h = point_name k (the_point t k) (there t.points k (at main 0 0) h)

  pub the_variable_name : (k : ℕ) → k < length t.variables → variables.name (the_variable t k) ≡ Some k
  the_variable_name k h = variable_name k (the_variable t k) (there t.variables k (global 0) h)

  pub the_shape_name : (k : ℕ) → k < length t.shapes → shapes.name (the_shape t k) ≡ Some k
  the_shape_name k h = shape_name k (the_shape t k) (there t.shapes k any h)
