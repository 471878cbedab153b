-- What a world tells of the events of a run.
use Rattle.std.specs.Prelude.{ℕ, List}
use Rattle.type_terms.specs.Terms.{Term}
use Rattle.abstract_shapes.specs.Shapes.{Shape}
use Rattle.world_rules.specs.Sources.{Source}
use Rattle.world_rules.specs.Items.{Item}
use Rattle.world_rules.specs.Findings.{IsReported}
use Rattle.world_rules.specs.Stubs.{EndsWith, IsTypeOfName}
use Rattle.py_meaning.specs.Values.{Value}
use Rattle.py_meaning.specs.Objects.{Object}
use Rattle.py_meaning.specs.Events.{Event, returned, held, fault}
use Rattle.py_meaning.specs.Programs.{Program}
use Rattle.py_meaning.specs.Belongs.{Belongs}
use Rattle.world_covering.specs.Standing.{Stands}

module _ (s : Source) (items : List Item) where
  -- what a name holds at the end stands for a shape that it is seen to have there
  pub record IsEnding (heap : List Object) (n : ℕ) (v : Value) : Type 0 where
    pub shape : Shape
    pub ends : EndsWith s items n shape
    pub stands : Stands heap v shape

  -- and it belongs to the type that is printed for the name
  pub record IsHeld (p : Program) (heap : List Object) (n : ℕ) (v : Value) : Type 0 where
    pub ending : IsEnding heap n v
    pub belongs : (t : Term) → IsTypeOfName s items n t → Belongs p heap t v

  -- A fault stands on a line with a finding or on an unchecked line; no function returns. The heap is the last one of the run
  abbrev pub IsCovered : Program → List Object → Event → Type 0
  IsCovered p heap (fault line kind holder attribute) = IsReported s items line
  IsCovered p heap (held n v) = IsHeld p heap n v
  IsCovered p heap (returned f v) = ⊥
