-- What a shape is where each receiver stands for its id alone: the list of that number.
use Rattle.abstract_shapes.specs.declared.shape.Shape as rust
use Rattle.abstract_shapes.specs.Numbering.{structure_by}
use Rattle.abstract_shapes.specs.Shapes.{Shape, list}

abbrev pub sketch : rust.Shape → Shape
sketch row = structure_by list row
