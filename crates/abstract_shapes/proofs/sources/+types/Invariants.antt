use Rattle.std.proofs.Common.{◌+◌, ◌*◌, map, take}
use Rattle.std.specs.List.{AllZip}
use Rattle.type_terms.specs.View.{term_view}
use Rattle.abstract_shapes.specs.Kept.{AreKept}
use Rattle.abstract_shapes.specs.Numbering.{structures}
use Rattle.abstract_shapes.specs.Printed.{ArePlaces, IsShapeType, IsPrinted}
use Rattle.abstract_shapes.specs.Scenes.{scene_from, shapes_under}
use Rattle.abstract_shapes.proofs.sources.+types.Given as goal

abbrev pub decreases-type_at : goal.decreases-type_at
decreases-type_at l = l.depth * 8 + 0

abbrev pub decreases-types_of : goal.decreases-types_of
decreases-types_of l = l.depth * 8 + 7

abbrev pub decreases-shape_type : goal.decreases-shape_type
decreases-shape_type l = l.depth * 8 + 6

abbrev pub decreases-known_type : goal.decreases-known_type
decreases-known_type l = l.depth * 8 + 5

abbrev pub decreases-container_type : goal.decreases-container_type
decreases-container_type l = l.depth * 8 + 4

abbrev pub decreases-display_type : goal.decreases-display_type
decreases-display_type l = l.depth * 8 + 2

abbrev pub decreases-part_type : goal.decreases-part_type
decreases-part_type l = l.depth * 8 + 2

abbrev pub decreases-place_type : goal.decreases-place_type
decreases-place_type l = l.depth * 8 + 1

abbrev pub decreases-tuple_type : goal.decreases-tuple_type
decreases-tuple_type l = l.depth * 8 + 3

abbrev pub invariant-types_of-loop-id : goal.invariant-types_of-loop-id
invariant-types_of-loop-id l = record {
  made : AllZip (IsShapeType (scene_from l.sources) (IsPrinted (scene_from l.sources) l.depth)) (shapes_under (structures l.sources.shapes.now) (take l.id-index l.ids)) (map term_view l.types.items);
  kept : AreKept (scene_from l.sources) l.kept;
}

abbrev pub invariant-display_type-loop-place : goal.invariant-display_type-loop-place
invariant-display_type-loop-place l = record {
  made : ArePlaces (scene_from l.sources) (IsPrinted (scene_from l.sources) l.depth) l.site 0 l.place (map term_view l.types.items);
  kept : AreKept (scene_from l.sources) l.kept;
}
