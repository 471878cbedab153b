use Rattle.std.proofs.Common.{◌≡◌, ◌≤◌, ◌+◌, ◌*◌}
use Rattle.py_descent.specs.Descent.{descent}
use Rattle.py_descent.specs.Goals.{parts, items}
use Rattle.py_descent.specs.Programs.{room}
use Rattle.py_parse.proofs.parser.Parser.+annotations.Given as goal

abbrev pub decreases-annotation : goal.decreases-annotation
decreases-annotation l = room l.self.now * 64 + 5

abbrev pub decreases-annotation_parts : goal.decreases-annotation_parts
decreases-annotation_parts l = room l.self.now * 64 + 5

abbrev pub decreases-annotation_part : goal.decreases-annotation_part
decreases-annotation_part l = room l.self.now * 64 + 4

abbrev pub decreases-annotation_items : goal.decreases-annotation_items
decreases-annotation_items l = room l.self.now * 64 + 7

abbrev pub decreases-annotation_item : goal.decreases-annotation_item
decreases-annotation_item l = room l.self.now * 64 + 6

abbrev pub invariant-annotation_parts-loop-self : goal.invariant-annotation_parts-loop-self
invariant-annotation_parts-loop-self l = (descent parts l.initial.self ≡ descent parts l.self) × (room l.self ≤ room l.initial.self)

abbrev pub decreases-annotation_parts-loop-self : goal.decreases-annotation_parts-loop-self
decreases-annotation_parts-loop-self l = room l.self

abbrev pub invariant-annotation_items-loop-self : goal.invariant-annotation_items-loop-self
invariant-annotation_items-loop-self l = (descent items l.initial.self ≡ descent items l.self) × (room l.self ≤ room l.initial.self)

abbrev pub decreases-annotation_items-loop-self : goal.decreases-annotation_items-loop-self
decreases-annotation_items-loop-self l = room l.self
