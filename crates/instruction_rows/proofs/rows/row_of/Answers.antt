-- No rule reads three shapes or more.
use Rattle.std.proofs.Common.{◌≡◌, ℕ, ◌≤◌, length, List, [], ◌∷◌, refl, ◌∙◌, sym, arith}
use Rattle.abstract_shapes.specs.Numbering.{structures}
use Rattle.abstract_shapes.specs.Scenes.{shapes_under}
use Rattle.abstract_shapes.specs.Shapes.{Shape}
use Rattle.world_rules.specs.Operators.{no_row}
use Rattle.world_rules.specs.Rows.{row_of}
use Rattle.world_rules.specs.declared.transfer.Transfer.{Transfer}
use Rattle.instruction_rows.proofs.rows.row_of.Goals as goal

more : (rule : Transfer) (shapes : List Shape) (ids : List ℕ) → 3 ≤ length ids → row_of rule (shapes_under shapes ids) ≡ no_row
more rule shapes [] h = absurd (omega (arith, h))
more rule shapes (a ∷ []) h = absurd (omega (arith, h))
more rule shapes (a ∷ b ∷ []) h = absurd (omega (arith, h))
more rule shapes (a ∷ b ∷ c ∷ rest) h = refl

pub returns-in-len3-up : goal.returns-in-len3-up
returns-in-len3-up c = c.no_row.ensures ∙ sym (more c.args.transfer (structures c.args.shapes.now) c.args.read.now c.in-len3-up.len_at_least)
