-- The module `x = 1`, and a world of it.
use Rattle.std.specs.Prelude.{false, List, [], ◌∷◌, codes}
use Rattle.py_tree.specs.declared.literal.Literal.TheVariants as literal
use Rattle.py_tree.specs.Tree as tree
use Rattle.py_tree.specs.Tree.{node, no_exprs, expr, statement, no_stmts, stmt, Module}
use Rattle.graph_walks.specs.Worlds.{Edge, Fact}
use Rattle.stack_code.specs.declared.op.Op.TheVariants as op
use Rattle.stack_code.specs.declared.op.ConstKind.TheVariants as const
use Rattle.abstract_shapes.specs.declared.place.Place.TheVariants.{Global}
use Rattle.abstract_shapes.specs.Shapes.{Shape, int}
use Rattle.world_rules.specs.Places.{main, Variable, slot, Point, at}
use Rattle.world_rules.specs.Sources.{Source}
use Rattle.world_rules.specs.Items.{Item, a_context, an_edge, a_fact, an_entry, map_of}
use Rattle.world_rules.specs.Rules.{fall_edge}
use Rattle.world_covering.specs.Modules.{Settings, source_of}

abbrev pub one_line : Module
one_line =
    record { body = stmt (statement (tree.assign (expr (node (tree.name 0) 1 0) no_exprs) (node (tree.literal (literal.Int false 1)) 1 1)) 1) no_stmts; names = codes "x" ∷ [] }

abbrev pub its_settings : Settings
its_settings = record { depth = 4; budget = 262144; library = false }

abbrev pub its_source : Source
its_source = source_of one_line [] its_settings

-- the literal is pushed, and the name gets what was pushed
abbrev pub pushed : Edge Point Variable Shape
pushed = fall_edge main 0 0 (op.Const const.Int)

abbrev pub stored : Edge Point Variable Shape
stored = fall_edge main 1 1 (op.StoreName 0)

abbrev pub literal_is_int : Fact Point Variable Shape
literal_is_int = record { point = at main 0 0; shape = int; source = map_of [] [] }

abbrev pub name_gets_int : Fact Point Variable Shape
name_gets_int = record { point = at main 1 1; shape = int; source = map_of (slot main 0 ∷ []) (int ∷ []) }

abbrev pub its_world : List Item
its_world = a_context main ∷ an_edge pushed ∷ an_edge stored ∷ a_fact literal_is_int ∷ a_fact name_gets_int ∷ an_entry (Global 0) int ∷ []
