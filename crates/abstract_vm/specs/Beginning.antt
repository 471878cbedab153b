-- What every world of a program begins with.
use Rattle.std.specs.Prelude.{◌≢◌, ◌↔◌, ◌<◌, ◌≤◌, None, List, length}
use Rattle.std.specs.List.{AllPairs, Contains}
use Rattle.world_rules.specs.Places.{main}
use Rattle.world_rules.specs.Sources.{Source}
use Rattle.world_rules.specs.Items.{Item, a_context}
use Rattle.flow_graph.specs.Flows.{with_context}
use Rattle.typegraph.specs.Graphs.{with_flow}
use Rattle.world_tables.specs.Tables.{items_of, AreTables, AreFinished}
use Rattle.world_tables.specs.Rows.{WorldRows, no_rows, tables_of, with_graph}
use Rattle.context_graph.specs.Growth.{IsEdgeOf}
use Rattle.abstract_vm.specs.Worlds.{WorldState, items_in, most_items, IsWorldOf}

-- the module's context, or one of its edges
pub data IsFirstItem (s : Source) : Item → Type 0 where
  the_module : IsFirstItem s (a_context main)
  its_edge : {i : Item} → IsEdgeOf s main i → IsFirstItem s i

-- these are all, and each stands once
pub record AreFirst (s : Source) (items : List Item) : Type 0 where
  pub each : (i : Item) → Contains items i ↔ IsFirstItem s i
  pub once : AllPairs (λ i j. i ≢ j) items

-- a world with nothing else
pub record IsNewWorld (s : Source) (w : WorldState) : Type 0 where
  pub world : IsWorldOf s w
  pub has_main : Contains (tables_of w.rows).contexts main
  pub first : AreFirst s (items_in w)
  pub few : length (items_in w) ≤ most_items

-- ---- tables

-- nothing but the module's context
abbrev pub has_module : WorldRows
has_module = with_graph (with_flow (with_context (record { parent = None; call = None; fun = None }) no_rows.graph.flow) no_rows.graph) no_rows

-- the tables of a world with nothing else
pub record IsBegun (s : Source) (rows : WorldRows) : Type 0 where
  pub tables : AreTables s (tables_of rows)
  pub finished : AreFinished (tables_of rows)
  pub has_main : Contains (tables_of rows).contexts main
  pub first : AreFirst s (items_of (tables_of rows))

-- they are more than a world may have
pub record AreTooMany (s : Source) : Type 0 where
  pub items : List Item
  pub first : AreFirst s items
  pub many : most_items < length items
