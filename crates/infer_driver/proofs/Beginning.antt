-- More items than a world may have, where they are the first of a world: the least world is larger.
use Rattle.std.proofs.Common.{◌≡◌, List, [], ◌∷◌, sym, subst}
use Rattle.std.specs.List.{Contains}
use Rattle.graph_walks.proofs.Lists.{empty, first, only}
use Rattle.world_rules.specs.Places.{main}
use Rattle.world_rules.specs.Sources.{Source}
use Rattle.world_rules.specs.Items.{Item, a_context}
use Rattle.world_rules.specs.Rules.{IsDerived, derived, of_module, leads, IsLarger}
use Rattle.context_graph.specs.Growth.{edge_of}
use Rattle.abstract_vm.specs.Worlds.{most_items}
use Rattle.abstract_vm.specs.Beginning.{IsFirstItem, the_module, its_edge, AreFirst, AreTooMany}

module _ (s : Source) where
  module_derived : IsDerived s (a_context main)
  module_derived = derived [] (λ j c. empty j c) of_module

  alone_derived : (j : Item) → Contains (a_context main ∷ []) j → IsDerived s j
  alone_derived j c = subst (λ i. IsDerived s i) (sym (only (a_context main) j c)) module_derived

  -- the module's context is given by no item, and an edge of it by the context alone
  pub first_derived : (i : Item) → IsFirstItem s i → IsDerived s i
  first_derived i the_module = module_derived
  first_derived i (its_edge (edge_of stands goes there)) = derived (a_context main ∷ []) alone_derived (leads (first (a_context main) []) stands goes there)

  pub too_many_are_larger : AreTooMany s → IsLarger s most_items
  too_many_are_larger t = record { items = t.items; apart = t.first.once; derived = record { each = λ i c. first_derived i ((t.first.each i).0 c) }; many = t.many }
