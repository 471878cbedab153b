-- As the tables say.
use Rattle.std.proofs.Common.{◌≡◌, ◌≤◌, length, subst}
use Rattle.abstract_vm.specs.Worlds.{WorldState, items_in}
use Rattle.abstract_vm.proofs.world.World.item_count.Goals as goal

pub returns-clause-many : goal.returns-clause-many
returns-clause-many c = subst (λ (w : WorldState). 4294967296 ≤ length (items_in w) → c.item_count.result ≡ 4294967295) c.self.view_is c.item_count.ensures.many
