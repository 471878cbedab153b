-- Derived items stand in every closed world, so a closed world of them is the least.
use Rattle.std.proofs.Common.{◌≡◌, ◌≢◌, ℕ, suc, zero, ◌<◌, ◌≤◌, List, [], ◌∷◌, length, get_or, refl, arith}
use Rattle.std.specs.List.{Contains}
use Rattle.graph_walks.proofs.Distinct.{no_longer}
use Rattle.graph_walks.proofs.Lists.{first_as, later}
use Rattle.world_rules.specs.Sources.{Source}
use Rattle.world_rules.specs.Items.{Item}
use Rattle.world_rules.specs.Rules.{IsClosed, IsContained, IsDerived, derived, AreDerived, IsLeast, IsLarger}
use Rattle.world_rules.proofs.Growing.{gives_more}

numbered : {X : Type 0} (xs : List X) (number : ℕ) (otherwise : X) → number < length xs → Contains xs (get_or xs number otherwise)
numbered [] number otherwise few = absurd (omega arith)
numbered (x ∷ xs) zero otherwise few = first_as x x xs refl
numbered (x ∷ xs) (suc number) otherwise few = later x _ xs (numbered xs number otherwise (omega arith))

module _ (s : Source) (world : List Item) (closed : IsClosed s world) where
  -- by what the item was built of
  stands_in : (i : Item) → IsDerived s i → Contains world i
  stands_in i (derived parts built given) = closed.has i (gives_more s parts world (record { at = λ j among. stands_in j (built j among) }) given)

  pub within : (items : List Item) → AreDerived s items → IsContained items world
  within items all = record { at = λ i among. stands_in i (all.each i among) }

pub least : (s : Source) (items : List Item) → AreDerived s items → IsClosed s items → IsLeast s items
least s items all closed = record { closed = closed; least = λ world other. within s world other items all }

pub no_fewer : (s : Source) (limit : ℕ) (world : List Item) → IsLarger s limit → IsLeast s world → length world ≤ limit → ⊥
no_fewer s limit world larger l few =
    let inside : IsContained larger.items world = within s world l.closed larger.items larger.derived in
    let longer : length larger.items ≤ length world = no_longer larger.items world larger.apart (λ number otherwise h. inside.at _ (numbered larger.items number otherwise h)) in
    omega (arith, few, longer, larger.many)
