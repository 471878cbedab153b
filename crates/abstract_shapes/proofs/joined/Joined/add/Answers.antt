use Rattle.std.proofs.Common.{◌∷◌, subst, arith}
use Rattle.std.specs.List.{IsDistinct}
use Rattle.std.proofs.lemmas.List.Sorted.{length_permutation}
use Rattle.abstract_shapes.specs.Places.{same_place}
use Rattle.abstract_shapes.specs.Tables.{entries}
use Rattle.abstract_shapes.proofs.joined.Joined.add.Goals as goal

pub invariant_of-self-2 : goal.invariant_of-self-2
invariant_of-self-2 c =
    let more = length_permutation ((c.args.place, c.args.shape) ∷ entries c.self.inside.rows.items) (entries c.add_entry.new.rows.items) c.in_ok-add_entry.ensures.entry in
    record {
      places_are = c.add_entry.ensures.indexed;
      apart = subst (IsDistinct same_place) c.add_entry.ensures.indexed c.add_entry.ensures.apart;
      counted = omega (arith, more, c.self.invariant.counted);
    }
