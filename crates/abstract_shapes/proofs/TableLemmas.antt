-- Lists of ids in which each stands once.
use Rattle.std.proofs.Common.{[], nat_eq, arith}
use Rattle.std.specs.List.{IsDistinct}
use Rattle.std.proofs.lemmas.Map.Keys.{IsDistinct-from_apart}
use Rattle.abstract_shapes.specs.Places.{same_place}

pub distinct_none : IsDistinct nat_eq []
distinct_none = IsDistinct-from_apart nat_eq [] (λ i j d before within. absurd (omega (arith, within)))

pub places_none : IsDistinct same_place []
places_none = IsDistinct-from_apart same_place [] (λ i j d before within. absurd (omega (arith, within)))
