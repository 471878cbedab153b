-- What types of places that were made before say.
use Rattle.std.specs.Prelude.{◌≡◌, ℕ, Bool, ◌&&◌, nat_eq, Some}
use Rattle.indexmap.specs.IndexMap.{get}
use Rattle.abstract_shapes.specs.declared.kept.KeptTypes.{KeptTypes}
use Rattle.abstract_shapes.specs.declared.kept.PlaceAtDepth.{PlaceAtDepth}
use Rattle.abstract_shapes.specs.declared.place.Place.{Place}
use Rattle.abstract_shapes.specs.Places.{same_place}
use Rattle.abstract_shapes.specs.Printed.{Scene, IsPrinted}
use Rattle.type_terms.specs.declared.term.TypeTerm.{TypeTerm}
use Rattle.type_terms.specs.View.{term_view}

abbrev pub same_key : PlaceAtDepth → PlaceAtDepth → Bool
same_key k l = same_place k.place l.place && nat_eq k.depth l.depth

-- each type that is kept is the one that is printed for its place at its depth
abbrev pub AreKept : Scene → KeptTypes → Type 0
AreKept scene kept =
    (place : Place) (depth : ℕ) (made : TypeTerm) → get same_key kept.types (record { place = place; depth = depth }) ≡ Some made → IsPrinted scene depth (scene.joined place) (term_view made)
