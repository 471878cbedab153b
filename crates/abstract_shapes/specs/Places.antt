-- When two places are the same: by what they are, and by their numbers.
use Rattle.std.specs.Prelude.{ℕ, Bool, ◌&&◌, ◌==◌}
use Rattle.abstract_shapes.specs.declared.place.Place.{Place}
use Rattle.abstract_shapes.specs.declared.place.Place.TheVariants.{Attribute, Member, Element, Key, Value, Part, Global, Raised}

abbrev pub kind : Place → ℕ
kind (Attribute c n) = 0
kind (Member c n) = 1
kind (Element site) = 2
kind (Key site) = 3
kind (Value site) = 4
kind (Part site i) = 5
kind (Global n) = 6
kind Raised = 7

abbrev pub first : Place → ℕ
first (Attribute c n) = c
first (Member c n) = c
first (Element site) = site
first (Key site) = site
first (Value site) = site
first (Part site i) = site
first (Global n) = n
first Raised = 0

abbrev pub second : Place → ℕ
second (Attribute c n) = n
second (Member c n) = n
second (Part site i) = i
second _ = 0

-- whether two places are the same
abbrev pub same_place : Place → Place → Bool
same_place p q = (kind p == kind q) && ((first p == first q) && (second p == second q))
