-- The builtin names whose values are not followed.
use Rattle.std.specs.Prelude.{ℕ, List, map}
use Rattle.builtin_stubs.specs.declared.outside.TheConstants.{OUTSIDE}

abbrev pub outside_names : List (List ℕ)
outside_names = map (λ name. name.now) OUTSIDE.now
