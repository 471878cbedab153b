use Rattle.std.proofs.Common.{◌≡◌, ℕ, List, true, ◌||◌, map, drop}
use Rattle.std.specs.List.{list_any}
use Rattle.std.specs.Str.{bytes_eq}
use Rattle.type_terms.specs.Exceptions.{is_exception}
use Rattle.type_terms.specs.Normal.{has_class}
use Rattle.type_terms.specs.View.{term_view}
use Rattle.type_terms.proofs.absorbed.exceptions_among.Given as goal

abbrev pub invariant-loop-part : goal.invariant-loop-part
invariant-loop-part l =
    (name : List ℕ) → is_exception name ≡ true
    → (list_any (bytes_eq name) (map (λ known. known.now) l.names.items) || has_class (map term_view (drop l.part-index l.parts)) name) ≡ has_class (map term_view l.parts) name
