-- The members of a union: what order they stand in, and the same as a function that puts them in order one at a time.
use Rattle.std.specs.Prelude.{◌≡◌, ℕ, Bool, true, false, not, Option, Some, None, List, [], ◌∷◌, map, filter, if◌then◌else◌}
use Rattle.std.specs.List.{list_any}
use Rattle.std.specs.Str.{bytes_eq}
use Rattle.std.specs.declared.cmp.Ordering.{Ordering}
use Rattle.std.specs.declared.cmp.Ordering.TheVariants.{Less, Equal, Greater}
use Rattle.type_terms.specs.declared.member.Member.{Member}
use Rattle.type_terms.specs.Exceptions.{exception_chain, is_exception}
use Rattle.type_terms.specs.Normal.{IsAmong, Rises, has_class, above}
use Rattle.type_terms.specs.Order.{term_cmp}
use Rattle.type_terms.specs.Terms.{Term, any, class, union, terms_of}
use Rattle.type_terms.specs.View.{term_view}

abbrev pub place_term : Ordering → Term → Term → List Term → List Term → List Term
place_term Less t u us more = u ∷ more
place_term Equal t u us more = u ∷ us
place_term Greater t u us more = t ∷ u ∷ us

-- a term that is put before the first that it doesn't follow, unless it is there
abbrev pub with_term : Term → List Term → List Term
with_term t [] = t ∷ []
with_term t (u ∷ us) = place_term (term_cmp u t) t u us (with_term t us)

abbrev pub member_term : Member → Term
member_term member = term_view member.term

abbrev pub member_terms : List Member → List Term
member_terms members = map member_term members

-- one member stands alone, and none are `Any`
abbrev pub united : List Term → Term
united [] = any
united (t ∷ []) = t
united (t ∷ u ∷ us) = union (terms_of (t ∷ u ∷ us))

-- the name of a builtin exception class
abbrev pub exception_of : Term → Option (List ℕ)
exception_of (class name) = if is_exception name then Some name else None
exception_of _ = None

-- names that tell which builtin exception classes are among terms
pub record Tells (names : List (List ℕ)) (ts : List Term) : Type 0 where
  pub each : (name : List ℕ) → is_exception name ≡ true → list_any (bytes_eq name) names ≡ has_class ts name

-- whether a type is a builtin exception class with one of the names above it
abbrev pub is_below : List (List ℕ) → Term → Bool
is_below names (class name) = list_any (λ up. list_any (bytes_eq up) names) (above (exception_chain name))
is_below names _ = false

-- the terms that are not below one of the names
abbrev pub staying : List (List ℕ) → List Term → List Term
staying names ts = filter (λ t. not (is_below names t)) ts

-- terms in order: those of a list, each once
pub record AreInOrder (ts members : List Term) : Type 0 where
  pub rises : Rises members
  pub from : (t : Term) → IsAmong t members → IsAmong t ts
  pub all : (t : Term) → IsAmong t ts → IsAmong t members

-- the terms that are not below one of the names, put in order from the last on
abbrev pub in_order : List (List ℕ) → List Term → List Term
in_order names [] = []
in_order names (t ∷ ts) = if is_below names t then in_order names ts else with_term t (in_order names ts)
