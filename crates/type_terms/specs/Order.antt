-- The order of the members of a union: by rank, then by the bytes of their text.
use Rattle.std.specs.Prelude.{◌≡◌, ℕ}
use Rattle.std.specs.Ordering.{nat_cmp, ordering_then}
use Rattle.std.specs.Cmp.Lexicographic.{slice_cmp}
use Rattle.std.specs.declared.cmp.Ordering.{Ordering}
use Rattle.std.specs.declared.cmp.Ordering.TheVariants.{Less}
use Rattle.type_terms.specs.declared.key.Key.{Key}
use Rattle.type_terms.specs.Terms.{Term, any, none, bool, int, float, str, bytes, list, dict, tuple, tuple_of, class, class_of, callable, union}
use Rattle.type_terms.specs.Texts.{text}
use Rattle.type_terms.specs.Codes.{code}

-- the last two are no members of a union in normal form
abbrev pub rank : Term → ℕ
rank bool = 0
rank int = 1
rank float = 2
rank str = 3
rank bytes = 4
rank (list item) = 5
rank (dict key val) = 6
rank (tuple places) = 7
rank (tuple_of item) = 7
rank (class name) = 8
rank (class_of name) = 9
rank (callable answer) = 10
rank none = 11
rank any = 12
rank (union members) = 13

abbrev pub key_of : Term → Key
key_of t = record { rank = rank t; text = text t; code = code t }

-- where classes have the names of classes, two types of one rank and one text are one type; else the code decides
abbrev pub key_cmp : Key → Key → Ordering
key_cmp a b = ordering_then (ordering_then (nat_cmp a.rank b.rank) (slice_cmp nat_cmp a.text b.text)) (slice_cmp nat_cmp a.code b.code)

abbrev pub term_cmp : Term → Term → Ordering
term_cmp a b = key_cmp (key_of a) (key_of b)

-- a term stands before another
abbrev pub IsBefore : Term → Term → Type 0
IsBefore a b = term_cmp a b ≡ Less
