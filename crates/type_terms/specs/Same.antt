-- Whether two types are one, as a test.
use Rattle.std.specs.Prelude.{Bool, true, false, ◌&&◌}
use Rattle.std.specs.Str.{bytes_eq}
use Rattle.type_terms.specs.Terms.{Term, any, none, bool, int, float, str, bytes, list, dict, tuple, tuple_of, class, class_of, callable, union, Terms, no_terms, term}

abbrev mutual
  pub same_term : Term → Term → Bool
  same_term any any = true
  same_term none none = true
  same_term bool bool = true
  same_term int int = true
  same_term float float = true
  same_term str str = true
  same_term bytes bytes = true
  same_term (list t) (list u) = same_term t u
  same_term (dict t u) (dict v w) = same_term t v && same_term u w
  same_term (tuple ts) (tuple us) = same_terms ts us
  same_term (tuple_of t) (tuple_of u) = same_term t u
  same_term (class n) (class m) = bytes_eq n m
  same_term (class_of n) (class_of m) = bytes_eq n m
  same_term (callable t) (callable u) = same_term t u
  same_term (union ts) (union us) = same_terms ts us
  same_term _ _ = false

  pub same_terms : Terms → Terms → Bool
  same_terms no_terms no_terms = true
  same_terms (term t ts) (term u us) = same_term t u && same_terms ts us
  same_terms _ _ = false
