-- The term that a value of the Rust type is.
use Rattle.std.specs.Prelude.{List, map}
use Rattle.type_terms.specs.declared.term.TypeTerm as rust
use Rattle.type_terms.specs.declared.term.TypeTerm.{fold-TypeTerm}
use Rattle.type_terms.specs.declared.term.TypeTerm.TheOpen.{TypeTerm-F}
use Rattle.type_terms.specs.Terms.{Term, any, none, bool, int, float, str, bytes, list, dict, tuple, tuple_of, class, class_of, callable, union, Terms, terms_of}

abbrev pub term_step : TypeTerm-F Term → Term
term_step TypeTerm-F.Any = any
term_step TypeTerm-F.NoneTerm = none
term_step TypeTerm-F.Bool = bool
term_step TypeTerm-F.Int = int
term_step TypeTerm-F.Float = float
term_step TypeTerm-F.Str = str
term_step TypeTerm-F.Bytes = bytes
term_step (TypeTerm-F.List item) = list item.value
term_step (TypeTerm-F.Dict key val) = dict key.value val.value
term_step (TypeTerm-F.Tuple places) = tuple (terms_of places.items)
term_step (TypeTerm-F.TupleOf item) = tuple_of item.value
term_step (TypeTerm-F.Class name) = class name
term_step (TypeTerm-F.ClassOf name) = class_of name
term_step (TypeTerm-F.Callable answer) = callable answer.value
term_step (TypeTerm-F.Union members) = union (terms_of members.items)

abbrev pub term_view : rust.TypeTerm → Term
term_view = fold-TypeTerm Term term_step

abbrev pub terms_view : List rust.TypeTerm → Terms
terms_view ts = terms_of (map term_view ts)
