-- How a type is seen by its outermost variant.
use Rattle.std.proofs.Common.{◌≡◌, ℕ, List, sym, ap, ◌∙◌}
use Rattle.std.specs.Global.{Vec, Box}
use Rattle.type_terms.specs.declared.term.TypeTerm.{TypeTerm, fold-roll-TypeTerm}
use Rattle.type_terms.specs.declared.term.TypeTerm.TheOpen.{TypeTerm-F}
use Rattle.type_terms.specs.declared.term.TypeTerm.TheVariants as variants
use Rattle.type_terms.specs.Terms.{Term, list, dict, tuple, tuple_of, class}
use Rattle.type_terms.specs.View.{term_step, term_view, terms_view}

pub view_list : (item : Box TypeTerm) → term_view (variants.List item) ≡ list (term_view item.value)
view_list item = ap term_view (sym (variants.rolls-List item)) ∙ fold-roll-TypeTerm Term term_step (TypeTerm-F.List item)

pub view_dict : (key val : Box TypeTerm) → term_view (variants.Dict key val) ≡ dict (term_view key.value) (term_view val.value)
view_dict key val = ap term_view (sym (variants.rolls-Dict key val)) ∙ fold-roll-TypeTerm Term term_step (TypeTerm-F.Dict key val)

pub view_tuple : (places : Vec TypeTerm) → term_view (variants.Tuple places) ≡ tuple (terms_view places.items)
view_tuple places = ap term_view (sym (variants.rolls-Tuple places)) ∙ fold-roll-TypeTerm Term term_step (TypeTerm-F.Tuple places)

pub view_tuple_of : (item : Box TypeTerm) → term_view (variants.TupleOf item) ≡ tuple_of (term_view item.value)
view_tuple_of item = ap term_view (sym (variants.rolls-TupleOf item)) ∙ fold-roll-TypeTerm Term term_step (TypeTerm-F.TupleOf item)

pub view_class : (name : List ℕ) → term_view (variants.Class name) ≡ class name
view_class name = ap term_view (sym (variants.rolls-Class name)) ∙ fold-roll-TypeTerm Term term_step (TypeTerm-F.Class name)
