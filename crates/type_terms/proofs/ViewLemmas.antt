-- The view of a union, and of any other type, as parts.
use Rattle.std.proofs.Common.{◌≡◌, [], ◌∷◌, refl, sym, ap, ◌∙◌, subst}
use Rattle.std.specs.Global.{Vec}
use Rattle.type_terms.specs.declared.term.TypeTerm.{TypeTerm, out-TypeTerm, roll-TypeTerm, roll-out-TypeTerm, fold_out-TypeTerm, fold-roll-TypeTerm}
use Rattle.type_terms.specs.declared.term.TypeTerm.TheFolds.{map-TypeTerm}
use Rattle.type_terms.specs.declared.term.TypeTerm.TheOpen.{TypeTerm-F}
use Rattle.type_terms.specs.declared.term.TypeTerm.TheVariants as variants
use Rattle.type_terms.specs.Terms.{Term, any, int, union}
use Rattle.type_terms.specs.Normal.{parts}
use Rattle.type_terms.specs.View.{term_step, term_view, terms_view}

pub view_union : (members : Vec TypeTerm) → term_view (variants.Union members) ≡ union (terms_view members.items)
view_union members = ap term_view (sym (variants.rolls-Union members)) ∙ fold-roll-TypeTerm Term term_step (TypeTerm-F.Union members)

pub view_any : term_view variants.Any ≡ any
view_any = ap term_view (sym variants.rolls-Any) ∙ fold-roll-TypeTerm Term term_step TypeTerm-F.Any

layer_parts : (x : TypeTerm-F TypeTerm) → ((members : Vec TypeTerm) → x ≡ TypeTerm-F.Union members → ⊥)
    → term_step (map-TypeTerm TypeTerm Term term_view x) ∷ [] ≡ parts (term_step (map-TypeTerm TypeTerm Term term_view x))
layer_parts TypeTerm-F.Any other = refl
layer_parts TypeTerm-F.NoneTerm other = refl
layer_parts TypeTerm-F.Bool other = refl
layer_parts TypeTerm-F.Int other = refl
layer_parts TypeTerm-F.Float other = refl
layer_parts TypeTerm-F.Str other = refl
layer_parts TypeTerm-F.Bytes other = refl
layer_parts (TypeTerm-F.List item) other = refl
layer_parts (TypeTerm-F.Dict key val) other = refl
layer_parts (TypeTerm-F.Tuple places) other = refl
layer_parts (TypeTerm-F.TupleOf item) other = refl
layer_parts (TypeTerm-F.Class name) other = refl
layer_parts (TypeTerm-F.ClassOf name) other = refl
layer_parts (TypeTerm-F.Callable answer) other = refl
layer_parts (TypeTerm-F.Union members) other = absurd (other members refl)

pub one_part : (member : TypeTerm) → ((members : Vec TypeTerm) → member ≡ variants.Union members → ⊥) → term_view member ∷ [] ≡ parts (term_view member)
one_part member other =
    subst (λ t. t ∷ [] ≡ parts t) (sym (fold_out-TypeTerm Term term_step member))
    (layer_parts (out-TypeTerm member) (λ members e. other members (sym (roll-out-TypeTerm member) ∙ ap roll-TypeTerm e ∙ variants.rolls-Union members)))

pub view_int : term_view variants.Int ≡ int
view_int = ap term_view (sym variants.rolls-Int) ∙ fold-roll-TypeTerm Term term_step TypeTerm-F.Int
