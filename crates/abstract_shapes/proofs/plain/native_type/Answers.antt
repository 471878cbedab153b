use Rattle.std.proofs.Common.{◌≡◌, ◌∙◌, ap, sym, subst, option_map, IfOk}
use Rattle.builtin_stubs.specs.Natives.{row_head}
use Rattle.type_terms.specs.View.{term_view}
use Rattle.abstract_shapes.specs.Printed.{native_type}
use Rattle.abstract_shapes.proofs.plain.native_type.Goals as goal

pub returns-in-Some : goal.returns-in-Some
returns-in-Some c =
    subst (λ h. IfOk c.by_sort.result (λ made. term_view made ≡ native_type h)) (sym (ap (option_map row_head) c.in-Some.is) ∙ c.row.ensures) c.by_sort.ensures

pub returns-in-None : goal.returns-in-None
returns-in-None c =
    subst (λ h. IfOk c.a_callable.result (λ made. term_view made ≡ native_type h)) (sym (ap (option_map row_head) c.in-None.is) ∙ c.row.ensures) c.a_callable.ensures
