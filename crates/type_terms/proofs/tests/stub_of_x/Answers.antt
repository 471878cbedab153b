use Rattle.std.proofs.Common.{◌≡◌, ap, sym, subst, ◌∙◌, ◌++◌, ◌∷◌, [], map}
use Rattle.type_terms.specs.declared.stub.StubName.{StubName}
use Rattle.type_terms.specs.declared.term.TypeTerm.TheVariants.{Int}
use Rattle.type_terms.specs.ProperStubs.{IsProperStub}
use Rattle.type_terms.specs.Stubs.{Stub, name_view, fun_view, class_view}
use Rattle.type_terms.specs.View.{term_view}
use Rattle.type_terms.proofs.StubSetLemmas.{stub_of_one, one_name}
use Rattle.type_terms.proofs.ViewLemmas.{view_int}
use Rattle.type_terms.proofs.tests.stub_of_x.Goals as goal

pub returns : goal.returns
returns c =
    let row : StubName = record { name = c.in_ok-named.field-0; term = Int } in
    let names : c.push.new.self ≡ row ∷ [] = c.in_ok-push.ensures.pushed ∙ ap (λ ns. ns ++ row ∷ []) c.new-names.ensures in
    let made : Stub = record { names = map name_view c.push.new.self; funs = map fun_view c.new.result; classes = map class_view c.new-2.result } in
    let same : made ≡ stub_of_one c.in_ok-named.field-0 (term_view Int) =
    λ i. record { names = map name_view (names i); funs = map fun_view (c.new.ensures i); classes = map class_view (c.new-2.ensures i) } in
    subst IsProperStub (sym same) (one_name c.in_ok-named.field-0 (term_view Int) view_int)
