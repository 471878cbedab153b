use Rattle.std.proofs.Common.{◌≡◌, map, false, sym, ap, ◌∙◌, subst}
use Rattle.std.proofs.lemmas.Result.{IfOk-weaker}
use Rattle.type_terms.specs.Normal.{IsUnionOf, takes_all, has_any, parts_of}
use Rattle.type_terms.specs.Ordered.{AreInOrder, Tells, member_terms, staying}
use Rattle.type_terms.specs.View.{term_view, terms_view}
use Rattle.type_terms.proofs.AbsorbLemmas.{in_order_members, united_members}
use Rattle.type_terms.proofs.ViewLemmas.{view_any}
use Rattle.type_terms.proofs.normal_form.union_of.Goals as goal

pub returns-then-has_any : goal.returns-then-has_any
returns-then-has_any c =
    subst (IsUnionOf (parts_of (terms_view c.args.members.items))) (sym view_any)
    (takes_all (ap has_any (sym c.in_ok-parts.ensures ∙ ap (map term_view) (sym c.deref.ensures.value)) ∙ sym c.if-has_any.ensures))

pub returns : goal.returns
returns c =
    let all = map term_view c.in_ok-parts.parts.items in
    let absent : has_any all ≡ false = ap (λ ts. has_any (map term_view ts)) (sym c.deref.ensures.value) ∙ sym c.if-has_any.ensures in
    let tells : Tells (map (λ name. name.now) c.in_ok-names.names.items) all = rw (← c.deref-2.ensures.value) c.in_ok-names.ensures in
    let names = map (λ name. name.now) c.in_ok-names.names.items in
    let order = subst (λ ns. AreInOrder (staying (map (λ name. name.now) ns) all) (member_terms c.in_ok-ordered.field-0.items)) c.deref-3.ensures.value c.in_ok-ordered.ensures in
    let union = united_members all _ absent (in_order_members names all _ tells order) in
    IfOk-weaker c.united.result _ _ (λ made same. rw (← c.in_ok-parts.ensures) (subst (IsUnionOf all) (sym same) union)) c.united.ensures
