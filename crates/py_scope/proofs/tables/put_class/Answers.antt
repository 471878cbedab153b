use Rattle.std.proofs.Common.{◌≡◌, [], ◌∷◌, ◌++◌, List, map, length, nat_eq, rules, Some, None, if◌then◌else◌, sym, ap, subst, ◌∙◌}
use Rattle.std.specs.Option.{option_or}
use Rattle.indexmap.specs.IndexMap.{get}
use Rattle.py_scope.specs.declared.kept_class.KeptClass.{KeptClass}
use Rattle.py_scope.specs.KeptClasses.{base_in, scope_of, told_from, name_of, place_in, HaveBasesBefore}
use Rattle.py_tree.specs.View.{class_view}
use Rattle.scope_rules.specs.Tables.{base_class, class_scope}
use Rattle.py_scope.proofs.KeptLemmas.{same_then, base_at, told_more, bases_more, places_more}
use Rattle.py_scope.proofs.tables.put_class.Goals as goal

pub kept_class-requires : goal.kept_class-requires
kept_class-requires c =
    let rows = c.args.rows.now.items in
    let base = c.args.class.now.base in
    ap (λ l. base_in (told_from [] l) c.base_place-base.result) c.as_slice.ensures.value
    ∙ ap (base_in (told_from [] rows)) (c.base_place-base.ensures ∙ same_then (get nat_eq c.args.places.now) (place_in (map name_of rows)) c.requires.places base)
    ∙ base_at rows base
    ∙ sym (ap (λ l. base_class (told_from [] l) base) c.as_slice.ensures.value)

pub returns-clause-told : goal.returns-clause-told
returns-clause-told c =
    let rows = c.args.rows.now.items in
    let row = c.in_ok-row.row in
    let class = class_view c.args.class.now in
    ap (told_from []) c.in_ok-push.ensures.items
    ∙ told_more rows row
    ∙ ap (λ s. told_from [] rows ++ s ∷ [])
    (sym (ap (λ l. scope_of (told_from [] l) row) c.as_slice.ensures.value) ∙ c.in_ok-row.ensures.told ∙ ap (λ l. class_scope c.args.names.now (told_from [] l) class) c.as_slice.ensures.value)

pub returns-clause-before : goal.returns-clause-before
returns-clause-before c =
    let rows = c.args.rows.now.items in
    let base = c.args.class.now.base in
    let P : List KeptClass → Type 0 = HaveBasesBefore in
    subst P (sym c.in_ok-push.ensures.items)
    (bases_more rows c.in_ok-row.row base c.requires.before
    (c.in_ok-row.ensures.base ∙ c.base_place-base.ensures ∙ same_then (get nat_eq c.args.places.now) (place_in (map name_of rows)) c.requires.places base))

pub returns-clause-places : goal.returns-clause-places
returns-clause-places c = λ n.
    let rows = c.args.rows.now.items in
    let name = c.args.class.now.name in
    let size : c.len.result ≡ length rows = search rules in
    places_more (get nat_eq c.args.places.now) (get nat_eq c.put_first.new.values) rows c.in_ok-row.row name c.in_ok-row.ensures.name c.requires.places
    (λ k. c.in_ok-put_first.ensures k ∙ ap (λ i. option_or (get nat_eq c.args.places.now k) (if nat_eq name k then Some i else None)) size) n
    ∙ sym (ap (λ l. place_in (map name_of l) n) c.in_ok-push.ensures.items)
