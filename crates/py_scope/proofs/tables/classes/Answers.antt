use Rattle.std.proofs.Common.{◌+◌, [], List, drop, map, nat_eq, sym, ap, subst, ◌∙◌}
use Rattle.indexmap.specs.IndexMap.{get}
use Rattle.py_scope.specs.declared.kept_class.KeptClass.{KeptClass}
use Rattle.py_scope.specs.KeptClasses.{told_from, name_of, place_in, HaveBasesBefore}
use Rattle.py_tree.specs.View.{stmts_view}
use Rattle.scope_rules.specs.Tables.{classes_from}
use Rattle.py_scope.proofs.ClassHeads.{class_head, plain_head}
use Rattle.py_scope.proofs.tables.classes.Goals as goal
use Rattle.py_scope.proofs.tables.classes.Goals.{in-Class+in_ok-put_class, in_default}

pub loop-stmt-preserved : goal.loop-stmt-preserved
loop-stmt-preserved c =
    let stmts = c.args.stmts.now in
    let i = c.loop-stmt.stmt-index in
    let s = c.stmt-item.result in
    let names = c.args.names.now in
    let rest = stmts_view (drop (i + 1) stmts) in
    let old = c.loop-stmt.rows.items in
    let P : List KeptClass → Type 0 = HaveBasesBefore in
    elim c.match-stmt.branch [
      | in-Class+in_ok-put_class w ↦
          record {
            told =
                (λ j. classes_from names (told_from [] (w.rows-is j).items) rest)
                ∙ ap (λ t. classes_from names t rest) w.in_ok-put_class.ensures.told
                ∙ sym (ap (classes_from names (told_from [] old)) (class_head stmts i s w.in-Class.class c.loop-stmt-test.true c.stmt-item.is w.in-Class.is))
                ∙ c.loop-stmt.invariant.told;
            before = subst P (sym (λ j. (w.rows-is j).items)) w.in_ok-put_class.ensures.before;
            places = λ n. (λ j. get nat_eq (w.places-is j) n) ∙ w.in_ok-put_class.ensures.places n ∙ sym (λ j. place_in (map name_of (w.rows-is j).items) n);
          }
      | in_default w ↦
          record {
            told =
                (λ j. classes_from names (told_from [] (w.rows-is j).items) rest)
                ∙ sym (plain_head names (told_from [] old) stmts i s c.loop-stmt-test.true c.stmt-item.is w.in_default.not-Class)
                ∙ c.loop-stmt.invariant.told;
            before = subst P (sym (λ j. (w.rows-is j).items)) c.loop-stmt.invariant.before;
            places = λ n. (λ j. get nat_eq (w.places-is j) n) ∙ c.loop-stmt.invariant.places n ∙ sym (λ j. place_in (map name_of (w.rows-is j).items) n);
          }
    ]
