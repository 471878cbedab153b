-- Each kind is seen in the tree, and then its code is that of the call.
use Rattle.std.proofs.Common.{map, sym, ap, subst, ◌∙◌}
use Rattle.std.proofs.lemmas.Result.{on_ok_weaker}
use Rattle.py_tree.specs.Tree as tree
use Rattle.py_tree.specs.View.{stmt_kind_view, expr_view, exprs_view, import_view, from_view}
use Rattle.tree_code.specs.Statements.{Place}
use Rattle.block_compile.specs.PlaceOf.{standing, plain_code}
use Rattle.expr_compile.specs.Growth.{Grows}
use Rattle.py_tree.proofs.StatementViews.{view_return, view_raise, view_assert, view_import, view_from, view_assign, view_augment, view_annotated, view_expression}
use Rattle.block_compile.proofs.plain.push_plain.Goals as goal

pub returns-in-Return : goal.returns-in-Return
returns-in-Return c =
    let at : Place = standing c.args.names.now c.args.at.now in
    on_ok_weaker c.push_return.result (subst (λ k. Grows (plain_code at c.args.line k) c.args.buffer.now c.push_return.new.buffer) (sym (ap stmt_kind_view c.in-Return.is ∙ view_return c.in-Return.value))) c.push_return.ensures

pub returns-in-Raise : goal.returns-in-Raise
returns-in-Raise c =
    let at : Place = standing c.args.names.now c.args.at.now in
    on_ok_weaker c.push_raise.result (subst (λ k. Grows (plain_code at c.args.line k) c.args.buffer.now c.push_raise.new.buffer) (sym (ap stmt_kind_view c.in-Raise.is ∙ view_raise c.in-Raise.raised c.in-Raise.cause))) c.push_raise.ensures

pub returns-in-Assert : goal.returns-in-Assert
returns-in-Assert c =
    let at : Place = standing c.args.names.now c.args.at.now in
    on_ok_weaker c.push_assert.result (subst (λ k. Grows (plain_code at c.args.line k) c.args.buffer.now c.push_assert.new.buffer) (sym (ap stmt_kind_view c.in-Assert.is ∙ view_assert c.in-Assert.test c.in-Assert.message))) c.push_assert.ensures

pub returns-in-Import : goal.returns-in-Import
returns-in-Import c =
    let at : Place = standing c.args.names.now c.args.at.now in
    on_ok_weaker c.push_imports.result (subst (λ k. Grows (plain_code at c.args.line k) c.args.buffer.now c.push_imports.new.buffer) (sym (ap stmt_kind_view c.in-Import.is ∙ view_import c.in-Import.parts ∙ ap (λ ps. tree.import (map import_view ps)) (sym c.as_slice.ensures.value)))) c.push_imports.ensures

pub returns-in-From : goal.returns-in-From
returns-in-From c =
    let at : Place = standing c.args.names.now c.args.at.now in
    on_ok_weaker c.push_froms.result (subst (λ k. Grows (plain_code at c.args.line k) c.args.buffer.now c.push_froms.new.buffer) (sym (ap stmt_kind_view c.in-From.is ∙ view_from c.in-From.path c.in-From.parts ∙ ap (λ path. tree.from path (map from_view c.in-From.parts.items)) (sym c.as_slice-in-From.ensures.value) ∙ ap (λ ps. tree.from c.as_slice-in-From.result.now (map from_view ps)) (sym c.as_slice-in-From-2.ensures.value)))) c.push_froms.ensures

pub returns-in-Assign : goal.returns-in-Assign
returns-in-Assign c =
    let at : Place = standing c.args.names.now c.args.at.now in
    on_ok_weaker c.push_assign.result (subst (λ k. Grows (plain_code at c.args.line k) c.args.buffer.now c.push_assign.new.buffer) (sym (ap stmt_kind_view c.in-Assign.is ∙ view_assign c.in-Assign.targets c.in-Assign.value ∙ ap (λ ts. tree.assign (exprs_view ts) (expr_view c.in-Assign.value)) (sym c.as_slice-in-Assign.ensures.value)))) c.push_assign.ensures

pub returns-in-Augment : goal.returns-in-Augment
returns-in-Augment c =
    let at : Place = standing c.args.names.now c.args.at.now in
    on_ok_weaker c.push_augment.result (subst (λ k. Grows (plain_code at c.args.line k) c.args.buffer.now c.push_augment.new.buffer) (sym (ap stmt_kind_view c.in-Augment.is ∙ view_augment c.in-Augment.target c.in-Augment.op c.in-Augment.value))) c.push_augment.ensures

pub returns-in-Annotated : goal.returns-in-Annotated
returns-in-Annotated c =
    let at : Place = standing c.args.names.now c.args.at.now in
    on_ok_weaker c.push_annotated.result (subst (λ k. Grows (plain_code at c.args.line k) c.args.buffer.now c.push_annotated.new.buffer) (sym (ap stmt_kind_view c.in-Annotated.is ∙ view_annotated c.in-Annotated.target c.in-Annotated.value))) c.push_annotated.ensures

pub returns-in-Expression : goal.returns-in-Expression
returns-in-Expression c =
    let at : Place = standing c.args.names.now c.args.at.now in
    on_ok_weaker c.push_expression.result (subst (λ k. Grows (plain_code at c.args.line k) c.args.buffer.now c.push_expression.new.buffer) (sym (ap stmt_kind_view c.in-Expression.is ∙ view_expression c.in-Expression.value))) c.push_expression.ensures
