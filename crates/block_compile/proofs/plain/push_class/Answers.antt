use Rattle.std.proofs.Common.{subst}
use Rattle.std.proofs.lemmas.Result.{on_ok_weaker}
use Rattle.py_tree.specs.declared.definition.ClassDef.{out-ClassDef}
use Rattle.py_tree.specs.View.{members_view}
use Rattle.tree_code.specs.Statements.{member_values}
use Rattle.expr_compile.specs.Growth.{Grows}
use Rattle.block_compile.proofs.Simple.{class_done}
use Rattle.block_compile.proofs.plain.push_class.Goals as goal

pub returns : goal.returns
returns c =
    let members : Grows (member_values (out-ClassDef c.args.class.now).id (members_view (out-ClassDef c.args.class.now).members.items)) c.args.buffer.now c.push_members.new.buffer =
    subst (λ xs. Grows (member_values (out-ClassDef c.args.class.now).id (members_view xs)) c.args.buffer.now c.push_members.new.buffer) c.as_slice.ensures.value c.in_ok-push_members.ensures in
    on_ok_weaker c.push-2.result (λ stores. class_done c.args.line c.args.class.now c.args.buffer.now c.push_members.new.buffer c.push.new.self c.push-2.new.self members c.in_ok-push.ensures stores) c.push-2.ensures
