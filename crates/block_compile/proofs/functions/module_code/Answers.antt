use Rattle.std.proofs.Common.{sym, subst}
use Rattle.py_tree.specs.View.{stmts_view}
use Rattle.stack_code.specs.Validity.{IsValid}
use Rattle.tree_code.proofs.Programs.{module_valid}
use Rattle.block_compile.proofs.Finishing.{module_is}
use Rattle.block_compile.proofs.functions.module_code.Goals as goal

pub finished-requires : goal.finished-requires
finished-requires c =
    subst IsValid
    (sym (module_is c.args.error (stmts_view c.args.body.now) c.of_module-names.result c.outermost-at.result c.last_line.result c.new-buffer.result c.push_body.new.buffer c.push.new.self
    c.of_module-names.ensures c.outermost-at.ensures c.new-buffer.ensures c.in_ok-push_body.ensures c.last_line.ensures c.in_ok-push.ensures))
    (module_valid c.args.error (stmts_view c.args.body.now))
