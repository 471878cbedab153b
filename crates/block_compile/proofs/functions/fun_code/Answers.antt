use Rattle.std.proofs.Common.{◌≡◌, IfOk, length, sym, ap, subst, ◌∙◌}
use Rattle.std.specs.Option.{option_map, unwrap_or}
use Rattle.py_tree.specs.View.{fun_view}
use Rattle.stack_code.specs.Validity.{IsValid}
use Rattle.tree_code.proofs.Programs.{fun_valid}
use Rattle.block_compile.proofs.Finishing.{fun_is}
use Rattle.block_compile.proofs.functions.fun_code.Goals as goal

pub finished-requires : goal.finished-requires
finished-requires c =
    let count = c.unwrap_or-locals.ensures ∙ ap (λ o. unwrap_or o 0) (c.local_count.ensures ∙ ap (option_map length) c.requires) in
    subst IsValid
    (sym (fun_is c.args.error c.args.number c.unwrap_or-locals.result c.args.scopes.now c.of_function-names.result c.args.fun.now c.as_slice-params.result.now c.as_slice.result.now c.outermost-at.result
    c.new-buffer.result c.push_params.new.buffer c.push_body.new.buffer c.push.new.self c.push-2.new.self
    c.of_function-names.ensures c.as_slice-params.ensures.value c.as_slice.ensures.value c.outermost-at.ensures c.new-buffer.ensures c.requires count
    c.in_ok-push_params.ensures c.in_ok-push_body.ensures c.in_ok-push.ensures c.in_ok-push-2.ensures))
    (fun_valid c.args.error (fun_view c.args.fun.now))

pub returns : goal.returns
returns c =
    let count = c.unwrap_or-locals.ensures ∙ ap (λ o. unwrap_or o 0) (c.local_count.ensures ∙ ap (option_map length) c.requires) in
    subst (λ code. IfOk c.finished.result (λ valid. valid ≡ code))
    (fun_is c.args.error c.args.number c.unwrap_or-locals.result c.args.scopes.now c.of_function-names.result c.args.fun.now c.as_slice-params.result.now c.as_slice.result.now c.outermost-at.result
    c.new-buffer.result c.push_params.new.buffer c.push_body.new.buffer c.push.new.self c.push-2.new.self
    c.of_function-names.ensures c.as_slice-params.ensures.value c.as_slice.ensures.value c.outermost-at.ensures c.new-buffer.ensures c.requires count
    c.in_ok-push_params.ensures c.in_ok-push_body.ensures c.in_ok-push.ensures c.in_ok-push-2.ensures)
    c.finished.ensures
