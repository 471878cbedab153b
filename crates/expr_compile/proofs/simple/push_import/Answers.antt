-- The module is imported, and stored.
use Rattle.std.proofs.Common.{ℕ, List, ap, ◌∙◌}
use Rattle.stack_code.specs.declared.op.Op.TheVariants as op
use Rattle.tree_code.specs.Pieces.{one}
use Rattle.tree_code.specs.Names.{store}
use Rattle.tree_code.specs.Statements.{first_of, bound_by}
use Rattle.expr_compile.specs.Emitted.{with_instr}
use Rattle.expr_compile.proofs.Pieces.{sized_one, grows_one, grows_then}
use Rattle.expr_compile.proofs.simple.push_import.Goals as goal

pub returns : goal.returns
returns c =
    let locals : List ℕ = c.args.names.now in
    let path = c.args.part.now.path.items in
    let goes = store locals (bound_by c.args.part.now.alias (first_of path)) in
    grows_then (one (op.Import path) c.args.line) (one goes c.args.line) c.args.buffer.now c.push.new.self c.push-2.new.self (sized_one (op.Import path) c.args.line)
    (grows_one (op.Import path) c.args.line c.args.buffer.now c.push.new.self (c.in_ok-push.ensures ∙ ap (λ p. with_instr (op.Import p) c.args.line c.args.buffer.now) (c.in_ok-path.ensures ∙ c.as_slice.ensures.value)))
    (grows_one goes c.args.line c.push.new.self c.push-2.new.self (c.in_ok-push-2.ensures ∙ ap (λ o. with_instr o c.args.line c.push.new.self) (c.store.ensures ∙ ap (store locals) c.bound_by.ensures)))
