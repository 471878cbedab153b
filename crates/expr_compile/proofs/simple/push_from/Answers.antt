-- The part is taken, and stored.
use Rattle.std.proofs.Common.{ℕ, List, ap, ◌∙◌}
use Rattle.stack_code.specs.declared.op.Op.TheVariants as op
use Rattle.tree_code.specs.Pieces.{one}
use Rattle.tree_code.specs.Names.{store}
use Rattle.tree_code.specs.Statements.{bound_by}
use Rattle.expr_compile.specs.Emitted.{with_instr}
use Rattle.expr_compile.proofs.Pieces.{sized_one, grows_one, grows_then}
use Rattle.expr_compile.proofs.simple.push_from.Goals as goal

pub returns : goal.returns
returns c =
    let locals : List ℕ = c.args.names.now in
    let taken = c.args.part.now.name in
    let goes = store locals (bound_by c.args.part.now.alias taken) in
    grows_then (one (op.ImportFrom c.args.path.now taken) c.args.line) (one goes c.args.line) c.args.buffer.now c.push.new.self c.push-2.new.self (sized_one (op.ImportFrom c.args.path.now taken) c.args.line)
    (grows_one (op.ImportFrom c.args.path.now taken) c.args.line c.args.buffer.now c.push.new.self (c.in_ok-push.ensures ∙ ap (λ path. with_instr (op.ImportFrom path taken) c.args.line c.args.buffer.now) c.in_ok-path.ensures))
    (grows_one goes c.args.line c.push.new.self c.push-2.new.self (c.in_ok-push-2.ensures ∙ ap (λ o. with_instr o c.args.line c.push.new.self) (c.store.ensures ∙ ap (store locals) c.taken_as.ensures)))
