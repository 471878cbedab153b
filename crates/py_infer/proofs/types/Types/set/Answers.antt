-- The insert changes the type at the name's bytes alone.
use Rattle.std.proofs.Common.{Some, cond, string_bytes, ap, ◌∙◌}
use Rattle.std.specs.Str.{bytes_eq}
use Rattle.py_infer.specs.Stubs.{rows_of, type_in}
use Rattle.py_infer.proofs.Rows.{type_in_updates, rows_ordered}
use Rattle.py_infer.proofs.types.Types.set.Goals as goal

pub returns-clause-set : goal.returns-clause-set
returns-clause-set c = λ other.
    let own = c.in_ok-own.ensures.ok in
    let sets = type_in_updates (string_bytes c.in_ok-own.own) c.self.inside.types c.insert.new.self _ c.in_ok-insert.ensures.updates other in
    sets ∙ ap (λ b. cond (bytes_eq b other) (Some c.args.plain_type) (type_in (rows_of c.self.inside.types.entries) other)) own
    ∙ ap (λ rows. cond (bytes_eq c.args.name.now other) (Some c.args.plain_type) (type_in rows other)) c.self.view_is

pub returns-clause-ordered : goal.returns-clause-ordered
returns-clause-ordered c = rows_ordered c.insert.new.self c.in_ok-insert.ensures.ordered
