use Rattle.std.proofs.Common.{sym, ◌∙◌}
use Rattle.py_tree.specs.View.{expr_view}
use Rattle.py_parse.proofs.Aims.{no_target_first, refused}
use Rattle.py_parse.proofs.parser.Parser.targets_after.Goals as goal

pub returns-then-not-is_target-clause-gives : goal.returns-then-not-is_target-clause-gives
returns-then-not-is_target-clause-gives c =
    refused expr_view c.refuse.result c.args.self.now _ c.refuse.ensures (no_target_first (expr_view c.args.first) c.args.line c.args.self.now (sym c.is_target.ensures ∙ c.if-not-is_target.true))
