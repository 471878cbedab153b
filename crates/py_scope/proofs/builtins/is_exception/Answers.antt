use Rattle.std.proofs.Common.{ap, ◌∙◌}
use Rattle.std.specs.Option.{is_some}
use Rattle.std.specs.Str.{bytes_eq}
use Rattle.type_terms.specs.Exceptions.{exception_names}
use Rattle.py_scope.proofs.BuiltinLemmas.{is_placed}
use Rattle.py_scope.proofs.builtins.is_exception.Goals as goal

pub returns : goal.returns
returns c = c.is_some.ensures ∙ ap is_some c.exception_number.ensures ∙ is_placed (bytes_eq c.args.text.now) exception_names
