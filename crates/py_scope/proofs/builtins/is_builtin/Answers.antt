use Rattle.std.proofs.Common.{sym, ap, ◌∙◌, ◌||◌}
use Rattle.std.specs.Str.{bytes_eq}
use Rattle.type_terms.specs.BuiltinNames.{builtin_functions, builtin_classes, builtin_texts}
use Rattle.type_terms.specs.Exceptions.{exception_names, is_exception}
use Rattle.py_scope.proofs.BuiltinLemmas.{among_four}
use Rattle.py_scope.proofs.builtins.is_builtin.Goals as goal

pub returns-then-is_plain_builtin : goal.returns-then-is_plain_builtin
returns-then-is_plain_builtin c =
    c.if-is_plain_builtin.true
    ∙ ap (λ b. b || is_exception c.args.text.now) (sym c.if-is_plain_builtin.true ∙ c.is_plain_builtin.ensures)
    ∙ sym (among_four (bytes_eq c.args.text.now) builtin_functions builtin_classes builtin_texts exception_names)

pub returns-else-is_plain_builtin : goal.returns-else-is_plain_builtin
returns-else-is_plain_builtin c =
    c.is_exception.ensures
    ∙ ap (λ b. b || is_exception c.args.text.now) (sym c.if-is_plain_builtin.false ∙ c.is_plain_builtin.ensures)
    ∙ sym (among_four (bytes_eq c.args.text.now) builtin_functions builtin_classes builtin_texts exception_names)
