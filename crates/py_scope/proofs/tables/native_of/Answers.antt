use Rattle.std.proofs.Common.{None, ap, sym, ◌∙◌, slice_get}
use Rattle.std.specs.Option.{option_and_then}
use Rattle.scope_rules.specs.Builtins.{exception_of}
use Rattle.scope_rules.specs.Tables.{native_in}
use Rattle.type_terms.specs.Exceptions.{exception_names}
use Rattle.py_scope.proofs.BuiltinLemmas.{name_placed}
use Rattle.py_scope.proofs.tables.native_of.Goals as goal

pub returns-in-Some : goal.returns-in-Some
returns-in-Some c =
    ap (option_and_then (slice_get exception_names)) c.exception_number.ensures
    ∙ name_placed c.text_of.result.now exception_names
    ∙ ap exception_of c.text_of.ensures
    ∙ sym (ap (native_in c.args.names.now None) c.in-Some.is)
