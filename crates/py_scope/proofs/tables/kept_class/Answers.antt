use Rattle.std.proofs.Common.{◌≡◌, [], refl, ap, ◌∙◌, slice_get, option_map}
use Rattle.std.specs.Option.{option_and_then}
use Rattle.py_scope.specs.declared.kept_class.KeptClass.{KeptClass}
use Rattle.py_scope.specs.KeptClasses.{scope_of, told_from}
use Rattle.py_tree.specs.View.{class_view, members_view}
use Rattle.scope_rules.specs.Named.{named}
use Rattle.scope_rules.specs.Roles.{binds}
use Rattle.scope_rules.specs.Tables.{native_in, base_class, method_rows}
use Rattle.scope_rules.specs.Uses.{uses_of_class}
use Rattle.type_terms.specs.Exceptions.{exception_names}
use Rattle.py_scope.proofs.ClassHeads.{class_parts}
use Rattle.py_scope.proofs.KeptLemmas.{native_same, kept_told}
use Rattle.py_scope.proofs.tables.kept_class.Goals as goal

pub returns-clause-told : goal.returns-clause-told
returns-clause-told c =
    let xs = c.args.earlier.now in
    let names = c.args.names.now in
    let class = c.args.class.now in
    let kept : KeptClass =
    record {
      name = class.name;
      id = class.id;
      base = c.args.base;
      native = c.native_in-native.result;
      bound = c.in_ok-bound.bound;
      methods = c.in_ok-methods.methods;
    }
    in
    let native : option_and_then (slice_get exception_names) c.native_in-native.result ≡ native_in names (base_class (told_from [] xs) class.base) class.base =
    c.native_in-native.ensures
    ∙ ap (λ o. native_in names (option_map (scope_of []) o) class.base) c.class_at.ensures
    ∙ native_same names xs c.args.base class.base
    ∙ ap (λ o. native_in names o class.base) c.requires
    in
    let bound : c.in_ok-bound.bound ≡ named binds [] (uses_of_class (class_view class)) = c.in_ok-bound.ensures ∙ ap (named binds []) (c.items.ensures ∙ c.in_ok-mentions.ensures) in
    let methods : c.in_ok-methods.methods ≡ method_rows (members_view class.members.items) = c.in_ok-methods.ensures ∙ ap (λ l. method_rows (members_view l)) c.deref.ensures.value in
    kept_told names (told_from [] xs) kept (class_view class) class.id class.name class.base (members_view class.members.items) class.line (class_parts class) refl refl c.requires native bound methods
