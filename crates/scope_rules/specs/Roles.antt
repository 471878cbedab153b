-- What the places where names stand do.
use Rattle.std.specs.Prelude.{Bool, true, false}
use Rattle.scope_rules.specs.declared.mention.Role.{Role}
use Rattle.scope_rules.specs.declared.mention.Role.TheVariants as role

-- an assignment, a `for`, an `as`, an import, a `def` or a `class` binds the name ("Binding of names")
abbrev pub assigns : Role → Bool
assigns role.Value = true
assigns role.Import = true
assigns role.Definition = true
assigns _ = false

abbrev pub is_parameter : Role → Bool
is_parameter role.Parameter = true
is_parameter _ = false

-- the same, or a parameter
abbrev pub binds : Role → Bool
binds role.Parameter = true
binds role.Value = true
binds role.Import = true
binds role.Definition = true
binds _ = false

abbrev pub is_value : Role → Bool
is_value role.Value = true
is_value _ = false

abbrev pub is_import : Role → Bool
is_import role.Import = true
is_import _ = false

abbrev pub is_definition : Role → Bool
is_definition role.Definition = true
is_definition _ = false

abbrev pub is_name : Role → Bool
is_name role.Name = true
is_name _ = false

abbrev pub is_super : Role → Bool
is_super role.Super = true
is_super _ = false

abbrev pub is_store : Role → Bool
is_store role.Store = true
is_store _ = false

-- a member of a class that gets a value other than by `def`, or is annotated
abbrev pub is_plain_member : Role → Bool
is_plain_member role.Value = true
is_plain_member role.Annotation = true
is_plain_member _ = false

-- an attribute as a target, annotated ones without a value included
abbrev pub is_target : Role → Bool
is_target role.Store = true
is_target role.Annotation = true
is_target _ = false
