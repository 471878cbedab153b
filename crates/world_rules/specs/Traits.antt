-- What operators see of a shape.
use Rattle.std.specs.Prelude.{ℕ, Bool, true, false, nat_eq, List, if◌then◌else◌}
use Rattle.std.specs.List.{list_any}
use Rattle.type_terms.specs.Terms as type
use Rattle.abstract_shapes.specs.Shapes.{Shape, given, ext, any, kind_of, truth_of}
use Rattle.world_rules.specs.declared.traits.Knowledge.{Knowledge}
use Rattle.world_rules.specs.declared.traits.Knowledge.TheVariants as knowledge
use Rattle.world_rules.specs.declared.traits.ShapeTraits.{ShapeTraits}

-- the name of a stub's class has its module and a dot before it
abbrev pub is_qualified : List ℕ → Bool
is_qualified name = list_any (nat_eq 46) name

abbrev pub knowledge_of : Shape → Knowledge
knowledge_of any = knowledge.Any
knowledge_of ext = knowledge.Ext
knowledge_of (given (type.class name)) = if is_qualified name then knowledge.StubInstance else knowledge.Followed
knowledge_of _ = knowledge.Followed

abbrev pub traits_of : Shape → ShapeTraits
traits_of s = record { kind = kind_of s; knowledge = knowledge_of s; truth = truth_of s }

-- whether operators follow the values
abbrev pub is_unfollowed : ShapeTraits → Bool
is_unfollowed t = elim t.knowledge [ knowledge.Followed ↦ false | _ ↦ true ]

-- whether they are any values
abbrev pub is_any : ShapeTraits → Bool
is_any t = elim t.knowledge [ knowledge.Any ↦ true | _ ↦ false ]

-- whether they may be one with whatever else there is
abbrev pub is_anything : ShapeTraits → Bool
is_anything t = elim t.knowledge [ knowledge.Any ↦ true | knowledge.Ext ↦ true | _ ↦ false ]
