-- Values that come from outside, and those that operators and natives make: all values of a type, one by choice.
use Rattle.std.specs.Prelude.{ℕ, zero, suc, pos, List, Option, Some, None, is_some, if◌then◌else◌, codes}
use Rattle.std.specs.Str.{bytes_eq}
use Rattle.builtin_stubs.specs.declared.basic.Basic.{Basic}
use Rattle.builtin_stubs.specs.declared.basic.Basic.TheVariants as kind
use Rattle.builtin_stubs.specs.declared.parts.Outcome.TheVariants as outcome
use Rattle.builtin_stubs.specs.declared.parts.Part.TheVariants as part
use Rattle.builtin_stubs.specs.declared.parts.Parts.{Parts}
use Rattle.builtin_stubs.specs.declared.parts.Parts.TheVariants as parts
use Rattle.builtin_stubs.specs.Meanings.{Native, outcome_of}
use Rattle.builtin_stubs.specs.Natives.{function_number}
use Rattle.type_terms.specs.BuiltinNames.{is_instance_name}
use Rattle.type_terms.specs.Terms.{Term, any, none, bool, int, float, str, bytes, list, dict, tuple, tuple_of, class, class_of, callable, union, Terms, no_terms, term}
use Rattle.py_meaning.specs.Values as value
use Rattle.py_meaning.specs.Values.{Value}
use Rattle.py_meaning.specs.Objects as object
use Rattle.py_meaning.specs.Programs.{Program}
use Rattle.py_meaning.specs.StubItems.{StubClass, stub_class_at}
use Rattle.py_meaning.specs.Actions.{Action, gives, takes, bind, allocate, anything, is_even, pick, either_truth}

-- a whole number is the choice itself, so never a truth value
abbrev pub fresh_whole : Action Value
fresh_whole = takes (λ c. gives (value.whole (pos c)))

abbrev pub fresh_text : Action Value
fresh_text = takes (λ c. gives (value.text (is_even c)))

abbrev pub fresh_octets : Action Value
fresh_octets = takes (λ c. gives (value.octets (is_even c)))

-- an instance of a class that a stub names; nothing is known of `object`, nor of a class whose stub isn't given
abbrev pub fresh_instance : Program → List ℕ → Action Value
fresh_instance p name =
    if bytes_eq name (codes "object") then anything
    else if is_instance_name name then allocate (object.outside (class name))
    else if is_some (stub_class_at p name) then allocate (object.outside (class name)) else anything

abbrev pub stub_class_value : Option StubClass → Action Value
stub_class_value None = anything
stub_class_value (Some k) = allocate (object.foreign (object.stub_class k.home k.class.name))

-- the class itself
abbrev pub class_value : Program → List ℕ → Action Value
class_value p name =
    elim (function_number name) [ Some n ↦ allocate (object.foreign (object.builtin n)) | None ↦ stub_class_value (stub_class_at p name) ]

-- how many types
abbrev pub size : Terms → ℕ
size no_terms = 0
size (term t ts) = suc (size ts)

-- a value of a declared type
abbrev mutual
  pub fresh : Program → Term → Action Value
  fresh p any = anything
  fresh p none = gives value.none
  fresh p bool = either_truth
  fresh p int = fresh_whole
  fresh p float = gives value.float
  fresh p str = fresh_text
  fresh p bytes = fresh_octets
  fresh p (class name) = fresh_instance p name
  fresh p (class_of name) = class_value p name
  fresh p (union ts) = bind (pick (size ts)) (fresh_member p ts)
  fresh p (list t) = allocate (object.outside (list t))
  fresh p (dict t u) = allocate (object.outside (dict t u))
  fresh p (tuple ts) = allocate (object.outside (tuple ts))
  fresh p (tuple_of t) = allocate (object.outside (tuple_of t))
  fresh p (callable t) = allocate (object.outside (callable t))

  -- of the member at a place
  pub fresh_member : Program → Terms → ℕ → Action Value
  fresh_member p no_terms i = anything
  fresh_member p (term t ts) zero = fresh p t
  fresh_member p (term t ts) (suc i) = fresh_member p ts i

-- a value of a kind
abbrev pub of_kind : Basic → Action Value
of_kind kind.NoneKind = gives value.none
of_kind kind.Bool = either_truth
of_kind kind.Int = fresh_whole
of_kind kind.Float = gives value.float
of_kind kind.Str = fresh_text
of_kind kind.Bytes = fresh_octets
of_kind kind.Range = allocate (object.outside (class (codes "range")))
of_kind _ = anything

-- of a row that gives one kind
abbrev pub of_one_kind : Parts → Action Value
of_one_kind (parts.One (part.Kind k)) = of_kind k
of_one_kind _ = anything

-- what a native that isn't called stands for, by its row
abbrev pub value_of_row : Native → Action Value
value_of_row n = elim (outcome_of n.deed) [ outcome.TupleOfAnything ↦ allocate (object.outside (tuple_of any)) | outcome.Gives ps ↦ of_one_kind ps | _ ↦ anything ]
