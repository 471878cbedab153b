-- How exceptions are raised (language reference, "The raise statement", "The assert statement").
use Rattle.std.specs.Prelude.{ℕ, Bool, false, not, ◌||◌, List, [], Option, Some, None, is_some, if◌then◌else◌, codes}
use Rattle.type_terms.specs.BuiltinNames.{is_instance_name}
use Rattle.type_terms.specs.Exceptions.{is_exception}
use Rattle.type_terms.specs.Terms as term
use Rattle.py_meaning.specs.Values.{Value, ref}
use Rattle.py_meaning.specs.Objects as object
use Rattle.py_meaning.specs.Objects.{Object, object_at, is_unfollowed}
use Rattle.py_meaning.specs.Programs.{Program, exception_base}
use Rattle.py_meaning.specs.ClassTests.{class_at}
use Rattle.py_meaning.specs.Names.{builtin_value}
use Rattle.py_meaning.specs.Expressions.{call_value, chosen}
use Rattle.py_meaning.specs.Actions.{Scope, Action, gives, raises, looks, bind, then_do, changes, afterwards, raise_builtin, may_raise}

-- of a class its instance, by a call without arguments; anything else is raised as it is
abbrev pub made_exception : Value → (site line : ℕ) → Action Value
made_exception v site line = looks (λ m. chosen (is_some (class_at m.heap v)) (call_value v [] site line) (then_do may_raise (gives v)))

-- an instance of an exception class, and what is from outside and may be one
abbrev pub object_is_exception : Program → Object → Bool
object_is_exception p (object.instance c es) = is_some (exception_base p c)
object_is_exception p (object.outside (term.class name)) = not (is_instance_name name) || is_exception name
object_is_exception p o = is_unfollowed o

abbrev pub is_exception_value : Program → List Object → Value → Bool
is_exception_value p heap (ref place) = object_is_exception p (object_at heap place)
is_exception_value p heap v = false

-- what is no exception is a TypeError
abbrev pub raise_value : {A : Type 0} → Program → Value → Action A
raise_value p v = then_do may_raise (looks (λ m. if is_exception_value p m.heap v then raises v else raise_builtin (codes "TypeError")))

-- `raise value`
abbrev pub raise_made : {A : Type 0} → Program → Value → (site line : ℕ) → Action A
raise_made p v site line = bind (made_exception v site line) (raise_value p)

abbrev pub handled_or_error : {A : Type 0} → Option Value → Action A
handled_or_error None = raise_builtin (codes "RuntimeError")
handled_or_error (Some v) = raises v

-- `raise` alone raises the exception that is under way
abbrev pub raise_again : {A : Type 0} → Action A
raise_again = then_do may_raise (looks (λ m. handled_or_error m.scope.handled))

-- a failed assertion reads its class by name, calls it and raises the instance
abbrev pub raise_assertion : {A : Type 0} → Program → (site line : ℕ) → Action A
raise_assertion p site line = bind (then_do may_raise (builtin_value (codes "AssertionError"))) (λ k. raise_made p k site line)

abbrev pub with_handled : Option Value → Scope → Scope
with_handled o c = record c { handled = o }

-- an exception is under way during an action, and what was under way before is so again after it
abbrev pub handling : {A : Type 0} → Value → Action A → Action A
handling v a = looks (λ m. changes (with_handled (Some v)) (afterwards a (with_handled m.scope.handled)))
