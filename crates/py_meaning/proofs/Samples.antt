-- How sample modules and what they come to are written.
use Rattle.std.specs.Prelude.{ℕ, List, Option, unwrap_or}
use Rattle.builtin_stubs.specs.declared.basic.Basic.{Basic}
use Rattle.builtin_stubs.specs.Natives.{function_number, method_number}
use Rattle.py_tree.specs.declared.literal.Literal.{Literal}
use Rattle.py_tree.specs.Tree.{Param, Module}
use Rattle.type_terms.specs.Stubs.{Stub}
use Rattle.type_terms.specs.Terms as term
use Rattle.py_meaning.specs.Values.{Value}
use Rattle.py_meaning.specs.Objects as object
use Rattle.py_meaning.specs.Objects.{Object}
use Rattle.py_meaning.specs.Events.{Event}
use Rattle.py_meaning.specs.Actions.{OutsideCall}
use Rattle.py_meaning.specs.Runs.{Ending, Answer, run_of, answer}
use Rattle.py_meaning.specs.Laws.{reached}

abbrev pub param : ℕ → Option Literal → Param
param name default = record { name = name; default = default }

-- a builtin function or class, and a method of a value
abbrev pub native : List ℕ → Object
native name = object.foreign (object.builtin (unwrap_or (function_number name) 0))

abbrev pub method : Basic → List ℕ → Value → Object
method kind name receiver = object.bound_foreign receiver (object.builtin (unwrap_or (method_number kind name) 0))

-- an instance of a builtin exception class, and what may be anything
abbrev pub error : List ℕ → Object
error name = object.outside (term.class name)

abbrev pub anything : Object
anything = object.outside term.any

-- what is seen of a run, and what is left of its choices and turns
pub record Seen : Type 0 where
  pub events : List Event
  pub heap : List Object
  pub ending : Ending
  pub choices : List ℕ
  pub turns : ℕ

abbrev seen_of : Answer (Unit {0}) → Seen
seen_of r = record { events = (run_of r).events; heap = (run_of r).heap; ending = (run_of r).ending; choices = (reached r).choices; turns = (reached r).turns }

abbrev pub answered : Module → List (List ℕ × Stub) → (turns : ℕ) → (choices : List ℕ) → List OutsideCall → Seen
answered m stubs n choices calls = seen_of (answer m stubs n choices calls)
