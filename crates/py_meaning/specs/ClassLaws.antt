-- What holds of the objects of a module's classes.
use Rattle.std.specs.Prelude.{◌≡◌, ℕ, true, List, [], ◌∷◌, Option, Some, None, is_some}
use Rattle.type_terms.specs.Stubs.{Stub}
use Rattle.py_tree.specs.Tree as tree
use Rattle.py_tree.specs.Tree.{statement, Stmts, no_stmts, stmt, ClassDef, class_def, Members, no_members, member, fun_def, Module}
use Rattle.scope_rules.specs.WellFormed.{IsWellFormed}
use Rattle.py_meaning.specs.Values.{Entries, entry}
use Rattle.py_meaning.specs.Objects as object
use Rattle.py_meaning.specs.Objects.{Object, object_at}
use Rattle.py_meaning.specs.Programs.{program}
use Rattle.py_meaning.specs.Actions.{OutsideCall, goes_on}
use Rattle.py_meaning.specs.Statements.{exec, exec_all}
use Rattle.py_meaning.specs.Runs.{State, gave, carry_out, turns_within, start, run}

-- the class of a module whose object this is
abbrev pub class_number : Object → Option ℕ
class_number (object.class c es) = Some c
class_number _ = None

-- what an object of a class has under its names
abbrev pub class_entries : Object → Entries
class_entries (object.class c es) = es
class_entries _ = []

abbrev pub class_id : ClassDef → ℕ
class_id (class_def id name base ms line) = id

-- no class of a number stands among some statements
abbrev pub LeavesNumber : ℕ → Stmts → Type 0
LeavesNumber c no_stmts = Unit {0}
LeavesNumber c (stmt (statement (tree.class k) line) rest) = (c ≡ class_id k → ⊥) × LeavesNumber c rest
LeavesNumber c (stmt _ rest) = LeavesNumber c rest

-- each class of a module has a number of its own
abbrev pub NumbersApart : Stmts → Type 0
NumbersApart no_stmts = Unit {0}
NumbersApart (stmt (statement (tree.class k) line) rest) = LeavesNumber (class_id k) rest × NumbersApart rest
NumbersApart (stmt _ rest) = NumbersApart rest

-- A class has one object at most.
abbrev pub OneObjectAClass : List Object → Type 0
OneObjectAClass heap = (c i j : ℕ) → class_number (object_at heap i) ≡ Some c → class_number (object_at heap j) ≡ Some c → i ≡ j

-- In the last heap of a run there is one object a class.
abbrev pub ClassesHaveOneObject : Type 0
ClassesHaveOneObject =
    (m : Module) (stubs : List (List ℕ × Stub)) (n : ℕ) (choices : List ℕ) (calls : List OutsideCall) →
    IsWellFormed m → NumbersApart m.body → OneObjectAClass (run m stubs n choices calls).heap

-- ---- names

-- the names that a class's body binds
abbrev pub bound_names : Members → List ℕ
bound_names no_members = []
bound_names (member (tree.value name x line) rest) = name ∷ bound_names rest
bound_names (member (tree.declared name (Some x) line) rest) = name ∷ bound_names rest
bound_names (member (tree.method (fun_def id name params body line)) rest) = name ∷ bound_names rest
bound_names (member _ rest) = bound_names rest

abbrev pub HasNames : Object → List ℕ → Type 0
HasNames o [] = Unit {0}
HasNames o (name ∷ names) = (is_some (entry (class_entries o) name) ≡ true) × HasNames o names

-- There is an object of a class, which has each name that the class's body binds.
abbrev pub HasItsNames : List Object → ClassDef → Type 0
HasItsNames heap (class_def id name base ms line) = (place : ℕ) × (class_number (object_at heap place) ≡ Some id) × HasNames (object_at heap place) (bound_names ms)

-- some statements, and others after them
abbrev pub joined : Stmts → Stmts → Stmts
joined no_stmts more = more
joined (stmt s rest) more = stmt s (joined rest more)

-- Where the statements before a class's own were carried out, and then it itself, the class has its names from then on: in the last
-- heap of the run, whatever comes after.
abbrev pub ClassesKeepTheirNames : Type 0
ClassesKeepTheirNames =
    (m : Module) (stubs : List (List ℕ × Stub)) (n : ℕ) (choices : List ℕ) (calls : List OutsideCall) (before after : Stmts) (c : ClassDef) (line : ℕ) (s t : State) →
    let turns = turns_within (program m stubs) n in
    m.body ≡ joined before (stmt (statement (tree.class c) line) after) →
    carry_out turns (exec_all (program m stubs) before) (start n choices) ≡ gave goes_on s →
    carry_out turns (exec (program m stubs) (statement (tree.class c) line)) s ≡ gave goes_on t →
    HasItsNames (run m stubs n choices calls).heap c
