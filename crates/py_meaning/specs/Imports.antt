-- What imports bind (language reference, "The import statement").
use Rattle.std.specs.Prelude.{ℕ, List, [], ◌∷◌, map, Option, Some, None}
use Rattle.std.specs.Option.{option_and_then}
use Rattle.type_terms.specs.Stubs.{Stub}
use Rattle.py_tree.specs.Tree.{ImportPart, FromPart}
use Rattle.py_meaning.specs.Values.{Value}
use Rattle.py_meaning.specs.Objects as object
use Rattle.py_meaning.specs.Programs.{Program, text_at}
use Rattle.py_meaning.specs.StubItems.{joined_by_dots, stub_at, Item, item_in}
use Rattle.py_meaning.specs.Attributes.{item_value}
use Rattle.py_meaning.specs.Names.{store}
use Rattle.py_meaning.specs.Actions.{Action, bind, then_do, allocate, anything, may_raise, done}

-- the whole name of a module
abbrev pub module_name : Program → List ℕ → List ℕ
module_name p path = joined_by_dots (map (text_at p) path)

-- a module whose stub is given; of any other nothing is known
abbrev pub module_value : (home : List ℕ) → Option Stub → Action Value
module_value home None = anything
module_value home (Some s) = allocate (object.imported home)

abbrev pub imported_item : Program → (home name : List ℕ) → Option Item → Action Value
imported_item p home name None = anything
imported_item p home name (Some i) = item_value p home name i

-- the name after `as`, or the first of the path
abbrev pub bound_name : Option ℕ → List ℕ → Option ℕ
bound_name (Some alias) path = Some alias
bound_name None [] = None
bound_name None (first ∷ others) = Some first

abbrev pub store_if : Program → Option ℕ → Value → Action (Unit {0})
store_if p None v = done
store_if p (Some name) v = store p name v

abbrev pub import_one : Program → ImportPart → Action (Unit {0})
import_one p q =
    then_do may_raise (bind (module_value (module_name p q.path) (stub_at p (module_name p q.path))) (store_if p (bound_name q.alias q.path)))

abbrev pub import_all : Program → List ImportPart → Action (Unit {0})
import_all p [] = done
import_all p (q ∷ qs) = then_do (import_one p q) (import_all p qs)

-- `from module import name`
abbrev pub take_one : Program → (home : List ℕ) → FromPart → Action (Unit {0})
take_one p home q =
    then_do may_raise
    (bind (imported_item p home (text_at p q.name) (option_and_then (λ s. item_in s home (text_at p q.name)) (stub_at p home)))
    (store_if p (bound_name q.alias (q.name ∷ []))))

abbrev pub take_all : Program → (home : List ℕ) → List FromPart → Action (Unit {0})
take_all p home [] = done
take_all p home (q ∷ qs) = then_do (take_one p home q) (take_all p home qs)
