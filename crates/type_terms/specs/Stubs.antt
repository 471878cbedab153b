-- What a stub declares as contracts see it: no pointers, and lists of what stands in it.
use Rattle.std.specs.Prelude.{ℕ, Bool, List, Option, map}
use Rattle.type_terms.specs.declared.stub.StubName as rust_name
use Rattle.type_terms.specs.declared.stub.StubParam as rust_param
use Rattle.type_terms.specs.declared.stub.StubFun as rust_fun
use Rattle.type_terms.specs.declared.stub.StubClass as rust_class
use Rattle.type_terms.specs.declared.stub.Stub as rust_stub
use Rattle.type_terms.specs.Terms.{Term}
use Rattle.type_terms.specs.View.{term_view}

pub record Name : Type 0 where
  pub name : List ℕ
  pub term : Term

pub record Param : Type 0 where
  pub name : List ℕ
  pub term : Term
  pub has_default : Bool

pub record Fun : Type 0 where
  pub name : List ℕ
  pub params : List Param
  pub answer : Term

pub record Class : Type 0 where
  pub name : List ℕ
  pub base : Option (List ℕ)
  pub names : List Name
  pub funs : List Fun

pub record Stub : Type 0 where
  pub names : List Name
  pub funs : List Fun
  pub classes : List Class

abbrev pub name_view : rust_name.StubName → Name
name_view n = record { name = n.name; term = term_view n.term }

abbrev pub param_view : rust_param.StubParam → Param
param_view p = record { name = p.name; term = term_view p.term; has_default = p.has_default }

abbrev pub fun_view : rust_fun.StubFun → Fun
fun_view f = record { name = f.name; params = map param_view f.params; answer = term_view f.result }

abbrev pub class_view : rust_class.StubClass → Class
class_view c = record { name = c.name; base = c.base; names = map name_view c.names; funs = map fun_view c.funs }

abbrev pub stub_view : rust_stub.Stub → Stub
stub_view s = record { names = map name_view s.names; funs = map fun_view s.funs; classes = map class_view s.classes }
