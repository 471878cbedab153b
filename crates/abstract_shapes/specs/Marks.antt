-- What a hasher is fed for a shape, so that shapes that are the same are fed alike.
use Rattle.std.specs.Prelude.{ℕ, List, [], ◌∷◌, ◌++◌}
use Rattle.std.specs.Hash as fed
use Rattle.type_terms.specs.Terms.{Term, any, none, bool, int, float, str, bytes, list, dict, tuple, tuple_of, class, class_of, callable, union, Terms, no_terms, term}
use Rattle.abstract_shapes.specs.declared.shape.Row.{Row}
use Rattle.abstract_shapes.specs.declared.shape.Row.TheVariants as row
use Rattle.abstract_shapes.specs.Shapes as shape
use Rattle.abstract_shapes.specs.Shapes.{Shape}

abbrev mutual
  pub term_marks : Term → List (List ℕ)
  term_marks any = fed.u8 0
  term_marks none = fed.u8 1
  term_marks bool = fed.u8 2
  term_marks int = fed.u8 3
  term_marks float = fed.u8 4
  term_marks str = fed.u8 5
  term_marks bytes = fed.u8 6
  term_marks (list item) = fed.u8 7 ++ term_marks item
  term_marks (dict key val) = fed.u8 8 ++ (term_marks key ++ term_marks val)
  term_marks (tuple places) = fed.u8 9 ++ all_marks places
  term_marks (tuple_of item) = fed.u8 10 ++ term_marks item
  term_marks (class name) = fed.u8 11 ++ name ∷ []
  term_marks (class_of name) = fed.u8 12 ++ name ∷ []
  term_marks (callable answer) = fed.u8 13 ++ term_marks answer
  term_marks (union members) = fed.u8 14 ++ all_marks members

  pub all_marks : Terms → List (List ℕ)
  all_marks no_terms = []
  all_marks (term t ts) = term_marks t ++ all_marks ts

abbrev pub row_marks : Row → List (List ℕ)
row_marks (row.Builtin n) = fed.u8 0 ++ fed.u32 n
row_marks (row.StubFun m f) = fed.u8 1 ++ (m ∷ f ∷ [])
row_marks (row.StubClass m c) = fed.u8 2 ++ (m ∷ c ∷ [])
row_marks (row.StubMethod m c f) = fed.u8 3 ++ (m ∷ c ∷ f ∷ [])

-- a mark and a number
abbrev pub numbered : (mark number : ℕ) → List (List ℕ)
numbered mark number = fed.u8 mark ++ fed.u32 number

abbrev pub marks : Shape → List (List ℕ)
marks shape.none = fed.u8 0
marks shape.true_value = fed.u8 1
marks shape.false_value = fed.u8 2
marks shape.int = fed.u8 3
marks shape.float = fed.u8 4
marks shape.str = fed.u8 5
marks shape.bytes = fed.u8 6
marks (shape.list site) = numbered 7 site
marks (shape.dict site) = numbered 8 site
marks (shape.tuple site places) = numbered 9 site
marks (shape.pair site) = numbered 10 site
marks (shape.view site) = numbered 11 site
marks (shape.fun f) = numbered 12 f
marks (shape.bound c f) = numbered 13 c ++ numbered 13 f
marks (shape.bound_native s row) = marks s ++ row_marks row
marks (shape.class c) = numbered 14 c
marks (shape.inst c) = numbered 15 c
marks (shape.native row) = fed.u8 16 ++ row_marks row
marks (shape.stub_module m) = fed.u8 17 ++ m ∷ []
marks (shape.given t) = fed.u8 18 ++ term_marks t
marks shape.ext = fed.u8 19
marks shape.any = fed.u8 20
