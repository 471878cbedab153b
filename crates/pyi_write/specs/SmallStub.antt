-- A small stub, on which the definitions are computed.
use Rattle.std.specs.Prelude.{◌≡◌, ℕ, true, List, [], ◌∷◌, ◌++◌, codes, Some}
use Rattle.std.specs.List.{flat_map}
use Rattle.type_terms.specs.Stubs.{Stub}
use Rattle.type_terms.specs.Terms.{any, int, str, list, dict, class}
use Rattle.pyi_write.specs.Layout.{stub_text}
use Rattle.pyi_write.specs.NormalStubs.{IsNormalStub}

abbrev pub small_stub : Stub
small_stub = record {
  names = record { name = codes "x"; term = list int } ∷ [];
  funs = record { name = codes "f"; params = record { name = codes "a"; term = any; has_default = true } ∷ []; answer = class (codes "m.K") } ∷ [];
  classes = record { name = codes "C"; base = Some (codes "object"); names = record { name = codes "v"; term = dict str (class (codes "C")) } ∷ []; funs = [] } ∷ [];
}

abbrev pub small_lines : List (List ℕ)
small_lines =
    codes "import m" ∷ codes "from typing import Dict, List" ∷ []
    ∷ codes "x: List[int]" ∷ []
    ∷ codes "def f(a=...) -> m.K: ..." ∷ []
    ∷ codes "class C(object):" ∷ codes "    v: Dict[str, C]" ∷ []

-- it is normal, and its text has these lines
pub record SmallStub : Type 0 where
  pub normal : IsNormalStub small_stub
  pub text : stub_text small_stub ≡ flat_map (λ line. line ++ 10 ∷ []) small_lines
