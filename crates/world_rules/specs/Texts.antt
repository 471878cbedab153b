-- The texts of findings: words for shapes, signs of operators.
use Rattle.std.specs.Prelude.{ℕ, Option, Some, None, List, [], ◌∷◌, ◌++◌, slice_get, option_map, unwrap_or, codes}
use Rattle.place_ids.specs.declared.operators.BinOp.{BinOp}
use Rattle.place_ids.specs.declared.operators.BinOp.TheVariants as bin
use Rattle.place_ids.specs.declared.operators.CompareOp.{CompareOp}
use Rattle.place_ids.specs.declared.operators.CompareOp.TheVariants as cmp
use Rattle.place_ids.specs.declared.operators.UnaryOp.{UnaryOp}
use Rattle.place_ids.specs.declared.operators.UnaryOp.TheVariants as un
use Rattle.builtin_stubs.specs.declared.native.NativeSort.{NativeSort}
use Rattle.builtin_stubs.specs.declared.native.NativeSort.TheVariants as sort
use Rattle.builtin_stubs.specs.Natives.{Head, native_head}
use Rattle.type_terms.specs.Terms as type
use Rattle.type_terms.specs.Terms.{Term}
use Rattle.scope_rules.specs.NameLists.{text_of}
use Rattle.abstract_shapes.specs.declared.shape.Row.{Row}
use Rattle.abstract_shapes.specs.declared.shape.Row.TheVariants.{Builtin, StubFun, StubClass, StubMethod}
use Rattle.abstract_shapes.specs.Shapes.{Shape, none, true_value, false_value, int, float, str, bytes, list, dict, tuple, pair, view, fun, bound, bound_native, class, inst, native, stub_module, given, ext, any}
use Rattle.tree_code.specs.Programs.{Program}
use Rattle.world_rules.specs.declared.finding.Fault.{Fault}
use Rattle.world_rules.specs.declared.finding.Fault.TheVariants as fault
use Rattle.world_rules.specs.declared.finding.FaultText.{FaultText}
use Rattle.world_rules.specs.declared.finding.FindingKind.{FindingKind}
use Rattle.world_rules.specs.declared.finding.FindingKind.TheVariants as finding

-- ---- signs

abbrev pub unary_sign : UnaryOp → List ℕ
unary_sign un.Plus = codes "+"
unary_sign un.Minus = codes "-"
unary_sign un.Invert = codes "~"

abbrev pub sign : BinOp → List ℕ
sign bin.Add = codes "+"
sign bin.Sub = codes "-"
sign bin.Mul = codes "*"
sign bin.Div = codes "/"
sign bin.FloorDiv = codes "//"
sign bin.Mod = codes "%"
sign bin.MatMul = codes "@"
sign bin.Pow = codes "**"
sign bin.ShiftLeft = codes "<<"
sign bin.ShiftRight = codes ">>"
sign bin.BitAnd = codes "&"
sign bin.BitOr = codes "|"
sign bin.BitXor = codes "^"

abbrev pub compare_sign : CompareOp → List ℕ
compare_sign cmp.Less = codes "<"
compare_sign cmp.Greater = codes ">"
compare_sign cmp.LessEq = codes "<="
compare_sign cmp.GreaterEq = codes ">="
compare_sign cmp.Equal = codes "=="
compare_sign cmp.NotEqual = codes "!="
compare_sign cmp.Is = codes "is"
compare_sign cmp.IsNot = codes "is not"
compare_sign cmp.Within = codes "in"
compare_sign cmp.NotWithin = codes "not in"

-- ---- words

abbrev pub sort_word : NativeSort → List ℕ
sort_word sort.Class = codes "type"
sort_word _ = codes "function"

abbrev pub head_word : Option Head → List ℕ
head_word None = codes "function"
head_word (Some head) = sort_word head.sort

abbrev pub native_word : Row → List ℕ
native_word (Builtin id) = head_word (native_head id)
native_word (StubFun m f) = codes "function"
native_word (StubClass m c) = codes "type"
native_word (StubMethod m c f) = codes "function"

-- an instance of a class has the class's printed name
abbrev pub given_word : Term → List ℕ
given_word type.none = codes "None"
given_word type.bool = codes "bool"
given_word type.int = codes "int"
given_word type.float = codes "float"
given_word type.str = codes "str"
given_word type.bytes = codes "bytes"
given_word (type.list t) = codes "list"
given_word (type.dict t u) = codes "dict"
given_word (type.tuple ts) = codes "tuple"
given_word (type.tuple_of t) = codes "tuple"
given_word (type.class name) = name
given_word (type.class_of name) = codes "type"
given_word (type.callable t) = codes "function"
given_word _ = codes "Any"

abbrev pub class_name : Program → ℕ → List ℕ
class_name program c = text_of program.names (unwrap_or (option_map (λ row. row.name) (slice_get program.classes c)) 0)

-- values of no declared type, and those of any, print as Any
abbrev pub word : Program → Shape → List ℕ
word program none = codes "None"
word program true_value = codes "bool"
word program false_value = codes "bool"
word program int = codes "int"
word program float = codes "float"
word program str = codes "str"
word program bytes = codes "bytes"
word program (list site) = codes "list"
word program (dict site) = codes "dict"
word program (tuple site places) = codes "tuple"
word program (pair site) = codes "tuple"
word program (view site) = codes "view"
word program (fun f) = codes "function"
word program (bound c f) = codes "function"
word program (bound_native s row) = codes "function"
word program (class c) = codes "type"
word program (inst c) = class_name program c
word program (native row) = native_word row
word program (stub_module m) = codes "module"
word program (given t) = given_word t
word program ext = codes "Any"
word program any = codes "Any"

-- ---- texts

-- the word of the shape at a place among those that are read
abbrev pub word_at : Program → List Shape → ℕ → List ℕ
word_at program shapes i = unwrap_or (option_map (word program) (slice_get shapes i)) []

abbrev pub before : Program → List ℕ → List Shape → List ℕ
before program sign shapes = sign ++ 32 ∷ word_at program shapes 0

abbrev pub between : Program → List ℕ → List Shape → List ℕ
between program sign shapes = word_at program shapes 0 ++ (32 ∷ sign) ++ 32 ∷ word_at program shapes 1

abbrev pub text_of_fault : Program → Fault → List Shape → List ℕ
text_of_fault program (fault.Name n) shapes = text_of program.names n
text_of_fault program (fault.Unary op) shapes = before program (unary_sign op) shapes
text_of_fault program (fault.Binary op) shapes = between program (sign op) shapes
text_of_fault program (fault.InPlace op) shapes = between program (sign op ++ codes "=") shapes
text_of_fault program (fault.Compare op) shapes = between program (compare_sign op) shapes

abbrev pub kind_of_fault : Fault → FindingKind
kind_of_fault (fault.Name n) = finding.NameError
kind_of_fault _ = finding.UnsupportedOperands

abbrev pub fault_text : Program → Fault → List Shape → FaultText
fault_text program f shapes = record { kind = kind_of_fault f; text = text_of_fault program f shapes }

-- ---- kinds, as a report names and orders them

abbrev pub kind_word : FindingKind → List ℕ
kind_word finding.ImportError = codes "import-error"
kind_word finding.NameError = codes "name-error"
kind_word finding.AttributeError = codes "attribute-error"
kind_word finding.UnsupportedOperands = codes "unsupported-operands"
kind_word finding.NotIterable = codes "not-iterable"
kind_word finding.NotCallable = codes "not-callable"
kind_word finding.WrongArgCount = codes "wrong-arg-count"
kind_word finding.MissingParameter = codes "missing-parameter"
kind_word finding.WrongKeywordArgs = codes "wrong-keyword-args"
kind_word finding.DuplicateKeyword = codes "duplicate-keyword"

abbrev pub kind_number : FindingKind → ℕ
kind_number finding.ImportError = 1
kind_number finding.NameError = 2
kind_number finding.AttributeError = 3
kind_number finding.UnsupportedOperands = 4
kind_number finding.NotIterable = 5
kind_number finding.NotCallable = 6
kind_number finding.WrongArgCount = 7
kind_number finding.MissingParameter = 8
kind_number finding.WrongKeywordArgs = 9
kind_number finding.DuplicateKeyword = 10
