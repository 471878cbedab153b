-- When two rows, or two shapes, are the same, as a test.
use Rattle.std.specs.Prelude.{Bool, true, false, ◌&&◌, ◌==◌, nat_eq}
use Rattle.std.specs.Option.{option_eq}
use Rattle.std.specs.Str.{bytes_eq}
use Rattle.type_terms.specs.Same.{same_term}
use Rattle.abstract_shapes.specs.declared.shape.Row.{Row}
use Rattle.abstract_shapes.specs.declared.shape.Row.TheVariants as row
use Rattle.abstract_shapes.specs.declared.shape.Shape as rust
use Rattle.abstract_shapes.specs.Shapes.{Shape, none, true_value, false_value, int, float, str, bytes, list, dict, tuple, pair, view, fun, bound, bound_native, class, inst, native, stub_module, given, ext, any}
use Rattle.abstract_shapes.specs.Sketches.{sketch}

abbrev pub same_row : Row → Row → Bool
same_row (row.Builtin n) (row.Builtin m) = n == m
same_row (row.StubFun m f) (row.StubFun n g) = bytes_eq m n && bytes_eq f g
same_row (row.StubClass m c) (row.StubClass n d) = bytes_eq m n && bytes_eq c d
same_row (row.StubMethod m c f) (row.StubMethod n d g) = bytes_eq m n && (bytes_eq c d && bytes_eq f g)
same_row _ _ = false

abbrev pub same_structure : Shape → Shape → Bool
same_structure none none = true
same_structure true_value true_value = true
same_structure false_value false_value = true
same_structure int int = true
same_structure float float = true
same_structure str str = true
same_structure bytes bytes = true
same_structure (list n) (list m) = n == m
same_structure (dict n) (dict m) = n == m
same_structure (tuple n k) (tuple m l) = (n == m) && option_eq nat_eq k l
same_structure (pair n) (pair m) = n == m
same_structure (view n) (view m) = n == m
same_structure (fun n) (fun m) = n == m
same_structure (bound c n) (bound d m) = (c == d) && (n == m)
same_structure (bound_native s r) (bound_native t q) = same_structure s t && same_row r q
same_structure (class n) (class m) = n == m
same_structure (inst n) (inst m) = n == m
same_structure (native r) (native q) = same_row r q
same_structure (stub_module m) (stub_module n) = bytes_eq m n
same_structure (given t) (given u) = same_term t u
same_structure ext ext = true
same_structure any any = true
same_structure _ _ = false

-- whether two shapes as they are kept are the same, where their receivers are numbered in one table
abbrev pub same_shape : rust.Shape → rust.Shape → Bool
same_shape r s = same_structure (sketch r) (sketch s)
