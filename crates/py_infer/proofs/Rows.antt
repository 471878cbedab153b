-- The rows of a map, by the names' bytes.
use Rattle.std.proofs.Common.{◌≡◌, ℕ, cond, List, [], ◌∷◌, map, Option, Some, String, Global, BTreeMap, refl, sym, ap, ◌∙◌}
use Rattle.std.specs.declared.cmp.Ordering.TheVariants.{Less}
use Rattle.std.specs.BTreeMap.{get_by_text, keys}
use Rattle.std.specs.Cmp.Lexicographic.{slice_cmp}
use Rattle.std.specs.List.{AllByRecursion}
use Rattle.std.specs.List.Sorted.{IsStrictlySortedBy}
use Rattle.std.specs.Map.{lookup}
use Rattle.std.specs.BTreeMap as tree
use Rattle.std.specs.Ordering.{nat_cmp, is_eq}
use Rattle.std.specs.Str.{bytes_eq}
use Rattle.std.specs.String.{string_bytes, string_cmp}
use Rattle.std.proofs.lemmas.Map.Text.{is_eq-slice_cmp, btree_map_updates_text}
use Rattle.py_infer.specs.declared.plain_type.PlainType.{PlainType}
use Rattle.py_infer.specs.Stubs.{rows_of, type_in, names_of}

by_text : (es : List (String Global × PlainType)) (n : List ℕ) → type_in (rows_of es) n ≡ lookup (λ k. is_eq (slice_cmp nat_cmp n (string_bytes k))) es
by_text [] n = refl
by_text (e ∷ es) n =
    ap (λ b. cond b (Some e.1) (type_in (rows_of es) n)) (sym (is_eq-slice_cmp n (string_bytes e.0)))
    ∙ ap (λ r. cond (is_eq (slice_cmp nat_cmp n (string_bytes e.0))) (Some e.1) r) (by_text es n)

-- a look-up in the rows is one in the map
pub type_in-rows_of : (m : BTreeMap (String Global) PlainType) (n : List ℕ) → type_in (rows_of m.entries) n ≡ get_by_text m n
type_in-rows_of m n = by_text m.entries n

-- what a change at a key does to look-ups in the rows
pub type_in_updates : (bs : List ℕ) (m n : BTreeMap (String Global) PlainType) (w : Option PlainType) →
    tree.UpdatesBy string_cmp (λ k. slice_cmp nat_cmp bs (string_bytes k)) m n w → (other : List ℕ) →
    type_in (rows_of n.entries) other ≡ cond (bytes_eq bs other) w (type_in (rows_of m.entries) other)
type_in_updates bs m n w h other =
    type_in-rows_of n other ∙ btree_map_updates_text bs m n w h other ∙ ap (λ r. cond (bytes_eq bs other) w r) (sym (type_in-rows_of m other))

names_less : (k : String Global) (es : List (String Global × PlainType)) → AllByRecursion (λ y. string_cmp k y ≡ Less) (map (λ e. e.0) es) →
    AllByRecursion (λ y. slice_cmp nat_cmp (string_bytes k) y ≡ Less) (names_of (rows_of es))
names_less k [] h = tt
names_less k (e ∷ es) h = (h.0, names_less k es h.1)

names_ordered : (es : List (String Global × PlainType)) → IsStrictlySortedBy string_cmp (map (λ e. e.0) es) → IsStrictlySortedBy (slice_cmp nat_cmp) (names_of (rows_of es))
unfolding IsStrictlySortedBy
names_ordered [] h = tt
names_ordered (e ∷ es) h = (names_less e.0 es h.0, names_ordered es h.1)

-- the rows of an ordered map are in the order of the names' bytes
pub rows_ordered : (m : BTreeMap (String Global) PlainType) → IsStrictlySortedBy string_cmp (keys m) → IsStrictlySortedBy (slice_cmp nat_cmp) (names_of (rows_of m.entries))
rows_ordered m h = names_ordered m.entries h
