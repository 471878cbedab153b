-- The row at the number that a name leads to.
use Rattle.std.proofs.Common.{◌≡◌, ℕ, suc, ◌+◌, true, false, List, [], ◌∷◌, ◌++◌, Option, Some, None, option_map, if◌then◌else◌, length, slice_get, refl, sym, ap, ◌∙◌, subst, arith}
use Rattle.std.specs.Str.{bytes_eq}
use Rattle.std.specs.Cmp.Lexicographic.{bytes_decides}
use Rattle.builtin_stubs.specs.declared.basic.Basic.{Basic}
use Rattle.builtin_stubs.specs.declared.basic.Basic.TheVariants as kinds
use Rattle.builtin_stubs.specs.Meanings.{Native}
use Rattle.builtin_stubs.specs.Natives.{function_natives, list_natives, dict_natives, tuple_natives, str_natives, bytes_natives, int_natives, float_natives, exception_natives, place_named, number_in, function_number, method_number, native_head}

none_is_not : {X : Type 0} (x : X) → None ≡ Some x → ⊥
none_is_not x e = cc

same_inside : (x y : ℕ) → Some x ≡ Some y → x ≡ y
same_inside x y e = cc

module _ (name : List ℕ) where
  abbrev IsAt : List Native → ℕ → Type 0
  IsAt hs k = option_map (λ h. h.name) (slice_get hs k) ≡ Some name

  later : (h : Native) (hs : List Native) (place : Option ℕ) (k : ℕ) → ((j : ℕ) → place ≡ Some j → IsAt hs j) → option_map suc place ≡ Some k → IsAt (h ∷ hs) k
  later h hs None k each e = absurd (none_is_not k e)
  later h hs (Some j) k each e = subst (IsAt (h ∷ hs)) (same_inside (suc j) k e) (each j refl)

  place_row : (rows after : List Native) (k : ℕ) → place_named rows name ≡ Some k → IsAt (rows ++ after) k
  place_row [] after k e = absurd (none_is_not k e)
  place_row (h ∷ rows) after k e =
      elim (bytes_eq name h.name) as (λ b. bytes_eq name h.name ≡ b → (if b then Some 0 else option_map suc (place_named rows name)) ≡ Some k → IsAt (h ∷ (rows ++ after)) k) [
        | true ↦ λ same found. subst (IsAt (h ∷ (rows ++ after))) (same_inside 0 k found) (ap Some (sym ((bytes_decides name h.name).0 same)))
        | false ↦ λ _ found. later h (rows ++ after) (place_named rows name) k (λ j. place_row rows after j) found
      ] refl e

shifted : (before hs : List Native) (k : ℕ) → slice_get (before ++ hs) (length before + k) ≡ slice_get hs k
shifted [] hs k = ap (slice_get hs) (omega arith)
shifted (h ∷ before) hs k =
    let e : length (h ∷ before) + k ≡ suc (length before + k) = omega arith in
    ap (slice_get (h ∷ (before ++ hs))) e ∙ shifted before hs k

numbered : (before rows after : List Native) (name : List ℕ) (n : ℕ) → number_in (length before) rows name ≡ Some n → IsAt name (before ++ (rows ++ after)) n
numbered before rows after name n e = by (place_named rows name) refl e
  where
    by : (place : Option ℕ) → place_named rows name ≡ place → option_map (λ p. length before + p) place ≡ Some n → IsAt name (before ++ (rows ++ after)) n
    by None is found = absurd (none_is_not n found)
    by (Some k) is found =
        subst (IsAt name (before ++ (rows ++ after))) (same_inside (length before + k) n found)
        (ap (option_map (λ h. h.name)) (shifted before (rows ++ after) k) ∙ place_row name rows after k is)

pub function_row : (name : List ℕ) (n : ℕ) → function_number name ≡ Some n → option_map (λ h. h.name) (native_head n) ≡ Some name
function_row name n e =
    numbered [] function_natives (list_natives ++ dict_natives ++ tuple_natives ++ str_natives ++ bytes_natives ++ int_natives ++ float_natives ++ exception_natives) name n e

abbrev before_dict : List Native
before_dict = function_natives ++ list_natives

abbrev before_tuple : List Native
before_tuple = before_dict ++ dict_natives

abbrev before_str : List Native
before_str = before_tuple ++ tuple_natives

abbrev before_bytes : List Native
before_bytes = before_str ++ str_natives

abbrev before_int : List Native
before_int = before_bytes ++ bytes_natives

abbrev before_float : List Native
before_float = before_int ++ int_natives

abbrev before_exception : List Native
before_exception = before_float ++ float_natives

pub method_row : (k : Basic) (name : List ℕ) (n : ℕ) → method_number k name ≡ Some n → option_map (λ h. h.name) (native_head n) ≡ Some name
method_row kinds.List name n e = numbered function_natives list_natives (dict_natives ++ tuple_natives ++ str_natives ++ bytes_natives ++ int_natives ++ float_natives ++ exception_natives) name n e
method_row kinds.Dict name n e = numbered before_dict dict_natives (tuple_natives ++ str_natives ++ bytes_natives ++ int_natives ++ float_natives ++ exception_natives) name n e
method_row kinds.Tuple name n e = numbered before_tuple tuple_natives (str_natives ++ bytes_natives ++ int_natives ++ float_natives ++ exception_natives) name n e
method_row kinds.Str name n e = numbered before_str str_natives (bytes_natives ++ int_natives ++ float_natives ++ exception_natives) name n e
method_row kinds.Bytes name n e = numbered before_bytes bytes_natives (int_natives ++ float_natives ++ exception_natives) name n e
method_row kinds.Int name n e = numbered before_int int_natives (float_natives ++ exception_natives) name n e
method_row kinds.Bool name n e = numbered before_int int_natives (float_natives ++ exception_natives) name n e
method_row kinds.Float name n e = numbered before_float float_natives exception_natives name n e
method_row kinds.Exception name n e = numbered before_exception exception_natives [] name n e
method_row kinds.NoneKind name n e = absurd (none_is_not n e)
method_row kinds.View name n e = absurd (none_is_not n e)
method_row kinds.Range name n e = absurd (none_is_not n e)
method_row kinds.Other name n e = absurd (none_is_not n e)
