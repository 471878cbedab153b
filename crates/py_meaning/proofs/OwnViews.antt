-- A view of a dict's own parts comes of a dict's method, and so it has a dict.
use Rattle.std.proofs.Common.{◌≡◌, ℕ, zero, suc, ◌+◌, ◌<◌, ◌≢◌, inl, inr, Bool, true, false, not, ◌&&◌, List, [], ◌∷◌, ◌++◌, length, Option, Some, None, option_map, slice_get, if◌then◌else◌, refl, sym, ap, ◌∙◌, subst, arith}
use Rattle.std.specs.List.{list_all}
use Rattle.std.specs.Str.{bytes_eq}
use Rattle.builtin_stubs.specs.declared.basic.Basic.{Basic}
use Rattle.builtin_stubs.specs.declared.basic.Basic.TheVariants as kind
use Rattle.builtin_stubs.specs.Meanings.{Native, outcome_of}
use Rattle.builtin_stubs.specs.Natives.{natives, function_natives, list_natives, dict_natives, tuple_natives, str_natives, bytes_natives, int_natives, float_natives, exception_natives, place_named, number_in, function_number, method_number}
use Rattle.py_meaning.specs.Values.{Value}
use Rattle.py_meaning.specs.Programs.{Program}
use Rattle.py_meaning.specs.Objects.{kind_of}
use Rattle.py_meaning.specs.Receivers.{IsFunction, goes_through_own, HasItsDict}
use Rattle.py_meaning.proofs.Growing.{Heap, Grown}
use Rattle.py_meaning.proofs.Pointing.{MayBeTakenAs, MayBeMethodOf, OptionWithin, method_on}

-- what a native that is called is to its receiver
abbrev pub ReceiverFits : Heap → Option Value → ℕ → Type 0
ReceiverFits n None number = IsFunction number
ReceiverFits n (Some v) number = MayBeMethodOf n v number

pub receiver_on : {p : Program} (n k : Heap) (o : Option Value) (number : ℕ) → Grown p n k → OptionWithin n o → ReceiverFits n o number → ReceiverFits k o number
receiver_on n k None number le h w = w
receiver_on n k (Some v) number le h w = method_on n k v number le h w

-- ---- rows

abbrev is_others : Native → Bool
is_others row = not (goes_through_own (outcome_of row.deed))

both : (a b : Bool) → (a && b) ≡ true → (a ≡ true) × (b ≡ true)
both true true e = (refl, refl)
both true false e = absurd (cc)
both false b e = absurd (cc)

at_place : (rows : List Native) (place : ℕ) (row : Native) → list_all is_others rows ≡ true → slice_get rows place ≡ Some row → is_others row ≡ true
at_place [] place row h at = absurd (cc)
at_place (x ∷ xs) zero row h at = let same : x ≡ row = grind (arith, at) in subst (λ o. is_others o ≡ true) same (both (is_others x) (list_all is_others xs) h).0
at_place (x ∷ xs) (suc place) row h at = at_place xs place row (both (is_others x) (list_all is_others xs) h).1 at

placed_so : (b : Bool) (o : Option ℕ) (n place : ℕ) → ((j : ℕ) → o ≡ Some j → j < n) → (if b then Some 0 else option_map suc o) ≡ Some place → place < suc n
placed_so true o n zero h e = omega arith
placed_so true o n (suc place) h e = absurd (cc)
placed_so false None n place h e = absurd (cc)
placed_so false (Some j) n zero h e = omega arith
placed_so false (Some j) n (suc place) h e = let below : j < n = h j refl in let same : j ≡ place = grind (arith, e) in omega arith

placed : (rows : List Native) (name : List ℕ) (place : ℕ) → place_named rows name ≡ Some place → place < length rows
placed [] name place e = absurd (cc)
placed (x ∷ xs) name place e = placed_so (bytes_eq name x.name) (place_named xs name) (length xs) place (placed xs name) e

got_first : (rows after : List Native) (place : ℕ) → place < length rows → slice_get (rows ++ after) place ≡ slice_get rows place
got_first [] after place lt = absurd (omega (arith, lt))
got_first (x ∷ xs) after zero lt = refl
got_first (x ∷ xs) after (suc place) lt = got_first xs after place (omega (arith, lt))

got_later : (before rows : List Native) (place number : ℕ) → number ≡ length before + place → slice_get (before ++ rows) number ≡ slice_get rows place
got_later [] rows place number e = ap (slice_get rows) (omega (arith, e))
got_later (x ∷ xs) rows place zero e = absurd (omega (arith, e))
got_later (x ∷ xs) rows place (suc number) e = got_later xs rows place number (omega (arith, e))

row_among : (before rows after : List Native) (name : List ℕ) (number : ℕ) (row : Native) → natives ≡ before ++ (rows ++ after) → number_in (length before) rows name ≡ Some number → slice_get natives number ≡ Some row → list_all is_others rows ≡ true → is_others row ≡ true
row_among before rows after name number row split found at h = by (place_named rows name) refl found
  where
    by : (o : Option ℕ) → place_named rows name ≡ o → option_map (λ place. length before + place) o ≡ Some number → is_others row ≡ true
    by None is e = absurd (cc)
    by (Some place) is e =
        let number_is : number ≡ length before + place = grind (arith, e) in
        at_place rows place row h
        (sym (got_first rows after place (placed rows name place is)) ∙ sym (got_later before (rows ++ after) place number number_is) ∙ sym (ap (λ all. slice_get all number) split) ∙ at)

function_others : (name : List ℕ) (number : ℕ) (row : Native) → function_number name ≡ Some number → slice_get natives number ≡ Some row → is_others row ≡ true
function_others name number row found at = row_among [] function_natives _ name number row refl found at refl

method_others : (k : Basic) (name : List ℕ) (number : ℕ) (row : Native) → k ≢ kind.Dict → method_number k name ≡ Some number → slice_get natives number ≡ Some row → is_others row ≡ true
method_others kind.Dict name number row ne found at = absurd (ne refl)
method_others kind.List name number row ne found at = row_among function_natives list_natives _ name number row refl found at refl
method_others kind.Tuple name number row ne found at = row_among (function_natives ++ list_natives ++ dict_natives) tuple_natives (str_natives ++ bytes_natives ++ int_natives ++ float_natives ++ exception_natives) name number row refl found at refl
method_others kind.Str name number row ne found at = row_among (function_natives ++ list_natives ++ dict_natives ++ tuple_natives) str_natives (bytes_natives ++ int_natives ++ float_natives ++ exception_natives) name number row refl found at refl
method_others kind.Bytes name number row ne found at = row_among (function_natives ++ list_natives ++ dict_natives ++ tuple_natives ++ str_natives) bytes_natives (int_natives ++ float_natives ++ exception_natives) name number row refl found at refl
method_others kind.Int name number row ne found at = row_among (function_natives ++ list_natives ++ dict_natives ++ tuple_natives ++ str_natives ++ bytes_natives) int_natives (float_natives ++ exception_natives) name number row refl found at refl
method_others kind.Bool name number row ne found at = row_among (function_natives ++ list_natives ++ dict_natives ++ tuple_natives ++ str_natives ++ bytes_natives) int_natives (float_natives ++ exception_natives) name number row refl found at refl
method_others kind.Float name number row ne found at = row_among (function_natives ++ list_natives ++ dict_natives ++ tuple_natives ++ str_natives ++ bytes_natives ++ int_natives) float_natives exception_natives name number row refl found at refl
method_others kind.Exception name number row ne found at = row_among (function_natives ++ list_natives ++ dict_natives ++ tuple_natives ++ str_natives ++ bytes_natives ++ int_natives ++ float_natives) exception_natives [] name number row refl found at refl
method_others _ name number row ne found at = absurd (cc)

-- ---- views

other_row : (b : Bool) → not b ≡ true → b ≡ true → ⊥
other_row true e f = absurd (cc)
other_row false e f = absurd (cc)

method_fits : (n : Heap) (v : Value) (k : Basic) (name : List ℕ) (number : ℕ) (row : Native) → MayBeTakenAs n v k → method_number k name ≡ Some number → slice_get natives number ≡ Some row → goes_through_own (outcome_of row.deed) ≡ true → kind_of n v ≡ kind.Dict
method_fits n v kind.Dict name number row (inl e) found at own = e
method_fits n v kind.Dict name number row (inr e) found at own = absurd (cc)
method_fits n v k name number row t found at own = absurd (other_row (goes_through_own (outcome_of row.deed)) (method_others k name number row (λ e. absurd (cc)) found at) own)

pub view_fits : (n : Heap) (number : ℕ) (receiver : Option Value) → ReceiverFits n receiver number → HasItsDict n number receiver
view_fits n number None w = λ row at own. absurd (other_row (goes_through_own (outcome_of row.deed)) (function_others w.0 number row w.1 at) own)
view_fits n number (Some v) w = λ row at own. method_fits n v w.0 w.1 number row w.2 w.3 at own
