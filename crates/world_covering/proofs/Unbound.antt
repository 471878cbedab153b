-- Names that a module doesn't bind: builtins, and what nothing is known of.
use Rattle.std.proofs.Common.{◌≡◌, ℕ, zero, suc, ◌+◌, ◌<◌, ◌++◌, length, ap, ◌∙◌, arith, Bool, true, false, List, [], ◌∷◌, Option, Some, None, slice_get, refl, sym, subst, if◌then◌else◌}
use Rattle.std.specs.Prelude.{codes, option_map}
use Rattle.std.specs.Str.{bytes_eq}
use Rattle.std.specs.List.{Contains, list_all, list_any}
use Rattle.builtin_stubs.specs.declared.basic.Basic.TheVariants as kind
use Rattle.builtin_stubs.specs.declared.native.NativeSort.{NativeSort}
use Rattle.builtin_stubs.specs.declared.native.NativeSort.TheVariants as sort
use Rattle.builtin_stubs.specs.declared.parts.Outcome.{Outcome}
use Rattle.builtin_stubs.specs.declared.parts.Outcome.TheVariants as outcome
use Rattle.builtin_stubs.specs.declared.parts.Part.TheVariants as part
use Rattle.builtin_stubs.specs.declared.parts.Parts.TheVariants as parts
use Rattle.builtin_stubs.specs.Meanings.{Native, outcome_of}
use Rattle.builtin_stubs.specs.Natives.{list_natives, dict_natives, tuple_natives, str_natives, bytes_natives, int_natives, float_natives, exception_natives, function_natives, natives, place_named, function_number}
use Rattle.builtin_stubs.specs.Outside.{outside_names}
use Rattle.type_terms.specs.Terms as type
use Rattle.graph_walks.proofs.Lists.{first, got}
use Rattle.abstract_shapes.specs.declared.shape.Row.TheVariants.{Builtin}
use Rattle.abstract_shapes.specs.Shapes as shape
use Rattle.world_rules.specs.declared.row.TransferRow.{TransferRow}
use Rattle.world_rules.specs.declared.row.Yield.{Yield}
use Rattle.world_rules.specs.declared.row.Yield.TheVariants as yields
use Rattle.world_rules.specs.declared.transfer.Transfer.TheVariants as transfer
use Rattle.world_rules.specs.Operators as rules
use Rattle.world_rules.specs.Readings.{builtin, unknown, native_yield}
use Rattle.world_rules.specs.Rows.{row_of}
use Rattle.py_meaning.specs.Values as value
use Rattle.py_meaning.specs.Values.{Value, ref}
use Rattle.py_meaning.specs.Objects as object
use Rattle.py_meaning.specs.Fresh.{fresh_text, of_one_kind}
use Rattle.py_meaning.specs.Names.{builtin_value, native_value}
use Rattle.py_meaning.specs.Actions.{Memory, Action, allocate, anything, is_even}
use Rattle.py_meaning.specs.Holds.{Holds}
use Rattle.world_covering.specs.Standing.{a_text, from_outside, a_native}
use Rattle.world_covering.specs.RowLaws.{turnless, Stays, Gave, IsRead}
use Rattle.world_covering.proofs.Growing.{got_last, stays_new}
use Rattle.world_covering.proofs.Rows.{gave}
use Rattle.world_covering.proofs.Tables.{each}

-- ---- the natives that are values are texts

abbrev is_text : Outcome → Bool
is_text (outcome.Gives (parts.One (part.Kind kind.Str))) = true
is_text _ = false

abbrev text_if_value : NativeSort → Outcome → Bool
text_if_value sort.Value o = is_text o
text_if_value _ o = true

values_are_texts : list_all (λ n. text_if_value n.sort (outcome_of n.deed)) function_natives ≡ true
values_are_texts = refl

-- what stands behind the functions and classes
abbrev method_natives : List Native
method_natives = list_natives ++ dict_natives ++ tuple_natives ++ str_natives ++ bytes_natives ++ int_natives ++ float_natives ++ exception_natives

abbrev value_by : Outcome → Action Value
value_by o = elim o [ outcome.TupleOfAnything ↦ allocate (object.outside (type.tuple_of type.any)) | outcome.Gives ps ↦ of_one_kind ps | _ ↦ anything ]

text_by : (o : Outcome) → is_text o ≡ true → value_by o ≡ fresh_text
text_by (outcome.Gives (parts.One (part.Kind kind.Str))) e = refl
text_by _ e = cc

-- ---- a number of a name is that of one of the functions and classes

got_front : (rows more : List Native) (n : ℕ) → n < length rows → slice_get (rows ++ more) n ≡ slice_get rows n
got_front [] more n lt = absurd (omega (arith, lt))
got_front (r ∷ rows) more zero lt = refl
got_front (r ∷ rows) more (suc n) lt = got_front rows more n (omega (arith, lt))

place_below : (rows : List Native) (name : List ℕ) (n : ℕ) → place_named rows name ≡ Some n → n < length rows
place_below [] name n e = cc
place_below (r ∷ rows) name n e = go (bytes_eq name r.name) (place_named rows name) e (place_below rows name)
  where
    go : (b : Bool) (o : Option ℕ) → (if b then Some 0 else option_map suc o) ≡ Some n → ((k : ℕ) → o ≡ Some k → k < length rows) → n < suc (length rows)
    go true o e more = let z : 0 ≡ n = cc in omega (arith, z)
    go false None e more = cc
    go false (Some k) e more = let z : suc k ≡ n = cc in omega (arith, z, more k refl)

is_place : (o : Option ℕ) (n : ℕ) → option_map (λ k. 0 + k) o ≡ Some n → o ≡ Some n
is_place None n e = cc
is_place (Some k) n e = let z : 0 + k ≡ n = cc in ap Some (omega (arith, z))

numbered : (text : List ℕ) (n : ℕ) (row : Native) → function_number text ≡ Some n → slice_get natives n ≡ Some row → text_if_value row.sort (outcome_of row.deed) ≡ true
numbered text n row e r =
    let lt : n < length function_natives = place_below function_natives text n (is_place (place_named function_natives text) n e) in
    each (λ n. text_if_value n.sort (outcome_of n.deed)) function_natives row values_are_texts (got function_natives n row (sym (got_front function_natives method_natives n lt) ∙ r))

-- ---- the row, of what tells nothing

abbrev Quiet : TransferRow → Memory → Action Value → Type 0
Quiet row m action = Holds (turnless (λ e. ⊥)) (λ g later v. Gave row [] m later v) (λ g later v. Stays m later) tt m action

anything_gives : (row : TransferRow) (m : Memory) → Contains row.results yields.Ext → Quiet row m anything
anything_gives row m i =
    (tt, tt, record { stays = stays_new m (object.outside type.any); yield = yields.Ext; among = i; shape = shape.ext; is = refl; stands = from_outside (got_last m.heap (object.outside type.any)) })

native_gives : (n : ℕ) (row : Native) (m : Memory) → slice_get natives n ≡ Some row → Quiet (rules.gives (yields.Native n ∷ [])) m (allocate (object.foreign (object.builtin n)))
native_gives n row m e = (
  tt,
  tt,
  record {
    stays = stays_new m (object.foreign (object.builtin n));
    yield = yields.Native n;
    among = first (yields.Native n) [];
    shape = shape.native (Builtin n);
    is = refl;
    stands = a_native (got_last m.heap (object.foreign (object.builtin n))) e;
  },
)

module _ (m : Memory) where
  abbrev Text : Action Value → Type 0
  Text action = Quiet (rules.gives (yields.Str ∷ [])) m action

  text_gives : Text fresh_text
  text_gives = (tt, λ c. gave (rules.gives (yields.Str ∷ [])) [] m (value.text (is_even c)) yields.Str shape.str (first yields.Str []) refl a_text)

  abbrev acts : ℕ → NativeSort → Outcome → Action Value
  acts n s o = elim s [ sort.Value ↦ value_by o | _ ↦ allocate (object.foreign (object.builtin n)) ]

  abbrev yield_of : ℕ → NativeSort → Yield
  yield_of n s = elim s [ sort.Value ↦ yields.Str | _ ↦ yields.Native n ]

  by_sort : (n : ℕ) (row : Native) → slice_get natives n ≡ Some row → (s : NativeSort) (o : Outcome) → text_if_value s o ≡ true → Quiet (rules.gives (yield_of n s ∷ [])) m (acts n s o)
  by_sort n row e sort.Function o h = native_gives n row m e
  by_sort n row e sort.Class o h = native_gives n row m e
  by_sort n row e sort.Method o h = native_gives n row m e
  by_sort n row e sort.Value o h = subst Text (sym (text_by o h)) text_gives

  by_native : (text : List ℕ) (n : ℕ) → function_number text ≡ Some n → (o : Option Native) → slice_get natives n ≡ o → Quiet (rules.gives (native_yield n o ∷ [])) m (native_value n o)
  by_native text n f None e = anything_gives (rules.gives (yields.Ext ∷ [])) m (first yields.Ext [])
  by_native text n f (Some row) e = by_sort n row e row.sort (outcome_of row.deed) (numbered text n row f e)

  module _ (name : ℕ) (text : List ℕ) where
    outside : (b : Bool) → IsRead (if b then transfer.Makes yields.Ext else transfer.Misses name) m anything
    outside true = anything_gives (row_of (transfer.Makes yields.Ext) []) m (first yields.Ext [])
    outside false = anything_gives (row_of (transfer.Misses name) []) m (first yields.Ext [])

    base : (n : ℕ) → function_number text ≡ Some n → (b : Bool) →
        IsRead (if b then unknown name text else transfer.Makes (native_yield n (slice_get natives n))) m (if b then anything else native_value n (slice_get natives n))
    base n f true = outside (list_any (bytes_eq text) outside_names)
    base n f false = by_native text n f (slice_get natives n) refl

    by_number : (o : Option ℕ) → function_number text ≡ o →
        IsRead (elim o [ None ↦ unknown name text | Some n ↦ if bytes_eq text (codes "base_init") then unknown name text else transfer.Makes (native_yield n (slice_get natives n)) ]) m
        (elim o [ None ↦ anything | Some n ↦ if bytes_eq text (codes "base_init") then anything else native_value n (slice_get natives n) ])
    by_number None f = outside (list_any (bytes_eq text) outside_names)
    by_number (Some n) f = base n f (bytes_eq text (codes "base_init"))

    pub unbound_row : IsRead (builtin name text) m (builtin_value text)
    unbound_row = by_number (function_number text) refl
