-- Which spots are roots.
use Rattle.std.proofs.Common.{◌≡◌, ℕ, suc, zero, ◌<◌, Bool, true, false, ◌&&◌, ◌==◌, is_some, not, Option, Bor, Some, None, option_map, List, [], ◌∷◌, length, slice_get, refl, sym, ap, ◌∙◌, arith}
use Rattle.std.specs.Option.{option_and_then, option_copied}
use Rattle.std.proofs.Math.Decide.{ℕ_discrete}
use Rattle.std.proofs.lemmas.Bool.Decides.{nat_tests}
use Rattle.flow_graph.specs.declared.context.Context.{Context as ContextRow}
use Rattle.tree_code.specs.Programs.{Program}
use Rattle.world_rules.specs.Places.{Context, main, entry, called, at, op_at}
use Rattle.world_rules.specs.Items.{Item, has_context, is_root}
use Rattle.world_tables.specs.declared.spot.PointSpot.{PointSpot}
use Rattle.world_tables.specs.Tables.{items_of}
use Rattle.world_tables.specs.Rows.{WorldRows, context_by, contexts_of, the_context, point_of, tables_of, IsCall, IsKept}
use Rattle.world_tables.proofs.Keeping.{known_context}
use Rattle.world_tables.proofs.Roots.{known_has}
use Rattle.context_code.proofs.Contexts.{context_is}
use Rattle.context_graph.specs.Edges.{is_uncalled}

and_true : (a b : Bool) → b ≡ true → a && b ≡ a
and_true true b e = e
and_true false b e = refl

not_equal : (m n : ℕ) → (m ≡ n → ⊥) → (m == n) ≡ false
not_equal m n h = grind (arith, nat_tests)

-- a first place is place 0
by_place : (program : Program) (c : Context) (place depth : ℕ) (known : Bool) → known ≡ true →
    (place == 0) && ((depth == 0) && (is_some (op_at program c 0) && known)) ≡ (place == 0) && ((depth == 0) && is_some (op_at program c place))
by_place program c place depth known e = go (ℕ_discrete place 0)
  where
    go : Dec (place ≡ 0) → (place == 0) && ((depth == 0) && (is_some (op_at program c 0) && known)) ≡ (place == 0) && ((depth == 0) && is_some (op_at program c place))
    go (yes z) = ap (λ b. (place == 0) && ((depth == 0) && b)) (and_true (is_some (op_at program c 0)) known e ∙ ap (λ n. is_some (op_at program c n)) (sym z))
    go (no n) = rw (not_equal place 0 n) refl

-- what a root is, of a context that is there
root_by : (program : Program) (items : List Item) (c : Context) (place depth : ℕ) → has_context items c ≡ true →
    is_root program items (at c place depth) ≡ (place == 0) && ((depth == 0) && (is_uncalled c && is_some (op_at program c place)))
root_by program items main place depth known = by_place program main place depth (has_context items main) known
root_by program items (entry f) place depth known = by_place program (entry f) place depth (has_context items (entry f)) known
root_by program items (called c q d f) place depth known = never (place == 0) (depth == 0)
  where
    never : (a b : Bool) → false ≡ a && (b && false)
    never true true = refl
    never true false = refl
    never false b = refl

pub root_is : (program : Program) (rows : WorldRows) (spot : PointSpot) → IsKept rows → spot.context < length rows.graph.flow.contexts →
    is_root program (items_of (tables_of rows)) (point_of (contexts_of rows) spot)
    ≡ (spot.place == 0) && ((spot.depth == 0) && (is_uncalled (the_context (contexts_of rows) spot.context) && is_some (op_at program (the_context (contexts_of rows) spot.context) spot.place)))
root_is program rows spot kept h =
    root_by program (items_of (tables_of rows)) (the_context (contexts_of rows) spot.context) spot.place spot.depth
    (known_has (tables_of rows) (the_context (contexts_of rows) spot.context) (known_context rows kept spot.context h))

-- ---- contexts that nothing calls

uncalled_by : (known : List Context) (spots : List PointSpot) (n : ℕ) (parent call fun : Option ℕ) → IsCall spots n parent call fun →
    is_some parent ≡ not (is_uncalled (context_by known (option_and_then (λ c. slice_get spots c) call) parent fun))
uncalled_by known spots n None None None h = refl
uncalled_by known spots n None None (Some f) h = refl
uncalled_by known spots n None (Some c) fun h = absurd h
uncalled_by known spots n (Some p) None fun h = absurd h
uncalled_by known spots n (Some p) (Some c) None h = absurd h
uncalled_by known spots n (Some p) (Some c) (Some f) h = go (slice_get spots c) h.1
  where
    go : (o : Option PointSpot) → option_map (λ spot. spot.context) o ≡ Some p → true ≡ not (is_uncalled (context_by known o (Some p) (Some f)))
    go None e = cc
    go (Some x) e = refl

same_not : (a b : Bool) → not a ≡ not b → a ≡ b
same_not true true e = refl
same_not true false e = cc
same_not false true e = cc
same_not false false e = refl

pub uncalled_is : (rows : WorldRows) → IsKept rows → (id : ℕ) (row : ContextRow) (none : Bool) → slice_get rows.graph.flow.contexts id ≡ Some row → is_some row.parent ≡ not none → none ≡ is_uncalled (the_context (contexts_of rows) id)
uncalled_is rows kept id row none e h =
    same_not none (is_uncalled (the_context (contexts_of rows) id))
    (sym h ∙ (uncalled_by (contexts_of rows) rows.points id row.parent row.call row.fun (kept.calls id row e) ∙ ap (λ c. not (is_uncalled c)) (sym (context_is rows kept id row e))))

-- there is a row under each number
pub row_there : (rows : List ContextRow) (k : ℕ) {A : Type 0} → k < length rows → None ≡ slice_get rows k → A
row_there [] k h e = absurd (omega (arith, h))
row_there (row ∷ rows) zero h e = cc
row_there (row ∷ rows) (suc k) h e = row_there rows k (omega (arith, h)) e

pub some_copied : {A : Type 0} (o : Option (Bor A)) → is_some o ≡ is_some (option_copied o)
some_copied None = refl
some_copied (Some x) = refl
