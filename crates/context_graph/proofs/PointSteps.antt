-- The points of a context, one place after the other.
use Rattle.std.proofs.Common.{◌≡◌, ℕ, ◌+◌, ◌<◌, Bool, Option, Some, List, [], ◌∷◌, ◌++◌, slice_get, option_map, ◌⊎◌, inl, inr, refl, sym, ap, subst, ◌∙◌, arith}
use Rattle.std.specs.Option.{option_and_then}
use Rattle.std.specs.List.{Contains}
use Rattle.std.proofs.Math.Decide.{ℕ_discrete}
use Rattle.graph_walks.proofs.Lists.{map_has}
use Rattle.stack_code.specs.declared.code.Code.{Code}
use Rattle.stack_code.specs.declared.op.Op.{Op}
use Rattle.stack_code.specs.Depths.{HasDepth}
use Rattle.stack_code.specs.Validity.{IsValid}
use Rattle.program_tables.specs.Programs.{Compiled}
use Rattle.world_rules.specs.Places.{Context, at, code_of, written, op_at, target_of}
use Rattle.world_rules.specs.Sources.{Source}
use Rattle.world_rules.specs.Items.{is_root}
use Rattle.world_rules.specs.Rules.{HasPlace, IsPoint, Stands}
use Rattle.world_rules.proofs.Extending.{some_same}
use Rattle.world_tables.specs.declared.spot.PointSpot.{PointSpot}
use Rattle.world_tables.specs.Tables.{the_variable, items_of, IsNewPoint}
use Rattle.world_tables.specs.Rows.{WorldRows, contexts_of, the_context, point_of, tables_of}
use Rattle.world_tables.proofs.Lists.{old_or_last}
use Rattle.context_code.specs.Sources.{IsSourceOf}
use Rattle.context_graph.specs.Growth.{IsGrown}
use Rattle.context_graph.specs.Places.{IsCodeOf, IsSpotAt, HaveOneDepth, HavePoints}
use Rattle.context_graph.proofs.Parts.{point_stays}

-- ---- a new point

-- the instruction at a spot stands there in each source of the program
pub stands_at : (s : Source) (compiled : Compiled) (rows : WorldRows) (code : Code) (context place : ℕ) (spot : PointSpot) (o : Op) → IsSourceOf s compiled → IsCodeOf compiled rows context code →
    IsSpotAt code context place spot → slice_get code.ops place ≡ Some o → Stands s (the_context (contexts_of rows) spot.context) spot.place spot.depth o
stands_at s compiled rows code context place spot o source is at_place op =
    record {
      code = code;
      of = ap (λ p. code_of p (the_context (contexts_of rows) spot.context)) source.program ∙ (ap (λ k. code_of compiled.program (the_context (contexts_of rows) k)) at_place.context_is ∙ is.of);
      op = ap (slice_get code.ops) at_place.place_is ∙ op;
      has_depth = subst (λ p. HasDepth code p spot.depth) (sym at_place.place_is) at_place.has_depth;
    }

-- where an instruction stands there is a place
pub place_of : (s : Source) (c : Context) (place depth : ℕ) (o : Op) → Stands s c place depth o → HasPlace s c place depth
place_of s c place depth o h = record { code = h.code; of = h.of; has_depth = h.has_depth }

op_is : (s : Source) (c : Context) (place depth : ℕ) (o : Op) → Stands s c place depth o → op_at s.program c place ≡ Some o
op_is s c place depth o h = ap (option_and_then (λ (code : Code). slice_get code.ops place)) h.of ∙ h.op

pub target_is : (s : Source) (c : Context) (place depth : ℕ) (o : Op) → Stands s c place depth o → target_of s.program (at c place depth) ≡ written s.program c depth o
target_is s c place depth o h = ap (option_and_then (written s.program c depth)) (op_is s c place depth o h)

-- what add_point wants of a spot, after its target has become a variable
pub new_point : (s : Source) (compiled : Compiled) (old rows : WorldRows) (spot : PointSpot) (o : Op) (target : Option ℕ) (root : Bool) → IsSourceOf s compiled → IsGrown old rows →
    Stands s (the_context (contexts_of old) spot.context) spot.place spot.depth o →
    HavePoints s (tables_of old) (the_context (contexts_of old) spot.context) spot.place →
    option_map (the_variable (tables_of rows)) target ≡ written compiled.program (the_context (contexts_of old) spot.context) spot.depth o →
    root ≡ is_root compiled.program (items_of (tables_of rows)) (point_of (contexts_of rows) spot) →
    IsNewPoint s (tables_of rows) (the_context (contexts_of rows) spot.context) spot.place spot.depth target root
new_point s compiled old rows spot o target root source grown stands have is_target is_rooted =
    let e : the_context (contexts_of rows) spot.context ≡ the_context (contexts_of old) spot.context = ap (λ cs. the_context cs spot.context) grown.contexts in
    let st : Stands s (the_context (contexts_of rows) spot.context) spot.place spot.depth o = subst (λ c. Stands s c spot.place spot.depth o) (sym e) stands in
    let same_written : written compiled.program (the_context (contexts_of old) spot.context) spot.depth o ≡ written s.program (the_context (contexts_of rows) spot.context) spot.depth o =
    ap (λ p. written p (the_context (contexts_of old) spot.context) spot.depth o) (sym source.program) ∙ ap (λ c. written s.program c spot.depth o) (sym e) in
    record {
      is_point = place_of s (the_context (contexts_of rows) spot.context) spot.place spot.depth o st;
      before = λ earlier depth l p. point_stays old rows grown (at (the_context (contexts_of rows) spot.context) earlier depth)
          (subst (λ c. Contains (tables_of old).points (at c earlier depth)) (sym e) (have.each earlier depth l (subst (λ c. IsPoint s (at c earlier depth)) e p)));
      target_is = is_target ∙ (same_written ∙ sym (target_is s (the_context (contexts_of rows) spot.context) spot.place spot.depth o st));
      root_is = is_rooted ∙ ap (λ p. is_root p (items_of (tables_of rows)) (point_of (contexts_of rows) spot)) (sym source.program);
    }

-- ---- the order of places

-- where each point of a context lies before a place, no point stands there
pub not_there : (spots : List PointSpot) (spot : PointSpot) → ((other : PointSpot) → Contains spots other → other.context ≡ spot.context → other.place < spot.place) → Contains spots spot → ⊥
not_there spots spot order c = let l : spot.place < spot.place = order spot c refl in omega (arith, l)

pub order_more : (spots : List PointSpot) (context place : ℕ) → ((other : PointSpot) → Contains spots other → other.context ≡ context → other.place < place) →
    (other : PointSpot) → Contains spots other → other.context ≡ context → other.place < place + 1
order_more spots context place order other c e = let l : other.place < place = order other c e in omega (arith, l)

pub order_next : (spots : List PointSpot) (spot : PointSpot) → ((other : PointSpot) → Contains spots other → other.context ≡ spot.context → other.place < spot.place) →
    (other : PointSpot) → Contains (spots ++ spot ∷ []) other → other.context ≡ spot.context → other.place < spot.place + 1
order_next spots spot order other c e = go (old_or_last spots spot other c)
  where
    go : Contains spots other ⊎ (other ≡ spot) → other.place < spot.place + 1
    go (inl d) = let l : other.place < spot.place = order other d e in omega (arith, l)
    go (inr same) = let l : other.place ≡ spot.place = ap (λ (x : PointSpot). x.place) same in omega (arith, l)

-- ---- one place more

-- the place is a point, or it has no depth
pub more_points : (s : Source) (old new : WorldRows) (code : Code) (context place : ℕ) → IsGrown old new → code_of s.program (the_context (contexts_of old) context) ≡ Some code →
    HavePoints s (tables_of old) (the_context (contexts_of old) context) place →
    ((depth : ℕ) → HasDepth code place depth → Contains (tables_of new).points (at (the_context (contexts_of old) context) place depth)) →
    HavePoints s (tables_of new) (the_context (contexts_of old) context) (place + 1)
more_points s old new code context place grown of have here = record { each = λ earlier depth l p. go earlier depth l p (ℕ_discrete earlier place) }
  where
    go : (earlier depth : ℕ) → earlier < place + 1 → IsPoint s (at (the_context (contexts_of old) context) earlier depth) → Dec (earlier ≡ place) → Contains (tables_of new).points (at (the_context (contexts_of old) context) earlier depth)
    go earlier depth l p (yes e) =
        let h : HasDepth code earlier depth = subst (λ k. HasDepth k earlier depth) (some_same (sym p.of ∙ of)) p.has_depth in
        subst (λ n. Contains (tables_of new).points (at (the_context (contexts_of old) context) n depth)) (sym e) (here depth (subst (λ n. HasDepth code n depth) e h))
    go earlier depth l p (no n) =
        point_stays old new grown (at (the_context (contexts_of old) context) earlier depth) (have.each earlier depth (omega (arith, l, n)) p)

-- the point of a spot that is there
pub spot_point : (old new : WorldRows) (spot : PointSpot) → IsGrown old new → Contains new.points spot → Contains (tables_of new).points (point_of (contexts_of old) spot)
spot_point old new spot grown c =
    subst (λ cs. Contains (tables_of new).points (point_of cs spot)) grown.contexts (map_has (point_of (contexts_of new)) new.points spot c)

-- the spot of a place is the only one
pub here_is : (old new : WorldRows) (code : Code) (context place : ℕ) (spot : PointSpot) → IsGrown old new → IsSpotAt code context place spot → ((other : PointSpot) → IsSpotAt code context place other → spot ≡ other) →
    Contains new.points spot → (depth : ℕ) → HasDepth code place depth → Contains (tables_of new).points (at (the_context (contexts_of old) context) place depth)
here_is old new code context place spot grown is only c depth h =
    let e : spot ≡ record { context = context; place = place; depth = depth } = only (record { context = context; place = place; depth = depth }) (record { context_is = refl; place_is = refl; has_depth = h }) in
    subst (λ x. Contains (tables_of new).points (point_of (contexts_of old) x)) e (spot_point old new spot grown c)

-- what holds of a place in a valid code holds in the context
pub one_depth : (s : Source) (c : Context) (code : Code) → code_of s.program c ≡ Some code → IsValid code → HaveOneDepth s c
one_depth s c code of valid = record { agree = λ place one other p q. valid.depths place one other (known place one p) (known place other q) }
  where
    known : (place depth : ℕ) → HasPlace s c place depth → HasDepth code place depth
    known place depth p = subst (λ k. HasDepth k place depth) (some_same (sym p.of ∙ of)) p.has_depth
