-- Where the points of the next context go on.
use Rattle.std.proofs.Common.{◌≡◌, ℕ, ◌+◌, ◌-◌, ◌<◌, ◌≤◌, Option, Some, None, List, length, slice_get, get_or, ◌⊎◌, inl, inr, sym, ap, subst, ◌∙◌, arith}
use Rattle.std.specs.List.{AllPairs, Contains}
use Rattle.std.specs.Option.{IfSome}
use Rattle.std.proofs.Math.Decide.{ℕ_discrete}
use Rattle.std.proofs.lemmas.Option.{get_or_from_slice_get}
use Rattle.graph_walks.proofs.Lists as lists
use Rattle.graph_walks.proofs.Lists.{got, stands, map_has}
use Rattle.world_rules.specs.Places.{Context, at}
use Rattle.world_rules.specs.Sources.{Source}
use Rattle.world_rules.specs.Rules.{HasPlace, IsPoint}
use Rattle.world_tables.specs.declared.spot.PointSpot.{PointSpot}
use Rattle.world_tables.specs.Tables.{AreTables}
use Rattle.world_tables.specs.Rows.{WorldRows, contexts_of, the_context, point_of, tables_of, IsBefore, IsKept}
use Rattle.world_tables.proofs.Items.{below}
use Rattle.context_graph.specs.Places.{HaveOneDepth, HavePoints, IsLast}

-- in a list in order the last element comes last
pub last_is : (spots : List PointSpot) (last : PointSpot) (n : ℕ) → AllPairs IsBefore spots → length spots ≡ n + 1 → slice_get spots n ≡ Some last → IsLast spots last
last_is spots last n order count e =
    record {
      each = λ other c. go other (stands spots other c);
      is = got spots n last e;
    }
  where
    go : (other : PointSpot) → lists.Stands spots other → (other ≡ last) ⊎ IsBefore other last
    go other k = by_place (ℕ_discrete k.place n)
      where
        by_place : Dec (k.place ≡ n) → (other ≡ last) ⊎ IsBefore other last
        by_place (yes i) = let f : Some other ≡ Some last = sym k.at ∙ (ap (slice_get spots) i ∙ e) in inl cc
        by_place (no i) =
            let l : k.place < length spots = below spots k.place other k.at in
            let m : k.place < n = omega (arith, l, i, count) in
            inr (subst (λ x. IsBefore x last) (get_or_from_slice_get spots k.place other last k.at) (subst (λ x. IsBefore (get_or spots k.place last) x) (get_or_from_slice_get spots n last last e) (order k.place n last m (omega (arith, count)))))

module _ (rows : WorldRows) (kept : IsKept rows) (context : ℕ) (next : context ≡ rows.finished) (last : PointSpot) (is : IsLast rows.points last) where
  -- the points of the context lie before the place behind the last point
  pub before_behind : (first : ℕ) → (last.context ≡ context → first ≡ last.place + 1) → (other : PointSpot) → Contains rows.points other → other.context ≡ context → other.place < first
  before_behind first behind other c e = go (is.each other c)
    where
      go : (other ≡ last) ⊎ IsBefore other last → other.place < first
      go (inl same) =
          let l : other.context ≡ last.context = ap (λ (x : PointSpot). x.context) same in
          let p : other.place ≡ last.place = ap (λ (x : PointSpot). x.place) same in
          let f : first ≡ last.place + 1 = behind (sym l ∙ e) in
          omega (arith, p, f)
      go (inr (inl less)) = let b : last.context ≤ rows.finished = kept.points_begun last is.is in absurd (omega (arith, less, b, next, e))
      go (inr (inr same)) =
          let f : first ≡ last.place + 1 = behind (sym same.0 ∙ e) in
          let l : other.place < last.place = same.1 in
          omega (arith, l, f)

  -- and all places before it are points
  pub points_behind : (s : Source) → AreTables s (tables_of rows) → HaveOneDepth s (the_context (contexts_of rows) context) → last.context ≡ context → HavePoints s (tables_of rows) (the_context (contexts_of rows) context) (last.place + 1)
  points_behind s a one e = record { each = λ earlier depth l p. go earlier depth l p (ℕ_discrete earlier last.place) }
    where
      c : Context
      c = the_context (contexts_of rows) context

      there : Contains (tables_of rows).points (at (the_context (contexts_of rows) context) last.place last.depth)
      there = subst (λ k. Contains (tables_of rows).points (at (the_context (contexts_of rows) k) last.place last.depth)) e (map_has (point_of (contexts_of rows)) rows.points last is.is)

      go : (earlier depth : ℕ) → earlier < last.place + 1 → IsPoint s (at (the_context (contexts_of rows) context) earlier depth) → Dec (earlier ≡ last.place) → Contains (tables_of rows).points (at (the_context (contexts_of rows) context) earlier depth)
      go earlier depth l p (yes i) =
          let q : IsPoint s (at (the_context (contexts_of rows) context) last.place last.depth) = (a.numbering.are_points (the_context (contexts_of rows) context) last.place last.depth there).1 in
          let d : depth ≡ last.depth = one.agree last.place depth last.depth (subst (λ n. HasPlace s (the_context (contexts_of rows) context) n depth) i p) q in
          subst (λ n. Contains (tables_of rows).points (at (the_context (contexts_of rows) context) n depth)) (sym i) (subst (λ n. Contains (tables_of rows).points (at (the_context (contexts_of rows) context) last.place n)) (sym d) there)
      go earlier depth l p (no n) =
          a.numbering.points_before (the_context (contexts_of rows) context) last.place last.depth there earlier depth (omega (arith, l, n)) p

pub no_points : (s : Source) (rows : WorldRows) (c : Context) → HavePoints s (tables_of rows) c 0
no_points s rows c = record { each = λ earlier depth l p. absurd (omega (arith, l)) }

-- the last of spots that are counted
pub last_if : (spots : List PointSpot) (count n : ℕ) (o : Option PointSpot) → AllPairs IsBefore spots → count ≡ length spots → (count ≡ 0 → ⊥) → n ≡ count - 1 → o ≡ slice_get spots n → IfSome o (λ last. IsLast spots last)
last_if spots count n None order c z m e = tt
last_if spots count n (Some last) order c z m e = last_is spots last n order (omega (arith, c, z, m)) (sym e)

-- where the points of a context go on behind the last one
pub behind_last : (s : Source) (rows : WorldRows) (kept : IsKept rows) (context : ℕ) (next : context ≡ rows.finished) (last : PointSpot) → IsLast rows.points last → (first : ℕ) → (last.context ≡ context → first ≡ last.place + 1) →
    ((last.context ≡ context → ⊥) → first ≡ 0) → AreTables s (tables_of rows) → HaveOneDepth s (the_context (contexts_of rows) context) → HavePoints s (tables_of rows) (the_context (contexts_of rows) context) first
behind_last s rows kept context next last is first same other a one = go (ℕ_discrete last.context context)
  where
    go : Dec (last.context ≡ context) → HavePoints s (tables_of rows) (the_context (contexts_of rows) context) first
    go (yes e) = subst (λ n. HavePoints s (tables_of rows) (the_context (contexts_of rows) context) n) (sym (same e)) (points_behind rows kept context next last is s a one e)
    go (no n) = subst (λ k. HavePoints s (tables_of rows) (the_context (contexts_of rows) context) k) (sym (other n)) (no_points s rows (the_context (contexts_of rows) context))
