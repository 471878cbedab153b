-- A world that grows: its points stay, and what is given goes on to be.
use Rattle.std.proofs.Common.{◌≡◌, ℕ, suc, ◌+◌, ◌<◌, ◌≤◌, Bool, true, false, Some, List, [], length, map, slice_get, ◌⊎◌, inl, inr, refl, sym, ap, subst, ◌∙◌, arith}
use Rattle.std.proofs.lemmas.Bool.{cases_lt}
use Rattle.std.proofs.lemmas.List.{length-map}
use Rattle.std.specs.Option.{unwrap_or}
use Rattle.std.specs.List.{Contains}
use Rattle.graph_walks.proofs.Lists.{Stands, stands}
use Rattle.type_terms.specs.Stubs.{Stub}
use Rattle.program_tables.specs.Programs.{Compiled}
use Rattle.world_rules.specs.Places.{Context, main, Point, at}
use Rattle.world_rules.specs.Sources.{Source}
use Rattle.world_rules.specs.Items.{Item}
use Rattle.world_rules.specs.Rules.{GivesAt, IsContained, IsLeast}
use Rattle.world_tables.specs.Tables.{AreTables, AreFinished}
use Rattle.world_tables.proofs.Items.{below}
use Rattle.world_tables.specs.Rows.{tables_of, contexts_from, point_of}
use Rattle.abstract_vm.specs.Worlds.{WorldState, items_in, point_in, source, IsWorldOf, most_items}
use Rattle.abstract_vm.specs.Firing.{IsFired}
use Rattle.infer_driver.specs.Rounds.{HasMain, IsGrown, IsQuiet}

-- ---- what stays

pub same_source : (c : Compiled) (stubs : List (List ℕ × Stub)) (depth : ℕ) (w v : WorldState) → v.solver.budget ≡ w.solver.budget → v.library ≡ w.library → source c stubs depth v ≡ source c stubs depth w
same_source c stubs depth w v b l = λ i. record { program = c.program; scopes = c.scopes; stubs = stubs; depth = depth; budget = b i; library = l i }

pub same_points : (w v : WorldState) → v.rows.points ≡ w.rows.points → v.rows.graph.flow ≡ w.rows.graph.flow → (tables_of v.rows).points ≡ (tables_of w.rows).points
same_points w v p f = λ i. map (point_of (contexts_from [] (p i) ((f i).contexts))) (p i)

pub same_contexts : (w v : WorldState) → v.rows.points ≡ w.rows.points → v.rows.graph.flow ≡ w.rows.graph.flow → (tables_of v.rows).contexts ≡ (tables_of w.rows).contexts
same_contexts w v p f = λ i. contexts_from [] (p i) ((f i).contexts)

pub same_point : (w v : WorldState) (k : ℕ) → v.rows.points ≡ w.rows.points → v.rows.graph.flow ≡ w.rows.graph.flow → point_in v k ≡ point_in w k
same_point w v k p f = ap (λ ps. unwrap_or (slice_get ps k) (at main 0 0)) (same_points w v p f)

-- ---- growing

pub itself : (s : Source) (w : WorldState) → IsWorldOf s w → IsGrown s w w
itself s w is = record { world = is; contained = record { at = λ i c. c }; flow = refl; points = refl; budget = refl; library = refl }

pub as_fired : (s : Source) (p : Point) (old new : WorldState) → IsFired s p old new → IsGrown s old new
as_fired s p old new f = record { world = f.world; contained = f.contained; flow = f.flow; points = f.points; budget = f.budget; library = f.library }

pub further : (s : Source) (a b c : WorldState) → IsGrown s a b → IsGrown s b c → IsGrown s a c
further s a b c g h =
    record {
      world = h.world;
      contained = record { at = λ i k. h.contained.at i (g.contained.at i k) };
      flow = h.flow ∙ g.flow;
      points = h.points ∙ g.points;
      budget = h.budget ∙ g.budget;
      library = h.library ∙ g.library;
    }

-- ---- a round

-- what the rules give goes on to be given
abbrev pub GoesOn : Source → Type 0
GoesOn s = (items more : List Item) → IsContained items more → (p : Point) (i : Item) → GivesAt s items p i → GivesAt s more p i

-- after so many points of a round that began with the first world
pub record IsRound (s : Source) (old : WorldState) (count : ℕ) (w : WorldState) (more : Bool) : Type 0 where
  pub grown : IsGrown s old w
  pub longer : length (items_in old) ≤ length (items_in w)
  pub few : length (items_in w) ≤ most_items
  pub new : more ≡ true → length (items_in old) < length (items_in w)
  pub same : more ≡ false → IsContained (items_in w) (items_in old)
  pub fired : (k : ℕ) → k < count → (i : Item) → GivesAt s (items_in old) (point_in old k) i → Contains (items_in w) i

pub begun : (s : Source) (w : WorldState) → IsWorldOf s w → length (items_in w) ≤ most_items → IsRound s w 0 w false
begun s w is few =
    record {
      grown = itself s w is;
      longer = omega arith;
      few = few;
      new = λ e. cc;
      same = λ e. record { at = λ i c. c };
      fired = λ k l. absurd (omega (arith, l));
    }

module _ (s : Source) (on : GoesOn s) (old : WorldState) (n : ℕ) (w v : WorldState) (more : Bool) (r : IsRound s old n w more)
    (g : IsGrown s w v) (gives : (i : Item) → GivesAt s (items_in w) (point_in w n) i → Contains (items_in v) i) (long : length (items_in w) ≤ length (items_in v)) (few : length (items_in v) ≤ most_items) where
  fired_too : (k : ℕ) → k < n + 1 → (i : Item) → GivesAt s (items_in old) (point_in old k) i → Contains (items_in v) i
  fired_too k l i h = elim (split k n l) [
    | inl m ↦ g.contained.at i (r.fired k m i h)
    | inr e ↦ gives i (subst (λ p. GivesAt s (items_in w) p i) (ap (point_in old) e ∙ sym (same_point old w n r.grown.points r.grown.flow)) (on (items_in old) (items_in w) r.grown.contained (point_in old k) i h))
  ]
    where
      split : (k n : ℕ) → k < n + 1 → (k < n) ⊎ (k ≡ n)
      split k n l = elim (cases_lt k n) [ inl m ↦ inl m | inr m ↦ inr (omega (arith, l, m)) ]

  pub with_new : length (items_in w) < length (items_in v) → IsRound s old (n + 1) v true
  with_new l =
      record {
        grown = further s old w v r.grown g;
        longer = let a : length (items_in old) ≤ length (items_in w) = r.longer in omega (arith, a, long);
        few = few;
        new = λ e. let a : length (items_in old) ≤ length (items_in w) = r.longer in omega (arith, a, l);
        same = λ e. cc;
        fired = fired_too;
      }

  pub with_nothing : IsContained (items_in v) (items_in w) → IsRound s old (n + 1) v more
  with_nothing back =
      record {
        grown = further s old w v r.grown g;
        longer = let a : length (items_in old) ≤ length (items_in w) = r.longer in omega (arith, a, long);
        few = few;
        new = λ e. let a : length (items_in old) < length (items_in w) = r.new e in omega (arith, a, long);
        same = λ e. record { at = λ i c. (r.same e).at i (back.at i c) };
        fired = fired_too;
      }

-- all points of a round that added nothing
pub quiet : (s : Source) (on : GoesOn s) (old : WorldState) (w : WorldState) → IsRound s old (length old.rows.points) w false → IsQuiet s w
quiet s on old w r =
    record {
      at = λ p i c h.
          let a : Contains (tables_of old.rows).points p = subst (λ ps. Contains ps p) (same_points old w r.grown.points r.grown.flow) c in
          let k : Stands (tables_of old.rows).points p = stands (tables_of old.rows).points p a in
          let is : point_in old k.place ≡ p = ap (λ o. unwrap_or o (at main 0 0)) k.at in
          let l : k.place < length (tables_of old.rows).points = below (tables_of old.rows).points k.place p k.at in
          r.fired k.place (subst (λ m. k.place < m) (length-map old.rows.points (point_of (contexts_from [] old.rows.points old.rows.graph.flow.contexts))) l) i
          (subst (λ q. GivesAt s (items_in old) q i) (sym is) (on (items_in w) (items_in old) (r.same refl) p i h));
    }

-- each step is told by the source of the world as it stands then, which is the first one's
module _ (c : Compiled) (stubs : List (List ℕ × Stub)) (depth : ℕ) (old w v : WorldState) (n point : ℕ) (is_next : point ≡ n) (more : Bool) (r : IsRound (source c stubs depth old) old n w more)
    (on : GoesOn (source c stubs depth old)) (g : IsGrown (source c stubs depth w) w v) (gives : (i : Item) → GivesAt (source c stubs depth w) (items_in w) (point_in w point) i → Contains (items_in v) i)
    (long : length (items_in w) ≤ length (items_in v)) (few : length (items_in v) ≤ most_items) where
  as_first : source c stubs depth w ≡ source c stubs depth old
  as_first = same_source c stubs depth old w r.grown.budget r.grown.library

  grown_by_first : IsGrown (source c stubs depth old) w v
  grown_by_first = subst (λ s. IsGrown s w v) as_first g

  given_by_first : (i : Item) → GivesAt (source c stubs depth old) (items_in w) (point_in w n) i → Contains (items_in v) i
  given_by_first =
      subst (λ k. (i : Item) → GivesAt (source c stubs depth old) (items_in w) (point_in w k) i → Contains (items_in v) i) is_next
      (subst (λ s. (i : Item) → GivesAt s (items_in w) (point_in w point) i → Contains (items_in v) i) as_first gives)

  pub step_new : length (items_in w) < length (items_in v) → IsRound (source c stubs depth old) old (n + 1) v true
  step_new l = with_new (source c stubs depth old) on old n w v more r grown_by_first given_by_first long few l

  pub step_nothing : IsContained (items_in v) (items_in w) → IsRound (source c stubs depth old) old (n + 1) v more
  step_nothing back = with_nothing (source c stubs depth old) on old n w v more r grown_by_first given_by_first long few back

-- ---- round after round

pub record IsRunning (s : Source) (old w : WorldState) : Type 0 where
  pub grown : IsGrown s old w
  pub few : length (items_in w) ≤ most_items

pub at_first : (s : Source) (w : WorldState) → IsWorldOf s w → length (items_in w) ≤ most_items → IsRunning s w w
at_first s w is few = record { grown = itself s w is; few = few }

-- a round is told by the source of the world as it stands then, which is the first one's
module _ (c : Compiled) (stubs : List (List ℕ × Stub)) (depth : ℕ) (old w v : WorldState) (r : IsRunning (source c stubs depth old) old w) where
  pub still_first : source c stubs depth w ≡ source c stubs depth old
  still_first = same_source c stubs depth old w r.grown.budget r.grown.library

  pub world_then : IsWorldOf (source c stubs depth w) w
  world_then = subst (λ s. IsWorldOf s w) (sym still_first) r.grown.world

  pub grown_on : IsGrown (source c stubs depth w) w v → IsGrown (source c stubs depth old) old v
  grown_on g = further (source c stubs depth old) old w v r.grown (subst (λ s. IsGrown s w v) still_first g)

  pub running_on : IsGrown (source c stubs depth w) w v → length (items_in v) ≤ most_items → IsRunning (source c stubs depth old) old v
  running_on g few = record { grown = grown_on g; few = few }

-- where nothing is left to be given
pub least_at : (s : Source) (old w : WorldState) → IsGrown s old w → HasMain old → IsQuiet s w →
    (AreTables s (tables_of w.rows) → AreFinished (tables_of w.rows) → Contains (tables_of w.rows).contexts main →
    ((p : Point) (i : Item) → Contains (tables_of w.rows).points p → GivesAt s (items_in w) p i → Contains (items_in w) i) → IsLeast s (items_in w)) → IsLeast s (items_in w)
least_at s old w g has_main q law = law g.world.tables g.world.finished (subst (λ cs. Contains cs main) (sym (same_contexts old w g.points g.flow)) has_main) q.at
