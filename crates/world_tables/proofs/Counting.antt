-- The graph gets the truth of one shape after the other.
use Rattle.std.proofs.Common.{◌≡◌, ℕ, ◌+◌, ◌<◌, ◌≤◌, List, [], ◌∷◌, ◌++◌, length, map, take, slice_get, sym, ap, ◌∙◌, arith, add-one}
use Rattle.std.specs.Option.{unwrap_or}
use Rattle.std.proofs.lemmas.List.{map-append}
use Rattle.typegraph.specs.Graphs.{GraphTables, with_shape}
use Rattle.abstract_shapes.specs.Shapes.{Shape, any, truth_of}
use Rattle.world_tables.proofs.Prefixes.{take_next_one}

-- so many of the shapes have their truth in the graph, and none more where this one had it already
pub record AreNamed (old : GraphTables) (shapes : List Shape) (start last named : ℕ) (graph : GraphTables) : Type 0 where
  pub few : named ≤ length shapes
  pub from : start ≤ named
  pub stays : last < start → named ≡ start
  pub graph_is : graph ≡ record old { truths = map truth_of (take named shapes) }

pub first_named : (old : GraphTables) (shapes : List Shape) (start last : ℕ) → start ≤ length shapes → old.truths ≡ map truth_of (take start shapes) → AreNamed old shapes start last start old
first_named old shapes start last l e = record { few = l; from = omega arith; stays = λ h. refl_of start; graph_is = λ i. record old { truths = e i } }
  where
    refl_of : (n : ℕ) → n ≡ n
    refl_of n = λ i. n

pub next_named : (old : GraphTables) (shapes : List Shape) (start last named : ℕ) (graph new : GraphTables) → AreNamed old shapes start last named graph → named < length shapes → named ≤ last →
    new ≡ with_shape (truth_of (unwrap_or (slice_get shapes named) any)) graph → AreNamed old shapes start last (named + 1) new
next_named old shapes start last named graph new a l m e =
    record {
      few = omega (arith, l);
      from = let f : start ≤ named = a.from in omega (arith, f);
      stays = λ h. let f : start ≤ named = a.from in absurd (omega (arith, f, h, m));
      graph_is = e ∙ (ap (with_shape (truth_of (unwrap_or (slice_get shapes named) any))) a.graph_is ∙ ap (λ ts. record old { truths = ts }) (sym step));
    }
  where
    step : map truth_of (take (named + 1) shapes) ≡ map truth_of (take named shapes) ++ truth_of (unwrap_or (slice_get shapes named) any) ∷ []
    step = ap (λ n. map truth_of (take n shapes)) (add-one named) ∙ (ap (map truth_of) (take_next_one named shapes any l) ∙ map-append truth_of (take named shapes) (unwrap_or (slice_get shapes named) any ∷ []))
