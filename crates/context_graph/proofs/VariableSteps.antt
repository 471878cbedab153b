-- One variable more, or none where it is known.
use Rattle.std.proofs.Common.{◌≡◌, ℕ, ◌<◌, Bool, true, false, Result, Ok, Err, Option, Some, None, List, [], length, slice_get, option_map, IsSome, ◌⊎◌, inl, inr, refl, sym, ap, subst, ◌∙◌, ◌+◌, arith}
use Rattle.std.specs.Option.{unwrap_or}
use Rattle.std.specs.List.{list_any, Contains}
use Rattle.std.specs.Result.{OnOk, OnErr, IsOk}
use Rattle.graph_walks.proofs.Lists.{got}
use Rattle.flow_graph.specs.declared.edge.Test.{Test}
use Rattle.flow_graph.specs.declared.edge.Test.TheVariants.{MayBeTrue, MayBeFalse, Is}
use Rattle.flow_graph.proofs.Same.{any_true, any_false}
use Rattle.stack_code.specs.declared.op.Op.{Op}
use Rattle.program_tables.specs.Programs.{Compiled}
use Rattle.world_rules.specs.Places.{main, global, slot, below_top, written}
use Rattle.world_rules.specs.Sources.{Source}
use Rattle.world_rules.specs.Branches.{ask_top}
use Rattle.world_rules.specs.Rules.{IsPoint, Stands, Leads}
use Rattle.world_tables.specs.contracts.spot.VariableSpotPartialEq.TheImpl as variables
use Rattle.world_tables.specs.declared.spot.PointSpot.{PointSpot}
use Rattle.world_tables.specs.declared.spot.VariableSpot.{VariableSpot}
use Rattle.world_tables.specs.Tables.{the_point, the_variable, test_at, used_written, used_asked, IsUsedIn}
use Rattle.world_tables.specs.Rows.{WorldRows, contexts_of, the_context, variable_of, tables_of, with_new_variable}
use Rattle.world_tables.proofs.Exact.{variable_exact}
use Rattle.world_tables.proofs.Items.{there}
use Rattle.world_tables.proofs.Kept.{contexts_counted}
use Rattle.context_code.specs.Sources.{IsSourceOf}
use Rattle.context_code.specs.Tests.{IsPlain}
use Rattle.context_graph.specs.Edges.{edge_from}
use Rattle.context_graph.specs.Growth.{IsStep}
use Rattle.context_graph.proofs.Grown.{step_equal, step_variable}
use Rattle.context_graph.proofs.Lists.{mapped_at}

-- a variable is known or not
known_or_new : (spots : List VariableSpot) (spot : VariableSpot) (Q : Type 0) → (Contains spots spot → Q) → ((Contains spots spot → ⊥) → Q) → Q
known_or_new spots spot Q known new = go (list_any (variables.eq-value.it spot) spots) refl
  where
    go : (b : Bool) → list_any (variables.eq-value.it spot) spots ≡ b → Q
    go true e = known (any_true _ variable_exact spots spot e)
    go false e = new (any_false _ variable_exact spots spot e)

-- what add_variable leaves
module _ {T E : Type 0} (r : Result T E) (old new : WorldRows) (spot : VariableSpot) (known : Contains old.variables spot → IsOk r × (new ≡ old)) (fresh : (Contains old.variables spot → ⊥) → OnOk r (new ≡ with_new_variable spot old))
    (refused : OnErr r (new ≡ old)) where
  same_or_more : (new ≡ old) ⊎ (new ≡ with_new_variable spot old)
  same_or_more = known_or_new old.variables spot ((new ≡ old) ⊎ (new ≡ with_new_variable spot old)) (λ c. inl (known c).1) (λ n. go r (fresh n) refused)
    where
      go : (q : Result T E) → OnOk q (new ≡ with_new_variable spot old) → OnErr q (new ≡ old) → (new ≡ old) ⊎ (new ≡ with_new_variable spot old)
      go (Ok x) f g = inr f
      go (Err e) f g = inl g

  pub variable_step : IsStep old new
  variable_step = go same_or_more
    where
      go : (new ≡ old) ⊎ (new ≡ with_new_variable spot old) → IsStep old new
      go (inl e) = step_equal old new e
      go (inr e) = subst (IsStep old) (sym e) (step_variable old spot)

  pub variable_points : new.points ≡ old.points
  variable_points = go same_or_more
    where
      go : (new ≡ old) ⊎ (new ≡ with_new_variable spot old) → new.points ≡ old.points
      go (inl e) = ap (λ (w : WorldRows). w.points) e
      go (inr e) = ap (λ (w : WorldRows). w.points) e

-- ---- what is used

pub context_known : (rows : WorldRows) (k : ℕ) → k < length rows.graph.flow.contexts → Contains (contexts_of rows) (the_context (contexts_of rows) k)
context_known rows k h =
    let n : length (contexts_of rows) ≡ 0 + length rows.graph.flow.contexts = contexts_counted [] rows.points rows.graph.flow.contexts in
    got (contexts_of rows) k (the_context (contexts_of rows) k) (there (contexts_of rows) k main (omega (arith, n, h)))

pub written_used : (s : Source) (compiled : Compiled) (rows : WorldRows) (spot : PointSpot) (o : Op) (v : VariableSpot) → IsSourceOf s compiled → spot.context < length rows.graph.flow.contexts →
    Stands s (the_context (contexts_of rows) spot.context) spot.place spot.depth o → Some (variable_of (contexts_of rows) v) ≡ written compiled.program (the_context (contexts_of rows) spot.context) spot.depth o →
    IsUsedIn s (contexts_of rows) (variable_of (contexts_of rows) v)
written_used s compiled rows spot o v source h stands e =
    record {
      context = the_context (contexts_of rows) spot.context;
      known = context_known rows spot.context h;
      used = used_written stands (ap (λ p. written p (the_context (contexts_of rows) spot.context) spot.depth o) source.program ∙ sym e);
    }

pub asked_used : (s : Source) (rows : WorldRows) (spot : PointSpot) (o : Op) (to : ℕ) (assigns : Bool) (test : Option Test) → spot.context < length rows.graph.flow.contexts →
    Stands s (the_context (contexts_of rows) spot.context) spot.place spot.depth o → Leads (the_context (contexts_of rows) spot.context) spot.place spot.depth o (edge_from rows spot to assigns test) →
    IsPoint s (the_point (tables_of rows) to) → IsSome test → IsUsedIn s (contexts_of rows) (slot (the_context (contexts_of rows) spot.context) (below_top spot.depth 0))
asked_used s rows spot o to assigns None h stands leads point some = cc
asked_used s rows spot o to assigns (Some test) h stands leads point some =
    record {
      context = the_context (contexts_of rows) spot.context;
      known = context_known rows spot.context h;
      used = used_asked stands leads point refl;
    }

-- ---- variables by number

pub variable_at_number : (rows : WorldRows) (var : ℕ) (spot : VariableSpot) → slice_get rows.variables var ≡ Some spot → the_variable (tables_of rows) var ≡ variable_of (contexts_of rows) spot
variable_at_number rows var spot e = ap (λ o. unwrap_or o (global 0)) (mapped_at (variable_of (contexts_of rows)) rows.variables spot var e)

pub variable_number : (old new : WorldRows) (var : ℕ) (spot : VariableSpot) → contexts_of new ≡ contexts_of old → slice_get new.variables var ≡ Some spot → the_variable (tables_of new) var ≡ variable_of (contexts_of old) spot
variable_number old new var spot same e = variable_at_number new var spot e ∙ ap (λ cs. variable_of cs spot) same

-- what is asked, by structure
plain_test : (old new : WorldRows) (test : Test) → IsPlain (Some test) → test_at (tables_of new) test ≡ test_at (tables_of old) test
plain_test old new MayBeTrue h = refl
plain_test old new MayBeFalse h = refl
plain_test old new (Is shape) h = absurd h

pub ask_is : (old new : WorldRows) (spot : PointSpot) (var : ℕ) (top : VariableSpot) (test : Test) (o : Option Test) → o ≡ Some test → IsPlain o → contexts_of new ≡ contexts_of old → slice_get new.variables var ≡ Some top →
    variable_of (contexts_of old) top ≡ slot (the_context (contexts_of old) spot.context) (below_top spot.depth 0) →
    Some (record { var = the_variable (tables_of new) var; test = test_at (tables_of new) test }) ≡ ask_top (the_context (contexts_of old) spot.context) spot.depth (option_map (test_at (tables_of old)) o)
ask_is old new spot var top test o e plain same number is =
    let v : the_variable (tables_of new) var ≡ slot (the_context (contexts_of old) spot.context) (below_top spot.depth 0) = variable_number old new var top same number ∙ is in
    let t : test_at (tables_of new) test ≡ test_at (tables_of old) test = plain_test old new test (subst IsPlain e plain) in
    (λ i. Some (record { var = v i; test = t i })) ∙ sym (ap (λ x. ask_top (the_context (contexts_of old) spot.context) spot.depth (option_map (test_at (tables_of old)) x)) e)
