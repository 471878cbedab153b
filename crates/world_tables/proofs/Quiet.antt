-- All that the rules give of finished contexts belongs to one of their points, and nothing of it is new.
use Rattle.std.proofs.Common.{ℕ, sym, subst, arith}
use Rattle.std.specs.List.{Contains}
use Rattle.std.proofs.lemmas.List.{take_all}
use Rattle.stack_code.specs.declared.op.Op.{Op}
use Rattle.world_rules.specs.Places.{Context, main, Point, at}
use Rattle.world_rules.specs.Sources.{Source}
use Rattle.world_rules.specs.Items.{Item, a_context}
use Rattle.world_rules.specs.Rules.{HasPlace, Stands, GivesAt, result, enter, Gives, of_module, leads, of_point, IsLeast}
use Rattle.world_rules.proofs.Growing.{point_more}
use Rattle.world_rules.proofs.Least.{least}
use Rattle.world_tables.specs.Rounds.{WasQuiet}
use Rattle.world_tables.specs.Tables.{Tables, items_of, finished_contexts, AreFinished, AreTables}
use Rattle.world_tables.proofs.Items.{items_in}
use Rattle.world_tables.proofs.Roots.{context_in, known_item}

place_of : (s : Source) (c : Context) (place depth : ℕ) (o : Op) → Stands s c place depth o → HasPlace s c place depth
place_of s c place depth o k = record { code = k.code; of = k.of; has_depth = k.has_depth }

module _ (s : Source) (t : Tables) (a : AreTables s t) (all : AreFinished t) where
  finished : (c : Context) → Contains (items_of t) (a_context c) → Contains (finished_contexts t) c
  finished c k = subst (λ cs. Contains cs c) (sym (take_all t.finished t.contexts (omega (arith, all)))) (context_in t c (items_in t (a_context c) k))

  point_there : (p : Point) (i : Item) → GivesAt s (items_of t) p i → Contains t.points p
  point_there (at c place depth) _ (result _ _ f _ _) = a.numbering.points_are c place depth (finished c f.context) (place_of s c place depth f.op f.stands)
  point_there (at c place depth) _ (enter _ _ f _ _) = a.numbering.points_are c place depth (finished c f.context) (place_of s c place depth f.op f.stands)

  pub quiet_least : Contains t.contexts main → ((p : Point) (i : Item) → Contains t.points p → GivesAt s (items_of t) p i → Contains (items_of t) i) → IsLeast s (items_of t)
  quiet_least module_there quiet = least s (items_of t) a.derived (record { has = has })
    where
      has : (i : Item) → Gives s (items_of t) i → Contains (items_of t) i
      has _ of_module = known_item t main module_there
      has _ (leads {c} {place} {depth} {o} {e} known stands way end) = a.leads c place depth o e (finished c known) stands way end
      has i (of_point {p} given) = quiet p i (point_there p i given) given

  -- a point gives no more of what its turn had all of
  pub round_least : Contains t.contexts main → ((p : Point) → Contains t.points p → WasQuiet s (items_of t) p) → IsLeast s (items_of t)
  round_least module_there round = quiet_least module_there (λ p i known given. let q : WasQuiet s (items_of t) p = round p known in q.given i (point_more s (items_of t) q.before q.had_all given))
