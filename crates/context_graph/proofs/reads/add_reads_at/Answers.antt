use Rattle.std.proofs.Common.{◌≡◌, Some, refl, subst}
use Rattle.world_tables.specs.declared.spot.PointSpot.{PointSpot}
use Rattle.context_graph.specs.Growth.{IsPart}
use Rattle.context_graph.specs.Places.{HasReads}
use Rattle.context_graph.proofs.EdgeMore.{on_ok, spot_there}
use Rattle.context_graph.proofs.ReadSteps.{place_at}
use Rattle.context_graph.proofs.reads.add_reads_at.Goals as goal

pub add_read-requires : goal.add_read-requires
add_read-requires c = record { place = place_at c.args.program.now c.args.tables.now c.args.context c.args.place c.args.code.now c.in-Some.at c.requires.code ((c.in-Some.ensures c.in-Some.at).0 refl) }

pub returns-in-Some-clause-keeps : goal.returns-in-Some-clause-keeps
returns-in-Some-clause-keeps c = λ s w.
    subst (λ k. IsPart s k c.args.tables.now c.add_read.new.tables) ((c.in-Some.ensures c.in-Some.at).0 refl).context_is (c.add_read.ensures.keeps s w)

some_spot : (a b : PointSpot) → Some a ≡ Some b → a ≡ b
some_spot a b e = cc

pub returns-in-Some-clause-reads : goal.returns-in-Some-clause-reads
returns-in-Some-clause-reads c =
    on_ok c.add_read.result (λ has spot is. subst (λ x. HasReads c.args.program.now c.add_read.new.tables x) (some_spot c.in-Some.at spot ((c.in-Some.ensures spot).1 is)) has) c.add_read.ensures.reads

pub returns-in-None-clause-reads : goal.returns-in-None-clause-reads
returns-in-None-clause-reads c = λ spot is. spot_there c.args.code.now c.args.context c.args.place (λ x. (c.in-None.ensures x).1) spot.depth is.has_depth
