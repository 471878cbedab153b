use Rattle.context_graph.proofs.EdgeLoops.{no_edges_yet, next_edges, edges_keep}
use Rattle.context_graph.proofs.Parts.{there_stays}
use Rattle.context_graph.proofs.edges.add_edges.Goals as goal

pub loop-place-init : goal.loop-place-init
loop-place-init c = no_edges_yet c.args.tables.now c.args.code.now c.args.context

pub loop-place-preserved : goal.loop-place-preserved
loop-place-preserved c =
    next_edges c.args.tables.now c.loop-place.tables c.add_edges_at.new.tables c.args.code.now c.args.context c.loop-place.place c.loop-place.invariant c.add_edges_at.ensures.keeps c.in_ok-add_edges_at.ensures.step c.in_ok-add_edges_at.ensures.edges

pub add_edges_at-requires-clause-there : goal.add_edges_at-requires-clause-there
add_edges_at-requires-clause-there c = there_stays c.args.tables.now c.loop-place.tables c.loop-place.invariant.step.grown c.args.context c.requires.there

pub returns-in_err-add_edges_at-clause-keeps : goal.returns-in_err-add_edges_at-clause-keeps
returns-in_err-add_edges_at-clause-keeps c =
    edges_keep c.args.tables.now c.loop-place.tables c.add_edges_at.new.tables c.args.code.now c.args.context c.loop-place.place c.loop-place.invariant c.add_edges_at.ensures.keeps
