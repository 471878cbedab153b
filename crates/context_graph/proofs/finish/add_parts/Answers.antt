use Rattle.context_graph.proofs.EdgeMore.{on_ok}
use Rattle.context_graph.proofs.Finished.{parts_keep, parts_all, points_later, code_later}
use Rattle.context_graph.proofs.Grown.{step_on, grown_on}
use Rattle.context_graph.proofs.Parts.{part_on, there_stays}
use Rattle.context_graph.proofs.ReadSteps.{code_on}
use Rattle.context_graph.proofs.finish.add_parts.Goals as goal

pub add_reads-requires-clause-code : goal.add_reads-requires-clause-code
add_reads-requires-clause-code c = code_on c.args.program.now c.args.tables.now c.add_points.new.tables c.args.context c.args.code.now c.in_ok-add_points.ensures.step.grown c.requires.code

pub add_edges-requires-clause-there : goal.add_edges-requires-clause-there
add_edges-requires-clause-there c =
    there_stays c.args.tables.now c.add_reads.new.tables (grown_on c.args.tables.now c.add_points.new.tables c.add_reads.new.tables c.in_ok-add_points.ensures.step.grown c.in_ok-add_reads.ensures.step.grown) c.args.context c.requires.code.there

pub returns-in_err-add_reads-clause-step : goal.returns-in_err-add_reads-clause-step
returns-in_err-add_reads-clause-step c = step_on c.args.tables.now c.add_points.new.tables c.add_reads.new.tables c.in_ok-add_points.ensures.step c.in_err-add_reads.ensures.step

pub returns-in_err-add_reads-clause-keeps : goal.returns-in_err-add_reads-clause-keeps
returns-in_err-add_reads-clause-keeps c = λ s w.
    let p = c.add_points.ensures.keeps s w in
    part_on s c.args.context c.args.tables.now c.add_points.new.tables c.add_reads.new.tables c.in_ok-add_points.ensures.step.grown p (c.add_reads.ensures.keeps s (record { source = w.source; tables = p.tables }))

pub returns-clause-step : goal.returns-clause-step
returns-clause-step c =
    step_on c.args.tables.now c.add_reads.new.tables c.add_edges.new.tables (step_on c.args.tables.now c.add_points.new.tables c.add_reads.new.tables c.in_ok-add_points.ensures.step c.in_ok-add_reads.ensures.step) c.add_edges.ensures.step

pub returns-clause-keeps : goal.returns-clause-keeps
returns-clause-keeps c = λ s w.
    parts_keep s c.args.program.now c.args.tables.now c.add_points.new.tables c.add_reads.new.tables c.add_edges.new.tables c.args.code.now c.args.context w c.requires.code c.in_ok-add_points.ensures.step c.in_ok-add_reads.ensures.step
    (c.add_points.ensures.keeps s w) (c.add_reads.ensures.keeps s) (c.add_edges.ensures.keeps s)

pub returns-clause-all : goal.returns-clause-all
returns-clause-all c = λ s w.
    let p = c.add_points.ensures.keeps s w in
    let q = c.add_reads.ensures.keeps s (record { source = w.source; tables = p.tables }) in
    let of = code_later s c.args.program.now c.args.tables.now c.add_points.new.tables c.add_reads.new.tables c.add_edges.new.tables c.args.code.now c.args.context w c.requires.code c.in_ok-add_points.ensures.step c.in_ok-add_reads.ensures.step in
    let r = c.add_edges.ensures.keeps s q.tables of in
    let have = points_later s c.args.program.now c.args.tables.now c.add_points.new.tables c.add_reads.new.tables c.add_edges.new.tables c.args.code.now c.args.context w c.requires.code c.in_ok-add_points.ensures.step c.in_ok-add_reads.ensures.step
    (c.in_ok-add_points.ensures.points s w) in
    on_ok c.add_edges.result
    (λ edges. parts_all s c.args.program.now c.args.tables.now c.add_points.new.tables c.add_reads.new.tables c.add_edges.new.tables c.args.code.now c.args.context w c.requires.code c.in_ok-add_points.ensures.step c.in_ok-add_reads.ensures.step
    c.add_edges.ensures.step r.tables (c.in_ok-add_points.ensures.points s w) c.in_ok-add_reads.ensures.reads edges)
    (c.add_edges.ensures.edges s q.tables of have)
