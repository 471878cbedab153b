use Rattle.std.proofs.Common.{◌≡◌, ◌≤◌, ◌-◌, ◌^◌, ◌++◌, length, slice_get, sym, ap, subst, ◌∙◌, arith}
use Rattle.flow_graph.specs.Flows.{FlowTables}
use Rattle.typegraph.specs.Graphs.{GraphTables}
use Rattle.abstract_vm.specs.Asking.{global_number}
use Rattle.abstract_vm.proofs.OutputVars.{AreGlobalsBelow, no_globals, next_global, all_globals, globals_end}
use Rattle.abstract_vm.proofs.output.globals.Goals as goal

pub loop-number-init : goal.loop-number-init
loop-number-init c = subst (AreGlobalsBelow c.args.tables.now.variables 0) (sym c.new-found.ensures) (no_globals c.args.tables.now.variables)

pub returns-in-None : goal.returns-in-None
returns-in-None c =
    globals_end c.args.tables.now.variables c.loop-number.number c.loop-number.found
    (ap (slice_get c.args.tables.now.variables) (sym c.new-var.ensures) ∙ sym c.variable_spot.ensures ∙ c.in-None.is) c.loop-number.invariant

pub loop-number-preserved : goal.loop-number-preserved
loop-number-preserved c =
    next_global c.args.tables.now.variables c.loop-number.number c.in-Some.spot (ap (slice_get c.args.tables.now.variables) (sym c.new-var.ensures) ∙ sym c.variable_spot.ensures ∙ c.in-Some.is)
    c.loop-number.found c.push_global.new.found (c.in_ok-push_global-in-Some.ensures ∙ ap (λ v. c.loop-number.found ++ global_number v c.in-Some.spot) c.new-var.ensures) c.loop-number.invariant

pub returns : goal.returns
returns c =
    let same : c.flow.result.now ≡ c.args.tables.now.graph.flow = c.flow.ensures.flow ∙ ap (λ (g : GraphTables). g.flow) c.graph.ensures.graph in
    let vars : c.args.tables.now.graph.flow.vars ≤ 2 ^ 32 - 1 = subst (λ (f : FlowTables). f.vars ≤ 2 ^ 32 - 1) same c.target-target.ensures.valid.vars in
    let count : length c.args.tables.now.variables ≡ c.args.tables.now.graph.flow.vars = c.graph.ensures.kept.variable_count in
    let few : length c.args.tables.now.variables ≤ c.loop-number.number = omega (arith, vars, count, c.loop-number-test.false) in
    all_globals c.args.tables.now.variables c.loop-number.number c.loop-number.found few c.loop-number.invariant
