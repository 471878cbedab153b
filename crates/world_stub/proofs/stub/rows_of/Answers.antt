-- A row more for each name.
use Rattle.std.proofs.Common.{List, ℕ, [], map, refl, sym, ap, subst, ◌∙◌}
use Rattle.std.proofs.lemmas.List.{take_all}
use Rattle.type_terms.specs.Stubs.{name_view}
use Rattle.world_stub.specs.Results.{AreRowsOf}
use Rattle.world_stub.proofs.Seeing.{solved_further}
use Rattle.world_stub.proofs.StubRows.{first_rows, next_row, row_as}
use Rattle.world_stub.proofs.stub.rows_of.Goals as goal

pub loop-name-init : goal.loop-name-init
loop-name-init g c = (first_rows c.args.program.now c.args.world.now c.args.ends.now [] c.new-rows.result refl c.new-rows.ensures, record { rows = refl; budget = refl; library = refl })

pub loop-name-preserved : goal.loop-name-preserved
loop-name-preserved g c = (
  next_row c.args.program.now c.args.world.now c.args.ends.now c.printed-name-items.result.now c.loop-name.name-index c.name-item.result c.name-item.result c.loop-name.rows c.push.new.self c.in_ok-row.row
      c.loop-name-test.true (sym c.name-item.is) c.in_ok-push.ensures.pushed c.loop-name.invariant.0
      (row_as c.args.world.now c.loop-name.world c.loop-name.invariant.1 c.args.ends.now c.name-item.result c.args.program.now (name_view c.in_ok-row.row) c.in_ok-row.ensures.row),
  solved_further c.args.world.now c.loop-name.world c.row_of.new.world c.loop-name.invariant.1 c.in_ok-row.ensures.same,
)

pub returns-clause-rows : goal.returns-clause-rows
returns-clause-rows g c =
    subst (λ (ns : List ℕ). AreRowsOf c.args.program.now c.args.world.now c.args.ends.now ns (map name_view c.loop-name.rows))
    (take_all c.loop-name.name-index c.printed-name-items.result.now c.loop-name-test.false ∙ (c.printed-name-items.ensures ∙ ap (λ s. s.printed) c.scopes.ensures)) c.loop-name.invariant.0
