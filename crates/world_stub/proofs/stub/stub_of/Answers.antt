-- The rows are those of the stub.
use Rattle.std.proofs.Common.{◌↔◌, List, ℕ, map, refl, sym, ap, subst}
use Rattle.std.specs.List.{Contains}
use Rattle.type_terms.specs.Stubs.{fun_view, class_view, stub_view}
use Rattle.world_tables.specs.Rows.{tables_of}
use Rattle.abstract_vm.specs.Worlds.{source}
use Rattle.world_stub.specs.Ends.{IsEnd}
use Rattle.world_stub.proofs.Classless.{derived_no_class}
use Rattle.world_stub.proofs.Printing.{stub_is}
use Rattle.world_stub.proofs.stub.stub_of.Goals as goal

pub returns-clause-stub : goal.returns-clause-stub
returns-clause-stub g c = λ stubs depth is.
    stub_is c.args.program.now stubs depth c.args.world.now is c.as_slice.result.now
    (subst (λ (es : List ℕ). (id : ℕ) → Contains es id ↔ IsEnd c.args.program.now c.args.world.now.rows id) (sym c.as_slice.ensures) c.in_ok-ends.ensures)
    (λ n shape. c.ends_by_numbers.ensures.ends (source c.args.program.now stubs depth c.args.world.now) (tables_of c.args.world.now.rows) is.tables.numbering is.finished n shape)
    (λ var id x t e f. c.given_by_numbers.ensures.given (source c.args.program.now stubs depth c.args.world.now) (tables_of c.args.world.now.rows) is.tables.numbering var id x t e f)
    (derived_no_class (source c.args.program.now stubs depth c.args.world.now) (c.what_fires_is_a_query.ensures (source c.args.program.now stubs depth c.args.world.now)))
    (stub_view _) c.in_ok-names.ensures.rows refl (ap (map fun_view) c.new.ensures) (ap (map class_view) c.new-2.ensures)
