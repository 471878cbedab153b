-- What is told of a least world.
use Rattle.std.proofs.Common.{refl, sym, subst}
use Rattle.type_terms.specs.StubSets.{given}
use Rattle.type_terms.specs.Stubs.{stub_view}
use Rattle.world_rules.specs.Stubs.{IsStubOf}
use Rattle.abstract_vm.specs.Worlds.{items_in, source}
use Rattle.infer_driver.proofs.Inferring.{world_first, world_then, all_inferred}
use Rattle.infer_driver.proofs.Telling.{solved_itself}
use Rattle.infer_driver.proofs.driver.result_of.Goals as goal

pub tell-requires : goal.tell-requires
tell-requires g c =
    world_then c.args.program.now (given c.args.stubs.now) c.args.settings c.args.world c.stub_of.new.world c.stub_of.new.world c.requires c.in_ok-stub.ensures.same (solved_itself c.stub_of.new.world)

pub returns : goal.returns
returns g c =
    all_inferred c.args.program.now (given c.args.stubs.now) c.args.settings c.args.world c.stub_of.new.world c.tell.new.world c.requires c.in_ok-stub.ensures.same c.in_ok-told.ensures.same c.in_ok-told.told c.in_order.result c.in_order.ensures.world
    (subst (λ stub. IsStubOf (source c.args.program.now (given c.args.stubs.now) c.args.settings.depth c.args.world) (items_in c.args.world) (stub_view stub)) (sym c.in_order.ensures.stub)
    (c.in_ok-stub.ensures.stub (given c.args.stubs.now) c.args.settings.depth (world_first c.args.program.now (given c.args.stubs.now) c.args.settings c.args.world c.stub_of.new.world c.stub_of.new.world c.requires c.in_ok-stub.ensures.same (solved_itself c.stub_of.new.world))))
    c.in_ok-told.ensures.told c.in_order.ensures.findings c.in_order.ensures.findings_rise c.in_order.ensures.unchecked c.in_order.ensures.unchecked_rise c.in_order.ensures.heavy c.in_order.ensures.heavy_rise
