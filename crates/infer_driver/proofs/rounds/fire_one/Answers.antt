use Rattle.std.proofs.Common.{◌≡◌, true, false, refl}
use Rattle.infer_driver.proofs.FiredOne.{if_ok, has_longer, has_more, has_same}
use Rattle.infer_driver.proofs.rounds.fire_one.Goals as goal

pub returns-clause-longer : goal.returns-clause-longer
returns-clause-longer g c = has_longer _ _ c.args.world.now c.fire.new.self c.items_are_counted.ensures.once c.requires.world c.fire.ensures.fired

pub returns-clause-more : goal.returns-clause-more
returns-clause-more g c = λ e. has_more _ _ c.args.world.now c.fire.new.self c.items_are_counted.ensures.once c.requires.world c.fire.ensures.fired ((if_ok _ _ true c.fire.ensures.grown e).0 refl)

pub returns-clause-same : goal.returns-clause-same
returns-clause-same g c = λ e. has_same _ _ c.args.world.now c.fire.new.self c.items_are_counted.ensures.once c.requires.world c.fire.ensures.fired (λ h. let e : false ≡ true = (if_ok _ _ false c.fire.ensures.grown e).1 h in cc)
