use Rattle.indexmap.specs.IndexMap.{get}
use Rattle.abstract_shapes.specs.Kept.{same_key}
use Rattle.abstract_shapes.proofs.KeptLemmas.{kept_more}
use Rattle.abstract_shapes.proofs.kept.KeptTypes.keep.Goals as goal

pub returns-in-Ok : goal.returns-in-Ok
returns-in-Ok c = λ scene kept is.
    kept_more scene c.args.place c.args.depth c.args.made (get same_key c.args.self.now.types) (get same_key c.insert.new.self) c.in-Ok.ensures.updates.0 kept is
