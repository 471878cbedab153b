use Rattle.std.proofs.Common.{None, Some, ap, ◌∙◌}
use Rattle.std.specs.String.{string_bytes}
use Rattle.place_ids.proofs.NamesLemmas.{found_place, found_at}
use Rattle.place_ids.proofs.names.Names.find.Goals as goal

pub returns-in_err-place-clause-every : goal.returns-in_err-place-clause-every
returns-in_err-place-clause-every c = λ id at.
    let none = found_at string_bytes c.self.inside.texts.keys c.args.self.now c.self.view_is c.args.text.now c.self.invariant.0 None c.in_err-place.ensures.index id at in
    cc

pub returns-clause-found : goal.returns-clause-found
returns-clause-found c =
    rw c.new.ensures (found_place string_bytes c.self.inside.texts.keys c.args.self.now c.self.view_is c.args.text.now c.in_ok-place.place c.in_ok-place.ensures.index)

pub returns-clause-every : goal.returns-clause-every
returns-clause-every c = λ id at.
    ap Some c.new.ensures ∙ found_at string_bytes c.self.inside.texts.keys c.args.self.now c.self.view_is c.args.text.now c.self.invariant.0 (Some c.in_ok-place.place) c.in_ok-place.ensures.index id at
