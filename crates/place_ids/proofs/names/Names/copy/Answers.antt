use Rattle.std.proofs.Common.{◌∙◌, length, sym, ap}
use Rattle.std.proofs.lemmas.List.{length-map}
use Rattle.std.specs.String.{string_bytes}
use Rattle.place_ids.proofs.NamesLemmas.{map-IsClone}
use Rattle.place_ids.proofs.names.Names.copy.Goals as goal

pub invariant_of-result : goal.invariant_of-result
invariant_of-result c =
    let same = map-IsClone string_bytes c.self.inside.texts.keys c.in_ok-texts.texts.keys c.in_ok-texts.ensures.cases in
    (rw same c.self.invariant.0, rw (sym (length-map c.in_ok-texts.texts.keys string_bytes) ∙ ap length same ∙ length-map c.self.inside.texts.keys string_bytes) c.self.invariant.1)

pub returns : goal.returns
returns c = map-IsClone string_bytes c.self.inside.texts.keys c.in_ok-texts.texts.keys c.in_ok-texts.ensures.cases ∙ c.self.view_is
