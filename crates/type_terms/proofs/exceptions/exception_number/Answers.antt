use Rattle.std.proofs.Common.{◌∙◌, arith}
use Rattle.std.specs.Str.{bytes_eq}
use Rattle.type_terms.specs.Exceptions.{exception_names}
use Rattle.type_terms.proofs.ChainLemmas.{place_found, placed_within, placed_past}
use Rattle.type_terms.proofs.exceptions.exception_number.Goals as goal

pub returns-then-place-lt34 : goal.returns-then-place-lt34
returns-then-place-lt34 c =
    placed_within (bytes_eq c.args.name.now) exception_names c.place_among-place.result (c.place_among-place.ensures ∙ place_found c.args.name.now) c.if-place-lt34.true

pub returns-else-place-lt34 : goal.returns-else-place-lt34
returns-else-place-lt34 c =
    placed_past (bytes_eq c.args.name.now) exception_names c.place_among-place.result (c.place_among-place.ensures ∙ place_found c.args.name.now) (omega arith)
