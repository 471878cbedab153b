use Rattle.std.proofs.Common.{◌∙◌, ap, sym, option_map}
use Rattle.builtin_stubs.specs.Operands.{first_of}
use Rattle.builtin_stubs.proofs.FirstLemmas.{first_map}
use Rattle.builtin_stubs.proofs.operators.operate_on_one.Goals as goal

pub returns : goal.returns
returns c =
    c.answer_of.ensures ∙ ap (option_map (λ ks. ks.now)) c.first_of.ensures ∙ sym (first_map (λ ks. ks.now) c.signs_of.result.now c.args.kind)
    ∙ ap (λ rows. first_of rows c.args.kind) c.signs_of.ensures
