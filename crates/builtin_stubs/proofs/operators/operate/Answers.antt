use Rattle.std.proofs.Common.{◌∙◌, ap, sym, option_map}
use Rattle.builtin_stubs.specs.Operands.{first_of_two}
use Rattle.builtin_stubs.proofs.FirstLemmas.{first_two_map}
use Rattle.builtin_stubs.proofs.operators.operate.Goals as goal

pub returns : goal.returns
returns c =
    c.answer_of.ensures ∙ ap (option_map (λ ks. ks.now)) c.first_of_two.ensures ∙ sym (first_two_map (λ ks. ks.now) c.rows_of.result.now c.args.left c.args.right)
    ∙ ap (λ rows. first_of_two rows c.args.left c.args.right) c.rows_of.ensures
