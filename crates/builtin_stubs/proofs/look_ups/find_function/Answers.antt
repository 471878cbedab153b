use Rattle.std.proofs.Common.{◌≡◌, ◌∙◌, ◌++◌, ap, sym, map, None, arith}
use Rattle.type_terms.specs.Exceptions.{exception_names}
use Rattle.builtin_stubs.specs.Natives.{number_in, first_natives, other_natives, exception_native}
use Rattle.builtin_stubs.proofs.NumberLemmas.{number_later}
use Rattle.builtin_stubs.proofs.look_ups.find_function.Goals as goal

pub returns : goal.returns
returns c =
    let name = c.args.name.now in
    let classes = map exception_native exception_names in
    let missed : number_in 0 (first_natives ++ classes) name ≡ None = number_later name 0 first_natives classes (sym c.in_default.ensures) ∙ sym c.in_default-find_exception.ensures in
    c.find_native-2.ensures ∙ ap (λ n. number_in n other_natives name) (omega (arith, c.exception_count.ensures)) ∙ sym (number_later name 0 (first_natives ++ classes) other_natives missed)
