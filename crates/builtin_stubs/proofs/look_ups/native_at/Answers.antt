use Rattle.std.proofs.Common.{◌≡◌, ◌∙◌, ◌++◌, ◌-◌, ◌<◌, ◌≤◌, length, ap, sym, refl, map, slice_get, Some, List, arith}
use Rattle.type_terms.specs.Exceptions.{exception_names}
use Rattle.builtin_stubs.specs.Meanings.{Native}
use Rattle.builtin_stubs.specs.Natives.{natives, first_natives, exception_native, other_natives, list_natives, dict_natives, tuple_natives, str_natives, bytes_natives, int_natives, float_natives, exception_natives}
use Rattle.builtin_stubs.proofs.GroupLemmas.{past_rows, among_rows}
use Rattle.builtin_stubs.proofs.look_ups.native_at.Goals as goal

abbrev classes : List Native
classes = map exception_native exception_names

abbrev others : List Native
others = other_natives ++ list_natives ++ dict_natives ++ tuple_natives ++ str_natives ++ bytes_natives ++ int_natives ++ float_natives ++ exception_natives

split : natives ≡ first_natives ++ (classes ++ others)
split = refl

pub returns-then-number : goal.returns-then-number
returns-then-number c =
    c.row_at.ensures ∙ sym (ap (λ rows. slice_get rows c.args.number) split ∙ among_rows first_natives (classes ++ others) c.args.number c.if-number.true)

pub returns-then-place-exception_count : goal.returns-then-place-exception_count
returns-then-place-exception_count c =
    let past : length first_natives ≤ c.args.number = c.if-number.false in
    let within : c.args.number - length first_natives < length classes = omega (arith, c.if-place-exception_count.true, c.exception_count.ensures) in
    c.exception_at.ensures
    ∙ sym (ap (λ rows. slice_get rows c.args.number) split ∙ past_rows first_natives (classes ++ others) c.args.number past ∙ among_rows classes others (c.args.number - length first_natives) within)

pub returns : goal.returns
returns c =
    let past : length first_natives ≤ c.args.number = c.if-number.false in
    let also : length classes ≤ c.args.number - length first_natives = omega (arith, c.if-place-exception_count.false, c.exception_count.ensures) in
    let same : c.args.number - length first_natives - c.exception_count-2.result ≡ c.args.number - length first_natives - length classes = omega (arith, c.exception_count-2.ensures) in
    c.row_behind.ensures ∙ ap (slice_get others) same
    ∙ sym (ap (λ rows. slice_get rows c.args.number) split ∙ past_rows first_natives (classes ++ others) c.args.number past ∙ past_rows classes others (c.args.number - length first_natives) also)
