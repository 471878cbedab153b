use Rattle.std.proofs.Common.{◌∙◌, ap, sym, Some, arith}
use Rattle.builtin_stubs.specs.Natives.{exception_native}
use Rattle.builtin_stubs.proofs.ClassLemmas.{as_many, native_under}
use Rattle.builtin_stubs.proofs.exceptions.exception_at.Goals as goal

pub bounds-chains-place : goal.bounds-chains-place
bounds-chains-place c = omega (arith, c.requires, as_many c.exception_chains-chains.result.now c.exception_chains-chains.ensures)

pub returns : goal.returns
returns c =
    ap Some (c.row_of_class.ensures ∙ ap exception_native c.class_of.ensures)
    ∙ sym (native_under c.exception_chains-chains.result.now c.exception_chains-chains.ensures c.args.place _ c.requires)
