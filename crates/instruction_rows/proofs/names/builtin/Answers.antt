-- A name of Python's own that is no name for the program's base.
use Rattle.std.proofs.Common.{◌≡◌, ℕ, Bool, false, Some, None, Option, List, sym, ap, ◌∙◌, codes, slice_get}
use Rattle.std.specs.Prelude.{if◌then◌else◌}
use Rattle.std.specs.Str.{bytes_eq}
use Rattle.builtin_stubs.specs.Natives.{natives, function_number}
use Rattle.world_rules.specs.declared.transfer.Transfer.{Transfer}
use Rattle.world_rules.specs.declared.transfer.Transfer.TheVariants as transfer
use Rattle.world_rules.specs.Readings.{unknown, native_yield}
use Rattle.instruction_rows.proofs.names.builtin.Goals as goal

abbrev by_number : ℕ → List ℕ → Bool → Option ℕ → Transfer
by_number n text base number =
    elim number [
      | None ↦ unknown n text
      | Some found ↦ if base then unknown n text else transfer.Makes (native_yield found (slice_get natives found))
    ]

by_its_number : (n : ℕ) (text : List ℕ) (base : Bool) (number : Option ℕ) (found : ℕ) → base ≡ false → number ≡ Some found → by_number n text base number ≡ transfer.Makes (native_yield found (slice_get natives found))
by_its_number n text base number found e f = ap (λ b. by_number n text b number) e ∙ ap (λ k. by_number n text false k) f

pub returns-else-eq : goal.returns-else-eq
returns-else-eq c =
    ap transfer.Makes c.native_yield.ensures
    ∙ sym (by_its_number c.args.name c.args.text.now (bytes_eq c.args.text.now (codes "base_init")) (function_number c.args.text.now) c.in-Some.number (sym c.eq.ensures ∙ c.if-eq.false) (sym c.fun.ensures ∙ c.in-Some.is))
