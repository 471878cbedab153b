use Rattle.std.proofs.Common.{◌∙◌, ap, sym, Some, map}
use Rattle.builtin_stubs.specs.Natives.{native}
use Rattle.builtin_stubs.proofs.GroupLemmas.{at_place}
use Rattle.builtin_stubs.proofs.look_ups.row_at.Goals as goal

pub returns : goal.returns
returns c = ap Some c.row_of.ensures ∙ sym (at_place (λ e. native e.0.now e.1 e.2 (map (λ word. word.now) e.3.now) e.4) c.args.rows.now c.args.place _ c.requires)
