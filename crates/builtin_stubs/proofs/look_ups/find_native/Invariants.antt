use Rattle.std.proofs.Common.{◌≡◌, ◌+◌, drop, map}
use Rattle.builtin_stubs.specs.Natives.{number_in, native}
use Rattle.builtin_stubs.proofs.look_ups.find_native.Given as goal

abbrev pub invariant-loop-row : goal.invariant-loop-row
invariant-loop-row l = record {
  counts : l.number ≡ l.before + l.row-index;
  same : number_in l.number (map (λ e. native e.0.now e.1 e.2 (map (λ word. word.now) e.3.now) e.4) (drop l.row-index l.rows)) l.name ≡ number_in l.before (map (λ e. native e.0.now e.1 e.2 (map (λ word. word.now) e.3.now) e.4) l.rows) l.name;
}
