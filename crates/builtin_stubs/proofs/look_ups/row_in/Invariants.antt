use Rattle.std.proofs.Common.{◌≡◌, drop, map, slice_get}
use Rattle.std.specs.List.{flat_map}
use Rattle.builtin_stubs.specs.Natives.{native}
use Rattle.builtin_stubs.proofs.look_ups.row_in.Given as goal

abbrev pub invariant-loop-group : goal.invariant-loop-group
invariant-loop-group l =
    slice_get (flat_map (λ group. map (λ e. native e.0.now e.1 e.2 (map (λ word. word.now) e.3.now) e.4) group.now) (drop l.group-index l.groups)) l.left ≡ slice_get (flat_map (λ group. map (λ e. native e.0.now e.1 e.2 (map (λ word. word.now) e.3.now) e.4) group.now) l.groups) l.place
