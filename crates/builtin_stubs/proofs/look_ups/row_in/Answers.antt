use Rattle.std.proofs.Common.{suc, ◌<◌, ◌∙◌, sym, ap, length, get_or, drop, drop-cons, add-one, slice_get, map, Some, arith}
use Rattle.std.specs.List.{flat_map}
use Rattle.builtin_stubs.specs.Natives.{native}
use Rattle.builtin_stubs.proofs.GroupLemmas.{in_group, past_group}
use Rattle.builtin_stubs.proofs.look_ups.row_in.Goals as goal

pub returns-then-left-group : goal.returns-then-left-group
returns-then-left-group c =
    let groups = c.args.groups.now in
    let i = c.loop-group.group-index in
    let within : i < length groups = omega arith in
    let cut = drop-cons groups i _ within in
    let here = in_group (λ e. native e.0.now e.1 e.2 (map (λ word. word.now) e.3.now) e.4) (get_or groups i _).now (flat_map (λ group. map (λ e. native e.0.now e.1 e.2 (map (λ word. word.now) e.3.now) e.4) group.now) (drop (suc i) groups)) c.loop-group.left _ c.if-left-group.true in
    ap Some c.row_of.ensures ∙ sym here ∙ ap (λ gs. slice_get (flat_map (λ group. map (λ e. native e.0.now e.1 e.2 (map (λ word. word.now) e.3.now) e.4) group.now) gs) c.loop-group.left) (sym cut) ∙ c.loop-group.invariant

pub loop-group-preserved : goal.loop-group-preserved
loop-group-preserved c =
    let groups = c.args.groups.now in
    let i = c.loop-group.group-index in
    let within : i < length groups = omega arith in
    let cut = drop-cons groups i _ within in
    let past = past_group (λ e. native e.0.now e.1 e.2 (map (λ word. word.now) e.3.now) e.4) (get_or groups i _).now (flat_map (λ group. map (λ e. native e.0.now e.1 e.2 (map (λ word. word.now) e.3.now) e.4) group.now) (drop (suc i) groups)) c.loop-group.left c.if-left-group.false in
    rw add-one (sym past ∙ ap (λ gs. slice_get (flat_map (λ group. map (λ e. native e.0.now e.1 e.2 (map (λ word. word.now) e.3.now) e.4) group.now) gs) c.loop-group.left) (sym cut) ∙ c.loop-group.invariant)
