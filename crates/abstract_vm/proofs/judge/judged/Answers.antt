use Rattle.std.proofs.Common.{◌≡◌, ◌≤◌, false, Some, length, slice_get, refl, sym, ◌∙◌, arith}
use Rattle.abstract_vm.specs.declared.verdict.Verdict.{Verdict}
use Rattle.abstract_vm.specs.Asking.{IsAsked, tables_in, context_at}
use Rattle.abstract_vm.proofs.Judged.{judged, says_nothing}
use Rattle.abstract_vm.proofs.OutputVars.{none_from}
use Rattle.abstract_vm.proofs.judge.judged.Goals as goal

pub returns-in_ok-judge_spot-in-Some-clause-judged : goal.returns-in_ok-judge_spot-in-Some-clause-judged
returns-in_ok-judge_spot-in-Some-clause-judged g c = λ s known l.
    let stands : slice_get c.args.judging.now.tables.now.points c.args.judging.now.point ≡ Some c.in-Some.spot = sym c.point_spot.ensures ∙ c.in-Some.is in
    let told : IsAsked s c.args.judging.now c.args.solver.now.budget c.in-Some.spot = record { source = known.source; budget_is = known.budget_is; tables = known.tables; stands = stands } in
    let its : IsAsked s c.args.judging.now s.budget c.in-Some.spot = record { source = known.source; budget_is = refl; tables = known.tables; stands = stands } in
    let empty : Verdict = record { faults = c.new.result; unchecked = false; heavy = false } in
    judged s c.args.judging.now c.in-Some.spot its
    (c.output_queries.ensures.point s (tables_in c.args.judging.now) known.tables.numbering c.args.judging.now.point (context_at c.args.judging.now c.in-Some.spot) c.in-Some.spot.place c.in-Some.spot.depth)
    empty c.judge_spot.new.verdict (says_nothing empty c.new.ensures refl refl) (c.in_ok-judge_spot-in-Some.ensures.told s told)

pub returns-in-None-clause-judged : goal.returns-in-None-clause-judged
returns-in-None-clause-judged g c = λ s known l.
    let few : length c.args.judging.now.tables.now.points ≤ c.args.judging.now.point = none_from c.args.judging.now.tables.now.points c.args.judging.now.point (sym c.point_spot.ensures ∙ c.in-None.is) in
    absurd (omega (arith, l, few))
