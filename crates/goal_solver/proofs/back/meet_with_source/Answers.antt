use Rattle.std.proofs.Common.{◌≡◌, ◌∙◌, Ok, length, take, arith, sym, ap, subst}
use Rattle.std.proofs.Math.Seq.{take-length}
use Rattle.graph_walks.proofs.Lists.{empty}
use Rattle.goal_solver.specs.Backs.{FromSome, IsBefore}
use Rattle.goal_solver.specs.Searches.{IsExtended, AreKnown}
use Rattle.goal_solver.proofs.Meetings.{extended_same, extended_as, extended_on, known_on, some_more}
use Rattle.goal_solver.proofs.back.meet_with_source.Goals as goal

pub loop-pair-init : goal.loop-pair-init
loop-pair-init c = record { extended = extended_same _ _ _; met = λ y f. empty f.item f.is; even = c.requires }

pub loop-pair-preserved : goal.loop-pair-preserved
loop-pair-preserved c =
    let ext : IsExtended c.args.light.now (FromSome c.args.pairs.now (IsBefore c.args.from c.args.target.now c.args.goals.now c.args.source.now)) c.loop-pair.search c.meet_one.new.search =
    extended_as c.args.light.now (IsBefore c.args.from c.args.target.now c.args.goals.now c.args.source.now c.pair-item.result) (FromSome c.args.pairs.now (IsBefore c.args.from c.args.target.now c.args.goals.now c.args.source.now)) c.loop-pair.search c.meet_one.new.search
    (λ y b. record { item = c.pair-item.result; is = (c.loop-pair.pair-index, omega arith, sym c.pair-item.is); at = b })
    c.in_ok-meet_one.ensures.extended in
    record {
      extended = extended_on _ _ _ _ _ c.loop-pair.invariant.extended ext;
      met = some_more c.args.light.now (IsBefore c.args.from c.args.target.now c.args.goals.now c.args.source.now) c.args.pairs.now c.loop-pair.pair-index c.pair-item.result c.loop-pair.search c.meet_one.new.search (omega arith) (sym c.pair-item.is) c.loop-pair.invariant.met
          (λ z k. known_on _ _ _ _ ext z k) (c.in_ok-meet_one.ensures.met (ap (λ b. Ok b) c.if-not-branch.false));
      even = ext.even c.loop-pair.invariant.even;
    }

pub returns-then-not-branch-clause-extended : goal.returns-then-not-branch-clause-extended
returns-then-not-branch-clause-extended c =
    extended_on _ _ _ _ _ c.loop-pair.invariant.extended
    (extended_as c.args.light.now (IsBefore c.args.from c.args.target.now c.args.goals.now c.args.source.now c.pair-item.result) (FromSome c.args.pairs.now (IsBefore c.args.from c.args.target.now c.args.goals.now c.args.source.now)) c.loop-pair.search c.meet_one.new.search
    (λ y b. record { item = c.pair-item.result; is = (c.loop-pair.pair-index, omega arith, sym c.pair-item.is); at = b })
    c.in_ok-meet_one.ensures.extended)

pub returns-clause-met : goal.returns-clause-met
returns-clause-met c = λ r.
    let last : c.loop-pair.pair-index ≡ length c.args.pairs.now = omega arith in
    subst (λ xs. AreKnown (FromSome xs (IsBefore c.args.from c.args.target.now c.args.goals.now c.args.source.now)) c.loop-pair.search) (ap (λ n. take n c.args.pairs.now) last ∙ take-length c.args.pairs.now) c.loop-pair.invariant.met
