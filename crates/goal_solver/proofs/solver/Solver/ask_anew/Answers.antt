use Rattle.std.proofs.Common.{◌≡◌, ◌++◌, Ok, true, false, IsTrue, if◌then◌else◌, refl, ap, subst}
use Rattle.goal_solver.specs.States.{IsMet}
use Rattle.goal_solver.specs.Searches.{AreVisible, HaveNoRoot, IsWhole}
use Rattle.goal_solver.proofs.Answering.{sets_at, answered_yes, answered_no}
use Rattle.goal_solver.proofs.solver.Solver.ask_anew.Goals as goal

pub seek-requires-clause-yes : goal.seek-requires-clause-yes
seek-requires-clause-yes g c = (sets_at c.args.graph.now c.self.inside.budget c.self.inside.yes c.self.inside.no c.self.inside.light c.args.self.now c.self.view_is c.requires).yes

pub seek-requires-clause-light : goal.seek-requires-clause-light
seek-requires-clause-light g c = (sets_at c.args.graph.now c.self.inside.budget c.self.inside.yes c.self.inside.no c.self.inside.light c.args.self.now c.self.view_is c.requires).light_closed

pub seek-requires-clause-few : goal.seek-requires-clause-few
seek-requires-clause-few g c = (sets_at c.args.graph.now c.self.inside.budget c.self.inside.yes c.self.inside.no c.self.inside.light c.args.self.now c.self.view_is c.requires).light_few

pub returns-in_ok-absorb-in-Way-clause-answered : goal.returns-in_ok-absorb-in-Way-clause-answered
returns-in_ok-absorb-in-Way-clause-answered g c =
    let w : IsTrue true × IsMet c.in-Way.way c.args.query × AreVisible c.args.graph.now c.in-Way.way = c.in_ok-seek.ensures.way c.in-Way.way (ap (λ f. Ok f) c.in-Way.is) in
    answered_yes c.args.graph.now c.self.inside.budget c.self.inside.yes c.self.inside.no c.self.inside.light c.args.self.now c.self.view_is c.requires c.args.query c.in-Way.way c.absorb.new.self c.in_ok-absorb-in-Way.ensures.all w.1 w.2

pub returns-in_ok-absorb-in-Whole-clause-answered : goal.returns-in_ok-absorb-in-Whole-clause-answered
returns-in_ok-absorb-in-Whole-clause-answered g c =
    let w : IsWhole c.args.graph.now c.args.query c.self.inside.budget (if c.in-Whole.with_list then c.in-Whole.states ++ c.self.inside.light else c.in-Whole.states) = c.in_ok-seek.ensures.whole c.in-Whole.states c.in-Whole.with_list (ap (λ f. Ok f) c.in-Whole.is) in
    let n : (c.in-Whole.with_list ≡ false) × HaveNoRoot c.args.graph.now c.in-Whole.states = c.in_ok-seek.ensures.none c.in-Whole.states c.in-Whole.with_list (ap (λ f. Ok f) c.in-Whole.is) refl in
    answered_no c.args.graph.now c.self.inside.budget c.self.inside.yes c.self.inside.no c.self.inside.light c.args.self.now c.self.view_is c.requires c.args.query c.in-Whole.states c.absorb-in-Whole.new.self c.in_ok-absorb-in-Whole.ensures.all
    (subst (λ b. IsWhole c.args.graph.now c.args.query c.self.inside.budget (if b then c.in-Whole.states ++ c.self.inside.light else c.in-Whole.states)) n.0 w) n.1
