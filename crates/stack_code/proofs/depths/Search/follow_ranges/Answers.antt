use Rattle.std.proofs.Common.{◌≡◌, ◌++◌, Ok, Err, OnOk, map, sym, ap, subst, ◌∙◌}
use Rattle.stack_code.specs.RangeTrees.{ranges_of, covering}
use Rattle.stack_code.specs.Search.{with_depths, handlers, handler_reached}
use Rattle.stack_code.proofs.Taking.{handlers_of_covering}
use Rattle.stack_code.proofs.depths.Search.follow_ranges.Goals as goal

pub returns-clause-given : goal.returns-clause-given
returns-clause-given c =
    let same : map handler_reached c.as_slice.result.now ≡ handlers (ranges_of c.args.ranges.now) c.args.place =
    ap (λ xs. map handler_reached xs) (c.as_slice.ensures.value ∙ c.in_ok-take.ensures.taken ∙ ap (λ xs. xs ++ covering (ranges_of c.args.ranges.now) c.args.place) c.new-taken.ensures.items)
    ∙ sym (handlers_of_covering (ranges_of c.args.ranges.now) c.args.place) in
    subst (λ rs. OnOk c.give_handlers.result (with_depths rs c.args.self.now ≡ Ok c.give_handlers.new.self)) same c.give_handlers.ensures.given

pub returns-clause-differs : goal.returns-clause-differs
returns-clause-differs c = λ at e.
    let same : map handler_reached c.as_slice.result.now ≡ handlers (ranges_of c.args.ranges.now) c.args.place =
    ap (λ xs. map handler_reached xs) (c.as_slice.ensures.value ∙ c.in_ok-take.ensures.taken ∙ ap (λ xs. xs ++ covering (ranges_of c.args.ranges.now) c.args.place) c.new-taken.ensures.items)
    ∙ sym (handlers_of_covering (ranges_of c.args.ranges.now) c.args.place) in
    subst (λ rs. with_depths rs c.args.self.now ≡ Err at) same (c.give_handlers.ensures.differs at e)
