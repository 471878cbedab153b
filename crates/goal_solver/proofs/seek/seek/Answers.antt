use Rattle.std.proofs.Common.{◌≡◌, ◌∙◌, ◌+◌, ◌<◌, ◌⊎◌, ◌∷◌, [], ◌++◌, Ok, take, ◌-◌, cond, not, length, arith, refl, sym, ap, subst, IsTrue, length-append}
use Rattle.std.specs.List.{Contains}
use Rattle.std.proofs.lemmas.List.Elements.{Contains-push}
use Rattle.goal_solver.specs.declared.seek.Found.TheVariants as Found
use Rattle.goal_solver.specs.States.{IsMet}
use Rattle.goal_solver.specs.Backs.{IsBackOf}
use Rattle.goal_solver.specs.Searches.{IsExtended, IsFull, IsOfWay, IsWayBack, IsRootState, AreVisible, HaveNoRoot, IsWhole}
use Rattle.goal_solver.proofs.Searching.{IsSearched, search_begins, search_goes_on, search_has_room, search_many, search_full, search_way, search_whole, search_none, ways_earlier, room_counts, room_limit, aim_visible}
use Rattle.goal_solver.proofs.seek.seek.Goals as goal

pub loop-search-init : goal.loop-search-init
loop-search-init g c =
    let n : length c.make_room.new.search.waiting.items + length c.in_ok-search.search.states ≡ length c.in_ok-search.search.waiting.items + length c.make_room.new.search.states = room_counts c.args.graph.now c.args.query c.args.light.now c.args.roots _ c.in_ok-search.search c.make_room.new.search c.in_ok-make_room.ensures in
    record {
      searched = search_has_room c.args.graph.now c.args.query c.args.light.now c.args.roots _ c.in_ok-search.search c.make_room.new.search c.in_ok-make_room.ensures (search_begins c.args.graph.now c.args.query c.args.light.now c.args.roots _ _ c.in_ok-search.search c.in_ok-search.ensures (λ r. ap not r));
      count = omega (arith, n, ap length c.in_ok-search.ensures.waiting, ap length c.in_ok-search.ensures.states);
      cost = omega arith;
      room = c.in_ok-make_room.ensures.fits;
      limit = room_limit c.args.graph.now c.args.query c.args.light.now c.args.roots _ c.in_ok-search.search c.make_room.new.search c.in_ok-make_room.ensures ∙ c.in_ok-search.ensures.limit_is;
    }

pub get-requires : goal.get-requires
get-requires g c = let within : c.in-Some.place < length c.loop-search.search.states = c.loop-search.invariant.searched.places c.in-Some.place (subst (λ ys. Contains ys c.in-Some.place) (sym c.in-Some.ensures.items) (Contains-push c.pop.new.self.items c.in-Some.place)) in within

pub way-requires-clause-within : goal.way-requires-clause-within
way-requires-clause-within g c = let within : c.in-Some.place < length c.loop-search.search.states = c.loop-search.invariant.searched.places c.in-Some.place (subst (λ ys. Contains ys c.in-Some.place) (sym c.in-Some.ensures.items) (Contains-push c.pop.new.self.items c.in-Some.place)) in within

pub expand-requires-clause-within : goal.expand-requires-clause-within
expand-requires-clause-within g c = let within : c.in-Some.place < length c.loop-search.search.states = c.loop-search.invariant.searched.places c.in-Some.place (subst (λ ys. Contains ys c.in-Some.place) (sym c.in-Some.ensures.items) (Contains-push c.pop.new.self.items c.in-Some.place)) in within

pub way-requires-clause-earlier : goal.way-requires-clause-earlier
way-requires-clause-earlier g c = λ child parent e l. ways_earlier c.args.graph.now c.args.query c.args.light.now c.args.roots c.loop-search.search c.loop-search.invariant.searched (c.if-is_aim.ensures.yes refl).0 child parent e l

pub returns-then-is_aim-clause-way : goal.returns-then-is_aim-clause-way
returns-then-is_aim-clause-way g c = λ way e.
    let same : c.in_ok-way.field-0 ≡ way = cc in
    let aim : IsTrue c.args.roots × (IsRootState c.args.graph.now c.get.result.now ⊎ IsMet c.args.yes.now c.get.result.now) = c.if-is_aim.ensures.yes refl in
    let b : IsWayBack c.loop-search.search c.in-Some.place way = subst (λ w. IsWayBack c.loop-search.search c.in-Some.place w) same (record { each = λ x d. let o : IsOfWay (record c.loop-search.search { waiting = c.pop.new.self }) c.in-Some.place x = c.in_ok-way.ensures.each x d in record { at = o.at; on = o.on; state = o.state; stands = o.stands; same = o.same }; query = c.in_ok-way.ensures.query }) in
    let p : IsMet way c.args.query × AreVisible c.args.graph.now way = search_way c.args.graph.now c.args.query c.args.light.now c.args.roots c.loop-search.search c.loop-search.invariant.searched aim.0 c.in-Some.place c.get.result.now c.get.ensures (aim_visible c.args.graph.now c.args.yes.now c.get.result.now c.requires.yes aim.1) way b in
    (aim.0, p.0, p.1)

pub returns-then-not-branch-clause-many : goal.returns-then-not-branch-clause-many
returns-then-not-branch-clause-many g c = λ r.
    let ext : IsExtended c.args.light.now (IsBackOf c.args.graph.now c.get.result.now) (record c.loop-search.search { waiting = c.pop.new.self; parent = c.in-Some.place }) c.expand.new.search = c.in_ok-expand.ensures.extended c.get.result.now c.get.ensures in
    let full : IsFull c.expand.new.search = c.in_ok-expand.ensures.full (ap (λ b. Ok b) c.if-not-branch.true) in
    search_full c.args.graph.now c.args.query c.args.light.now c.args.roots c.loop-search.search (record c.loop-search.search { waiting = c.pop.new.self }) c.expand.new.search c.in-Some.place c.args.budget c.get.result.now c.get.ensures ext c.loop-search.invariant.searched full.apart (omega (arith, full.many, ext.limit, c.loop-search.invariant.limit))

pub returns-clause-many : goal.returns-clause-many
returns-clause-many g c = λ r. search_many c.args.graph.now c.args.query c.args.light.now c.args.roots c.loop-search.search c.args.budget c.loop-search.invariant.searched.reached c.len-in-loop-search.ensures.apart (omega (arith, c.len-in-loop-search.ensures.len))

pub returns-in_default-clause-whole : goal.returns-in_default-clause-whole
returns-in_default-clause-whole g c = λ states with_list e.
    let same : Found.Whole c.loop-search.search.states c.loop-search.search.uses_list ≡ Found.Whole states with_list = cc in
    let s : c.loop-search.search.states ≡ states = cc in
    let w : c.loop-search.search.uses_list ≡ with_list = cc in
    let none : c.loop-search.search.waiting.items ≡ [] = c.in_default.ensures.items ∙ ap (λ ys. ys ++ []) (c.in_default.ensures.rest ∙ ap (λ n. take (n - 1) c.loop-search.search.waiting.items) c.in_default.ensures.cases.0) in
    subst (λ b. IsWhole c.args.graph.now c.args.query c.args.budget (cond b (states ++ c.args.light.now) states)) w
    (subst (λ ys. IsWhole c.args.graph.now c.args.query c.args.budget (cond c.loop-search.search.uses_list (ys ++ c.args.light.now) ys)) s
    (search_whole c.args.graph.now c.args.query c.args.light.now c.args.roots c.loop-search.search c.loop-search.invariant.searched none c.args.budget c.requires.light (omega (arith, c.len-in-loop-search.ensures.len)) (λ u. omega (arith, c.loop-search.invariant.room u, c.len.ensures.len, c.requires.few))))

pub returns-in_default-clause-none : goal.returns-in_default-clause-none
returns-in_default-clause-none g c = λ states with_list e r.
    let same : Found.Whole c.loop-search.search.states c.loop-search.search.uses_list ≡ Found.Whole states with_list = cc in
    let s : c.loop-search.search.states ≡ states = cc in
    let w : c.loop-search.search.uses_list ≡ with_list = cc in
    let none : c.loop-search.search.waiting.items ≡ [] = c.in_default.ensures.items ∙ ap (λ ys. ys ++ []) (c.in_default.ensures.rest ∙ ap (λ n. take (n - 1) c.loop-search.search.waiting.items) c.in_default.ensures.cases.0) in
    (sym w ∙ c.loop-search.invariant.searched.listed r, subst (λ ys. HaveNoRoot c.args.graph.now ys) s (search_none c.args.graph.now c.args.query c.args.light.now c.args.roots c.loop-search.search c.loop-search.invariant.searched none r))

pub loop-search-preserved : goal.loop-search-preserved
loop-search-preserved g c =
    let ext : IsExtended c.args.light.now (IsBackOf c.args.graph.now c.get.result.now) (record c.loop-search.search { waiting = c.pop.new.self; parent = c.in-Some.place }) c.expand.new.search = c.in_ok-expand.ensures.extended c.get.result.now c.get.ensures in
    let on : IsSearched c.args.graph.now c.args.query c.args.light.now c.args.roots c.expand.new.search =
    search_goes_on c.args.graph.now c.args.query c.args.light.now c.args.roots c.loop-search.search (record c.loop-search.search { waiting = c.pop.new.self }) c.expand.new.search c.in-Some.place c.get.result.now c.in-Some.ensures.items c.get.ensures
    (λ r n. c.if-is_aim.ensures.no refl r n) ext
    (c.in_ok-expand.ensures.met (ap (λ b. Ok b) c.if-not-branch.false) c.get.result.now c.get.ensures) c.loop-search.invariant.searched in
    let n : length c.make_room-in-loop-search.new.search.waiting.items + length c.expand.new.search.states ≡ length c.expand.new.search.waiting.items + length c.make_room-in-loop-search.new.search.states = room_counts c.args.graph.now c.args.query c.args.light.now c.args.roots _ c.expand.new.search c.make_room-in-loop-search.new.search c.in_ok-make_room-2.ensures in
    let popped : length c.loop-search.search.waiting.items ≡ length c.pop.new.self.items + 1 = ap length c.in-Some.ensures.items ∙ length-append c.pop.new.self.items (c.in-Some.place ∷ []) in
    record {
      searched = search_has_room c.args.graph.now c.args.query c.args.light.now c.args.roots _ c.expand.new.search c.make_room-in-loop-search.new.search c.in_ok-make_room-2.ensures on;
      count = omega (arith, n, ext.count, popped, c.in_ok-expand.ensures.step, c.loop-search.invariant.count);
      cost = omega (arith, popped, c.in_ok-expand.ensures.step, c.loop-search.invariant.count);
      room = c.in_ok-make_room-2.ensures.fits;
      limit = room_limit c.args.graph.now c.args.query c.args.light.now c.args.roots _ c.expand.new.search c.make_room-in-loop-search.new.search c.in_ok-make_room-2.ensures ∙ ext.limit ∙ c.loop-search.invariant.limit;
    }
