use Rattle.std.proofs.Common.{◌≡◌, ◌<◌, ◌∙◌, Ok, Some, length, take, get_or, slice_get, arith, rules, refl, sym, ap, subst}
use Rattle.std.proofs.Math.Seq.{take-length}
use Rattle.std.proofs.lemmas.Option.{slice_get_read}
use Rattle.std.proofs.lemmas.List.Elements.{Contains-get_or}
use Rattle.graph_walks.proofs.Lists.{empty}
use Rattle.goal_solver.specs.Backs.{FromSome, BySource, IsByPlace}
use Rattle.goal_solver.specs.Searches.{IsExtended, AreKnown}
use Rattle.goal_solver.proofs.Meetings.{extended_same, extended_as, extended_on, known_on, some_more, any_default, one_at}
use Rattle.goal_solver.proofs.back.meet_with_facts.Goals as goal

pub loop-place-init : goal.loop-place-init
loop-place-init c = record { extended = extended_same _ _ _; met = λ y f. empty f.item f.is; even = c.requires.even }

pub bounds-facts-place : goal.bounds-facts-place
bounds-facts-place c = c.requires.places _ (Contains-get_or c.args.places.now c.loop-place.place-index 0 (omega arith))

pub offset_bounds-facts-place : goal.offset_bounds-facts-place
offset_bounds-facts-place c = let h : (get_or c.args.places.now c.loop-place.place-index 0) < length c.args.facts.now = c.requires.places _ (Contains-get_or c.args.places.now c.loop-place.place-index 0 (omega arith)) in search rules

pub loop-place-preserved : goal.loop-place-preserved
loop-place-preserved c =
    let at : slice_get c.args.facts.now (get_or c.args.places.now c.loop-place.place-index 0) ≡ Some c.index-facts-place.result = slice_get_read c.args.facts.now (length c.args.facts.now) (get_or c.args.places.now c.loop-place.place-index 0) c.index-facts-place.result refl (c.requires.places (get_or c.args.places.now c.loop-place.place-index 0) (Contains-get_or c.args.places.now c.loop-place.place-index 0 (omega arith))) c.index-facts-place.is in
    let ext : IsExtended c.args.light.now (FromSome c.args.places.now (IsByPlace c.args.from c.args.target.now c.args.goals.now c.args.pairs.now c.args.facts.now)) c.loop-place.search c.meet_with_source.new.search =
    extended_as c.args.light.now (BySource c.args.from c.args.target.now c.args.goals.now c.args.pairs.now c.items-source.result.now) (FromSome c.args.places.now (IsByPlace c.args.from c.args.target.now c.args.goals.now c.args.pairs.now c.args.facts.now)) c.loop-place.search c.meet_with_source.new.search
    (λ y b. record { item = (get_or c.args.places.now c.loop-place.place-index 0); is = Contains-get_or c.args.places.now c.loop-place.place-index 0 (omega arith); at = record { fact = c.index-facts-place.result; at = at; by = subst (λ s. BySource c.args.from c.args.target.now c.args.goals.now c.args.pairs.now s y) (c.items-source.ensures.items ∙ ap (λ f. f.source) (sym c.index-facts-place.is)) b } })
    c.in_ok-meet_with_source.ensures.extended in
    record {
      extended = extended_on _ _ _ _ _ c.loop-place.invariant.extended ext;
      met = some_more c.args.light.now (IsByPlace c.args.from c.args.target.now c.args.goals.now c.args.pairs.now c.args.facts.now) c.args.places.now c.loop-place.place-index (get_or c.args.places.now c.loop-place.place-index 0) c.loop-place.search c.meet_with_source.new.search (omega arith) (any_default c.args.places.now c.loop-place.place-index (get_or c.args.places.now c.loop-place.place-index 0) 0 (omega arith)) c.loop-place.invariant.met
          (λ z k. known_on _ _ _ _ ext z k)
          (λ y b. c.in_ok-meet_with_source.ensures.met (ap (λ t. Ok t) c.if-not-branch.false) y
          (subst (λ s. BySource c.args.from c.args.target.now c.args.goals.now c.args.pairs.now s y) (sym (c.items-source.ensures.items ∙ ap (λ f. f.source) (sym c.index-facts-place.is)))
          (subst (λ f. BySource c.args.from c.args.target.now c.args.goals.now c.args.pairs.now f.source y) (one_at c.args.facts.now (get_or c.args.places.now c.loop-place.place-index 0) b.fact c.index-facts-place.result b.at at) b.by)));
      even = ext.even c.loop-place.invariant.even;
    }

pub returns-then-not-branch-clause-extended : goal.returns-then-not-branch-clause-extended
returns-then-not-branch-clause-extended c =
    let at : slice_get c.args.facts.now (get_or c.args.places.now c.loop-place.place-index 0) ≡ Some c.index-facts-place.result = slice_get_read c.args.facts.now (length c.args.facts.now) (get_or c.args.places.now c.loop-place.place-index 0) c.index-facts-place.result refl (c.requires.places (get_or c.args.places.now c.loop-place.place-index 0) (Contains-get_or c.args.places.now c.loop-place.place-index 0 (omega arith))) c.index-facts-place.is in
    let ext : IsExtended c.args.light.now (FromSome c.args.places.now (IsByPlace c.args.from c.args.target.now c.args.goals.now c.args.pairs.now c.args.facts.now)) c.loop-place.search c.meet_with_source.new.search =
    extended_as c.args.light.now (BySource c.args.from c.args.target.now c.args.goals.now c.args.pairs.now c.items-source.result.now) (FromSome c.args.places.now (IsByPlace c.args.from c.args.target.now c.args.goals.now c.args.pairs.now c.args.facts.now)) c.loop-place.search c.meet_with_source.new.search
    (λ y b. record { item = (get_or c.args.places.now c.loop-place.place-index 0); is = Contains-get_or c.args.places.now c.loop-place.place-index 0 (omega arith); at = record { fact = c.index-facts-place.result; at = at; by = subst (λ s. BySource c.args.from c.args.target.now c.args.goals.now c.args.pairs.now s y) (c.items-source.ensures.items ∙ ap (λ f. f.source) (sym c.index-facts-place.is)) b } })
    c.in_ok-meet_with_source.ensures.extended in
    extended_on _ _ _ _ _ c.loop-place.invariant.extended ext

pub returns-clause-met : goal.returns-clause-met
returns-clause-met c = λ r.
    let last : c.loop-place.place-index ≡ length c.args.places.now = omega arith in
    subst (λ xs. AreKnown (FromSome xs (IsByPlace c.args.from c.args.target.now c.args.goals.now c.args.pairs.now c.args.facts.now)) c.loop-place.search) (ap (λ n. take n c.args.places.now) last ∙ take-length c.args.places.now) c.loop-place.invariant.met
