use Rattle.std.proofs.Common.{◌≡◌, false, true, is_ok, ◌-◌, ◌^◌, ◌<◌, ◌≤◌, ◌∙◌, Some, Err, length, map, take, slice_get, refl, sym, ap, subst, arith}
use Rattle.std.specs.Result.{IsOk, OnErr}
use Rattle.place_ids.specs.declared.graph_ids.ShapeId.{ShapeId}
use Rattle.abstract_shapes.specs.Numbering.{structure, structures, HasId, IsThere}
use Rattle.abstract_shapes.specs.Shapes.{truth_of}
use Rattle.world_tables.specs.Tables.{items_of, AreTables}
use Rattle.world_tables.specs.Rows.{tables_of, IsWithShapes}
use Rattle.world_tables.specs.contracts.tables.Tables as tables
use Rattle.world_tables.proofs.FullShapes.{IsFull, not_full, no_memory, all_there, new_where_full, refused_for_memory}
use Rattle.world_tables.proofs.ShapeGrowth.{interned, nothing_interned, few_before, truths_before, kept_after, with_shapes, shapes_keep, same_structure_now, found_at, found_below, numbered_now}
use Rattle.world_tables.proofs.tables.Tables.add_shape.Goals as goal
use Rattle.world_tables.proofs.tables.Tables.add_shape.Goals.{in-Ok-done, in-Err}

-- ---- memory was wanting

pub returns-in-Err-Memory-clause-known : goal.returns-in-Err-Memory-clause-known
returns-in-Err-Memory-clause-known c = λ h.
    let rows = tables.the_view c.self.inside in
    let k : HasId (structures rows.shapes) (structure (structures rows.shapes) c.args.shape) = subst (λ w. HasId (structures w.shapes) (structure (structures w.shapes) c.args.shape)) (sym c.self.view_is) h in
    let o : false ≡ true = subst IsOk c.in-Err-Memory.is (c.intern-interned.ensures.known (k.0, found_at (tables.the_view c.self.inside) c.self.invariant.0 c.self.inside.shapes c.intern-interned.new.self refl (nothing_interned c.self.inside.shapes c.intern-interned.new.self (subst (λ r. OnErr r (c.intern-interned.new.self ≡ c.self.inside.shapes)) c.in-Err-Memory.is c.intern-interned.ensures.refused)) c.args.shape (subst (λ w. IsThere (length w.shapes) c.args.shape) (sym c.self.view_is) c.requires.receiver) k)).0 in
    absurd (cc)

pub returns-in-Err-Memory-clause-keeps : goal.returns-in-Err-Memory-clause-keeps
returns-in-Err-Memory-clause-keeps c = λ s a.
    let e = ap (λ x. tables.the_view (record c.self.inside { shapes = x })) (subst (λ r. OnErr r (c.intern-interned.new.self ≡ c.self.inside.shapes)) c.in-Err-Memory.is c.intern-interned.ensures.refused) ∙ c.self.view_is in
    (subst (λ w. AreTables s (tables_of w)) (sym e) a, ap (λ w. items_of (tables_of w)) e)

pub returns-in-Err-Memory-clause-full : goal.returns-in-Err-Memory-clause-full
returns-in-Err-Memory-clause-full c =
    let most : length c.intern-interned.new.self ≤ 2 ^ 32 - 1 = omega arith in
    subst (λ w. IsFull {T = ShapeId} (Err _) (length c.self.inside.graph.truths) c.intern-interned.new.self (structure (structures w.shapes) c.args.shape)) c.self.view_is
    (no_memory (length c.self.inside.graph.truths) c.intern-interned.new.self (few_before (tables.the_view c.self.inside) c.self.invariant.0 c.self.inside.shapes c.intern-interned.new.self refl (nothing_interned c.self.inside.shapes c.intern-interned.new.self (subst (λ r. OnErr r (c.intern-interned.new.self ≡ c.self.inside.shapes)) c.in-Err-Memory.is c.intern-interned.ensures.refused))) (structure (structures (tables.the_view c.self.inside).shapes) c.args.shape) most
    (λ new many _. refused_for_memory c.self.inside.shapes c.intern-interned.new.self (structure (structures (tables.the_view c.self.inside).shapes) c.args.shape) (structure (structures c.self.inside.shapes) c.args.shape) c.intern-interned.result (subst (λ r. OnErr r (c.intern-interned.new.self ≡ c.self.inside.shapes)) c.in-Err-Memory.is c.intern-interned.ensures.refused)
    (same_structure_now (tables.the_view c.self.inside) c.self.invariant.0 c.self.inside.shapes c.intern-interned.new.self refl (nothing_interned c.self.inside.shapes c.intern-interned.new.self (subst (λ r. OnErr r (c.intern-interned.new.self ≡ c.self.inside.shapes)) c.in-Err-Memory.is c.intern-interned.ensures.refused)) c.args.shape (subst (λ w. IsThere (length w.shapes) c.args.shape) (sym c.self.view_is) c.requires.receiver)) c.intern-interned.ensures.full (c.in-Err-Memory.is ∙ ap Err (rw c.in-Err-Memory.is at c.in-Err-Memory.field-0-is)) new many))

-- ---- all that there can be were there

pub name_all-fault-requires-clause-truths : goal.name_all-fault-requires-clause-truths
name_all-fault-requires-clause-truths c =
    subst (λ k. c.self.inside.graph.truths ≡ map truth_of (take k (structures c.intern-interned.new.self))) (sym c.self.invariant.1)
    (truths_before (tables.the_view c.self.inside) c.self.invariant.0 c.self.inside.shapes c.intern-interned.new.self refl (nothing_interned c.self.inside.shapes c.intern-interned.new.self (subst (λ r. OnErr r (c.intern-interned.new.self ≡ c.self.inside.shapes)) c.in-Err-Full.is c.intern-interned.ensures.refused)))

pub invariant_of-self : goal.invariant_of-self
invariant_of-self c = (
  kept_after (tables.the_view c.self.inside) c.self.invariant.0 c.self.inside.shapes c.intern-interned.new.self refl (nothing_interned c.self.inside.shapes c.intern-interned.new.self (subst (λ r. OnErr r (c.intern-interned.new.self ≡ c.self.inside.shapes)) c.in-Err-Full.is c.intern-interned.ensures.refused))
      c.name_all-fault.new.named c.name_all-fault.new.graph (subst (λ k. k ≤ c.name_all-fault.new.named) c.self.invariant.1 c.name_all-fault.ensures.more) c.name_all-fault.ensures.few c.name_all-fault.ensures.truths c.name_all-fault.ensures.counted,
  c.name_all-fault.ensures.counted,
)

pub returns-in-Err-Full-clause-known : goal.returns-in-Err-Full-clause-known
returns-in-Err-Full-clause-known c = λ h.
    let rows = tables.the_view c.self.inside in
    let k : HasId (structures rows.shapes) (structure (structures rows.shapes) c.args.shape) = subst (λ w. HasId (structures w.shapes) (structure (structures w.shapes) c.args.shape)) (sym c.self.view_is) h in
    let o : false ≡ true = subst IsOk c.in-Err-Full.is (c.intern-interned.ensures.known (k.0, found_at (tables.the_view c.self.inside) c.self.invariant.0 c.self.inside.shapes c.intern-interned.new.self refl (nothing_interned c.self.inside.shapes c.intern-interned.new.self (subst (λ r. OnErr r (c.intern-interned.new.self ≡ c.self.inside.shapes)) c.in-Err-Full.is c.intern-interned.ensures.refused)) c.args.shape (subst (λ w. IsThere (length w.shapes) c.args.shape) (sym c.self.view_is) c.requires.receiver) k)).0 in
    absurd (cc)

pub returns-in-Err-Full-clause-grown : goal.returns-in-Err-Full-clause-grown
returns-in-Err-Full-clause-grown c =
    subst (λ w. IsWithShapes w (tables.the_view (record c.self.inside { graph = c.name_all-fault.new.graph; shapes = c.intern-interned.new.self; named = c.name_all-fault.new.named }))) c.self.view_is
    (with_shapes (tables.the_view c.self.inside) c.self.invariant.0 c.self.inside.shapes c.intern-interned.new.self refl (nothing_interned c.self.inside.shapes c.intern-interned.new.self (subst (λ r. OnErr r (c.intern-interned.new.self ≡ c.self.inside.shapes)) c.in-Err-Full.is c.intern-interned.ensures.refused))
    c.name_all-fault.new.named c.name_all-fault.new.graph (subst (λ k. k ≤ c.name_all-fault.new.named) c.self.invariant.1 c.name_all-fault.ensures.more) c.name_all-fault.ensures.few c.name_all-fault.ensures.truths c.name_all-fault.ensures.counted)

pub returns-in-Err-Full-clause-keeps : goal.returns-in-Err-Full-clause-keeps
returns-in-Err-Full-clause-keeps c = λ s a.
    let k = shapes_keep (tables.the_view c.self.inside) c.self.invariant.0 c.self.inside.shapes c.intern-interned.new.self refl (nothing_interned c.self.inside.shapes c.intern-interned.new.self (subst (λ r. OnErr r (c.intern-interned.new.self ≡ c.self.inside.shapes)) c.in-Err-Full.is c.intern-interned.ensures.refused))
    c.name_all-fault.new.named c.name_all-fault.new.graph (subst (λ k. k ≤ c.name_all-fault.new.named) c.self.invariant.1 c.name_all-fault.ensures.more) c.name_all-fault.ensures.few c.name_all-fault.ensures.truths c.name_all-fault.ensures.counted
    c.intern-interned.ensures.once c.validity.ensures.graph s (subst (λ w. AreTables s (tables_of w)) (sym c.self.view_is) a) in
    (k.0, k.1 ∙ ap (λ w. items_of (tables_of w)) c.self.view_is)

pub returns-in-Err-Full-clause-full : goal.returns-in-Err-Full-clause-full
returns-in-Err-Full-clause-full c =
    subst (λ k. IsFull {T = ShapeId} (Err c.name_all-fault.result) k c.intern-interned.new.self (structure (structures c.args.self.now.shapes) c.args.shape)) c.name_all-fault.ensures.counted
    (subst (λ w. IsFull {T = ShapeId} (Err c.name_all-fault.result) c.name_all-fault.new.named c.intern-interned.new.self (structure (structures w.shapes) c.args.shape)) c.self.view_is
    (all_there c.name_all-fault.new.named c.intern-interned.new.self c.name_all-fault.ensures.few (structure (structures (tables.the_view c.self.inside).shapes) c.args.shape) c.name_all-fault.result
    (new_where_full c.self.inside.shapes c.intern-interned.new.self (structure (structures (tables.the_view c.self.inside).shapes) c.args.shape) (structure (structures c.self.inside.shapes) c.args.shape) c.intern-interned.result (subst (λ r. OnErr r (c.intern-interned.new.self ≡ c.self.inside.shapes)) c.in-Err-Full.is c.intern-interned.ensures.refused)
    (same_structure_now (tables.the_view c.self.inside) c.self.invariant.0 c.self.inside.shapes c.intern-interned.new.self refl (nothing_interned c.self.inside.shapes c.intern-interned.new.self (subst (λ r. OnErr r (c.intern-interned.new.self ≡ c.self.inside.shapes)) c.in-Err-Full.is c.intern-interned.ensures.refused)) c.args.shape (subst (λ w. IsThere (length w.shapes) c.args.shape) (sym c.self.view_is) c.requires.receiver)) c.intern-interned.ensures.full (c.in-Err-Full.is ∙ ap Err (rw c.in-Err-Full.is at c.in-Err-Full.field-0-is)))
    c.name_all-fault.ensures.full))

-- ---- it has an id among all

pub name_shapes-done-requires-clause-few : goal.name_shapes-done-requires-clause-few
name_shapes-done-requires-clause-few c =
    subst (λ k. k ≤ length c.intern-interned.new.self) (sym c.self.invariant.1)
    (few_before (tables.the_view c.self.inside) c.self.invariant.0 c.self.inside.shapes c.intern-interned.new.self refl (interned c.self.inside.shapes c.intern-interned.new.self _ (λ h. (c.in-Ok.ensures.known h).1) c.in-Ok.ensures.fresh))

pub name_shapes-done-requires-clause-truths : goal.name_shapes-done-requires-clause-truths
name_shapes-done-requires-clause-truths c =
    subst (λ k. c.self.inside.graph.truths ≡ map truth_of (take k (structures c.intern-interned.new.self))) (sym c.self.invariant.1)
    (truths_before (tables.the_view c.self.inside) c.self.invariant.0 c.self.inside.shapes c.intern-interned.new.self refl (interned c.self.inside.shapes c.intern-interned.new.self _ (λ h. (c.in-Ok.ensures.known h).1) c.in-Ok.ensures.fresh))

pub invariant_of-self-2 : goal.invariant_of-self-2
invariant_of-self-2 c = (
  kept_after (tables.the_view c.self.inside) c.self.invariant.0 c.self.inside.shapes c.intern-interned.new.self refl (interned c.self.inside.shapes c.intern-interned.new.self _ (λ h. (c.in-Ok.ensures.known h).1) c.in-Ok.ensures.fresh)
      c.name_shapes-done.new.named c.name_shapes-done.new.graph (subst (λ k. k ≤ c.name_shapes-done.new.named) c.self.invariant.1 c.name_shapes-done.ensures.more) c.name_shapes-done.ensures.few c.name_shapes-done.ensures.truths c.name_shapes-done.ensures.counted,
  c.name_shapes-done.ensures.counted,
)

pub returns-clause-grown : goal.returns-clause-grown
returns-clause-grown c =
    subst (λ w. IsWithShapes w (tables.the_view (record c.self.inside { graph = c.name_shapes-done.new.graph; shapes = c.intern-interned.new.self; named = c.name_shapes-done.new.named }))) c.self.view_is
    (with_shapes (tables.the_view c.self.inside) c.self.invariant.0 c.self.inside.shapes c.intern-interned.new.self refl (interned c.self.inside.shapes c.intern-interned.new.self _ (λ h. (c.in-Ok.ensures.known h).1) c.in-Ok.ensures.fresh)
    c.name_shapes-done.new.named c.name_shapes-done.new.graph (subst (λ k. k ≤ c.name_shapes-done.new.named) c.self.invariant.1 c.name_shapes-done.ensures.more) c.name_shapes-done.ensures.few c.name_shapes-done.ensures.truths c.name_shapes-done.ensures.counted)

pub returns-clause-keeps : goal.returns-clause-keeps
returns-clause-keeps c = λ s a.
    let k = shapes_keep (tables.the_view c.self.inside) c.self.invariant.0 c.self.inside.shapes c.intern-interned.new.self refl (interned c.self.inside.shapes c.intern-interned.new.self _ (λ h. (c.in-Ok.ensures.known h).1) c.in-Ok.ensures.fresh)
    c.name_shapes-done.new.named c.name_shapes-done.new.graph (subst (λ k. k ≤ c.name_shapes-done.new.named) c.self.invariant.1 c.name_shapes-done.ensures.more) c.name_shapes-done.ensures.few c.name_shapes-done.ensures.truths c.name_shapes-done.ensures.counted
    c.intern-interned.ensures.once c.validity-2.ensures.graph s (subst (λ w. AreTables s (tables_of w)) (sym c.self.view_is) a) in
    (k.0, k.1 ∙ ap (λ w. items_of (tables_of w)) c.self.view_is)

pub returns-clause-numbered : goal.returns-clause-numbered
returns-clause-numbered c =
    elim c.match-done.branch [
      | in-Ok-done w ↦ rw w.result-is (
          (numbered_now (tables.the_view c.self.inside) c.self.invariant.0 c.self.inside.shapes c.intern-interned.new.self refl (interned c.self.inside.shapes c.intern-interned.new.self _ (λ h. (c.in-Ok.ensures.known h).1) c.in-Ok.ensures.fresh) c.args.shape (subst (λ w. IsThere (length w.shapes) c.args.shape) (sym c.self.view_is) c.requires.receiver)
          c.name_shapes-done.new.named c.name_shapes-done.new.graph (subst (λ k. k ≤ c.name_shapes-done.new.named) c.self.invariant.1 c.name_shapes-done.ensures.more) c.name_shapes-done.ensures.few c.name_shapes-done.ensures.truths c.name_shapes-done.ensures.counted c.in-Ok.id w.in-Ok-done.ensures.named c.in-Ok.ensures.numbered) ∙ ap (λ v. Some (structure (structures v.shapes) c.args.shape)) c.self.view_is)
      | in-Err w ↦ rw w.result-is tt
    ]

pub returns-clause-full : goal.returns-clause-full
returns-clause-full c =
    let most : length c.intern-interned.new.self ≤ 2 ^ 32 - 1 = omega arith in
    subst (λ k. IsFull c.match-done.result k c.intern-interned.new.self (structure (structures c.args.self.now.shapes) c.args.shape)) c.name_shapes-done.ensures.counted
    (subst (λ v. IsFull c.match-done.result c.name_shapes-done.new.named c.intern-interned.new.self (structure (structures v.shapes) c.args.shape)) c.self.view_is
    (elim c.match-done.branch [
      | in-Ok-done w ↦ subst (λ r. IsFull r c.name_shapes-done.new.named c.intern-interned.new.self (structure (structures (tables.the_view c.self.inside).shapes) c.args.shape)) (sym w.result-is)
          (not_full c.name_shapes-done.new.named c.intern-interned.new.self c.name_shapes-done.ensures.few (structure (structures (tables.the_view c.self.inside).shapes) c.args.shape) c.in-Ok.id (
            c.in-Ok.id,
            subst (λ k. slice_get (structures (take k c.intern-interned.new.self)) c.in-Ok.id ≡ Some (structure (structures (tables.the_view c.self.inside).shapes) c.args.shape)) (sym c.name_shapes-done.ensures.counted)
                (numbered_now (tables.the_view c.self.inside) c.self.invariant.0 c.self.inside.shapes c.intern-interned.new.self refl (interned c.self.inside.shapes c.intern-interned.new.self _ (λ h. (c.in-Ok.ensures.known h).1) c.in-Ok.ensures.fresh) c.args.shape (subst (λ w. IsThere (length w.shapes) c.args.shape) (sym c.self.view_is) c.requires.receiver)
                c.name_shapes-done.new.named c.name_shapes-done.new.graph (subst (λ k. k ≤ c.name_shapes-done.new.named) c.self.invariant.1 c.name_shapes-done.ensures.more) c.name_shapes-done.ensures.few c.name_shapes-done.ensures.truths c.name_shapes-done.ensures.counted c.in-Ok.id w.in-Ok-done.ensures.named c.in-Ok.ensures.numbered),
          ))
      | in-Err w ↦ subst (λ r. IsFull r c.name_shapes-done.new.named c.intern-interned.new.self (structure (structures (tables.the_view c.self.inside).shapes) c.args.shape)) (sym w.result-is)
          (no_memory c.name_shapes-done.new.named c.intern-interned.new.self c.name_shapes-done.ensures.few (structure (structures (tables.the_view c.self.inside).shapes) c.args.shape) most
          (λ _ many n. let l : c.name_shapes-done.new.named ≤ c.in-Ok.id = w.in-Err.ensures.wanting in let b : c.in-Ok.id < length c.intern-interned.new.self = c.in-Ok.ensures.within in absurd (omega (arith, l, b, many, n))))
    ]))

pub returns-clause-known : goal.returns-clause-known
returns-clause-known c = λ h.
    let rows = tables.the_view c.self.inside in
    let tail = interned c.self.inside.shapes c.intern-interned.new.self _ (λ h. (c.in-Ok.ensures.known h).1) c.in-Ok.ensures.fresh in
    let receiver = subst (λ w. IsThere (length w.shapes) c.args.shape) (sym c.self.view_is) c.requires.receiver in
    let k : HasId (structures rows.shapes) (structure (structures rows.shapes) c.args.shape) = subst (λ w. HasId (structures w.shapes) (structure (structures w.shapes) c.args.shape)) (sym c.self.view_is) h in
    let f : HasId (structures c.self.inside.shapes) (structure (structures c.self.inside.shapes) c.args.shape) = (k.0, found_at rows c.self.invariant.0 c.self.inside.shapes c.intern-interned.new.self refl tail c.args.shape receiver k) in
    let same : c.intern-interned.new.self ≡ c.self.inside.shapes = (c.in-Ok.ensures.known f).1 in
    let e : c.in-Ok.id ≡ k.0 = c.in-Ok.ensures.once c.in-Ok.id k.0 _ c.in-Ok.ensures.numbered (ap (λ xs. slice_get (structures xs) k.0) same ∙ f.1) in
    let l : k.0 < length rows.graph.truths = found_below rows c.self.invariant.0 c.self.inside.shapes c.intern-interned.new.self refl tail c.args.shape receiver k in
    let stay = c.name_shapes-done.ensures.stay (subst (λ n. n < c.self.inside.named) (sym e) (subst (λ n. k.0 < n) (sym c.self.invariant.1) l)) in (
      elim c.match-done.branch [
        | in-Ok-done w ↦ rw w.result-is refl
        | in-Err w ↦ let z : false ≡ true = ap is_ok (sym w.in-Err.is) ∙ stay.0 in absurd (cc)
      ],
      ap (λ g. tables.the_view (record c.self.inside { graph = g; shapes = c.intern-interned.new.self })) stay.2 ∙ (ap (λ x. tables.the_view (record c.self.inside { shapes = x })) same ∙ c.self.view_is),
    )
