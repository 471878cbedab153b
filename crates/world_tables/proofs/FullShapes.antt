-- When no shape more has a number.
use Rattle.std.proofs.Common.{◌≡◌, ◌↔◌, ℕ, ◌-◌, ◌^◌, ◌<◌, ◌≤◌, Result, Ok, Err, List, length, take, slice_get, sym, ap, subst, ◌∙◌, arith}
use Rattle.std.specs.Result.{IsErrOf}
use Rattle.place_ids.specs.declared.table.PushFault.{PushFault}
use Rattle.place_ids.specs.declared.table.PushFault.TheVariants.{Full, Memory}
use Rattle.abstract_shapes.specs.declared.shape.Shape.{Shape as ShapeRow}
use Rattle.abstract_shapes.specs.Numbering.{structures, HasId}
use Rattle.abstract_shapes.specs.Shapes.{Shape}
use Rattle.world_tables.proofs.Items.{below}
use Rattle.world_tables.proofs.Prefixes.{first_structures, as_many, taken, take_get, take_got}

module _ (n : ℕ) (rows : List ShapeRow) (few : n ≤ length rows) (x : Shape) where
  -- a shape of the first rows is one of all
  pub among_all : HasId (structures (take n rows)) x → HasId (structures rows) x
  among_all h = (h.0, take_got n (structures rows) h.0 x (ap (λ xs. slice_get xs h.0) (sym (first_structures n rows few)) ∙ h.1))

  -- and one of all is of the first, where these are all
  pub among_first : n ≡ length rows → HasId (structures rows) x → HasId (structures (take n rows)) x
  among_first e h =
      let b : h.0 < length (structures rows) = below (structures rows) h.0 x h.1 in
      let m : length (structures rows) ≡ length rows = as_many rows in
      (h.0, ap (λ xs. slice_get xs h.0) (first_structures n rows few) ∙ (take_get n (structures rows) h.0 (omega (arith, b, m, e)) ∙ h.1))

abbrev pub IsFull : {T : Type 0} → Result T PushFault → ℕ → List ShapeRow → Shape → Type 0
IsFull r n rows x = IsErrOf r Full ↔ ((HasId (structures (take n rows)) x → ⊥) × (length (take n rows) ≡ 2 ^ 32 - 1))

module _ {T : Type 0} (n : ℕ) (rows : List ShapeRow) (few : n ≤ length rows) (x : Shape) where
  -- it has a number
  pub not_full : (id : T) → HasId (structures (take n rows)) x → IsFull (Ok id) n rows x
  not_full id h = (λ e. let z : ⊥ = cc in absurd z, λ p. absurd (p.0 h))

  -- memory was wanting, before all were the first or where there are fewer
  pub no_memory : length rows ≤ 2 ^ 32 - 1 → ((HasId (structures rows) x → ⊥) → length rows ≡ 2 ^ 32 - 1 → n ≡ 2 ^ 32 - 1 → ⊥) → IsFull {T = T} (Err Memory) n rows x
  no_memory most never = (λ e. let z : ⊥ = cc in absurd z, λ p. absurd (go p.0 p.1))
    where
      go : (HasId (structures (take n rows)) x → ⊥) → length (take n rows) ≡ 2 ^ 32 - 1 → ⊥
      go new e =
          let t : length (take n rows) ≡ n = taken n rows few in
          let a : n ≡ length rows = omega (arith, t, e, few, most) in
          never (λ h. new (among_first n rows few x a h)) (omega (arith, t, e, a)) (omega (arith, t, e))

  -- all that there can be are there, and the first may be all
  pub all_there : (fault : PushFault) → (HasId (structures rows) x → ⊥) → (fault ≡ Full) ↔ (n ≡ 2 ^ 32 - 1) → IsFull {T = T} (Err fault) n rows x
  all_there fault new named = (λ e. let f : fault ≡ Full = cc in (λ h. new (among_all n rows few x h), taken n rows few ∙ named.0 f), λ p. ap Err (named.1 (sym (taken n rows few) ∙ p.1)))

-- what interning says of shapes by all that are kept, by another name of the shape
module _ {T : Type 0} (all new_all : List ShapeRow) (x y : Shape) (r : Result T PushFault) (same_rows : new_all ≡ all) (same : x ≡ y) (full : IsErrOf r Full ↔ ((HasId (structures all) y → ⊥) × (length all ≡ 2 ^ 32 - 1))) where
  pub new_where_full : r ≡ Err Full → HasId (structures new_all) x → ⊥
  new_where_full e h = (full.0 e).0 (subst (λ xs. HasId (structures xs) y) same_rows (subst (HasId (structures new_all)) same h))

  pub refused_for_memory : r ≡ Err Memory → (HasId (structures new_all) x → ⊥) → length new_all ≡ 2 ^ 32 - 1 → ⊥
  refused_for_memory e new many =
      let f : r ≡ Err Full = full.1 ((λ h. new (subst (λ xs. HasId (structures xs) x) (sym same_rows) (subst (HasId (structures all)) (sym same) h))), ap length (sym same_rows) ∙ many) in
      cc
