-- What rows and weighed queries tell.
use Rattle.std.proofs.Common.{◌≡◌, ◌↔◌, ◌⊎◌, inl, inr, ℕ, Bool, true, false, ◌||◌, Some, None, List, [], ◌∷◌, ◌++◌, IsTrue, sym, ap, subst, ◌∙◌}
use Rattle.std.specs.List.{Contains}
use Rattle.std.proofs.lemmas.List.Elements.{Contains-push, Contains-push_cases, Contains-append_left}
use Rattle.graph_walks.specs.Worlds.{Memory}
use Rattle.graph_walks.specs.Backs.{Heavy, Seen}
use Rattle.tree_code.specs.Programs.{Program}
use Rattle.goal_solver.specs.Graphs as numbers
use Rattle.abstract_shapes.specs.Shapes.{Shape}
use Rattle.world_rules.specs.declared.finding.Fault.{Fault}
use Rattle.world_rules.specs.declared.finding.FaultText.{FaultText}
use Rattle.world_rules.specs.declared.row.TransferRow.{TransferRow}
use Rattle.world_rules.specs.declared.transfer.Transfer.{Transfer}
use Rattle.world_rules.specs.Rows.{row_of}
use Rattle.world_rules.specs.Texts.{fault_text}
use Rattle.world_tables.specs.Rows.{tables_of}
use Rattle.world_queries.specs.Choices.{shapes_by}
use Rattle.abstract_vm.specs.declared.verdict.Verdict.{Verdict}
use Rattle.abstract_vm.specs.Marks.{Mark, a_fault, is_unchecked, is_heavy, Says, SaysToo}
use Rattle.abstract_vm.specs.Telling.{HasFault, FaultTells, RowTells, Asked, SeenTells, Weighs, GoalsTell}
use Rattle.abstract_vm.proofs.Saying.{nothing_more, both_more, same_more, either_true}

module _ (program : Program) (row : TransferRow) (shapes : List Shape) where
  -- the fault of the row is told
  pub fault_more : (fault : Fault) (f : FaultText) → row.fault ≡ Some fault → f ≡ fault_text program fault shapes → (v w : Verdict) → w ≡ record v { faults = v.faults ++ f ∷ [] } → SaysToo (FaultTells program row shapes) v w
  fault_more fault f has told v w e = subst (SaysToo (FaultTells program row shapes) v) (sym e) (record { each = each })
    where
      to : (g : FaultText) → Contains (v.faults ++ f ∷ []) g → Contains v.faults g ⊎ HasFault program row shapes g
      to g c = elim (Contains-push_cases v.faults f g c) [ inl d ↦ inl d | inr i ↦ inr (record { fault = fault; has_fault = has; told = sym i ∙ told }) ]

      from : (g : FaultText) → Contains v.faults g ⊎ HasFault program row shapes g → Contains (v.faults ++ f ∷ []) g
      from g (inl c) = Contains-append_left v.faults (f ∷ []) g c
      from g (inr h) =
          let one : h.fault ≡ fault = (let k : Some h.fault ≡ Some fault = sym h.has_fault ∙ has in cc) in
          let same : f ≡ g = told ∙ ap (λ x. fault_text program x shapes) (sym one) ∙ sym h.told in
          subst (Contains (v.faults ++ f ∷ [])) same (Contains-push v.faults f)

      each : (m : Mark) → Says (record v { faults = v.faults ++ f ∷ [] }) m ↔ (Says v m ⊎ FaultTells program row shapes m)
      each (a_fault g) = (to g, from g)
      each is_unchecked = (λ h. inl h, λ h. elim h [ inl i ↦ i | inr k ↦ absurd k ])
      each is_heavy = (λ h. inl h, λ h. elim h [ inl i ↦ i | inr k ↦ absurd k ])

  pub no_fault : row.fault ≡ None → (v : Verdict) → SaysToo (FaultTells program row shapes) v v
  no_fault has v = nothing_more (FaultTells program row shapes) v never
    where
      never : (m : Mark) → FaultTells program row shapes m → ⊥
      never (a_fault g) h = let k : Some h.fault ≡ None = sym h.has_fault ∙ has in cc
      never is_unchecked h = h
      never is_heavy h = h

  -- the row's mark, and then its fault
  pub row_more : (v w x : Verdict) → w ≡ record v { unchecked = v.unchecked || row.unchecked } → SaysToo (FaultTells program row shapes) w x → SaysToo (RowTells program row shapes) v x
  row_more v w x e t = record { each = each }
    where
      u : SaysToo (FaultTells program row shapes) (record v { unchecked = v.unchecked || row.unchecked }) x
      u = subst (λ y. SaysToo (FaultTells program row shapes) y x) e t

      to : IsTrue (v.unchecked || row.unchecked) ⊎ ⊥ → IsTrue v.unchecked ⊎ (row.unchecked ≡ true)
      to (inl h) = (either_true v.unchecked row.unchecked).0 h
      to (inr h) = absurd h

      each : (m : Mark) → Says x m ↔ (Says v m ⊎ RowTells program row shapes m)
      each (a_fault g) = u.each (a_fault g)
      each is_unchecked = (λ h. to ((u.each is_unchecked).0 h), λ h. (u.each is_unchecked).1 (inl ((either_true v.unchecked row.unchecked).1 h)))
      each is_heavy = u.each is_heavy

-- ---- of one choice

module _ (a : Asked) (goals : Memory ℕ ℕ) where
  abbrev IsHeavyHere : Type 0
  IsHeavyHere = Heavy (numbers.world_of a.rows.graph) a.point goals a.budget

  pub weighed : (heavy : Bool) → IsTrue heavy ↔ IsHeavyHere → (v w : Verdict) → v.heavy ≡ false → w ≡ record v { heavy = heavy } → SaysToo (Weighs a goals) v w
  weighed heavy exact v w light e = subst (SaysToo (Weighs a goals) v) (sym e) (record { each = each })
    where
      from : IsTrue v.heavy ⊎ IsHeavyHere → IsTrue heavy
      from (inl h) = let k : false ≡ true = sym light ∙ h in cc
      from (inr h) = exact.1 h

      each : (m : Mark) → Says (record v { heavy = heavy }) m ↔ (Says v m ⊎ Weighs a goals m)
      each (a_fault g) = (λ h. inl h, λ h. elim h [ inl i ↦ i | inr k ↦ absurd k ])
      each is_unchecked = (λ h. inl h, λ h. elim h [ inl i ↦ i | inr k ↦ absurd k ])
      each is_heavy = (λ h. inr (exact.0 h), from)

  pub heavy_already : (v : Verdict) → v.heavy ≡ true → SaysToo (Weighs a goals) v v
  heavy_already v heavy = record { each = each }
    where
      each : (m : Mark) → Says v m ↔ (Says v m ⊎ Weighs a goals m)
      each (a_fault g) = (λ h. inl h, λ h. elim h [ inl i ↦ i | inr k ↦ absurd k ])
      each is_unchecked = (λ h. inl h, λ h. elim h [ inl i ↦ i | inr k ↦ absurd k ])
      each is_heavy = (λ h. inl h, λ h. heavy)

  module _ (rule : Transfer) (ids : List ℕ) where
    abbrev IsSeenHere : Type 0
    IsSeenHere = Seen (numbers.world_of a.rows.graph) a.point goals a.budget

    pub unseen : (seen : Bool) → IsTrue seen ↔ IsSeenHere → seen ≡ false → (v : Verdict) → SaysToo (SeenTells a rule ids goals) v v
    unseen seen exact e v = nothing_more (SeenTells a rule ids goals) v (λ m h. let k : false ≡ true = sym e ∙ exact.1 h.0 in cc)

    pub seen : (seen : Bool) → IsTrue seen ↔ IsSeenHere → seen ≡ true → (row : TransferRow) → row ≡ row_of rule (shapes_by (tables_of a.rows) ids) → (v w : Verdict) →
        SaysToo (RowTells a.program row (shapes_by (tables_of a.rows) ids)) v w → SaysToo (SeenTells a rule ids goals) v w
    seen is exact e row same v w t =
        same_more _ _ v w (λ m. (λ h. (exact.0 e, h), λ h. h.1)) (subst (λ r. SaysToo (RowTells a.program r (shapes_by (tables_of a.rows) ids)) v w) same t)

-- the same with another budget, which it is
pub goals_more : (a : Asked) (goals : Memory ℕ ℕ) (rule : Transfer) (ids : List ℕ) (budget : ℕ) → budget ≡ a.budget → (u v w : Verdict) →
    SaysToo (SeenTells a rule ids goals) u v → SaysToo (Weighs (record a { budget = budget }) goals) v w → SaysToo (GoalsTell a rule ids goals) u w
goals_more a goals rule ids budget e u v w s t = both_more (SeenTells a rule ids goals) (Weighs a goals) u v w s (subst (λ b. SaysToo (Weighs (record a { budget = b }) goals) v w) e t)
