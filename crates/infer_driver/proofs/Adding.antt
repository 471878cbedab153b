-- Lists to which findings and lines are added.
use Rattle.std.proofs.Common.{◌≡◌, ◌↔◌, ◌⊎◌, ℕ, Bool, true, false, IsTrue, Some, None, List, [], ◌∷◌, ◌++◌, inl, inr, refl, sym, ap, subst, ◌∙◌}
use Rattle.std.specs.List.{Contains}
use Rattle.std.proofs.lemmas.List.Elements.{Contains-append_cases, Contains-append_left, Contains-append_right}
use Rattle.graph_walks.proofs.Lists.{empty, first, first_as, only}
use Rattle.world_rules.specs.declared.finding.FaultText.{FaultText}
use Rattle.world_rules.specs.declared.finding.Finding.{Finding}
use Rattle.world_stub.proofs.Lists.{with_last, before_last, at_last}
use Rattle.infer_driver.specs.Told.{fault_in}

-- ---- findings of one line

-- the faults that are left are to be added to those that were
pub record IsAdding (line : ℕ) (faults : List FaultText) (start found : List Finding) (left : List FaultText) : Type 0 where
  pub into : (f : Finding) → (Contains found f ⊎ ((line ≡ f.line) × Contains left (fault_in f))) → (Contains start f ⊎ ((line ≡ f.line) × Contains faults (fault_in f)))
  pub from : (f : Finding) → (Contains start f ⊎ ((line ≡ f.line) × Contains faults (fault_in f))) → (Contains found f ⊎ ((line ≡ f.line) × Contains left (fault_in f)))

pub to_add : (line : ℕ) (faults : List FaultText) (start : List Finding) → IsAdding line faults start start faults
to_add line faults start = record { into = λ f c. c; from = λ f c. c }

a_finding : ℕ → FaultText → Finding
a_finding line t = record { line = line; kind = t.kind; text = t.text }

is_finding : (line : ℕ) (t : FaultText) (f : Finding) → line ≡ f.line → fault_in f ≡ t → f ≡ record { line = line; kind = t.kind; text = t.text }
is_finding line t f l e = λ i. record { line = sym l i; kind = (e i).kind; text = (e i).text }

module _ (line : ℕ) (faults : List FaultText) (start found : List Finding) (left rest : List FaultText) (t : FaultText) (is : left ≡ rest ++ t ∷ []) (a : IsAdding line faults start found left) where
  shorter : (f : Finding) → (Contains (found ++ record { line = line; kind = t.kind; text = t.text } ∷ []) f ⊎ ((line ≡ f.line) × Contains rest (fault_in f))) → (Contains found f ⊎ ((line ≡ f.line) × Contains left (fault_in f)))
  shorter f (inl c) = elim (with_last found (record { line = line; kind = t.kind; text = t.text }) f c) [
    | inl d ↦ inl d
    | inr e ↦ inr (sym (ap (λ (g : Finding). g.line) e), subst (λ ts. Contains ts (fault_in f)) (sym is) (at_last rest t (fault_in f) (ap fault_in e)))
  ]
  shorter f (inr d) = inr (d.0, subst (λ ts. Contains ts (fault_in f)) (sym is) (before_last rest t (fault_in f) d.1))

  longer : (f : Finding) → (Contains found f ⊎ ((line ≡ f.line) × Contains left (fault_in f))) → (Contains (found ++ record { line = line; kind = t.kind; text = t.text } ∷ []) f ⊎ ((line ≡ f.line) × Contains rest (fault_in f)))
  longer f (inl c) = inl (before_last found (record { line = line; kind = t.kind; text = t.text }) f c)
  longer f (inr d) = elim (with_last rest t (fault_in f) (subst (λ ts. Contains ts (fault_in f)) is d.1)) [
    | inl c ↦ inr (d.0, c)
    | inr e ↦ inl (at_last found (record { line = line; kind = t.kind; text = t.text }) f (is_finding line t f d.0 e))
  ]

  pub added_one : IsAdding line faults start (found ++ record { line = line; kind = t.kind; text = t.text } ∷ []) rest
  added_one = record { into = λ f c. a.into f (shorter f c); from = λ f c. longer f (a.from f c) }

pub all_added : (line : ℕ) (faults : List FaultText) (start found : List Finding) (left : List FaultText) → left ≡ [] → IsAdding line faults start found left →
    (f : Finding) → Contains found f ↔ (Contains start f ⊎ ((line ≡ f.line) × Contains faults (fault_in f)))
all_added line faults start found left none a f = (λ c. a.into f (inl c), λ c. done (a.from f c))
  where
    done : (Contains found f ⊎ ((line ≡ f.line) × Contains left (fault_in f))) → Contains found f
    done (inl c) = c
    done (inr d) = empty (fault_in f) (subst (λ ts. Contains ts (fault_in f)) none d.1)

-- ---- marked lines

pub marked : (line : ℕ) (old new : List ℕ) → new ≡ old ++ line ∷ [] → (l : ℕ) → Contains new l ↔ (Contains old l ⊎ ((line ≡ l) × IsTrue true))
marked line old new is l = (
  λ c. elim (with_last old line l (subst (λ ls. Contains ls l) is c)) [ inl d ↦ inl d | inr e ↦ inr (sym e, refl) ],
  λ c. subst (λ ls. Contains ls l) (sym is) (elim c [ inl d ↦ before_last old line l d | inr d ↦ at_last old line l (sym d.0) ]),
)

pub unmarked : (line : ℕ) (old : List ℕ) (l : ℕ) → Contains old l ↔ (Contains old l ⊎ ((line ≡ l) × IsTrue false))
unmarked line old l = (λ c. inl c, λ c. elim c [ inl d ↦ d | inr d ↦ let e : false ≡ true = d.1 in cc ])

-- the line is told, as a point that has one tells it
pub on_line : {A B C : Type 0} (line l : ℕ) → A ↔ (B ⊎ ((line ≡ l) × C)) → A ↔ (B ⊎ ((Some line ≡ Some l) × C))
on_line {A} {B} {C} line l h = (λ a. to (h.0 a), λ d. h.1 (back d))
  where
    to : (B ⊎ ((line ≡ l) × C)) → (B ⊎ ((Some line ≡ Some l) × C))
    to (inl b) = inl b
    to (inr d) = inr (ap Some d.0, d.1)

    back : (B ⊎ ((Some line ≡ Some l) × C)) → (B ⊎ ((line ≡ l) × C))
    back (inl b) = inl b
    back (inr d) = let e : Some line ≡ Some l = d.0 in let f : line ≡ l = cc in inr (f, d.1)

-- on no line nothing is told
pub on_no_line : {A C : Type 0} (l : ℕ) → A ↔ (A ⊎ ((None ≡ Some l) × C))
on_no_line {A} {C} l = (λ a. inl a, λ d. back d)
  where
    back : (A ⊎ ((None ≡ Some l) × C)) → A
    back (inl a) = a
    back (inr d) = let e : None ≡ Some l = d.0 in cc
