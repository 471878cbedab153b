-- What is told of the points below a number, and of all.
use Rattle.std.proofs.Common.{◌≡◌, ◌↔◌, ◌⊎◌, ◌+◌, ◌<◌, ◌≤◌, ℕ, suc, Option, Some, None, List, [], ◌∷◌, IsTrue, length, map, take, slice_get, inl, inr, refl, sym, ap, subst, ◌∙◌, arith}
use Rattle.std.specs.List.{Contains}
use Rattle.std.specs.Option.{unwrap_or}
use Rattle.std.proofs.lemmas.Bool.{cases_lt}
use Rattle.std.proofs.lemmas.List.{length-map}
use Rattle.std.proofs.Math.Seq.{take-length}
use Rattle.graph_walks.proofs.Lists.{Stands as Standing, stands, got, empty}
use Rattle.graph_walks.specs.Worlds.{Memory}
use Rattle.abstract_shapes.specs.Shapes.{Shape}
use Rattle.type_terms.specs.Stubs.{Stub}
use Rattle.program_tables.specs.Programs.{Compiled}
use Rattle.stack_code.specs.declared.op.Op.{Op}
use Rattle.world_rules.specs.declared.finding.FaultText.{FaultText}
use Rattle.world_rules.specs.declared.finding.Finding.{Finding}
use Rattle.world_rules.specs.Places.{Context, main, Variable, Point, at}
use Rattle.world_rules.specs.Sources.{Source}
use Rattle.world_rules.specs.Items.{Item, a_context}
use Rattle.world_rules.specs.Rules.{IsPoint, Stands}
use Rattle.world_rules.specs.Findings.{line_of, FindsAt, UnchecksAt, IsHeavyAt, IsQuery, OutputQuery, at_end, at_return, IsFinding, IsUnchecked, IsHeavyLine}
use Rattle.world_tables.specs.Tables.{Tables, items_of, the_point, finished_contexts, AreTables, AreFinished}
use Rattle.world_tables.specs.Rows.{WorldRows, tables_of, contexts_of, point_of}
use Rattle.world_tables.proofs.Items as items
use Rattle.world_tables.proofs.Items.{below}
use Rattle.world_tables.proofs.Roots.{context_in}
use Rattle.abstract_vm.specs.declared.verdict.Verdict.{Verdict}
use Rattle.abstract_vm.specs.Verdicts.{FaultIn, UncheckedIn, HeavyIn, IsJudged}
use Rattle.abstract_vm.specs.Worlds.{WorldState, items_in, point_in, source, IsWorldOf}
use Rattle.world_stub.specs.Solved.{OnlySolved}
use Rattle.infer_driver.specs.declared.tell.Told.{Told}
use Rattle.infer_driver.specs.Told.{fault_in, TellsFinding, TellsUnchecked, TellsHeavy, IsToldBelow, AreTold, IsToldOf}
use Rattle.infer_driver.proofs.Growing.{same_source}

-- ---- a world in which nothing is another but what is remembered

pub solved_itself : (w : WorldState) → OnlySolved w w
solved_itself w = record { rows = refl; budget = refl; library = refl }

pub solved_further : (a b c : WorldState) → OnlySolved a b → OnlySolved b c → OnlySolved a c
solved_further a b c x y = record { rows = y.rows ∙ x.rows; budget = y.budget ∙ x.budget; library = y.library ∙ x.library }

pub solved : (old new : WorldState) → new ≡ record old { solver = new.solver } → new.solver.budget ≡ old.solver.budget → OnlySolved old new
solved old new e b = record { rows = ap (λ (w : WorldState). w.rows) e; budget = b; library = ap (λ (w : WorldState). w.library) e }

module _ (c : Compiled) (stubs : List (List ℕ × Stub)) (depth : ℕ) (old new : WorldState) (o : OnlySolved old new) where
  pub solved_source : source c stubs depth new ≡ source c stubs depth old
  solved_source = same_source c stubs depth old new o.budget o.library

  pub solved_world : IsWorldOf (source c stubs depth old) old → IsWorldOf (source c stubs depth new) new
  solved_world is =
      subst (λ s. IsWorldOf s new) (sym solved_source)
      (record { tables = subst (λ (r : WorldRows). AreTables (source c stubs depth old) (tables_of r)) (sym o.rows) is.tables; finished = subst (λ (r : WorldRows). AreFinished (tables_of r)) (sym o.rows) is.finished })

  pub solved_judged : (id : ℕ) (v : Verdict) → IsJudged (source c stubs depth new) (items_in new) (point_in new id) v → IsJudged (source c stubs depth old) (items_in old) (point_in old id) v
  solved_judged id v j =
      subst (λ (r : WorldRows). IsJudged (source c stubs depth old) (items_of (tables_of r)) (the_point (tables_of r) id) v) o.rows
      (subst (λ s. IsJudged s (items_in new) (point_in new id) v) solved_source j)

  pub solved_line : (id : ℕ) → line_of (source c stubs depth new) (point_in new id) ≡ line_of (source c stubs depth old) (point_in old id)
  solved_line id = ap (λ s. line_of s (point_in new id)) solved_source ∙ ap (λ (r : WorldRows). line_of (source c stubs depth old) (the_point (tables_of r) id)) o.rows

-- ---- one point more

split : (k n : ℕ) → k < n + 1 → (k < n) ⊎ (k ≡ n)
split k n l = elim (cases_lt k n) [ inl m ↦ inl m | inr m ↦ inr (omega (arith, l, m)) ]

module _ {X : Type 0} (w : WorldState) (n : ℕ) (Tells : Point → X → Type 0) where
  further : (x : X) → IsToldBelow w n Tells x → IsToldBelow w (n + 1) Tells x
  further x t = let l : t.id < n = t.below in record { id = t.id; below = omega (arith, l); tells = t.tells }

  here : (x : X) → Tells (point_in w n) x → IsToldBelow w (n + 1) Tells x
  here x t = record { id = n; below = omega arith; tells = t }

  before : (x : X) → IsToldBelow w (n + 1) Tells x → IsToldBelow w n Tells x ⊎ Tells (point_in w n) x
  before x t = elim (split t.id n t.below) [ inl l ↦ inl (record { id = t.id; below = l; tells = t.tells }) | inr e ↦ inr (subst (λ k. Tells (point_in w k) x) e t.tells) ]

  one_more : (old new : List X) (P : X → Type 0) → ((x : X) → Contains old x ↔ IsToldBelow w n Tells x) → ((x : X) → Contains new x ↔ (Contains old x ⊎ P x)) →
      ((x : X) → P x → Tells (point_in w n) x) → ((x : X) → Tells (point_in w n) x → P x) → (x : X) → Contains new x ↔ IsToldBelow w (n + 1) Tells x
  one_more old new P first_ones grown into from x = (
    λ c. elim ((grown x).0 c) [ inl d ↦ further x ((first_ones x).0 d) | inr p ↦ here x (into x p) ],
    λ t. (grown x).1 (elim (before x t) [ inl d ↦ inl ((first_ones x).1 d) | inr p ↦ inr (from x p) ]),
  )

pub nothing_told : (s : Source) (w : WorldState) (told : Told) → told.findings.items ≡ [] → told.unchecked.items ≡ [] → told.heavy.items ≡ [] → AreTold s w 0 told
nothing_told s w told f u h =
    record {
      findings = λ x. (λ c. empty x (subst (λ xs. Contains xs x) f c), λ t. let l : t.id < 0 = t.below in absurd (omega (arith, l)));
      unchecked = λ x. (λ c. empty x (subst (λ xs. Contains xs x) u c), λ t. let l : t.id < 0 = t.below in absurd (omega (arith, l)));
      heavy = λ x. (λ c. empty x (subst (λ xs. Contains xs x) h c), λ t. let l : t.id < 0 = t.below in absurd (omega (arith, l)));
    }

pub told_more : (s : Source) (w : WorldState) (n : ℕ) (line : Option ℕ) (v : Verdict) (old new : Told) → line ≡ line_of s (point_in w n) → IsJudged s (items_in w) (point_in w n) v → IsToldOf line v old new → AreTold s w n old → AreTold s w (n + 1) new
told_more s w n line v old new is j added t =
    record {
      findings = one_more w n (TellsFinding s (items_in w)) old.findings.items new.findings.items (λ f. (line ≡ Some f.line) × Contains v.faults (fault_in f)) t.findings added.findings
          (λ f p. record { on_line = sym is ∙ p.0; finds = (j.faults (fault_in f)).0 p.1 }) (λ f p. (is ∙ p.on_line, (j.faults (fault_in f)).1 p.finds));
      unchecked = one_more w n (TellsUnchecked s (items_in w)) old.unchecked.items new.unchecked.items (λ l. (line ≡ Some l) × IsTrue v.unchecked) t.unchecked added.unchecked
          (λ l p. record { on_line = sym is ∙ p.0; unchecks = j.unchecked.0 p.1 }) (λ l p. (is ∙ p.on_line, j.unchecked.1 p.unchecks));
      heavy = one_more w n (TellsHeavy s (items_in w)) old.heavy.items new.heavy.items (λ l. (line ≡ Some l) × IsTrue v.heavy) t.heavy added.heavy
          (λ l p. record { on_line = sym is ∙ p.0; heavy = j.heavy.0 p.1 }) (λ l p. (is ∙ p.on_line, j.heavy.1 p.heavy));
    }

-- by the world as it stands then, in which nothing is another but what is remembered
module _ (c : Compiled) (stubs : List (List ℕ × Stub)) (depth : ℕ) (w u : WorldState) (o : OnlySolved w u) (n point : ℕ) (is : point ≡ n) where
  pub told_then : (line : Option ℕ) (v : Verdict) (old new : Told) → line ≡ line_of (source c stubs depth u) (point_in u point) → IsJudged (source c stubs depth u) (items_in u) (point_in u point) v → IsToldOf line v old new →
      AreTold (source c stubs depth w) w n old → AreTold (source c stubs depth w) w (n + 1) new
  told_then line v old new l j added t =
      told_more (source c stubs depth w) w n line v old new (l ∙ solved_line c stubs depth w u o point ∙ ap (λ k. line_of (source c stubs depth w) (point_in w k)) is)
      (subst (λ k. IsJudged (source c stubs depth w) (items_in w) (point_in w k) v) is (solved_judged c stubs depth w u o point v j)) added t

-- ---- all points

module _ (s : Source) (w : WorldState) (is : IsWorldOf s w) where
  -- a place of one of the world's contexts has a number
  record HasNumber (p : Point) : Type 0 where
    id : ℕ
    there : id < length w.rows.points
    stands_for : point_in w id ≡ p

  number_of : (c : Context) (place depth : ℕ) → Contains (items_in w) (a_context c) → IsPoint s (at c place depth) → HasNumber (at c place depth)
  number_of c place depth h p =
      let t : Tables = tables_of w.rows in
      let all : take t.finished t.contexts ≡ t.contexts = ap (λ m. take m t.contexts) is.finished ∙ take-length t.contexts in
      let known : Contains (finished_contexts t) c = subst (λ cs. Contains cs c) (sym all) (context_in t c (items.items_in t (a_context c) h)) in
      let k : Standing (tables_of w.rows).points (at c place depth) = stands (tables_of w.rows).points (at c place depth) (is.tables.numbering.points_are c place depth known p) in
      record {
        id = k.place;
        there = subst (λ m. k.place < m) (length-map w.rows.points (point_of (contexts_of w.rows))) (below (tables_of w.rows).points k.place (at c place depth) k.at);
        stands_for = ap (λ o. unwrap_or o (at main 0 0)) k.at;
      }

  point_of_op : (c : Context) (place depth : ℕ) (o : Op) → Stands s c place depth o → IsPoint s (at c place depth)
  point_of_op c place depth o h = record { code = h.code; of = h.of; has_depth = h.has_depth }

  -- what a numbered point tells is told below the count
  told_at : {X : Type 0} (Tells : Point → X → Type 0) (x : X) (p : Point) → HasNumber p → Tells p x → IsToldBelow w (length w.rows.points) Tells x
  told_at Tells x p n t = record { id = n.id; below = n.there; tells = subst (λ q. Tells q x) (sym n.stands_for) t }

  finding_told : (f : Finding) → IsFinding s (items_in w) f → IsToldBelow w (length w.rows.points) (TellsFinding s (items_in w)) f
  finding_told f i =
      told_at (TellsFinding s (items_in w)) f (at i.context i.place i.depth)
      (number_of i.context i.place i.depth i.finds.fires.context (point_of_op i.context i.place i.depth i.finds.fires.op i.finds.fires.stands)) (record { on_line = i.on_line; finds = i.finds })

  told_finding : (f : Finding) (p : Point) → TellsFinding s (items_in w) p f → IsFinding s (items_in w) f
  told_finding f (at c place depth) t = record { context = c; place = place; depth = depth; on_line = t.on_line; finds = t.finds }

  unchecked_told : (l : ℕ) → IsUnchecked s (items_in w) l → IsToldBelow w (length w.rows.points) (TellsUnchecked s (items_in w)) l
  unchecked_told l i =
      told_at (TellsUnchecked s (items_in w)) l (at i.context i.place i.depth)
      (number_of i.context i.place i.depth i.unchecks.fires.context (point_of_op i.context i.place i.depth i.unchecks.fires.op i.unchecks.fires.stands)) (record { on_line = i.on_line; unchecks = i.unchecks })

  told_unchecked : (l : ℕ) (p : Point) → TellsUnchecked s (items_in w) p l → IsUnchecked s (items_in w) l
  told_unchecked l (at c place depth) t = record { context = c; place = place; depth = depth; on_line = t.on_line; unchecks = t.unchecks }

  output_number : {c : Context} {place depth : ℕ} (goals : Memory Variable Shape) → OutputQuery s (items_in w) c place depth goals → HasNumber (at c place depth)
  output_number goals (at_end {place} {depth} n t h o g) = number_of main place depth h (point_of_op main place depth _ o)
  output_number goals (at_return {c} {place} {depth} t h o g) = number_of c place depth h (point_of_op c place depth _ o)

  heavy_number : (c : Context) (place depth : ℕ) → IsHeavyAt s (items_in w) c place depth → HasNumber (at c place depth)
  heavy_number c place depth h = elim h.query [
    | inl q ↦ number_of c place depth q.context (point_of_op c place depth q.op q.stands)
    | inr q ↦ output_number h.goals q
  ]

  heavy_told : (l : ℕ) → IsHeavyLine s (items_in w) l → IsToldBelow w (length w.rows.points) (TellsHeavy s (items_in w)) l
  heavy_told l i = told_at (TellsHeavy s (items_in w)) l (at i.context i.place i.depth) (heavy_number i.context i.place i.depth i.heavy) (record { on_line = i.on_line; heavy = i.heavy })

  told_heavy : (l : ℕ) (p : Point) → TellsHeavy s (items_in w) p l → IsHeavyLine s (items_in w) l
  told_heavy l (at c place depth) t = record { context = c; place = place; depth = depth; on_line = t.on_line; heavy = t.heavy }

  pub findings_all : (told : Told) → AreTold s w (length w.rows.points) told → (f : Finding) → Contains told.findings.items f ↔ IsFinding s (items_in w) f
  findings_all told a f = (λ c. let t : IsToldBelow w (length w.rows.points) (TellsFinding s (items_in w)) f = (a.findings f).0 c in told_finding f (point_in w t.id) t.tells, λ i. (a.findings f).1 (finding_told f i))

  pub unchecked_all : (told : Told) → AreTold s w (length w.rows.points) told → (l : ℕ) → Contains told.unchecked.items l ↔ IsUnchecked s (items_in w) l
  unchecked_all told a l = (λ c. let t : IsToldBelow w (length w.rows.points) (TellsUnchecked s (items_in w)) l = (a.unchecked l).0 c in told_unchecked l (point_in w t.id) t.tells, λ i. (a.unchecked l).1 (unchecked_told l i))

  pub heavy_all : (told : Told) → AreTold s w (length w.rows.points) told → (l : ℕ) → Contains told.heavy.items l ↔ IsHeavyLine s (items_in w) l
  heavy_all told a l = (λ c. let t : IsToldBelow w (length w.rows.points) (TellsHeavy s (items_in w)) l = (a.heavy l).0 c in told_heavy l (point_in w t.id) t.tells, λ i. (a.heavy l).1 (heavy_told l i))
