-- The shapes that a variable is seen to have at one of the points.
use Rattle.std.proofs.Common.{◌≡◌, ◌↔◌, ◌⊎◌, ◌+◌, ◌<◌, ◌≤◌, ◌||◌, ℕ, zero, suc, Bool, true, false, cond, IsTrue, Option, Some, None, List, [], ◌∷◌, ◌++◌, length, take, get_or, slice_get, inl, inr, refl, sym, ap, subst, ◌∙◌, arith, true≢false}
use Rattle.std.specs.FinSet as finite
use Rattle.std.specs.FinSet.{contains-empty, contains-insert}
use Rattle.std.specs.Ordering.{nat_cmp, eq_by_cmp, is_eq}
use Rattle.std.specs.List.{Contains}
use Rattle.std.proofs.lemmas.Cmp.{nat_cmp_total, tied_itself}
use Rattle.std.proofs.lemmas.List.{take_more, take_all}
use Rattle.graph_walks.proofs.Lists.{empty, first_as, later, got}
use Rattle.graph_walks.specs.Worlds.{Memory, AllGiven}
use Rattle.graph_walks.specs.Backs.{Seen}
use Rattle.typegraph.specs.declared.goals.Binding.{Binding}
use Rattle.typegraph.specs.Graphs.{GraphTables, IsGiven}
use Rattle.typegraph.specs.Maps.{look}
use Rattle.typegraph.specs.Validity.{IsValid}
use Rattle.goal_solver.specs.Graphs as numbers
use Rattle.shape_sets.specs.Sets.{Members}
use Rattle.world_tables.specs.declared.spot.VariableSpot.TheVariants.{Global}
use Rattle.world_tables.specs.Rows.{WorldRows}
use Rattle.world_tables.specs.Tables.{HaveOneNumber}
use Rattle.abstract_vm.specs.Worlds.{WorldState}
use Rattle.world_stub.specs.Ends.{goal_of, IsSeenAtOne, IsSeenAt, HasShape}
use Rattle.world_stub.specs.Solved.{OnlySolved}
use Rattle.world_stub.proofs.Lists.{with_last, before_last, at_last}
use Rattle.world_stub.proofs.Numbers.{same_line}

module _ {X : Type 0} (xs : List X) (i : ℕ) (d x : X) (l : i < length xs) (e : get_or xs i d ≡ x) where
  one_more : take (i + 1) xs ≡ take i xs ++ x ∷ []
  one_more = take_more xs i d l ∙ ap (λ z. take i xs ++ z ∷ []) e

  pub next_from : (y : X) → Contains (take (i + 1) xs) y → Contains (take i xs) y ⊎ (y ≡ x)
  next_from y c = with_last (take i xs) x y (subst (λ zs. Contains zs y) one_more c)

  pub next_old : (y : X) → Contains (take i xs) y → Contains (take (i + 1) xs) y
  next_old y c = subst (λ zs. Contains zs y) (sym one_more) (before_last (take i xs) x y c)

  pub next_here : (y : X) → y ≡ x → Contains (take (i + 1) xs) y
  next_here y f = subst (λ zs. Contains zs y) (sym one_more) (at_last (take i xs) x y f)

pub at_index : {X : Type 0} (xs : List X) (i : ℕ) (d x : X) → i < length xs → get_or xs i d ≡ x → Contains xs x
at_index [] i d x l e = absurd (omega (arith, l))
at_index (y ∷ xs) zero d x l e = first_as y x xs (sym e)
at_index (y ∷ xs) (suc i) d x l e = later y x xs (at_index xs i d x (omega (arith, l)) e)

-- ---- one shape at each of the points

pub record IsUnseen (w : WorldState) (points : List ℕ) (goals : Memory ℕ ℕ) : Type 0 where
  pub at : (p : ℕ) → Contains points p → Seen (numbers.world_of w.rows.graph) p goals w.solver.budget → ⊥

pub nowhere_seen : (w : WorldState) (points : List ℕ) (goals : Memory ℕ ℕ) → points ≡ [] → IsUnseen w points goals
nowhere_seen w points goals e = record { at = λ p c. empty p (subst (λ ps. Contains ps p) e c) }

pub seen_as : (w v : WorldState) → OnlySolved w v → (p : ℕ) (goals : Memory ℕ ℕ) → Seen (numbers.world_of v.rows.graph) p goals v.solver.budget ↔ Seen (numbers.world_of w.rows.graph) p goals w.solver.budget
seen_as w v o p goals = (
  λ h. subst (λ (r : WorldRows). Seen (numbers.world_of r.graph) p goals w.solver.budget) o.rows (subst (λ b. Seen (numbers.world_of v.rows.graph) p goals b) o.budget h),
  λ h. subst (λ b. Seen (numbers.world_of v.rows.graph) p goals b) (sym o.budget) (subst (λ (r : WorldRows). Seen (numbers.world_of r.graph) p goals w.solver.budget) (sym o.rows) h),
)

pub unseen_next : (w : WorldState) (points : List ℕ) (i d x : ℕ) (goals : Memory ℕ ℕ) → i < length points → get_or points i d ≡ x → IsUnseen w (take i points) goals →
    (Seen (numbers.world_of w.rows.graph) x goals w.solver.budget → ⊥) → IsUnseen w (take (i + 1) points) goals
unseen_next w points i d x goals l e u deny =
    record { at = λ p c h. elim (next_from points i d x l e p c) [ inl k ↦ u.at p k h | inr f ↦ deny (subst (λ q. Seen (numbers.world_of w.rows.graph) q goals w.solver.budget) f h) ] }

-- ---- each shape

-- the shapes so far that are seen
pub record AreSeen (w : WorldState) (points : List ℕ) (var : ℕ) (shapes : List ℕ) (set : Members) : Type 0 where
  pub into : (shape : ℕ) → finite.contains set.members shape ≡ true → Contains shapes shape × IsSeenAtOne w.rows.graph w.solver.budget points (look (goal_of var shape))
  pub from : (shape : ℕ) → Contains shapes shape → IsSeenAtOne w.rows.graph w.solver.budget points (look (goal_of var shape)) → finite.contains set.members shape ≡ true

pub none_seen : (w : WorldState) (points : List ℕ) (var : ℕ) (shapes : List ℕ) (set : Members) → set.members ≡ finite.empty → shapes ≡ [] → AreSeen w points var shapes set
none_seen w points var shapes set e f =
    record {
      into = λ shape t. let g : finite.contains set.members shape ≡ false = ap (λ m. finite.contains m shape) e ∙ contains-empty nat_cmp shape in let h : true ≡ false = sym t ∙ g in cc;
      from = λ shape c. empty shape (subst (λ ss. Contains ss shape) f c);
    }

same_itself : (n : ℕ) → eq_by_cmp nat_cmp n n ≡ true
same_itself n = ap is_eq (tied_itself nat_cmp_total n)

or_left : (a b : Bool) → a ≡ true → (a || b) ≡ true
or_left true b e = refl
or_left false b e = cc

or_right : (a b : Bool) → b ≡ true → (a || b) ≡ true
or_right true b e = refl
or_right false b e = e

or_cases : (a b : Bool) → (a || b) ≡ true → (a ≡ true) ⊎ (b ≡ true)
or_cases true b e = inl refl
or_cases false b e = inr e

module _ (w : WorldState) (points : List ℕ) (var : ℕ) (shapes : List ℕ) (i d x : ℕ) (l : i < length shapes) (e : get_or shapes i d ≡ x) (set : Members) (a : AreSeen w points var (take i shapes) set) where
  pub with_seen : IsSeenAtOne w.rows.graph w.solver.budget points (look (goal_of var x)) → (new : Members) → new ≡ record set { members = finite.insert set.members x } → AreSeen w points var (take (i + 1) shapes) new
  with_seen h new grown =
      let by : (shape : ℕ) → finite.contains new.members shape ≡ (eq_by_cmp nat_cmp shape x || finite.contains set.members shape) =
      λ shape. ap (λ (m : Members). finite.contains m.members shape) grown ∙ contains-insert nat_cmp_total set.members x shape in
      record {
        into = λ shape t. elim (or_cases (eq_by_cmp nat_cmp shape x) (finite.contains set.members shape) (sym (by shape) ∙ t)) [
          | inl f ↦ (next_here shapes i d x l e shape (same_line shape x f), subst (λ s. IsSeenAtOne w.rows.graph w.solver.budget points (look (goal_of var s))) (sym (same_line shape x f)) h)
          | inr f ↦ (next_old shapes i d x l e shape (a.into shape f).0, (a.into shape f).1)
        ];
        from = λ shape c g. by shape ∙ elim (next_from shapes i d x l e shape c) [
          | inl k ↦ or_right (eq_by_cmp nat_cmp shape x) (finite.contains set.members shape) (a.from shape k g)
          | inr f ↦ or_left (eq_by_cmp nat_cmp shape x) (finite.contains set.members shape) (subst (λ s. eq_by_cmp nat_cmp s x ≡ true) (sym f) (same_itself x))
        ];
      }

  pub without_seen : (IsSeenAtOne w.rows.graph w.solver.budget points (look (goal_of var x)) → ⊥) → AreSeen w points var (take (i + 1) shapes) set
  without_seen deny =
      record {
        into = λ shape t. (next_old shapes i d x l e shape (a.into shape t).0, (a.into shape t).1);
        from = λ shape c g. elim (next_from shapes i d x l e shape c) [
          | inl k ↦ a.from shape k g
          | inr f ↦ absurd (deny (subst (λ s. IsSeenAtOne w.rows.graph w.solver.budget points (look (goal_of var s))) f g))
        ];
      }

pub all_seen : (w : WorldState) (points : List ℕ) (var : ℕ) (shapes : List ℕ) (n : ℕ) (set : Members) → length shapes ≤ n → ((shape : ℕ) → Contains shapes shape ↔ IsGiven w.rows.graph var shape) → AreSeen w points var (take n shapes) set →
    (shape : ℕ) → (finite.contains set.members shape ≡ true) ↔ IsSeenAt w.rows.graph w.solver.budget points var shape
all_seen w points var shapes n set l given a shape =
    let all : take n shapes ≡ shapes = take_all n shapes l in (
      λ t. record { given = (given shape).0 (subst (λ ss. Contains ss shape) all (a.into shape t).0); at_one = (a.into shape t).1 },
      λ h. a.from shape (subst (λ ss. Contains ss shape) (sym all) ((given shape).1 h.given)) h.at_one,
    )

-- ---- in a world in which nothing is another but what is remembered

pub not_true : (b : Bool) → b ≡ false → IsTrue b → ⊥
not_true true e t = absurd (cc)
not_true false e t = absurd (cc)

pub solved_further : (a b c : WorldState) → OnlySolved a b → OnlySolved b c → OnlySolved a c
solved_further a b c p q = record { rows = q.rows ∙ p.rows; budget = q.budget ∙ p.budget; library = q.library ∙ p.library }

pub given_as : (w v : WorldState) → OnlySolved w v → (var shape : ℕ) → IsGiven w.rows.graph var shape → IsGiven v.rows.graph var shape
given_as w v o var shape g = subst (λ (r : WorldRows). IsGiven r.graph var shape) (sym o.rows) g

pub seen_at_one_as : (w v : WorldState) → OnlySolved w v → (points : List ℕ) (goals : Memory ℕ ℕ) → IsSeenAtOne v.rows.graph v.solver.budget points goals ↔ IsSeenAtOne w.rows.graph w.solver.budget points goals
seen_at_one_as w v o points goals = (
  λ h. record { point = h.point; is_point = h.is_point; seen = (seen_as w v o h.point goals).0 h.seen },
  λ h. record { point = h.point; is_point = h.is_point; seen = (seen_as w v o h.point goals).1 h.seen },
)

-- seen nowhere, where all points are those so far
pub unseen_everywhere : (w : WorldState) (points : List ℕ) (n : ℕ) (goals : Memory ℕ ℕ) → length points ≤ n → IsUnseen w (take n points) goals → IsSeenAtOne w.rows.graph w.solver.budget points goals → ⊥
unseen_everywhere w points n goals l u h = u.at h.point (subst (λ ps. Contains ps h.point) (sym (take_all n points l)) h.is_point) h.seen

-- a shape that is given is there
pub shape_below : (g : GraphTables) → IsValid g → (var shape : ℕ) → IsGiven g var shape → shape < length g.truths
shape_below g valid var shape h = subst (λ s. s < length g.truths) h.shape_is (valid.facts h.point h.fact h.is).shape

-- ---- the set of a global's shapes

module _ (w : WorldState) (points : List ℕ) (name var : ℕ) (spot : slice_get w.rows.variables var ≡ Some (Global name)) where
  pub shapes_of_global : (set : finite.FinSet nat_cmp) → ((shape : ℕ) → (finite.contains set shape ≡ true) ↔ IsSeenAt w.rows.graph w.solver.budget points var shape) →
      HaveOneNumber w.rows.variables → (shape : ℕ) → (finite.contains set shape ≡ true) ↔ HasShape w points name shape
  shapes_of_global set seen once shape = (
    λ t. record { var = var; number_is = spot; seen = (seen shape).0 t },
    λ h. (seen shape).1 (subst (λ v. IsSeenAt w.rows.graph w.solver.budget points v shape) (once h.var var (Global name) h.number_is spot) h.seen),
  )

pub no_shapes_of_global : (w : WorldState) (points : List ℕ) (name : ℕ) (set : finite.FinSet nat_cmp) → set ≡ finite.empty → (Contains w.rows.variables (Global name) → ⊥) →
    (shape : ℕ) → (finite.contains set shape ≡ true) ↔ HasShape w points name shape
no_shapes_of_global w points name set e none shape = (
  λ t. let g : finite.contains set shape ≡ false = ap (λ m. finite.contains m shape) e ∙ contains-empty nat_cmp shape in let h : true ≡ false = sym t ∙ g in absurd (true≢false h),
  λ h. absurd (none (got w.rows.variables h.var (Global name) h.number_is)),
)
