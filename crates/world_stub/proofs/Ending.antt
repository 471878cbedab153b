-- The points where the module's code ends.
use Rattle.std.proofs.Common.{◌≡◌, ◌↔◌, ◌⊎◌, ◌+◌, ◌<◌, ◌≤◌, ℕ, suc, Bool, true, false, IsTrue, Option, Some, None, List, [], ◌∷◌, ◌++◌, length, slice_get, inl, inr, refl, sym, ap, subst, ◌∙◌, arith}
use Rattle.std.specs.List.{Contains}
use Rattle.std.proofs.lemmas.Bool.{cases_lt}
use Rattle.graph_walks.proofs.Lists.{empty}
use Rattle.stack_code.specs.declared.op.Op.TheVariants as op
use Rattle.program_tables.specs.Programs.{Compiled}
use Rattle.world_rules.specs.Places.{Context, main, entry, called, fun_of}
use Rattle.world_tables.proofs.Items.{below}
use Rattle.world_tables.specs.declared.spot.PointSpot.{PointSpot}
use Rattle.world_tables.specs.Rows.{WorldRows, contexts_of, the_context, IsKept}
use Rattle.context_code.proofs.Contexts.{fun_of_row}
use Rattle.abstract_vm.specs.declared.spot.Spot.{Spot}
use Rattle.abstract_vm.specs.Spots.{IsSpotOf}
use Rattle.world_stub.specs.Ends.{IsEnd}
use Rattle.world_stub.proofs.Lists.{with_last, before_last, at_last}

only_main : (c : Context) → fun_of c ≡ None → c ≡ main
only_main main e = refl
only_main (entry f) e = cc
only_main (called c place depth f) e = cc

module _ (compiled : Compiled) (rows : WorldRows) (kept : IsKept rows) (id : ℕ) (spot : Spot) (is : IsSpotOf rows id spot) where
  fun_is : fun_of (the_context (contexts_of rows) is.at.context) ≡ spot.fun
  fun_is = fun_of_row rows kept is.at.context is.row is.is_context ∙ ap (λ (s : Spot). s.fun) (sym is.told)

  place_is : spot.place ≡ is.at.place
  place_is = ap (λ (s : Spot). s.place) is.told

  pub end_is : ((spot.fun ≡ None) × (slice_get compiled.program.body.ops spot.place ≡ Some op.End)) ↔ IsEnd compiled rows id
  end_is = (
    λ h. record {
      spot = is.at;
      stands = is.stands;
      in_main = only_main (the_context (contexts_of rows) is.at.context) (fun_is ∙ h.0);
      ends = subst (λ p. slice_get compiled.program.body.ops p ≡ Some op.End) place_is h.1;
    },
    λ e.
        let both : Some is.at ≡ Some e.spot = sym is.stands ∙ e.stands in
        let same : is.at ≡ e.spot = cc in (
          sym fun_is ∙ ap (λ (s : PointSpot). fun_of (the_context (contexts_of rows) s.context)) same ∙ ap fun_of e.in_main,
          subst (λ p. slice_get compiled.program.body.ops p ≡ Some op.End) (sym (place_is ∙ ap (λ (s : PointSpot). s.place) same)) e.ends,
        ),
  )

pub no_end : (compiled : Compiled) (rows : WorldRows) (id : ℕ) → slice_get rows.points id ≡ None → IsEnd compiled rows id → ⊥
no_end compiled rows id none e = let both : None ≡ Some e.spot = sym none ∙ e.stands in cc

-- the ends whose numbers are below this
pub record AreEndsBelow (compiled : Compiled) (rows : WorldRows) (count : ℕ) (ends : List ℕ) : Type 0 where
  pub into : (id : ℕ) → Contains ends id → (id < count) × IsEnd compiled rows id
  pub from : (id : ℕ) → id < count → IsEnd compiled rows id → Contains ends id

pub no_ends : (compiled : Compiled) (rows : WorldRows) (ends : List ℕ) → ends ≡ [] → AreEndsBelow compiled rows 0 ends
no_ends compiled rows ends e = record { into = λ id c. empty id (subst (λ xs. Contains xs id) e c); from = λ id l. absurd (omega (arith, l)) }

module _ (compiled : Compiled) (rows : WorldRows) (n point : ℕ) (is : point ≡ n) (ends : List ℕ) (a : AreEndsBelow compiled rows n ends) where
  into_old : (id : ℕ) → Contains ends id → (id < n + 1) × IsEnd compiled rows id
  into_old id c = let p : (id < n) × IsEnd compiled rows id = a.into id c in let l : id < n = p.0 in (omega (arith, l), p.1)

  split : (id : ℕ) → id < n + 1 → (id < n) ⊎ (id ≡ n)
  split id l = elim (cases_lt id n) [ inl m ↦ inl m | inr m ↦ inr (omega (arith, l, m)) ]

  pub with_end : IsEnd compiled rows point → (new : List ℕ) → new ≡ ends ++ point ∷ [] → AreEndsBelow compiled rows (n + 1) new
  with_end e new grown =
      record {
        into = λ id c. elim (with_last ends point id (subst (λ xs. Contains xs id) grown c)) [ inl d ↦ into_old id d | inr f ↦ (let g : id ≡ n = f ∙ is in omega (arith, g), subst (IsEnd compiled rows) (sym f) e) ];
        from = λ id l h. subst (λ xs. Contains xs id) (sym grown) (elim (split id l) [ inl m ↦ before_last ends point id (a.from id m h) | inr f ↦ at_last ends point id (f ∙ sym is) ]);
      }

  pub without_end : (IsEnd compiled rows point → ⊥) → AreEndsBelow compiled rows (n + 1) ends
  without_end deny =
      record {
        into = into_old;
        from = λ id l h. elim (split id l) [ inl m ↦ a.from id m h | inr f ↦ absurd (deny (subst (IsEnd compiled rows) (f ∙ sym is) h)) ];
      }

pub all_ends : (compiled : Compiled) (rows : WorldRows) (count : ℕ) (ends : List ℕ) → AreEndsBelow compiled rows count ends → length rows.points ≤ count → (id : ℕ) → Contains ends id ↔ IsEnd compiled rows id
all_ends compiled rows count ends a l id = (λ c. (a.into id c).1, λ e. let m : id < length rows.points = below rows.points id e.spot e.stands in a.from id (omega (arith, l, m)) e)
