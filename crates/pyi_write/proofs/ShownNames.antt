-- The names that are shown are those that no function has, as a stable sort leaves them.
use Rattle.std.proofs.Common.{◌≡◌, ℕ, ◌+◌, ◌<◌, Bool, true, false, not, ◌||◌, cond, Bor, List, [], ◌∷◌, ◌++◌, length, get_or, drop, map, filter, append_assoc, refl, sym, ap, ◌∙◌}
use Rattle.std.proofs.lemmas.List.{drop_more, map-append}
use Rattle.std.proofs.lemmas.Cmp.{nat_list_cmp_total}
use Rattle.std.proofs.lemmas.Fn.{always_returns_same}
use Rattle.std.proofs.lemmas.List.Sorted.{ranks_by}
use Rattle.std.specs.Cmp.Lexicographic.{slice_cmp, nat_list_eq_equiv}
use Rattle.std.specs.Fn.{Mut, Called}
use Rattle.std.specs.List.Sorted.{IsSortedByClosure, IsStableByClosure}
use Rattle.std.specs.Ordering.{nat_cmp, is_lt}
use Rattle.std.specs.Str.{bytes_eq}
use Rattle.std.specs.declared.cmp.Ordering.{Ordering}
use Rattle.type_terms.specs.Stubs.{Name, Fun, name_view, fun_view}
use Rattle.type_terms.specs.declared.stub.StubFun.{StubFun}
use Rattle.type_terms.specs.declared.stub.StubName.{StubName}
use Rattle.pyi_write.specs.Orders.{is_before, is_fun, with_name, shown}
use Rattle.pyi_write.proofs.Rising.{inserted, inserted_map, sorted_is}

abbrev pub by_name : Name → Name → Bool
by_name m n = is_before m.name n.name

abbrev pub view : Bor StubName → Name
view n = name_view n.now

shown_by_name : (ns : List Name) → shown [] ns ≡ inserted by_name ns
shown_by_name [] = refl
shown_by_name (n ∷ ns) = ap (with_name n) (shown_by_name ns)

-- a name that a function has may as well be left out before
pub shown_kept : (fs : List Fun) (ns : List Name) → shown [] (filter (λ (n : Name). not (is_fun fs n.name)) ns) ≡ shown fs ns
shown_kept fs [] = refl
shown_kept fs (n ∷ ns) = by (is_fun fs n.name) (shown_kept fs ns)
  where
    by : (b : Bool) → shown [] (filter (λ (m : Name). not (is_fun fs m.name)) ns) ≡ shown fs ns → shown [] (cond (not b) (n ∷ filter (λ (m : Name). not (is_fun fs m.name)) ns) (filter (λ (m : Name). not (is_fun fs m.name)) ns)) ≡ cond b (shown fs ns) (with_name n (shown fs ns))
    by true is = is
    by false is = ap (with_name n) is

-- from the clauses `sorted` and `stable` of `sort_by`, where each call compares the texts of the two names
pub shown_from_sort_by : {F : Type 0} {g : Mut F (Bor (Bor StubName) × (Bor (Bor StubName) × Unit {0})) Ordering} {f : F} (xs ys : List (Bor StubName))
    → IsSortedByClosure g f ys → IsStableByClosure g f xs ys
    → ((a : Bor (Bor StubName) × (Bor (Bor StubName) × Unit {0})) (r : Ordering) (f' : F) → Called g f a r f' → (r ≡ slice_cmp nat_cmp a.0.now.now.name a.1.0.now.now.name) × (f' ≡ f)) → map view ys ≡ shown [] (map view xs)
shown_from_sort_by {g = g} {f = f} xs ys sorted stable h =
    let lt : Bor StubName → Bor StubName → Bool = λ a b. by_name (view a) (view b) in
    let ranks = ranks_by nat_list_cmp_total (λ (n : Bor StubName). n.now.name) in
    let compares = always_returns_same g (λ a r. is_lt r ≡ lt a.0.now a.1.0.now) f (λ a r f' k. (ap is_lt (h a r f' k).0, (h a r f' k).1)) in
    ap (map view) (sorted_is lt ranks xs ys (sorted lt ranks compares) (stable lt ranks compares))
    ∙ inserted_map view by_name xs
    ∙ sym (shown_by_name (map view xs))

-- one more function's name among those that are taken
pub one_more_taken : (name text : List ℕ) (rest c c' all : Bool) → c' ≡ cond (bytes_eq text name) true c → ((bytes_eq name text || rest) || c) ≡ all → (rest || c') ≡ all
one_more_taken name text rest c c' all new was = ap (λ b. rest || b) new ∙ by (bytes_eq text name) rest ∙ ap (λ b. (b || rest) || c) (nat_list_eq_equiv.symm text name) ∙ was
  where
    by : (b r : Bool) → (r || cond b true c) ≡ ((b || r) || c)
    by true true = refl
    by true false = refl
    by false r = refl

pub fun_step : (funs : List StubFun) (i : ℕ) (fun : StubFun) (name text : List ℕ) (c c' : Bool) → i < length funs → fun ≡ get_or funs i fun → text ≡ fun.name → c' ≡ cond (bytes_eq text name) true c
    → (is_fun (map fun_view (drop i funs)) name || c) ≡ is_fun (map fun_view funs) name → (is_fun (map fun_view (drop (i + 1) funs)) name || c') ≡ is_fun (map fun_view funs) name
fun_step funs i fun name text c c' within is bytes new was =
    let list : drop i funs ≡ fun ∷ drop (i + 1) funs = drop_more funs i fun within ∙ ap (λ f. f ∷ drop (i + 1) funs) (sym is) in
    let front : is_fun (map fun_view (drop i funs)) name ≡ (bytes_eq name fun.name || is_fun (map fun_view (drop (i + 1) funs)) name) = ap (λ (fs : List StubFun). is_fun (map fun_view fs) name) list in
    one_more_taken name fun.name (is_fun (map fun_view (drop (i + 1) funs)) name) c c' (is_fun (map fun_view funs) name) (new ∙ ap (λ t. cond (bytes_eq t name) true c) bytes) (ap (λ b. b || c) (sym front) ∙ was)

-- ---- one more name, which a function has or has not

module _ (fs : List Fun) where
  abbrev pub without : List StubName → List Name
  without names = filter (λ (n : Name). not (is_fun fs n.name)) (map name_view names)

  front_of : (names : List StubName) (i : ℕ) (name : StubName) (b : Bool) → i < length names → name ≡ get_or names i name → is_fun fs name.name ≡ b → without (drop i names) ≡ cond (not b) (name_view name ∷ without (drop (i + 1) names)) (without (drop (i + 1) names))
  front_of names i name b within is told =
      ap without (drop_more names i name within ∙ ap (λ n. n ∷ drop (i + 1) names) (sym is))
      ∙ ap (λ t. cond (not t) (name_view name ∷ without (drop (i + 1) names)) (without (drop (i + 1) names))) told

  pub kept_step : (kept more : List (Bor StubName)) (names : List StubName) (i : ℕ) (name : Bor StubName) → i < length names → name.now ≡ get_or names i name.now → is_fun fs name.now.name ≡ false → more ≡ kept ++ name ∷ []
      → map view kept ++ without (drop i names) ≡ without names → map view more ++ without (drop (i + 1) names) ≡ without names
  kept_step kept more names i name within is told pushed was =
      ap (λ ks. map view ks ++ without (drop (i + 1) names)) pushed
      ∙ ap (λ ns. ns ++ without (drop (i + 1) names)) (map-append view kept (name ∷ []))
      ∙ append_assoc (map view kept) (view name ∷ []) (without (drop (i + 1) names))
      ∙ ap (λ ns. map view kept ++ ns) (sym (front_of names i name.now false within is told))
      ∙ was

  pub passed_step : (kept more : List (Bor StubName)) (names : List StubName) (i : ℕ) (name : StubName) → i < length names → name ≡ get_or names i name → is_fun fs name.name ≡ true → more ≡ kept
      → map view kept ++ without (drop i names) ≡ without names → map view more ++ without (drop (i + 1) names) ≡ without names
  passed_step kept more names i name within is told same was =
      ap (λ ks. map view ks ++ without (drop (i + 1) names)) same ∙ ap (λ ns. map view kept ++ ns) (sym (front_of names i name true within is told)) ∙ was
