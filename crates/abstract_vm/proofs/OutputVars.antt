-- The numbers of the variables that the output asks for.
use Rattle.std.proofs.Common.{◌≡◌, ◌↔◌, ◌⊎◌, inl, inr, ℕ, suc, zero, ◌+◌, ◌<◌, ◌≤◌, Option, Some, None, List, [], ◌∷◌, ◌++◌, length, map, slice_get, refl, sym, ap, subst, ◌∙◌, arith}
use Rattle.std.specs.List.{Contains}
use Rattle.std.proofs.lemmas.List.Elements.{Contains-append_cases, Contains-append_left, Contains-append_right}
use Rattle.graph_walks.proofs.Lists.{empty, first, only, got}
use Rattle.stack_code.specs.declared.op.Op.{Op}
use Rattle.stack_code.specs.declared.op.Op.TheVariants as op
use Rattle.world_rules.specs.Places.{Context, main, entry, called, Variable, slot, global, fun_of, op_at, below_top}
use Rattle.world_rules.specs.Sources.{Source}
use Rattle.world_tables.specs.declared.spot.PointSpot.{PointSpot}
use Rattle.world_tables.specs.declared.spot.VariableSpot.{VariableSpot}
use Rattle.world_tables.specs.declared.spot.VariableSpot.TheVariants.{Local, Slot, Global}
use Rattle.world_tables.specs.Tables.{HaveOneNumber}
use Rattle.world_tables.specs.Rows.{contexts_of, variable_of, IsSpotThere, IsKept}
use Rattle.world_tables.proofs.Items.{below}
use Rattle.world_queries.specs.Queries.{IsOutput, at_end, at_return}
use Rattle.abstract_vm.specs.declared.judging.Judging.{Judging}
use Rattle.abstract_vm.specs.Asking.{IsAsked, IsGlobalNumber, global_number, IsOutputNumber, context_at}
use Rattle.abstract_vm.proofs.Standing.{map_get}
use Rattle.abstract_vm.proofs.Missing.{one_number, same_spot}

-- ---- what a number gives

record Got {X Y : Type 0} (f : X → Y) (xs : List X) (k : ℕ) (y : Y) : Type 0 where
  item : X
  is : slice_get xs k ≡ Some item
  same : f item ≡ y

map_got : {X Y : Type 0} (f : X → Y) (xs : List X) (k : ℕ) (y : Y) → slice_get (map f xs) k ≡ Some y → Got f xs k y
map_got f [] k y e = cc
map_got f (x ∷ xs) zero y e = let same : f x ≡ y = cc in record { item = x; is = refl; same = same }
map_got f (x ∷ xs) (suc k) y e = let g : Got f xs k y = map_got f xs k y e in record { item = g.item; is = g.is; same = g.same }

pub none_from : {X : Type 0} (xs : List X) (n : ℕ) → slice_get xs n ≡ None → length xs ≤ n
none_from [] n e = omega arith
none_from (x ∷ xs) zero e = cc
none_from (x ∷ xs) (suc n) e = let l : length xs ≤ n = none_from xs n e in omega (arith, l)

-- ---- one variable

pub one_there : (contexts : List Context) (spots : List VariableSpot) → HaveOneNumber (map (variable_of contexts) spots) → (k : ℕ) (spot : VariableSpot) → slice_get spots k ≡ Some spot →
    (vars : List ℕ) → vars ≡ k ∷ [] → (var : ℕ) → Contains vars var ↔ (slice_get spots var ≡ Some spot)
one_there contexts spots once k spot at vars is var = (to, from)
  where
    to : Contains vars var → slice_get spots var ≡ Some spot
    to c = subst (λ v. slice_get spots v ≡ Some spot) (sym (only k var (subst (λ vs. Contains vs var) is c))) at

    from : slice_get spots var ≡ Some spot → Contains vars var
    from h =
        let same : k ≡ var = once k var (variable_of contexts spot) (map_get (variable_of contexts) spots k spot at) (map_get (variable_of contexts) spots var spot h) in
        subst (λ vs. Contains vs var) (sym is) (subst (λ v. Contains (k ∷ []) v) same (first k []))

pub none_there : (spots : List VariableSpot) (spot : VariableSpot) → (Contains spots spot → ⊥) → (var : ℕ) → Contains [] var ↔ (slice_get spots var ≡ Some spot)
none_there spots spot missing var = (λ c. empty var c, λ h. absurd (missing (got spots var spot h)))

-- ---- globals

abbrev pub AreGlobalsBelow : List VariableSpot → ℕ → List ℕ → Type 0
AreGlobalsBelow spots n found = (var : ℕ) → Contains found var ↔ ((var < n) × IsGlobalNumber spots var)

pub no_globals : (spots : List VariableSpot) → AreGlobalsBelow spots 0 []
no_globals spots var = (λ c. empty var c, λ h. let l : var < 0 = h.0 in absurd (omega (arith, l)))

-- a number that is here, and its spot a global's
number_here : (n var : ℕ) (spot : VariableSpot) → Contains (global_number n spot) var → (var ≡ n) × (name : ℕ) × (spot ≡ Global name)
number_here n var (Global name) c = (only n var c, name, refl)
number_here n var (Local x i) c = empty var c
number_here n var (Slot x i) c = empty var c

here : (n : ℕ) (spot : VariableSpot) (name : ℕ) → spot ≡ Global name → Contains (global_number n spot) n
here n spot name e = subst (λ x. Contains (global_number n x) n) (sym e) (first n [])

below_or_here : (var n : ℕ) → var < suc n → (var < n) ⊎ (var ≡ n)
below_or_here zero zero l = inr refl
below_or_here zero (suc n) l = inl (omega arith)
below_or_here (suc var) zero l = absurd (omega (arith, l))
below_or_here (suc var) (suc n) l = elim (below_or_here var n (omega (arith, l))) [ inl k ↦ inl (omega (arith, k)) | inr e ↦ inr (ap suc e) ]

pub next_global : (spots : List VariableSpot) (n : ℕ) (spot : VariableSpot) → slice_get spots n ≡ Some spot → (found more : List ℕ) → more ≡ found ++ global_number n spot → AreGlobalsBelow spots n found → AreGlobalsBelow spots (n + 1) more
next_global spots n spot at found more is all var = (λ c. to (Contains-append_cases found (global_number n spot) var (subst (λ vs. Contains vs var) is c)), λ h. subst (λ vs. Contains vs var) (sym is) (from h))
  where
    to : Contains found var ⊎ Contains (global_number n spot) var → (var < n + 1) × IsGlobalNumber spots var
    to (inl c) = let h : (var < n) × IsGlobalNumber spots var = (all var).0 c in let l : var < n = h.0 in (omega (arith, l), h.1)
    to (inr c) =
        let h : (var ≡ n) × (name : ℕ) × (spot ≡ Global name) = number_here n var spot c in
        let e : var ≡ n = h.0 in
        (omega (arith, e), record { name = h.1; is = ap (slice_get spots) e ∙ at ∙ ap Some h.2 })

    from : (var < n + 1) × IsGlobalNumber spots var → Contains (found ++ global_number n spot) var
    from h = go (below_or_here var n l)
      where
        l : var < suc n
        l = let k : var < n + 1 = h.0 in omega (arith, k)

        go : (var < n) ⊎ (var ≡ n) → Contains (found ++ global_number n spot) var
        go (inl k) = Contains-append_left found (global_number n spot) var ((all var).1 (k, h.1))
        go (inr e) =
            let same : Some spot ≡ Some (Global h.1.name) = sym at ∙ ap (slice_get spots) (sym e) ∙ h.1.is in
            let global_is : spot ≡ Global h.1.name = cc in
            Contains-append_right found (global_number n spot) var (subst (λ v. Contains (global_number n spot) v) (sym e) (here n spot h.1.name global_is))

pub all_globals : (spots : List VariableSpot) (n : ℕ) (found : List ℕ) → length spots ≤ n → AreGlobalsBelow spots n found → (var : ℕ) → Contains found var ↔ IsGlobalNumber spots var
all_globals spots n found few all var =
    (λ c. ((all var).0 c).1, λ h. let l : var < length spots = below spots var (Global h.name) h.is in (all var).1 (omega (arith, l, few), h))

pub globals_end : (spots : List VariableSpot) (n : ℕ) (found : List ℕ) → slice_get spots n ≡ None → AreGlobalsBelow spots n found → (var : ℕ) → Contains found var ↔ IsGlobalNumber spots var
globals_end spots n found e all = all_globals spots n found (none_from spots n e) all

-- ---- the output

pub main_is : (c : Context) → fun_of c ≡ None → c ≡ main
main_is main e = refl
main_is (entry f) e = cc
main_is (called c place depth f) e = cc

data OutputCases (depth : ℕ) (c : Context) (o : Op) (x : Variable) : Type 0 where
  an_end : (n : ℕ) → c ≡ main → o ≡ op.End → x ≡ global n → OutputCases depth c o x
  a_return : o ≡ op.Return → x ≡ slot c (below_top depth 0) → OutputCases depth c o x

output_cases : (depth : ℕ) (c : Context) (o : Op) (x : Variable) → IsOutput depth c o x → OutputCases depth c o x
output_cases depth c o x (at_end n) = an_end n refl refl refl
output_cases depth c o x (at_return d) = a_return refl refl

global_spot : (contexts : List Context) (spot : VariableSpot) (n : ℕ) → variable_of contexts spot ≡ global n → spot ≡ Global n
global_spot contexts (Global m) n e = let same : m ≡ n = cc in ap Global same
global_spot contexts (Local c i) n e = cc
global_spot contexts (Slot c i) n e = cc

module _ (s : Source) (j : Judging) (budget : ℕ) (spot : PointSpot) (known : IsAsked s j budget spot) where
  abbrev contexts : List Context
  contexts = contexts_of j.tables.now

  abbrev spots : List VariableSpot
  spots = j.tables.now.variables

  abbrev c : Context
  c = context_at j spot

  abbrev the_op : Option Op
  the_op = op_at j.program.now.program c spot.place

  pub end_numbers : the_op ≡ Some op.End → (vars : List ℕ) → ((var : ℕ) → Contains vars var ↔ ((c ≡ main) × IsGlobalNumber spots var)) → (var : ℕ) → Contains vars var ↔ IsOutputNumber j spot var
  end_numbers is vars all var = (λ h. to ((all var).0 h), λ h. (all var).1 (from h (output_cases spot.depth c h.op h.variable h.is_output)))
    where
      to : (c ≡ main) × IsGlobalNumber spots var → IsOutputNumber j spot var
      to h =
          record {
            op = op.End;
            op_is = is;
            variable = global h.1.name;
            is_output = subst (λ b. IsOutput spot.depth b op.End (global h.1.name)) (sym h.0) (at_end h.1.name);
            number_is = map_get (variable_of contexts) spots var (Global h.1.name) h.1.is;
          }

      from : (h : IsOutputNumber j spot var) → OutputCases spot.depth c h.op h.variable → (c ≡ main) × IsGlobalNumber spots var
      from h (an_end n m e x) =
          let g : Got (variable_of contexts) spots var (global n) = map_got (variable_of contexts) spots var (global n) (h.number_is ∙ ap Some x) in
          (m, record { name = n; is = g.is ∙ ap Some (global_spot contexts g.item n g.same) })
      from h (a_return e x) = let clash : Some op.End ≡ Some op.Return = sym is ∙ h.op_is ∙ ap Some e in cc

  module _ (kept : IsKept j.tables.now) (top : VariableSpot) (top_is : variable_of contexts top ≡ slot c (below_top spot.depth 0)) (top_there : (count : ℕ) → spot.context < count → IsSpotThere top count) where
    pub return_numbers : the_op ≡ Some op.Return → (vars : List ℕ) → ((var : ℕ) → Contains vars var ↔ (slice_get spots var ≡ Some top)) → (var : ℕ) → Contains vars var ↔ IsOutputNumber j spot var
    return_numbers is vars all var = (λ h. to ((all var).0 h), λ h. (all var).1 (from h (output_cases spot.depth c h.op h.variable h.is_output)))
      where
        to : slice_get spots var ≡ Some top → IsOutputNumber j spot var
        to h =
            record {
              op = op.Return;
              op_is = is;
              variable = slot c (below_top spot.depth 0);
              is_output = at_return c;
              number_is = map_get (variable_of contexts) spots var top h ∙ ap Some top_is;
            }

        count : length contexts ≡ length j.tables.now.graph.flow.contexts
        count = known.tables.numbering.context_count

        context_there : spot.context < length contexts
        context_there = subst (λ n. spot.context < n) (sym count) (kept.points_there spot (got j.tables.now.points j.point spot known.stands))

        its_top : (item : VariableSpot) → Contains spots item → variable_of contexts item ≡ slot c (below_top spot.depth 0) → item ≡ top
        its_top item d e =
            same_spot contexts (one_number contexts known.tables.contexts_once) item top (subst (IsSpotThere item) (sym count) (kept.variables_there item d)) (top_there (length contexts) context_there) (e ∙ sym top_is)

        from : (h : IsOutputNumber j spot var) → OutputCases spot.depth c h.op h.variable → slice_get spots var ≡ Some top
        from h (an_end n m e x) = let clash : Some op.Return ≡ Some op.End = sym is ∙ h.op_is ∙ ap Some e in cc
        from h (a_return e x) =
            let g : Got (variable_of contexts) spots var (slot c (below_top spot.depth 0)) = map_got (variable_of contexts) spots var (slot c (below_top spot.depth 0)) (h.number_is ∙ ap Some x) in
            g.is ∙ ap Some (its_top g.item (got spots var g.item g.is) g.same)

  -- another instruction asks for nothing
  pub no_numbers : (the_op ≡ Some op.End → ⊥) → (the_op ≡ Some op.Return → ⊥) → (var : ℕ) → Contains [] var ↔ IsOutputNumber j spot var
  no_numbers not_end not_return var = (λ h. empty var h, λ h. absurd (never h (output_cases spot.depth c h.op h.variable h.is_output)))
    where
      never : (h : IsOutputNumber j spot var) → OutputCases spot.depth c h.op h.variable → ⊥
      never h (an_end n m e x) = not_end (h.op_is ∙ ap Some e)
      never h (a_return e x) = not_return (h.op_is ∙ ap Some e)
