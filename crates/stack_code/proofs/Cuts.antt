-- Runs of code that grow by one instruction after another.
use Rattle.std.proofs.Common.{◌≡◌, ℕ, suc, zero, ◌+◌, ◌<◌, Bool, true, false, ◌||◌, nat_eq, if◌then◌else◌, cond, List, [], ◌∷◌, ◌++◌, drop, length, get_or, slice_get, append-nil, Some, refl, sym, ap, subst, ◌∙◌, arith, add-one}
use Rattle.std.specs.List.{filter}
use Rattle.std.proofs.Math.Bool.{or_assoc}
use Rattle.std.proofs.lemmas.List.{drop_more, get_or_past}
use Rattle.std.proofs.lemmas.List.Elements.{filter-append}
use Rattle.std.proofs.lemmas.List.Folds.{list_any-append}
use Rattle.stack_code.specs.declared.code.Code.{Code}
use Rattle.stack_code.specs.declared.code.Range.{Range}
use Rattle.stack_code.specs.declared.op.Op.{Op}
use Rattle.stack_code.specs.Blocks.{leads, entries, has_place, begins_run, ends_at, ends_run, below, runs_between, blocks_of}

-- ---- places that are entered

pub entries_step : (ranges : List Range) (ops : List Op) (i : ℕ) (op : Op) (p : ℕ) (old new : Bool) → i < length ops → op ≡ get_or ops i op → new ≡ (old || has_place (leads ranges i op) p)
    → (old || has_place (entries ranges i (drop i ops)) p) ≡ has_place (entries ranges 0 ops) p → (new || has_place (entries ranges (i + 1) (drop (i + 1) ops)) p) ≡ has_place (entries ranges 0 ops) p
entries_step ranges ops i op p old new l is marked before =
    let rest : List Op = drop (i + 1) ops in
    let more : drop i ops ≡ op ∷ rest = drop_more ops i op l ∙ ap (λ x. x ∷ rest) (sym is) in
    let next : i + 1 ≡ suc i = omega arith in
    ap (λ b. b || has_place (entries ranges (i + 1) rest) p) marked
    ∙ ap (λ k. (old || has_place (leads ranges i op) p) || has_place (entries ranges k rest) p) next
    ∙ or_assoc old (has_place (leads ranges i op) p) (has_place (entries ranges (suc i) rest) p)
    ∙ ap (λ b. old || b) (sym (list_any-append (nat_eq p) (leads ranges i op) (entries ranges (suc i) rest)))
    ∙ ap (λ xs. old || has_place (entries ranges i xs) p) (sym more)
    ∙ before

-- ---- runs

-- one more place at which a run begins
runs_push : (first : ℕ) (firsts : List ℕ) (next end : ℕ) → runs_between ((first ∷ firsts) ++ next ∷ []) end ≡ runs_between (first ∷ firsts) next ++ (next, end) ∷ []
runs_push first [] next end = refl
runs_push first (second ∷ firsts) next end = ap (λ rs. (first, second) ∷ rs) (runs_push second firsts next end)

-- the places at which runs begin are those before and this one, or those before
firsts_more : (code : Code) (n : ℕ) (b : Bool) → begins_run code n ≡ b → filter (begins_run code) (below (suc n)) ≡ filter (begins_run code) (below n) ++ (if b then n ∷ [] else [])
firsts_more code n true e = filter-append (begins_run code) (below n) (n ∷ []) ∙ ap (λ b. filter (begins_run code) (below n) ++ cond b (n ∷ []) []) e
firsts_more code n false e = filter-append (begins_run code) (below n) (n ∷ []) ∙ ap (λ b. filter (begins_run code) (below n) ++ cond b (n ∷ []) []) e

-- the runs among the first places, of which there are some, where the last is yet to end
pub record Cut (code : Code) (places : ℕ) (runs : List (ℕ × ℕ)) (first : ℕ) : Type 0 where
  pub begun : ℕ
  pub others : List ℕ
  pub firsts : filter (begins_run code) (below places) ≡ begun ∷ others
  pub cut : (end : ℕ) → runs_between (begun ∷ others) end ≡ runs ++ (first, end) ∷ []

pub cut_start : (code : Code) → Cut code 1 [] 0
cut_start code = record { begun = 0; others = []; firsts = refl; cut = λ end. refl }

-- a run ends before the next place
pub cut_there : (code : Code) (place : ℕ) (runs : List (ℕ × ℕ)) (first : ℕ) → begins_run code place ≡ true → Cut code place runs first → Cut code (suc place) (runs ++ (first, place) ∷ []) place
cut_there code place runs first e c =
    record {
      begun = c.begun;
      others = c.others ++ place ∷ [];
      firsts = firsts_more code place true e ∙ ap (λ xs. xs ++ place ∷ []) c.firsts;
      cut = λ end. runs_push c.begun c.others place end ∙ ap (λ rs. rs ++ (place, end) ∷ []) (c.cut place);
    }

pub cut_not : (code : Code) (place : ℕ) (runs : List (ℕ × ℕ)) (first : ℕ) → begins_run code place ≡ false → Cut code place runs first → Cut code (suc place) runs first
cut_not code place runs first e c =
    record { begun = c.begun; others = c.others; firsts = firsts_more code place false e ∙ ap (λ xs. xs ++ []) c.firsts ∙ ap (λ xs. c.begun ∷ xs) (append-nil c.others); cut = c.cut }

pub cut_end : (code : Code) (runs : List (ℕ × ℕ)) (first : ℕ) → Cut code (length code.ops) runs first → blocks_of code ≡ runs ++ (first, length code.ops) ∷ []
cut_end code runs first c = ap (λ xs. runs_between xs (length code.ops)) c.firsts ∙ c.cut (length code.ops)

-- ---- a round of the cut

-- after a round: the runs so far, or all of them at the end
abbrev pub IsCut : Code → ℕ → List (ℕ × ℕ) → ℕ → Type 0
IsCut code places runs first = (places < length code.ops → Cut code (places + 1) runs first) × (places ≡ length code.ops → runs ≡ blocks_of code)

-- for each place it is told whether it is entered
abbrev pub IsToldOf : Code → List Bool → Type 0
IsToldOf code entered = (p : ℕ) → p < length code.ops → get_or entered p false ≡ has_place (entries code.ranges 0 code.ops) p

-- whether a run ends behind an instruction: it ends it, or the next place is entered
stops_is : (code : Code) (entered : List Bool) (place : ℕ) (op : Op) → length entered ≡ length code.ops → IsToldOf code entered → slice_get code.ops place ≡ Some op → suc place < length code.ops
    → begins_run code (suc place) ≡ (get_or entered (suc place) true || ends_run code.ranges place op)
stops_is code entered place op all told stands l =
    let same : get_or entered (suc place) false ≡ get_or entered (suc place) true = get_or_inside entered (suc place) (omega (arith, l, all)) in
    ap (λ b. b || ends_at code.ranges place (slice_get code.ops place)) (sym (told (suc place) l) ∙ same) ∙ ap (λ o. get_or entered (suc place) true || ends_at code.ranges place o) stands
  where
    get_or_inside : (xs : List Bool) (i : ℕ) → i < length xs → get_or xs i false ≡ get_or xs i true
    get_or_inside [] i l = absurd (omega (arith, l))
    get_or_inside (x ∷ xs) zero l = refl
    get_or_inside (x ∷ xs) (suc i) l = get_or_inside xs i (omega (arith, l))

pub cut_stops : (code : Code) (entered : List Bool) (place : ℕ) (op : Op) (runs : List (ℕ × ℕ)) (first : ℕ) → length entered ≡ length code.ops → IsToldOf code entered → slice_get code.ops place ≡ Some op
    → (get_or entered (place + 1) true || ends_run code.ranges place op) ≡ true → Cut code (place + 1) runs first → IsCut code (place + 1) (runs ++ (first, place + 1) ∷ []) (place + 1)
cut_stops code entered place op runs first all told stands stops before = rw add-one (going, done)
  where
    cut : Cut code (suc place) runs first
    cut = rw add-one at before

    going : suc place < length code.ops → Cut code (suc place + 1) (runs ++ (first, suc place) ∷ []) (suc place)
    going l = rw add-one (cut_there code (suc place) runs first (stops_is code entered place op all told stands l ∙ (rw add-one at stops)) cut)

    done : suc place ≡ length code.ops → runs ++ (first, suc place) ∷ [] ≡ blocks_of code
    done e = ap (λ n. runs ++ (first, n) ∷ []) e ∙ sym (cut_end code runs first (subst (λ n. Cut code n runs first) e cut))

pub cut_goes : (code : Code) (entered : List Bool) (place : ℕ) (op : Op) (runs : List (ℕ × ℕ)) (first : ℕ) → length entered ≡ length code.ops → IsToldOf code entered → slice_get code.ops place ≡ Some op
    → (get_or entered (place + 1) true || ends_run code.ranges place op) ≡ false → Cut code (place + 1) runs first → IsCut code (place + 1) runs first
cut_goes code entered place op runs first all told stands stops before = rw add-one (going, done)
  where
    cut : Cut code (suc place) runs first
    cut = rw add-one at before

    goes : (get_or entered (suc place) true || ends_run code.ranges place op) ≡ false
    goes = rw add-one at stops

    going : suc place < length code.ops → Cut code (suc place + 1) runs first
    going l = rw add-one (cut_not code (suc place) runs first (stops_is code entered place op all told stands l ∙ goes) cut)

    done : suc place ≡ length code.ops → runs ≡ blocks_of code
    done e =
        let past : get_or entered (suc place) true ≡ true = get_or_past entered (suc place) true (omega (arith, e, all)) in
        let z : true ≡ false = sym (ap (λ b. b || ends_run code.ranges place op) past) ∙ goes in
        cc
