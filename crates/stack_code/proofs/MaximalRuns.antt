-- The blocks of code are its maximal runs.
use Rattle.std.proofs.Common.{◌≡◌, ◌≢◌, ℕ, suc, zero, ◌+◌, ◌<◌, ◌≤◌, ◌↔◌, Bool, true, false, ◌||◌, nat_eq, Some, List, [], ◌∷◌, ◌++◌, length, get_or, slice_get, ◌⊎◌, inl, inr, refl, sym, ap, subst, ◌∙◌, arith}
use Rattle.std.specs.List.{Contains}
use Rattle.std.proofs.lemmas.Bool.{cases_eq, cases_lt}
use Rattle.std.proofs.lemmas.Bool.Decides.{nat_tests}
use Rattle.std.proofs.lemmas.Option.{slice_get-get_or}
use Rattle.std.proofs.lemmas.List.Elements.{Contains-push, Contains-push_cases, Contains-append_left}
use Rattle.std.proofs.lemmas.List.Folds.{list_any-append}
use Rattle.stack_code.specs.declared.code.Code.{Code}
use Rattle.stack_code.specs.declared.code.Range.{Range}
use Rattle.stack_code.specs.declared.op.Op.{Op}
use Rattle.std.specs.List.{filter}
use Rattle.stack_code.specs.declared.op.Op.TheVariants.{Pop}
use Rattle.stack_code.specs.Blocks.{leads, entries, has_place, begins_run, ends_at, ends_run, below, runs_between, blocks_of}
use Rattle.stack_code.specs.Runs.{IsRun, IsMaximalRun}
use Rattle.stack_code.proofs.Ways.{not_empty, first_in, later_in, in_cases}
use Rattle.stack_code.proofs.Cuts.{Cut, cut_start, cut_there, cut_not, cut_end}

-- ---- where instructions lead

or_cases : (a b : Bool) → (a || b) ≡ true → (a ≡ true) ⊎ (b ≡ true)
or_cases true b e = inl refl
or_cases false b e = inr e

or_none : (a b : Bool) → (a || b) ≡ false → (a ≡ false) × (b ≡ false)
or_none true b e = cc
or_none false b e = (refl, e)

or_left : (a b : Bool) → a ≡ true → (a || b) ≡ true
or_left a b e = ap (λ t. t || b) e

or_right : (a b : Bool) → b ≡ true → (a || b) ≡ true
or_right true b e = refl
or_right false b e = e

same_place : (p q : ℕ) → nat_eq p q ≡ true → q ≡ p
same_place p q e = grind (arith, nat_tests)

itself : (p : ℕ) → nat_eq p p ≡ true
itself p = grind (arith, nat_tests)

has_contains : (xs : List ℕ) (p : ℕ) → has_place xs p ≡ true → Contains xs p
has_contains [] p e = cc
has_contains (x ∷ xs) p e = go (or_cases (nat_eq p x) (has_place xs p) e) (has_contains xs p)
  where
    go : (nat_eq p x ≡ true) ⊎ (has_place xs p ≡ true) → (has_place xs p ≡ true → Contains xs p) → Contains (x ∷ xs) p
    go (inl f) more = subst (λ y. Contains (y ∷ xs) p) (sym (same_place p x f)) (first_in p xs)
    go (inr f) more = later_in x p xs (more f)

contains_has : (xs : List ℕ) (p : ℕ) → Contains xs p → has_place xs p ≡ true
contains_has [] p c = absurd (not_empty p c)
contains_has (x ∷ xs) p c = go (in_cases x p xs c) (contains_has xs p)
  where
    go : (x ≡ p) ⊎ Contains xs p → (Contains xs p → has_place xs p ≡ true) → has_place (x ∷ xs) p ≡ true
    go (inl e) more = or_left (nat_eq p x) (has_place xs p) (ap (nat_eq p) e ∙ itself p)
    go (inr d) more = or_right (nat_eq p x) (has_place xs p) (more d)

-- an instruction that leads there
record Enters (ranges : List Range) (base : ℕ) (ops : List Op) (place : ℕ) : Type 0 where
  from : ℕ
  op : Op
  stands : slice_get ops from ≡ Some op
  to : Contains (leads ranges (base + from) op) place

entered_from : (ranges : List Range) (base : ℕ) (ops : List Op) (place : ℕ) → has_place (entries ranges base ops) place ≡ true → Enters ranges base ops place
entered_from ranges base [] place e = cc
entered_from ranges base (op ∷ ops) place e =
    go (or_cases (has_place (leads ranges base op) place) (has_place (entries ranges (suc base) ops) place) (sym (list_any-append (nat_eq place) (leads ranges base op) (entries ranges (suc base) ops)) ∙ e)) (entered_from ranges (suc base) ops place)
  where
    go : (has_place (leads ranges base op) place ≡ true) ⊎ (has_place (entries ranges (suc base) ops) place ≡ true) → (has_place (entries ranges (suc base) ops) place ≡ true → Enters ranges (suc base) ops place) → Enters ranges base (op ∷ ops) place
    go (inl f) more = record { from = 0; op = op; stands = refl; to = subst (λ n. Contains (leads ranges n op) place) (omega arith) (has_contains (leads ranges base op) place f) }
    go (inr f) more =
        let m = more f in
        record { from = suc m.from; op = m.op; stands = m.stands; to = subst (λ n. Contains (leads ranges n m.op) place) (omega arith) m.to }

enters_there : (ranges : List Range) (base : ℕ) (ops : List Op) (from place : ℕ) (op : Op) → slice_get ops from ≡ Some op → Contains (leads ranges (base + from) op) place → has_place (entries ranges base ops) place ≡ true
enters_there ranges base [] from place op s c = cc
enters_there ranges base (x ∷ ops) zero place op s c =
    let same : x ≡ op = cc in
    list_any-append (nat_eq place) (leads ranges base x) (entries ranges (suc base) ops)
    ∙ or_left (has_place (leads ranges base x) place) (has_place (entries ranges (suc base) ops) place) (contains_has (leads ranges base x) place (subst (λ o. Contains (leads ranges base o) place) (sym same) (subst (λ n. Contains (leads ranges n op) place) (omega arith) c)))
enters_there ranges base (x ∷ ops) (suc from) place op s c =
    list_any-append (nat_eq place) (leads ranges base x) (entries ranges (suc base) ops)
    ∙ or_right (has_place (leads ranges base x) place) (has_place (entries ranges (suc base) ops) place) (enters_there ranges (suc base) ops from place op s (subst (λ n. Contains (leads ranges n op) place) (omega arith) c))

module _ (code : Code) where
  -- no run begins behind the first of these places
  NoneBetween : ℕ → ℕ → Type 0
  NoneBetween first past = (place : ℕ) → first < place → place < past → begins_run code place ≡ false

  begins_not : (first past : ℕ) → IsRun code first past → (place : ℕ) → first < place → place < past → begins_run code place ≡ false
  begins_not first past r zero l m = absurd (omega (arith, l))
  begins_not first past r (suc place) l m = both (has_place (entries code.ranges 0 code.ops) (suc place)) refl
    where
      op : Op
      op = get_or code.ops place Pop

      there : slice_get code.ops place ≡ Some op
      there = slice_get-get_or code.ops place Pop (omega (arith, m, r.within))

      ends : ends_at code.ranges place (slice_get code.ops place) ≡ false
      ends = ap (ends_at code.ranges place) there ∙ r.left place op there (omega (arith, l)) m

      both : (b : Bool) → has_place (entries code.ranges 0 code.ops) (suc place) ≡ b → begins_run code (suc place) ≡ false
      both true e =
          let x = entered_from code.ranges 0 code.ops (suc place) e in
          absurd (r.entered x.from (suc place) x.op x.stands (subst (λ n. Contains (leads code.ranges n x.op) (suc place)) (omega arith) x.to) l m)
      both false e = ap (λ t. t || ends_at code.ranges place (slice_get code.ops place)) e ∙ ends

  is_run : (first past : ℕ) → first < past → past ≤ length code.ops → ((place : ℕ) → first < place → place < past → begins_run code place ≡ false) → IsRun code first past
  is_run first past some within none = record { some = some; within = within; entered = λ from place op s c l m. enters from place op s c l m; left = λ place op s l m. leaves place op s l m }
    where
      enters : (from place : ℕ) (op : Op) → slice_get code.ops from ≡ Some op → Contains (leads code.ranges from op) place → first < place → place < past → ⊥
      enters from zero op s c l m = omega (arith, l)
      enters from (suc place) op s c l m =
          let no = (or_none (has_place (entries code.ranges 0 code.ops) (suc place)) (ends_at code.ranges place (slice_get code.ops place)) (none (suc place) l m)).0 in
          let yes = enters_there code.ranges 0 code.ops from (suc place) op s (subst (λ n. Contains (leads code.ranges n op) (suc place)) (omega arith) c) in
          let z : true ≡ false = sym yes ∙ no in
          cc

      leaves : (place : ℕ) (op : Op) → slice_get code.ops place ≡ Some op → first ≤ place → suc place < past → ends_run code.ranges place op ≡ false
      leaves place op s l m =
          let no = (or_none (has_place (entries code.ranges 0 code.ops) (suc place)) (ends_at code.ranges place (slice_get code.ops place)) (none (suc place) (omega (arith, l)) m)).1 in
          sym (ap (ends_at code.ranges place) s) ∙ no

  -- ---- what a block is

  record IsBlock (first past : ℕ) : Type 0 where
    some : first < past
    within : past ≤ length code.ops
    begins : begins_run code first ≡ true
    none : (place : ℕ) → first < place → place < past → begins_run code place ≡ false
    next : past < length code.ops → begins_run code past ≡ true

  block_maximal : (first past : ℕ) → IsBlock first past → IsMaximalRun code first past
  block_maximal first past b = record { run = is_run first past b.some b.within b.none; largest = λ other end l m r. (low other end l m r (cases_lt other first), high other end l m r (cases_lt past end)) }
    where
      low : (other end : ℕ) → other ≤ first → past ≤ end → IsRun code other end → (other < first) ⊎ (first ≤ other) → other ≡ first
      low other end l m r (inr k) = omega (arith, l, k)
      low other end l m r (inl k) =
          let z : true ≡ false = sym b.begins ∙ begins_not other end r first k (omega (arith, m, b.some)) in
          cc

      high : (other end : ℕ) → other ≤ first → past ≤ end → IsRun code other end → (past < end) ⊎ (end ≤ past) → end ≡ past
      high other end l m r (inr k) = omega (arith, m, k)
      high other end l m r (inl k) =
          let z : true ≡ false = sym (b.next (omega (arith, k, r.within))) ∙ begins_not other end r past (omega (arith, l, b.some)) k in
          cc

  maximal_block : (first past : ℕ) → IsMaximalRun code first past → IsBlock first past
  maximal_block first past m =
      record {
        some = m.run.some;
        within = m.run.within;
        begins = begins first refl (begins_run code first) refl;
        none = none;
        next = λ l. next l (begins_run code past) refl;
      }
    where
      none : (place : ℕ) → first < place → place < past → begins_run code place ≡ false
      none = begins_not first past m.run

      begins : (from : ℕ) → from ≡ first → (b : Bool) → begins_run code from ≡ b → begins_run code first ≡ true
      begins from e true f = ap (begins_run code) (sym e) ∙ f
      begins zero e false f = cc
      begins (suc from) e false f =
          let more : IsRun code from past = is_run from past (omega (arith, e, m.run.some)) m.run.within (λ place l k. one place l k (cases_eq place (suc from))) in
          let z = (m.largest from past (omega (arith, e)) (omega arith) more).0 in
          absurd (omega (arith, z, e))
        where
          one : (place : ℕ) → from < place → place < past → (place ≡ suc from) ⊎ (place ≢ suc from) → begins_run code place ≡ false
          one place l k (inl i) = ap (begins_run code) i ∙ f
          one place l k (inr n) = none place (omega (arith, l, n, e)) k

      next : past < length code.ops → (b : Bool) → begins_run code past ≡ b → begins_run code past ≡ true
      next l true f = f
      next l false f =
          let more : IsRun code first (suc past) = is_run first (suc past) (omega (arith, m.run.some)) (omega (arith, l)) (λ place k j. one place k j (cases_eq place past)) in
          let z = (m.largest first (suc past) (omega arith) (omega arith) more).1 in
          absurd (omega (arith, z))
        where
          one : (place : ℕ) → first < place → place < suc past → (place ≡ past) ⊎ (place ≢ past) → begins_run code place ≡ false
          one place k j (inl i) = ap (begins_run code) i ∙ f
          one place k j (inr n) = none place k (omega (arith, j, n))

  -- ---- the cut

  -- a block that ends where another begins
  record IsInner (first past : ℕ) : Type 0 where
    some : first < past
    begins : begins_run code first ≡ true
    none : (place : ℕ) → first < place → place < past → begins_run code place ≡ false
    next : begins_run code past ≡ true

  record Known (places : ℕ) : Type 0 where
    runs : List (ℕ × ℕ)
    first : ℕ
    cut : Cut code places runs first
    begins : begins_run code first ≡ true
    before : first < places
    none : (place : ℕ) → first < place → place < places → begins_run code place ≡ false
    sound : (from past : ℕ) → Contains runs (from, past) → IsInner from past × (past < places)
    complete : (from past : ℕ) → IsInner from past → past < places → Contains runs (from, past)

  -- a block that lies before a place at which one begins is the last of those before
  last_one : (places : ℕ) (k : Known places) (from : ℕ) → from < places → begins_run code from ≡ true → ((place : ℕ) → from < place → place < places → begins_run code place ≡ false) → from ≡ k.first
  last_one places k from l b none = go (cases_lt from k.first) (cases_lt k.first from)
    where
      go : (from < k.first) ⊎ (k.first ≤ from) → (k.first < from) ⊎ (from ≤ k.first) → from ≡ k.first
      go (inl x) y = let z : true ≡ false = sym k.begins ∙ none k.first x k.before in cc
      go (inr x) (inl y) = let z : true ≡ false = sym b ∙ k.none from y l in cc
      go (inr x) (inr y) = omega (arith, x, y)

  known_more : (n : ℕ) → Known (suc n) → (b : Bool) → begins_run code (suc n) ≡ b → Known (suc (suc n))
  known_more n k true e =
      record {
        runs = k.runs ++ (k.first, suc n) ∷ [];
        first = suc n;
        cut = cut_there code (suc n) k.runs k.first e k.cut;
        begins = e;
        before = omega arith;
        none = λ place l m. absurd (omega (arith, l, m));
        sound = λ from past c. sound from past (Contains-push_cases k.runs (k.first, suc n) (from, past) c);
        complete = λ from past i l. complete from past i l (cases_lt past (suc n));
      }
    where
      sound : (from past : ℕ) → Contains k.runs (from, past) ⊎ (◌≡◌ {A = ℕ × ℕ} (k.first, suc n) (from, past)) → IsInner from past × (past < suc (suc n))
      sound from past (inl c) = let s = k.sound from past c in (s.0, omega (arith, s.1))
      sound from past (inr s) =
          let a : k.first ≡ from = ap (λ x. x.0) s in
          let b : suc n ≡ past = ap (λ x. x.1) s in (
            subst (λ x. IsInner x past) a (subst (λ x. IsInner k.first x) b (record { some = k.before; begins = k.begins; none = k.none; next = e })),
            omega (arith, b),
          )

      complete : (from past : ℕ) → IsInner from past → past < suc (suc n) → (past < suc n) ⊎ (suc n ≤ past) → Contains (k.runs ++ (k.first, suc n) ∷ []) (from, past)
      complete from past i l (inl m) = Contains-append_left k.runs ((k.first, suc n) ∷ []) (from, past) (k.complete from past i m)
      complete from past i l (inr m) =
          let b : suc n ≡ past = omega (arith, l, m) in
          let a : from ≡ k.first = last_one (suc n) k from (omega (arith, i.some, b)) i.begins (λ place x y. i.none place x (omega (arith, y, b))) in
          subst (λ x. Contains (k.runs ++ (k.first, suc n) ∷ []) (x, past)) (sym a) (subst (λ x. Contains (k.runs ++ (k.first, suc n) ∷ []) (k.first, x)) b (Contains-push k.runs (k.first, suc n)))
  known_more n k false e =
      record {
        runs = k.runs;
        first = k.first;
        cut = cut_not code (suc n) k.runs k.first e k.cut;
        begins = k.begins;
        before = omega (arith, k.before);
        none = λ place l m. none place l m (cases_lt place (suc n));
        sound = λ from past c. let s = k.sound from past c in (s.0, omega (arith, s.1));
        complete = λ from past i l. complete from past i l (cases_lt past (suc n));
      }
    where
      none : (place : ℕ) → k.first < place → place < suc (suc n) → (place < suc n) ⊎ (suc n ≤ place) → begins_run code place ≡ false
      none place l m (inl x) = k.none place l x
      none place l m (inr x) = let i : place ≡ suc n = omega (arith, m, x) in ap (begins_run code) i ∙ e

      complete : (from past : ℕ) → IsInner from past → past < suc (suc n) → (past < suc n) ⊎ (suc n ≤ past) → Contains k.runs (from, past)
      complete from past i l (inl m) = k.complete from past i m
      complete from past i l (inr m) =
          let b : past ≡ suc n = omega (arith, l, m) in
          let z : true ≡ false = sym i.next ∙ ap (begins_run code) b ∙ e in
          cc

  known : (n : ℕ) → Known (suc n)
  known zero =
      record {
        runs = [];
        first = 0;
        cut = cut_start code;
        begins = refl;
        before = omega arith;
        none = λ place l m. absurd (omega (arith, l, m));
        sound = λ from past c. absurd (not_empty (from, past) c);
        complete = λ from past i l. absurd (omega (arith, i.some, l));
      }
  known (suc n) = known_more n (known n) (begins_run code (suc n)) refl

  blocks_are : (n : ℕ) → length code.ops ≡ suc n → (first past : ℕ) → Contains (blocks_of code) (first, past) ↔ IsBlock first past
  blocks_are n e first past = (λ c. sound (Contains-push_cases k.runs (k.first, length code.ops) (first, past) (subst (λ rs. Contains rs (first, past)) whole c)), λ b. subst (λ rs. Contains rs (first, past)) (sym whole) (complete b (cases_lt past (length code.ops))))
    where
      k : Known (suc n)
      k = known n

      whole : blocks_of code ≡ k.runs ++ (k.first, length code.ops) ∷ []
      whole = cut_end code k.runs k.first (subst (λ x. Cut code x k.runs k.first) (sym e) k.cut)

      sound : Contains k.runs (first, past) ⊎ (◌≡◌ {A = ℕ × ℕ} (k.first, length code.ops) (first, past)) → IsBlock first past
      sound (inl c) = let s = k.sound first past c in record { some = s.0.some; within = omega (arith, s.1, e); begins = s.0.begins; none = s.0.none; next = λ l. s.0.next }
      sound (inr s) =
          let a : k.first ≡ first = ap (λ x. x.0) s in
          let b : length code.ops ≡ past = ap (λ x. x.1) s in
          subst (λ x. IsBlock x past) a (subst (λ x. IsBlock k.first x) b (record { some = omega (arith, k.before, e); within = omega arith; begins = k.begins; none = λ place l m. k.none place l (omega (arith, m, e)); next = λ l. absurd (omega (arith, l)) }))

      complete : IsBlock first past → (past < length code.ops) ⊎ (length code.ops ≤ past) → Contains (k.runs ++ (k.first, length code.ops) ∷ []) (first, past)
      complete b (inl l) = Contains-append_left k.runs ((k.first, length code.ops) ∷ []) (first, past) (k.complete first past (record { some = b.some; begins = b.begins; none = b.none; next = b.next l }) (omega (arith, l, e)))
      complete b (inr l) =
          let q : length code.ops ≡ past = omega (arith, l, b.within) in
          let a : first ≡ k.first = last_one (suc n) k first (omega (arith, b.some, q, e)) b.begins (λ place x y. b.none place x (omega (arith, y, q, e))) in
          subst (λ x. Contains (k.runs ++ (k.first, length code.ops) ∷ []) (x, past)) (sym a) (subst (λ x. Contains (k.runs ++ (k.first, length code.ops) ∷ []) (k.first, x)) q (Contains-push k.runs (k.first, length code.ops)))

  none_at_all : length code.ops ≡ 0 → (first past : ℕ) → Contains (blocks_of code) (first, past) ↔ IsBlock first past
  none_at_all e first past = (λ c. absurd (not_empty (first, past) (subst (λ rs. Contains rs (first, past)) empty c)), λ b. absurd (omega (arith, b.some, b.within, e)))
    where
      empty : blocks_of code ≡ []
      empty = ap (λ n. runs_between (filter (begins_run code) (below n)) n) e

  pub blocks_maximal : (first past : ℕ) → Contains (blocks_of code) (first, past) ↔ IsMaximalRun code first past
  blocks_maximal first past = go (length code.ops) refl
    where
      by : (Contains (blocks_of code) (first, past) ↔ IsBlock first past) → Contains (blocks_of code) (first, past) ↔ IsMaximalRun code first past
      by b = (λ c. block_maximal first past (b.0 c), λ m. b.1 (maximal_block first past m))

      go : (n : ℕ) → length code.ops ≡ n → Contains (blocks_of code) (first, past) ↔ IsMaximalRun code first past
      go zero e = by (none_at_all e first past)
      go (suc n) e = by (blocks_are n e first past)
