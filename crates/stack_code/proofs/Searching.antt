-- What the search keeps: what is found is right, and what is left to follow waits.
use Rattle.std.proofs.Common.{◌≡◌, ◌≢◌, ℕ, suc, zero, ◌+◌, ◌-◌, ◌^◌, ◌<◌, ◌≤◌, Bool, true, false, cond, nat_eq, Option, Some, None, Result, Ok, Err, List, [], ◌∷◌, ◌++◌, length, slice_get, slice_set, replicate, ◌⊎◌, inl, inr, refl, sym, ap, subst, ◌∙◌, arith, length-append, length-set}
use Rattle.std.proofs.lemmas.List.{length-replicate}
use Rattle.std.specs.List.{All, Contains}
use Rattle.std.specs.List.Sorted.{IsPermutation}
use Rattle.std.proofs.lemmas.List.Sorted.{Contains-permutation, IsPermutation-sym}
use Rattle.stack_code.specs.declared.code.Range.{Range}
use Rattle.stack_code.specs.Handlers.{covers}
use Rattle.stack_code.specs.RangeTrees.{uncovered}
use Rattle.stack_code.proofs.Taking.{uncovered_among, uncovered_stays}
use Rattle.std.proofs.lemmas.Bool.{cases_eq}
use Rattle.std.proofs.lemmas.Bool.Decides.{nat_tests}
use Rattle.std.proofs.lemmas.Option.{slice_get_within, slice_get-get_or, same_Some}
use Rattle.std.proofs.lemmas.List.Elements.{Contains-push, Contains-push_cases, Contains-append_left, All-contains}
use Rattle.stack_code.specs.declared.op.Op.{Op}
use Rattle.stack_code.specs.declared.code.Code.{Code}
use Rattle.stack_code.specs.declared.depths.Reached.{Reached}
use Rattle.stack_code.specs.Depths.{Gives, goes_on, jumps, HasDepth, begins, given, handles}
use Rattle.stack_code.specs.Validity.{HasTwoDepths}
use Rattle.stack_code.specs.Search.{Found, noted, with_depth, with_depths, go_on, ways, handlers, handler_reached, AreDepths}
use Rattle.stack_code.proofs.Effects.{pushes_one}
use Rattle.stack_code.proofs.Lists.{get-set_same, get-set_other, blanks, blanks-set, blanks-replicate, replicate_blank}
use Rattle.stack_code.proofs.Ways.{not_empty, first_in, later_in, ways_sound, ways_complete, IsHandled, handlers_sound, handlers_complete}

-- the place has the depth, if it is a place at all
abbrev pub Has : Found → Reached → Type 0
Has found r = r.place < length found.depths → slice_get found.depths r.place ≡ Some (Some r.depth)

abbrev pub fresh : Reached → Found → Found
fresh r found = record { depths = slice_set found.depths r.place (Some r.depth); waiting = found.waiting ++ r ∷ [] }

-- what giving a depth does
pub data IsStep (r : Reached) (found : Found) : Result Found ℕ → Type 0 where
  known : Has found r → IsStep r found (Ok found)
  added : slice_get found.depths r.place ≡ Some None → IsStep r found (Ok (fresh r found))
  clashes : (depth : ℕ) → slice_get found.depths r.place ≡ Some (Some depth) → depth ≢ r.depth → IsStep r found (Err r.place)

pub step_right : (r : Reached) (found : Found) → IsStep r found (with_depth r found)
step_right r found = go (slice_get found.depths r.place) refl
  where
    at : (depth : ℕ) → slice_get found.depths r.place ≡ Some (Some depth) → (b : Bool) → nat_eq depth r.depth ≡ b → IsStep r found (cond b (Ok found) (Err r.place))
    at depth i true e = let same : depth ≡ r.depth = grind (arith, nat_tests) in known (λ l. i ∙ ap (λ d. Some (Some d)) same)
    at depth i false e = clashes depth i (λ same. let k : nat_eq depth r.depth ≡ true = grind (arith, nat_tests) in cc)

    go : (o : Option (Option ℕ)) → slice_get found.depths r.place ≡ o → IsStep r found (noted r found o)
    go None i = known (λ l. let k : Some _ ≡ None = sym (slice_get-get_or found.depths r.place None l) ∙ i in cc)
    go (Some None) i = added i
    go (Some (Some depth)) i = at depth i (nat_eq depth r.depth) refl

-- how much is left to do
abbrev pub left_of : Found → ℕ
left_of found = blanks found.depths + blanks found.depths + length found.waiting

-- what is found stays, and what is new waits
pub record IsGrown (old new : Found) : Type 0 where
  pub size : length new.depths ≡ length old.depths
  pub stays : (place depth : ℕ) → slice_get old.depths place ≡ Some (Some depth) → slice_get new.depths place ≡ Some (Some depth)
  pub new_waits : (place depth : ℕ) → slice_get new.depths place ≡ Some (Some depth) → (slice_get old.depths place ≡ Some (Some depth)) ⊎ Contains new.waiting (record { place = place; depth = depth })
  pub waits : (r : Reached) → Contains old.waiting r → Contains new.waiting r
  pub fewer : blanks new.depths ≤ blanks old.depths
  pub less : left_of new ≤ left_of old

pub grown_itself : (found : Found) → IsGrown found found
grown_itself found = record { size = refl; stays = λ place depth h. h; new_waits = λ place depth h. inl h; waits = λ r c. c; fewer = omega arith; less = omega arith }

pub grown_on : (a b c : Found) → IsGrown a b → IsGrown b c → IsGrown a c
grown_on a b c g h =
    record {
      size = h.size ∙ g.size;
      stays = λ place depth i. h.stays place depth (g.stays place depth i);
      new_waits = λ place depth i. go place depth (h.new_waits place depth i);
      waits = λ r k. h.waits r (g.waits r k);
      fewer = omega (arith, g.fewer, h.fewer);
      less = omega (arith, g.less, h.less);
    }
  where
    go : (place depth : ℕ) → (slice_get b.depths place ≡ Some (Some depth)) ⊎ Contains c.waiting (record { place = place; depth = depth }) → (slice_get a.depths place ≡ Some (Some depth)) ⊎ Contains c.waiting (record { place = place; depth = depth })
    go place depth (inr k) = inr k
    go place depth (inl i) = at (g.new_waits place depth i)
      where
        at : (slice_get a.depths place ≡ Some (Some depth)) ⊎ Contains b.waiting (record { place = place; depth = depth }) → (slice_get a.depths place ≡ Some (Some depth)) ⊎ Contains c.waiting (record { place = place; depth = depth })
        at (inl j) = inl j
        at (inr k) = inr (h.waits (record { place = place; depth = depth }) k)

has_grown : (old new : Found) (r : Reached) → IsGrown old new → Has old r → Has new r
has_grown old new r g h l = g.stays r.place r.depth (h (omega (arith, l, g.size)))

-- the place and the depth of what is found at a place after it was set
set_cases : (depths : List (Option ℕ)) (r : Reached) (place depth : ℕ) → slice_get depths r.place ≡ Some None → slice_get (slice_set depths r.place (Some r.depth)) place ≡ Some (Some depth) → (slice_get depths place ≡ Some (Some depth)) ⊎ (r ≡ record { place = place; depth = depth })
set_cases depths r place depth none h = go (cases_eq place r.place)
  where
    go : (place ≡ r.place) ⊎ (place ≢ r.place) → (slice_get depths place ≡ Some (Some depth)) ⊎ (r ≡ record { place = place; depth = depth })
    go (inr n) = inl (sym (get-set_other depths r.place place (Some r.depth) n) ∙ h)
    go (inl e) =
        let i : Some (Some r.depth) ≡ Some (Some depth) = sym (get-set_same depths r.place None (Some r.depth) none) ∙ ap (slice_get (slice_set depths r.place (Some r.depth))) (sym e) ∙ h in
        let d : r.depth ≡ depth = same_Some r.depth depth (same_Some (Some r.depth) (Some depth) i) in
        inr (λ k. record { place = sym e k; depth = d k })

set_keeps : (depths : List (Option ℕ)) (r : Reached) (place depth : ℕ) → slice_get depths r.place ≡ Some None → slice_get depths place ≡ Some (Some depth) → slice_get (slice_set depths r.place (Some r.depth)) place ≡ Some (Some depth)
set_keeps depths r place depth none h =
    get-set_other depths r.place place (Some r.depth) (λ e. let k : Some (Some depth) ≡ Some None = sym h ∙ ap (slice_get depths) e ∙ none in cc) ∙ h

pub grown_fresh : (r : Reached) (found : Found) → slice_get found.depths r.place ≡ Some None → IsGrown found (fresh r found)
grown_fresh r found none =
    record {
      size = length-set found.depths r.place (Some r.depth);
      stays = λ place depth h. set_keeps found.depths r place depth none h;
      new_waits = λ place depth h. go place depth (set_cases found.depths r place depth none h);
      waits = λ x c. Contains-append_left found.waiting (r ∷ []) x c;
      fewer = omega (arith, blanks-set found.depths r.place r.depth none);
      less = omega (arith, blanks-set found.depths r.place r.depth none, length-append found.waiting (r ∷ []));
    }
  where
    go : (place depth : ℕ) → (slice_get found.depths place ≡ Some (Some depth)) ⊎ (r ≡ record { place = place; depth = depth }) → (slice_get found.depths place ≡ Some (Some depth)) ⊎ Contains (found.waiting ++ r ∷ []) (record { place = place; depth = depth })
    go place depth (inl h) = inl h
    go place depth (inr e) = inr (subst (λ x. Contains (found.waiting ++ r ∷ []) x) e (Contains-push found.waiting r))

module _ (code : Code) where
  -- what is found is right, and leaves room for more
  pub record IsKept (found : Found) : Type 0 where
    pub size : length found.depths ≡ length code.ops
    pub sound : (place depth : ℕ) → slice_get found.depths place ≡ Some (Some depth) → HasDepth code place depth
    pub room : (place depth : ℕ) → slice_get found.depths place ≡ Some (Some depth) → depth + blanks found.depths < 2 ^ 32 - 1
    pub waits : (r : Reached) → Contains found.waiting r → slice_get found.depths r.place ≡ Some (Some r.depth)

  -- it may be given
  pub record Fits (found : Found) (r : Reached) : Type 0 where
    pub has : r.place < length code.ops → HasDepth code r.place r.depth
    pub room : r.depth + blanks found.depths < 2 ^ 32

  fits_on : (old new : Found) (r : Reached) → IsGrown old new → Fits old r → Fits new r
  fits_on old new r g f = record { has = f.has; room = omega (arith, f.room, g.fewer) }

  pub kept_fresh : (r : Reached) (found : Found) → slice_get found.depths r.place ≡ Some None → IsKept found → Fits found r → IsKept (fresh r found)
  kept_fresh r found none kept fits =
      record {
        size = length-set found.depths r.place (Some r.depth) ∙ kept.size;
        sound = λ place depth h. sound_at place depth (set_cases found.depths r place depth none h);
        room = λ place depth h. room_at place depth (set_cases found.depths r place depth none h);
        waits = λ x c. waits_at x (Contains-push_cases found.waiting r x c);
      }
    where
      within : r.place < length code.ops
      within = omega (arith, slice_get_within found.depths r.place None none, kept.size)

      sound_at : (place depth : ℕ) → (slice_get found.depths place ≡ Some (Some depth)) ⊎ (r ≡ record { place = place; depth = depth }) → HasDepth code place depth
      sound_at place depth (inl h) = kept.sound place depth h
      sound_at place depth (inr e) = subst (λ x. HasDepth code x.place x.depth) e (fits.has within)

      room_at : (place depth : ℕ) → (slice_get found.depths place ≡ Some (Some depth)) ⊎ (r ≡ record { place = place; depth = depth }) → depth + blanks (slice_set found.depths r.place (Some r.depth)) < 2 ^ 32 - 1
      room_at place depth (inl h) = omega (arith, kept.room place depth h, blanks-set found.depths r.place r.depth none)
      room_at place depth (inr e) = omega (arith, fits.room, ap (λ x. x.depth) e, blanks-set found.depths r.place r.depth none)

      waits_at : (x : Reached) → Contains found.waiting x ⊎ (r ≡ x) → slice_get (slice_set found.depths r.place (Some r.depth)) x.place ≡ Some (Some x.depth)
      waits_at x (inl c) = set_keeps found.depths r x.place x.depth none (kept.waits x c)
      waits_at x (inr e) = subst (λ y. slice_get (slice_set found.depths r.place (Some r.depth)) y.place ≡ Some (Some y.depth)) e (get-set_same found.depths r.place None (Some r.depth) none)

  -- after some are given
  pub record IsGiven (rs : List Reached) (old new : Found) : Type 0 where
    pub kept : IsKept new
    pub grown : IsGrown old new
    pub has : (r : Reached) → Contains rs r → Has new r

  one_given : (r : Reached) (old : Found) (o : Result Found ℕ) → IsStep r old o → IsKept old → Fits old r → (new : Found) → o ≡ Ok new → IsGiven (r ∷ []) old new
  one_given r old o (known h) kept fits new e =
      let same : old ≡ new = cc in
      subst (λ f. IsGiven (r ∷ []) old f) same (record { kept = kept; grown = grown_itself old; has = λ x c. subst (λ y. Has old y) (only x c) h })
    where
      only : (x : Reached) → Contains (r ∷ []) x → r ≡ x
      only x (zero, l, i) = i
      only x (suc k, l, i) = let z : ⊥ = omega (arith, l) in absurd z
  one_given r old o (added none) kept fits new e =
      let same : fresh r old ≡ new = cc in
      subst (λ f. IsGiven (r ∷ []) old f) same (record { kept = kept_fresh r old none kept fits; grown = grown_fresh r old none; has = λ x c. subst (λ y. Has (fresh r old) y) (only x c) (λ l. get-set_same old.depths r.place None (Some r.depth) none) })
    where
      only : (x : Reached) → Contains (r ∷ []) x → r ≡ x
      only x (zero, l, i) = i
      only x (suc k, l, i) = let z : ⊥ = omega (arith, l) in absurd z
  one_given r old o (clashes depth i n) kept fits new e = cc

  one_differs : (r : Reached) (old : Found) (o : Result Found ℕ) → IsStep r old o → IsKept old → Fits old r → (place : ℕ) → o ≡ Err place → HasTwoDepths code place
  one_differs r old o (known h) kept fits place e = cc
  one_differs r old o (added none) kept fits place e = cc
  one_differs r old o (clashes depth i n) kept fits place e =
      let same : r.place ≡ place = cc in
      let within : r.place < length code.ops = omega (arith, slice_get_within old.depths r.place (Some depth) i, kept.size) in
      subst (λ p. HasTwoDepths code p) same (record { one = depth; other = r.depth; has_one = kept.sound r.place depth i; has_other = fits.has within; differ = n })

  pub all_given : (rs : List Reached) (old new : Found) → with_depths rs old ≡ Ok new → IsKept old → ((r : Reached) → Contains rs r → Fits old r) → IsGiven rs old new
  all_given [] old new e kept fits =
      let same : old ≡ new = cc in
      subst (λ f. IsGiven [] old f) same (record { kept = kept; grown = grown_itself old; has = λ r c. absurd (not_empty r c) })
  all_given (r ∷ rs) old new e kept fits = go (with_depth r old) refl e (λ mid. all_given rs mid new)
    where
      go : (o : Result Found ℕ) → with_depth r old ≡ o → go_on (with_depths rs) o ≡ Ok new → ((mid : Found) → with_depths rs mid ≡ Ok new → IsKept mid → ((x : Reached) → Contains rs x → Fits mid x) → IsGiven rs mid new) → IsGiven (r ∷ rs) old new
      go (Err place) i e more = cc
      go (Ok mid) i e more =
          let one = one_given r old (with_depth r old) (step_right r old) kept (fits r (first_in r rs)) mid i in
          let rest = more mid e one.kept (λ x c. fits_on old mid x one.grown (fits x (later_in r x rs c))) in
          record { kept = rest.kept; grown = grown_on old mid new one.grown rest.grown; has = λ x c. at one rest x c }
        where
          at : IsGiven (r ∷ []) old mid → IsGiven rs mid new → (x : Reached) → Contains (r ∷ rs) x → Has new x
          at one rest x (zero, l, j) = has_grown mid new x rest.grown (one.has x (zero, omega arith, j))
          at one rest x (suc k, l, j) = rest.has x (k, omega (arith, l), j)

  pub all_differ : (rs : List Reached) (old : Found) (place : ℕ) → with_depths rs old ≡ Err place → IsKept old → ((r : Reached) → Contains rs r → Fits old r) → HasTwoDepths code place
  all_differ [] old place e kept fits = cc
  all_differ (r ∷ rs) old place e kept fits = go (with_depth r old) refl e (λ mid. all_differ rs mid place)
    where
      go : (o : Result Found ℕ) → with_depth r old ≡ o → go_on (with_depths rs) o ≡ Err place → ((mid : Found) → with_depths rs mid ≡ Err place → IsKept mid → ((x : Reached) → Contains rs x → Fits mid x) → HasTwoDepths code place) → HasTwoDepths code place
      go (Err at) i e more = one_differs r old (with_depth r old) (step_right r old) kept (fits r (first_in r rs)) place (i ∙ e)
      go (Ok mid) i e more =
          let one = one_given r old (with_depth r old) (step_right r old) kept (fits r (first_in r rs)) mid i in
          more mid e one.kept (λ x c. fits_on old mid x one.grown (fits x (later_in r x rs c)))

  -- ---- what a place with a depth gives

  fits_way : (found : Found) (place depth : ℕ) (op : Op) → slice_get code.ops place ≡ Some op → HasDepth code place depth → depth + blanks found.depths < 2 ^ 32 - 1 → (r : Reached) → Gives op place depth r.place r.depth → Fits found r
  fits_way found place depth op stands has room r gives = record { has = λ l. given has stands gives l; room = go r.place r.depth gives }
    where
      go : (to after : ℕ) → Gives op place depth to after → after + blanks found.depths < 2 ^ 32
      go to after (goes_on enough f) = omega (arith, room, pushes_one op)
      go to after (jumps enough g) = omega (arith, room)

  fits_handler : (found : Found) (place depth : ℕ) → HasDepth code place depth → All (λ range. length code.ops + range.depth < 2 ^ 32 - 1) code.ranges → blanks found.depths ≤ length code.ops → (r : Reached) → IsHandled code.ranges place r → Fits found r
  fits_handler found place depth has low few r h =
      subst (λ x. Fits found x) h.is
      (record { has = λ l. handles has h.has h.over l; room = omega (arith, few, All-contains (λ range. length code.ops + range.depth < 2 ^ 32 - 1) code.ranges h.range low h.has) })

  -- all that the place gives is found
  pub record IsClosed (found : Found) (r : Reached) : Type 0 where
    pub ways : (op : Op) → slice_get code.ops r.place ≡ Some op → (x : Reached) → Contains (ways op r.place r.depth) x → Has found x
    pub handlers : (x : Reached) → Contains (handlers code.ranges r.place) x → Has found x

  closed_on : (old new : Found) (r : Reached) → IsGrown old new → IsClosed old r → IsClosed new r
  closed_on old new r g c = record { ways = λ op s x k. has_grown old new x g (c.ways op s x k); handlers = λ x k. has_grown old new x g (c.handlers x k) }

  -- what holds before each turn
  pub record IsSearched (found : Found) : Type 0 where
    pub kept : IsKept found
    pub few : blanks found.depths ≤ length code.ops
    pub closed : (place depth : ℕ) → slice_get found.depths place ≡ Some (Some depth) → Contains found.waiting (record { place = place; depth = depth }) ⊎ IsClosed found (record { place = place; depth = depth })
    pub first : Has found (record { place = 0; depth = 0 })

  -- the ranges that are left are the code's, and the handlers of the others have their depths
  pub record IsPending (left : List Range) (found : Found) : Type 0 where
    pub among : (range : Range) → Contains left range → Contains code.ranges range
    pub followed : (range : Range) → Contains code.ranges range → Contains left range ⊎ Has found (handler_reached range)

  pub pending_begins : (left : List Range) (found : Found) → IsPermutation code.ranges left → IsPending left found
  pending_begins left found moved =
      record { among = λ range c. Contains-permutation left code.ranges range (IsPermutation-sym code.ranges left moved) c; followed = λ range c. inl (Contains-permutation code.ranges left range moved c) }

  kept_none : (places : ℕ) → places ≡ length code.ops → IsKept (record { depths = replicate places None; waiting = [] })
  kept_none places e =
      record {
        size = length-replicate places None ∙ e;
        sound = λ place depth h. absurd (replicate_blank places place depth h);
        room = λ place depth h. absurd (replicate_blank places place depth h);
        waits = λ r c. absurd (not_empty r c);
      }

  fits_first : length code.ops < 2 ^ 32 - 1 → (places : ℕ) → places ≡ length code.ops → Fits (record { depths = replicate places None; waiting = [] }) (record { place = 0; depth = 0 })
  fits_first short places e = record { has = λ l. begins l; room = omega (arith, short, e, blanks-replicate places) }

  pub search_begins : length code.ops < 2 ^ 32 - 1 → (places : ℕ) → places ≡ length code.ops → (found : Found) → with_depth (record { place = 0; depth = 0 }) (record { depths = replicate places None; waiting = [] }) ≡ Ok found → IsSearched found
  search_begins short places e found h =
      let none : Found = record { depths = replicate places None; waiting = [] } in
      let first : Reached = record { place = 0; depth = 0 } in
      let one = one_given first none (with_depth first none) (step_right first none) (kept_none places e) (fits_first short places e) found h in
      record {
        kept = one.kept;
        few = omega (arith, one.grown.fewer, blanks-replicate places, e);
        closed = λ place depth i. go place depth (one.grown.new_waits place depth i);
        first = one.has first (first_in first []);
      }
    where
      go : (place depth : ℕ) → (slice_get (replicate places None) place ≡ Some (Some depth)) ⊎ Contains found.waiting (record { place = place; depth = depth }) → Contains found.waiting (record { place = place; depth = depth }) ⊎ IsClosed found (record { place = place; depth = depth })
      go place depth (inl i) = absurd (replicate_blank places place depth i)
      go place depth (inr c) = inl c

  pub first_differs : length code.ops < 2 ^ 32 - 1 → (places : ℕ) → places ≡ length code.ops → (place : ℕ) → with_depth (record { place = 0; depth = 0 }) (record { depths = replicate places None; waiting = [] }) ≡ Err place → HasTwoDepths code place
  first_differs short places e place h =
      let none : Found = record { depths = replicate places None; waiting = [] } in
      let first : Reached = record { place = 0; depth = 0 } in
      one_differs first none (with_depth first none) (step_right first none) (kept_none places e) (fits_first short places e) place h

  -- a place is taken from those that wait
  pub record IsTaken (found rest : Found) (r : Reached) : Type 0 where
    pub depths : rest.depths ≡ found.depths
    pub waiting : found.waiting ≡ rest.waiting ++ r ∷ []

  kept_taken : (found rest : Found) (r : Reached) → IsTaken found rest r → IsKept found → IsKept rest
  kept_taken found rest r t kept =
      record {
        size = ap length t.depths ∙ kept.size;
        sound = λ place depth h. kept.sound place depth (sym (ap (λ ds. slice_get ds place) t.depths) ∙ h);
        room = λ place depth h. subst (λ ds. depth + blanks ds < 2 ^ 32 - 1) (sym t.depths) (kept.room place depth (sym (ap (λ ds. slice_get ds place) t.depths) ∙ h));
        waits = λ x c. ap (λ ds. slice_get ds x.place) t.depths ∙ kept.waits x (subst (λ ws. Contains ws x) (sym t.waiting) (Contains-append_left rest.waiting (r ∷ []) x c));
      }

  -- the place that is taken
  pub taken_has : (found rest : Found) (r : Reached) → IsTaken found rest r → IsSearched found → HasDepth code r.place r.depth
  taken_has found rest r t s = s.kept.sound r.place r.depth (s.kept.waits r (subst (λ ws. Contains ws r) (sym t.waiting) (Contains-push rest.waiting r)))

  pub taken_low : (found rest : Found) (r : Reached) → IsTaken found rest r → IsSearched found → r.depth + blanks rest.depths < 2 ^ 32 - 1
  taken_low found rest r t s = subst (λ ds. r.depth + blanks ds < 2 ^ 32 - 1) (sym t.depths) (s.kept.room r.place r.depth (s.kept.waits r (subst (λ ws. Contains ws r) (sym t.waiting) (Contains-push rest.waiting r))))

  pub taken_within : (found rest : Found) (r : Reached) → IsTaken found rest r → IsSearched found → r.place < length code.ops
  taken_within found rest r t s = omega (arith, slice_get_within found.depths r.place (Some r.depth) (s.kept.waits r (subst (λ ws. Contains ws r) (sym t.waiting) (Contains-push rest.waiting r))), s.kept.size)

  pub op_given : (found rest mid : Found) (r : Reached) (op : Op) → IsTaken found rest r → IsSearched found → slice_get code.ops r.place ≡ Some op → with_depths (ways op r.place r.depth) rest ≡ Ok mid → IsGiven (ways op r.place r.depth) rest mid
  op_given found rest mid r op t s stands e =
      all_given (ways op r.place r.depth) rest mid e (kept_taken found rest r t s.kept) (λ x c. fits_way rest r.place r.depth op stands (taken_has found rest r t s) (taken_low found rest r t s) x (ways_sound op r.place r.depth x c))

  pub op_differs : (found rest : Found) (r : Reached) (op : Op) → IsTaken found rest r → IsSearched found → slice_get code.ops r.place ≡ Some op → (place : ℕ) → with_depths (ways op r.place r.depth) rest ≡ Err place → HasTwoDepths code place
  op_differs found rest r op t s stands place e =
      all_differ (ways op r.place r.depth) rest place e (kept_taken found rest r t s.kept) (λ x c. fits_way rest r.place r.depth op stands (taken_has found rest r t s) (taken_low found rest r t s) x (ways_sound op r.place r.depth x c))

  few_on : (found rest mid : Found) (r : Reached) → IsTaken found rest r → IsSearched found → IsGrown rest mid → blanks mid.depths ≤ length code.ops
  few_on found rest mid r t s g = omega (arith, g.fewer, s.few, ap blanks t.depths)

  fits_handlers : (left : List Range) (found rest mid : Found) (r : Reached) → IsTaken found rest r → IsSearched found → IsPending left found → IsGrown rest mid → All (λ range. length code.ops + range.depth < 2 ^ 32 - 1) code.ranges → (x : Reached) → Contains (handlers left r.place) x → Fits mid x
  fits_handlers left found rest mid r t s p g low x c =
      let h = handlers_sound left r.place x c in
      fits_handler mid r.place r.depth (taken_has found rest r t s) low (few_on found rest mid r t s g) x (record { range = h.range; has = p.among h.range h.has; over = h.over; is = h.is })

  pub ranges_differ : (left : List Range) (found rest mid : Found) (r : Reached) (rs : List Reached) → IsTaken found rest r → IsSearched found → IsPending left found → IsGiven rs rest mid → All (λ range. length code.ops + range.depth < 2 ^ 32 - 1) code.ranges → (place : ℕ) → with_depths (handlers left r.place) mid ≡ Err place → HasTwoDepths code place
  ranges_differ left found rest mid r rs t s p one low place e =
      all_differ (handlers left r.place) mid place e one.kept (fits_handlers left found rest mid r t s p one.grown low)

  -- what was found before a place is taken is still there
  has_on : (found rest new : Found) (r x : Reached) → IsTaken found rest r → IsGrown rest new → Has found x → Has new x
  has_on found rest new r x t g h = has_grown rest new x g (subst (λ ds. x.place < length ds → slice_get ds x.place ≡ Some (Some x.depth)) (sym t.depths) h)

  -- after a turn
  pub record IsTurned (left : List Range) (found new : Found) : Type 0 where
    pub searched : IsSearched new
    pub pending : IsPending left new
    pub less : left_of new < left_of found

  pub search_goes_on : (left : List Range) (found rest mid new : Found) (r : Reached) (op : Op) → IsTaken found rest r → IsSearched found → IsPending left found → slice_get code.ops r.place ≡ Some op → IsGiven (ways op r.place r.depth) rest mid → All (λ range. length code.ops + range.depth < 2 ^ 32 - 1) code.ranges → with_depths (handlers left r.place) mid ≡ Ok new → IsTurned (uncovered left r.place) found new
  search_goes_on left found rest mid new r op t s p stands one low e =
      let two = all_given (handlers left r.place) mid new e one.kept (fits_handlers left found rest mid r t s p one.grown low) in
      let both = grown_on rest mid new one.grown two.grown in
      let over = λ (range : Range) (c : Contains left range) (o : covers range r.place ≡ true). two.has (handler_reached range) (handlers_complete left r.place range c o) in
      let here : IsClosed new r = record { ways = λ o i x c. has_grown mid new x two.grown (one.has x (subst (λ w. Contains (Rattle.stack_code.specs.Search.ways w r.place r.depth) x) (same_Some o op (sym i ∙ stands)) c)); handlers = λ x c. handled both over x (handlers_sound code.ranges r.place x c) } in
      record {
        searched = record {
          kept = two.kept;
          few = few_on found rest new r t s both;
          closed = λ place depth i. closed_at both here place depth (both.new_waits place depth i);
          first = has_grown rest new (record { place = 0; depth = 0 }) both (subst (λ ds. 0 < length ds → slice_get ds 0 ≡ Some (Some 0)) (sym t.depths) s.first);
        };
        pending = record {
          among = λ range c. p.among range (uncovered_among left r.place range c);
          followed = λ range c. follow both over range (p.followed range c) (covers range r.place) refl;
        };
        less = omega (arith, both.less, ap blanks t.depths, ap length t.waiting, length-append rest.waiting (r ∷ []));
      }
    where
      handled : IsGrown rest new → ((range : Range) → Contains left range → covers range r.place ≡ true → Has new (handler_reached range)) → (x : Reached) → IsHandled code.ranges r.place x → Has new x
      handled both over x h = subst (λ y. Has new y) h.is (go (p.followed h.range h.has))
        where
          go : Contains left h.range ⊎ Has found (handler_reached h.range) → Has new (handler_reached h.range)
          go (inl c) = over h.range c h.over
          go (inr k) = has_on found rest new r (handler_reached h.range) t both k

      follow : IsGrown rest new → ((range : Range) → Contains left range → covers range r.place ≡ true → Has new (handler_reached range)) → (range : Range) → Contains left range ⊎ Has found (handler_reached range) → (b : Bool) → covers range r.place ≡ b → Contains (uncovered left r.place) range ⊎ Has new (handler_reached range)
      follow both over range (inl c) true o = inr (over range c o)
      follow both over range (inl c) false o = inl (uncovered_stays left r.place range c o)
      follow both over range (inr k) b o = inr (has_on found rest new r (handler_reached range) t both k)

      closed_at : IsGrown rest new → IsClosed new r → (place depth : ℕ) → (slice_get rest.depths place ≡ Some (Some depth)) ⊎ Contains new.waiting (record { place = place; depth = depth }) → Contains new.waiting (record { place = place; depth = depth }) ⊎ IsClosed new (record { place = place; depth = depth })
      closed_at both here place depth (inr c) = inl c
      closed_at both here place depth (inl i) = old (s.closed place depth (sym (ap (λ ds. slice_get ds place) t.depths) ∙ i))
        where
          waiting : Contains rest.waiting (record { place = place; depth = depth }) ⊎ (r ≡ record { place = place; depth = depth }) → Contains new.waiting (record { place = place; depth = depth }) ⊎ IsClosed new (record { place = place; depth = depth })
          waiting (inl c) = inl (both.waits (record { place = place; depth = depth }) c)
          waiting (inr e) = inr (subst (λ x. IsClosed new x) e here)

          old : Contains found.waiting (record { place = place; depth = depth }) ⊎ IsClosed found (record { place = place; depth = depth }) → Contains new.waiting (record { place = place; depth = depth }) ⊎ IsClosed new (record { place = place; depth = depth })
          old (inl c) = waiting (Contains-push_cases rest.waiting r (record { place = place; depth = depth }) (subst (λ ws. Contains ws (record { place = place; depth = depth })) t.waiting c))
          old (inr c) = inr (closed_on rest new (record { place = place; depth = depth }) both (record { ways = λ o j x k. subst (λ ds. x.place < length ds → slice_get ds x.place ≡ Some (Some x.depth)) (sym t.depths) (c.ways o j x k); handlers = λ x k. subst (λ ds. x.place < length ds → slice_get ds x.place ≡ Some (Some x.depth)) (sym t.depths) (c.handlers x k) }))

  -- where nothing waits, each place that has a depth is found
  pub search_ends : (found : Found) → IsSearched found → found.waiting ≡ [] → AreDepths code found.depths
  search_ends found s none = record { size = s.kept.size; exact = λ place depth. (s.kept.sound place depth, λ h. complete place depth h) }
    where
      closed : (place depth : ℕ) → slice_get found.depths place ≡ Some (Some depth) → IsClosed found (record { place = place; depth = depth })
      closed place depth i = go (s.closed place depth i)
        where
          go : Contains found.waiting (record { place = place; depth = depth }) ⊎ IsClosed found (record { place = place; depth = depth }) → IsClosed found (record { place = place; depth = depth })
          go (inl c) = absurd (not_empty (record { place = place; depth = depth }) (subst (λ ws. Contains ws (record { place = place; depth = depth })) none c))
          go (inr c) = c

      complete : (place depth : ℕ) → HasDepth code place depth → slice_get found.depths place ≡ Some (Some depth)
      complete place depth (begins l) = s.first (omega (arith, l, s.kept.size))
      complete place depth (given {from = from} {before = before} {op = op} h stands gives l) =
          (closed from before (complete from before h)).ways op stands (record { place = place; depth = depth }) (ways_complete op from before place depth gives) (omega (arith, l, s.kept.size))
      complete place depth (handles {from = from} {before = before} {range = range} h c over l) =
          (closed from before (complete from before h)).handlers (record { place = range.goal; depth = range.depth }) (handlers_complete code.ranges from range c over) (omega (arith, l, s.kept.size))
