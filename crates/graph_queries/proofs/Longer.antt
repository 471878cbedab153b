-- Choices that get one shape more.
use Rattle.std.proofs.Common.{◌≡◌, ℕ, suc, zero, ◌+◌, ◌<◌, Some, List, [], ◌∷◌, ◌++◌, map, length, get_or, take, slice_get, arith, refl, sym, ap, subst, ◌∙◌, ◌↔◌}
use Rattle.std.specs.List.{Contains, flat_map}
use Rattle.std.proofs.lemmas.List.{flat_map_more, take_more}
use Rattle.std.proofs.lemmas.Option.{slice_get_read}
use Rattle.graph_walks.proofs.Lists.{only, first, Origin, map_has, map_from, Part, flat_map_has, flat_map_from}
use Rattle.typegraph.specs.Graphs.{GraphTables, IsGiven}
use Rattle.graph_queries.specs.Choices.{AreGiven}

-- a list that is one of these with one of those behind it
pub record IsLonger (P : List ℕ → Type 0) (Q : ℕ → Type 0) (xs : List ℕ) : Type 0 where
  pub before : List ℕ
  pub last : ℕ
  pub is : before ++ last ∷ [] ≡ xs
  pub has : P before
  pub ends : Q last

abbrev pub longer : List (List ℕ) → List ℕ → List (List ℕ)
longer chosen shapes = flat_map (λ choice. map (λ shape. choice ++ shape ∷ []) shapes) chosen

longer_from : (chosen : List (List ℕ)) (shapes xs : List ℕ) → Contains (longer chosen shapes) xs → IsLonger (Contains chosen) (Contains shapes) xs
longer_from chosen shapes xs c =
    let p : Part (λ choice. map (λ shape. choice ++ shape ∷ []) shapes) chosen xs = flat_map_from (λ choice. map (λ shape. choice ++ shape ∷ []) shapes) chosen xs c in
    let o : Origin (λ shape. p.item ++ shape ∷ []) shapes xs = map_from (λ shape. p.item ++ shape ∷ []) shapes xs p.part in
    record { before = p.item; last = o.item; is = o.same; has = p.is; ends = o.is }

longer_to : (chosen : List (List ℕ)) (shapes xs : List ℕ) → IsLonger (Contains chosen) (Contains shapes) xs → Contains (longer chosen shapes) xs
longer_to chosen shapes xs h =
    subst (Contains (longer chosen shapes)) h.is
    (flat_map_has (λ choice. map (λ shape. choice ++ shape ∷ []) shapes) chosen h.before (h.before ++ h.last ∷ []) h.has
    (map_has (λ shape. h.before ++ shape ∷ []) shapes h.last h.ends))

given_from : (g : GraphTables) (vs : List ℕ) (v : ℕ) (xs : List ℕ) → AreGiven g (vs ++ v ∷ []) xs → IsLonger (AreGiven g vs) (IsGiven g v) xs
given_from g [] v [] h = absurd h
given_from g [] v (s ∷ []) h = record { before = []; last = s; is = refl; has = _; ends = h.0 }
given_from g [] v (s ∷ t ∷ ts) h = absurd h.1
given_from g (u ∷ us) v [] h = absurd h
given_from g (u ∷ us) v (s ∷ ss) h =
    let r : IsLonger (AreGiven g us) (IsGiven g v) ss = given_from g us v ss h.1 in
    record { before = s ∷ r.before; last = r.last; is = ap (λ zs. s ∷ zs) r.is; has = (h.0, r.has); ends = r.ends }

joined_given : (g : GraphTables) (vs : List ℕ) (v : ℕ) (ss : List ℕ) (s : ℕ) → AreGiven g vs ss → IsGiven g v s → AreGiven g (vs ++ v ∷ []) (ss ++ s ∷ [])
joined_given g [] v [] s h i = (i, _)
joined_given g [] v (t ∷ ts) s h i = absurd h
joined_given g (u ∷ us) v [] s h i = absurd h
joined_given g (u ∷ us) v (t ∷ ts) s h i = (h.0, joined_given g us v ts s h.1 i)

take_next : (xs : List ℕ) (k v : ℕ) → slice_get xs k ≡ Some v → take (suc k) xs ≡ take k xs ++ v ∷ []
take_next [] k v i = cc
take_next (x ∷ xs) zero v i = let e : x ≡ v = cc in ap (λ y. y ∷ []) e
take_next (x ∷ xs) (suc k) v i = ap (λ ys. x ∷ ys) (take_next xs k v i)

pub start : (g : GraphTables) (shapes : List ℕ) → Contains ([] ∷ []) shapes ↔ AreGiven g [] shapes
start g [] = (λ c. _, λ h. first [] [])
start g (s ∷ ss) = (λ c. let e : s ∷ ss ≡ [] = only [] (s ∷ ss) c in cc, λ h. absurd h)

pub step : (g : GraphTables) (vars : List ℕ) (k v : ℕ) → slice_get vars k ≡ Some v → (chosen : List (List ℕ)) → ((xs : List ℕ) → Contains chosen xs ↔ AreGiven g (take k vars) xs) →
    (shapes : List ℕ) → ((s : ℕ) → Contains shapes s ↔ IsGiven g v s) → (xs : List ℕ) → Contains (longer chosen shapes) xs ↔ AreGiven g (take (suc k) vars) xs
step g vars k v i chosen all shapes each xs = (there, back)
  where
    is : take (suc k) vars ≡ take k vars ++ v ∷ []
    is = take_next vars k v i

    there : Contains (longer chosen shapes) xs → AreGiven g (take (suc k) vars) xs
    there c =
        let h : IsLonger (Contains chosen) (Contains shapes) xs = longer_from chosen shapes xs c in
        subst (λ vs. AreGiven g vs xs) (sym is)
        (subst (AreGiven g (take k vars ++ v ∷ [])) h.is (joined_given g (take k vars) v h.before h.last ((all h.before).0 h.has) ((each h.last).0 h.ends)))

    back : AreGiven g (take (suc k) vars) xs → Contains (longer chosen shapes) xs
    back a =
        let h : IsLonger (AreGiven g (take k vars)) (IsGiven g v) xs = given_from g (take k vars) v xs (subst (λ vs. AreGiven g vs xs) is a) in
        longer_to chosen shapes xs (record { before = h.before; last = h.last; is = h.is; has = (all h.before).1 h.has; ends = (each h.last).1 h.ends })

-- the choices of before, and those that the next one becomes
pub one_more : (shapes : List ℕ) (chosen : List (List ℕ)) (i : ℕ) (x : List ℕ) → i < length chosen → x ≡ get_or chosen i x → (before all : List (List ℕ)) → before ≡ longer (take i chosen) shapes →
    all ≡ before ++ map (λ shape. x ++ shape ∷ []) shapes → all ≡ longer (take (i + 1) chosen) shapes
one_more shapes chosen i x l is before all e f =
    f ∙ ap (λ b. b ++ map (λ shape. x ++ shape ∷ []) shapes) e
    ∙ flat_map_more (λ choice. map (λ shape. choice ++ shape ∷ []) shapes) [] (take i chosen) x
    ∙ ap (λ y. longer (take i chosen ++ y ∷ []) shapes) is
    ∙ ap (λ xs. longer xs shapes) (sym (take_more chosen i x l))

pub next_step : (g : GraphTables) (vars : List ℕ) (i v : ℕ) → i < length vars → v ≡ get_or vars i v → (chosen : List (List ℕ)) → ((xs : List ℕ) → Contains chosen xs ↔ AreGiven g (take i vars) xs) →
    (shapes : List ℕ) → ((s : ℕ) → Contains shapes s ↔ IsGiven g v s) → (all : List (List ℕ)) → all ≡ longer chosen shapes → (xs : List ℕ) → Contains all xs ↔ AreGiven g (take (i + 1) vars) xs
next_step g vars i v l is chosen each shapes given all e xs =
    let k : suc i ≡ i + 1 = omega arith in
    subst (λ n. Contains all xs ↔ AreGiven g (take n vars) xs) k
    (subst (λ zs. Contains zs xs ↔ AreGiven g (take (suc i) vars) xs) (sym e) (step g vars i v (slice_get_read vars (length vars) i v refl l is) chosen each shapes given xs))
