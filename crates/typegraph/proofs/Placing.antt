-- Where the facts of a shape stand in a row that grows.
use Rattle.std.proofs.Common.{◌≡◌, ℕ, suc, zero, ◌<◌, Bool, true, false, cond, if◌then◌else◌, Some, None, List, [], ◌∷◌, ◌++◌, length, get_or, slice_get, slice_set, position, map, refl, sym, ap, subst, ◌∙◌, ◌+◌, length-append, arith, nat_eq, ◌⊎◌, inl, inr}
use Rattle.std.specs.List.{Contains}
use Rattle.std.proofs.lemmas.List.Quantifiers.{position-Some}
use Rattle.std.proofs.lemmas.Option.{slice_get-get_or, get_or_from_slice_get, slice_get_within}
use Rattle.graph_walks.proofs.Lists.{got}
use Rattle.flow_graph.proofs.Valid.{pushed_at}
use Rattle.typegraph.specs.declared.fact.Fact.{Fact}
use Rattle.typegraph.specs.Graphs.{facts_of, ArePlacesOf}
use Rattle.typegraph.specs.Kept.{list_in, IsFirstAt}
use Rattle.typegraph.proofs.Looks.{equal, equal_as}

pub first_found : (list : List ℕ) (number place : ℕ) → position (nat_eq number) list ≡ Some place → IsFirstAt list number place
first_found list number place h =
    let p : (place < length list) × (nat_eq number (get_or list place number) ≡ true) × ((k : ℕ) → k < place → nat_eq number (get_or list k number) ≡ false) = position-Some (nat_eq number) list place number h in
    record {
      at = slice_get-get_or list place number p.0 ∙ ap Some (sym (equal number (get_or list place number) p.1));
      before = λ k l e. let i : nat_eq number (get_or list k number) ≡ true = equal_as number (get_or list k number) (sym (get_or_from_slice_get list k number number e)) in let j : nat_eq number (get_or list k number) ≡ false = p.2 k l in cc;
    }

own_place : (list : List ℕ) (number : ℕ) → slice_get (list ++ number ∷ []) (length list) ≡ Some number
own_place [] number = refl
own_place (x ∷ list) number = own_place list number

-- a number that was not there is put last
pub first_pushed : (list : List ℕ) (number : ℕ) → (Contains list number → ⊥) → IsFirstAt (list ++ number ∷ []) number (length list)
first_pushed list number none = record { at = own_place list number; before = λ k l e. go k l (pushed_at list number number k e) }
  where
    go : (k : ℕ) → k < length list → (slice_get list k ≡ Some number) ⊎ ((k ≡ length list) × (number ≡ number)) → ⊥
    go k l (inl e) = none (got list k number e)
    go k l (inr e) = omega (arith, l, e.0)

first_tail : (t : ℕ) (list : List ℕ) (number place : ℕ) → IsFirstAt (t ∷ list) number (suc place) → IsFirstAt list number place
first_tail t list number place f = record { at = f.at; before = λ k l e. f.before (suc k) (omega arith) e }

first_passes : (t : ℕ) (list : List ℕ) (number place : ℕ) → IsFirstAt (t ∷ list) number (suc place) → (b : Bool) → nat_eq number t ≡ b → nat_eq number t ≡ false
first_passes t list number place f true e = absurd (f.before zero (omega arith) (ap Some (sym (equal number t e))))
first_passes t list number place f false e = e

first_here : (t : ℕ) (list : List ℕ) (number : ℕ) → IsFirstAt (t ∷ list) number zero → number ≡ t
first_here t list number f = let e : Some t ≡ Some number = f.at in cc

pub list_at : (shapes : List ℕ) (lists : List (List ℕ)) (s k : ℕ) (row : List ℕ) → IsFirstAt shapes s k → slice_get lists k ≡ Some row → list_in shapes lists s ≡ row
list_at [] lists s k row f e = let z : None ≡ Some s = f.at in cc
list_at (t ∷ shapes) [] s k row f e = cc
list_at (t ∷ shapes) (x ∷ lists) s zero row f e = ap (λ b. if b then x else list_in shapes lists s) (equal_as s t (first_here t shapes s f)) ∙ (let z : x ≡ row = cc in z)
list_at (t ∷ shapes) (x ∷ lists) s (suc k) row f e = ap (λ b. if b then x else list_in shapes lists s) (first_passes t shapes s k f (nat_eq s t) refl) ∙ list_at shapes lists s k row (first_tail t shapes s k f) e

pub list_absent : (shapes : List ℕ) (lists : List (List ℕ)) (s : ℕ) → (Contains shapes s → ⊥) → list_in shapes lists s ≡ []
list_absent [] lists s n = refl
list_absent (t ∷ shapes) [] s n = refl
list_absent (t ∷ shapes) (x ∷ lists) s n = ap (λ b. if b then x else list_in shapes lists s) (other (nat_eq s t) refl) ∙ list_absent shapes lists s (λ c. n (suc c.0, omega (arith, c.1), c.2))
  where
    other : (b : Bool) → nat_eq s t ≡ b → nat_eq s t ≡ false
    other true e = absurd (n (zero, omega arith, sym (equal s t e)))
    other false e = e

pub list_pushed : (shapes : List ℕ) (lists : List (List ℕ)) (shape : ℕ) → length lists ≡ length shapes → (s : ℕ) → list_in (shapes ++ shape ∷ []) (lists ++ [] ∷ []) s ≡ list_in shapes lists s
list_pushed [] [] shape e s = go (nat_eq s shape)
  where
    go : (b : Bool) → (if b then [] else list_in [] [] s) ≡ []
    go true = refl
    go false = refl
list_pushed [] (x ∷ lists) shape e s = absurd (omega (arith, e))
list_pushed (t ∷ shapes) [] shape e s = absurd (omega (arith, e))
list_pushed (t ∷ shapes) (x ∷ lists) shape e s = ap (λ xs. if nat_eq s t then x else xs) (list_pushed shapes lists shape (omega (arith, e)) s)

pub list_changed : (shapes : List ℕ) (lists : List (List ℕ)) (shape k : ℕ) (new : List ℕ) → IsFirstAt shapes shape k → k < length lists → (s : ℕ) → list_in shapes (slice_set lists k new) s ≡ (if nat_eq s shape then new else list_in shapes lists s)
list_changed [] lists shape k new f l s = let z : None ≡ Some shape = f.at in cc
list_changed (t ∷ shapes) [] shape k new f l s = absurd (omega (arith, l))
list_changed (t ∷ shapes) (x ∷ lists) shape zero new f l s = go (nat_eq s t) (nat_eq s shape) (ap (λ z. nat_eq s z) (first_here t shapes shape f))
  where
    go : (a b : Bool) → b ≡ a → (if a then new else list_in shapes lists s) ≡ (if b then new else (if a then x else list_in shapes lists s))
    go true true e = refl
    go true false e = cc
    go false true e = cc
    go false false e = refl
list_changed (t ∷ shapes) (x ∷ lists) shape (suc k) new f l s = go (nat_eq s t) refl (nat_eq s shape) refl (list_changed shapes lists shape k new (first_tail t shapes shape k f) (omega (arith, l)) s)
  where
    go : (a : Bool) → nat_eq s t ≡ a → (b : Bool) → nat_eq s shape ≡ b → list_in shapes (slice_set lists k new) s ≡ (if b then new else list_in shapes lists s) → (if a then x else list_in shapes (slice_set lists k new) s) ≡ (if b then new else (if a then x else list_in shapes lists s))
    go true i true j e =
        let st : s ≡ t = equal s t i in
        let ss : s ≡ shape = equal s shape j in
        let z : nat_eq shape t ≡ true = equal_as shape t (sym ss ∙ st) in
        let y : nat_eq shape t ≡ false = first_passes t shapes shape k f (nat_eq shape t) refl in
        cc
    go true i false j e = refl
    go false i true j e = e
    go false i false j e = e

-- a shape that is new gets an empty list
module _ (shapes shapes2 : List ℕ) (lists lists2 : List (List ℕ)) (shape : ℕ) (more : shapes2 ≡ shapes ++ shape ∷ []) (empty : lists2 ≡ lists ++ [] ∷ []) (size : length lists ≡ length shapes) where
  pub sizes_pushed : length lists2 ≡ length shapes2
  sizes_pushed = ap length empty ∙ length-append lists ([] ∷ []) ∙ ap (λ n. n + 1) size ∙ sym (ap length more ∙ length-append shapes (shape ∷ []))

  pub lists_pushed : (s : ℕ) → list_in shapes2 lists2 s ≡ list_in shapes lists s
  lists_pushed s = ap (λ ts. list_in ts lists2 s) more ∙ ap (λ ls. list_in (shapes ++ shape ∷ []) ls s) empty ∙ list_pushed shapes lists shape size s

  pub first_new : (n : ℕ) → n ≡ length shapes → (Contains shapes shape → ⊥) → IsFirstAt shapes2 shape n
  first_new n e none = subst (λ ts. IsFirstAt ts shape n) (sym more) (subst (λ m. IsFirstAt (shapes ++ shape ∷ []) shape m) (sym e) (first_pushed shapes shape none))

-- a place more in the list of a shape
pub places_pushed : (shapes : List ℕ) (lists : List (List ℕ)) (shape list : ℕ) (row new : List ℕ) (place : ℕ) (old : ℕ → List ℕ) → IsFirstAt shapes shape list → list < length lists → row ≡ get_or lists list row → new ≡ row ++ place ∷ [] → ((s : ℕ) → list_in shapes lists s ≡ old s) → (s : ℕ) → list_in shapes (slice_set lists list new) s ≡ (if nat_eq s shape then old s ++ place ∷ [] else old s)
places_pushed shapes lists shape list row new place old f l r n same s = list_changed shapes lists shape list new f l s ∙ go (nat_eq s shape) refl
  where
    is : list_in shapes lists shape ≡ row
    is = list_at shapes lists shape list row f (slice_get-get_or lists list row l ∙ ap Some (sym r))

    go : (b : Bool) → nat_eq s shape ≡ b → (if b then new else list_in shapes lists s) ≡ (if b then old s ++ place ∷ [] else old s)
    go true e = n ∙ ap (λ xs. xs ++ place ∷ []) (sym is ∙ ap (list_in shapes lists) (sym (equal s shape e)) ∙ same s)
    go false e = same s

-- a row with one more fact
module _ (facts : List Fact) (fact : Fact) where
  facts_push : (xs : List Fact) (s : ℕ) → facts_of s (xs ++ fact ∷ []) ≡ (if nat_eq fact.shape s then facts_of s xs ++ fact ∷ [] else facts_of s xs)
  facts_push [] s = go (nat_eq fact.shape s)
    where
      go : (b : Bool) → cond b (fact ∷ []) [] ≡ (if b then fact ∷ [] else [])
      go true = refl
      go false = refl
  facts_push (x ∷ xs) s = go (nat_eq x.shape s) (nat_eq fact.shape s) (facts_push xs s)
    where
      go : (a b : Bool) → facts_of s (xs ++ fact ∷ []) ≡ (if b then facts_of s xs ++ fact ∷ [] else facts_of s xs) → cond a (x ∷ facts_of s (xs ++ fact ∷ [])) (facts_of s (xs ++ fact ∷ [])) ≡ (if b then cond a (x ∷ facts_of s xs) (facts_of s xs) ++ fact ∷ [] else cond a (x ∷ facts_of s xs) (facts_of s xs))
      go true true e = ap (λ ys. x ∷ ys) e
      go true false e = ap (λ ys. x ∷ ys) e
      go false true e = e
      go false false e = e

  read_before : (xs : List Fact) (k : ℕ) (f : Fact) → slice_get xs k ≡ Some f → slice_get (xs ++ fact ∷ []) k ≡ Some f
  read_before [] k f e = cc
  read_before (x ∷ xs) zero f e = e
  read_before (x ∷ xs) (suc k) f e = read_before xs k f e

  read_last : (xs : List Fact) → slice_get (xs ++ fact ∷ []) (length xs) ≡ Some fact
  read_last [] = refl
  read_last (x ∷ xs) = read_last xs

  -- places that are read give the same after
  reads_stay : (places : List ℕ) (found : List Fact) → map (slice_get facts) places ≡ map Some found → map (slice_get (facts ++ fact ∷ [])) places ≡ map Some found
  reads_stay [] [] e = refl
  reads_stay [] (f ∷ found) e = cc
  reads_stay (k ∷ places) [] e = cc
  reads_stay (k ∷ places) (f ∷ found) e =
      let h : slice_get facts k ≡ Some f = cc in
      let t : map (slice_get facts) places ≡ map Some found = cc in
      let a : slice_get (facts ++ fact ∷ []) k ≡ Some f = read_before facts k f h in
      let b : map (slice_get (facts ++ fact ∷ [])) places ≡ map Some found = reads_stay places found t in
      cc

  map_push : {X Y : Type 0} (f : X → Y) (xs : List X) (x : X) → map f (xs ++ x ∷ []) ≡ map f xs ++ f x ∷ []
  map_push f [] x = refl
  map_push f (y ∷ xs) x = ap (λ ys. f y ∷ ys) (map_push f xs x)

  pub places_more : (old new : List ℕ) (s : ℕ) → ArePlacesOf facts s old → new ≡ (if nat_eq s fact.shape then old ++ length facts ∷ [] else old) → ArePlacesOf (facts ++ fact ∷ []) s new
  places_more old new s a e = go (nat_eq s fact.shape) refl (nat_eq fact.shape s) refl
    where
      stay : map (slice_get (facts ++ fact ∷ [])) old ≡ map Some (facts_of s facts)
      stay = reads_stay old (facts_of s facts) a

      go : (b : Bool) → nat_eq s fact.shape ≡ b → (t : Bool) → nat_eq fact.shape s ≡ t → map (slice_get (facts ++ fact ∷ [])) new ≡ map Some (facts_of s (facts ++ fact ∷ []))
      go true i true j =
          ap (map (slice_get (facts ++ fact ∷ []))) (e ∙ ap (λ t. if t then old ++ length facts ∷ [] else old) i)
          ∙ map_push (slice_get (facts ++ fact ∷ [])) old (length facts)
          ∙ ap (λ xs. xs ++ slice_get (facts ++ fact ∷ []) (length facts) ∷ []) stay
          ∙ ap (λ x. map Some (facts_of s facts) ++ x ∷ []) (read_last facts)
          ∙ sym (map_push Some (facts_of s facts) fact)
          ∙ ap (map Some) (sym (facts_push facts s ∙ ap (λ t. if t then facts_of s facts ++ fact ∷ [] else facts_of s facts) j))
      go true i false j = let z : nat_eq fact.shape s ≡ true = equal_as fact.shape s (sym (equal s fact.shape i)) in cc
      go false i true j = let z : nat_eq s fact.shape ≡ true = equal_as s fact.shape (sym (equal fact.shape s j)) in cc
      go false i false j =
          ap (map (slice_get (facts ++ fact ∷ []))) (e ∙ ap (λ t. if t then old ++ length facts ∷ [] else old) i)
          ∙ stay
          ∙ ap (map Some) (sym (facts_push facts s ∙ ap (λ t. if t then facts_of s facts ++ fact ∷ [] else facts_of s facts) j))

-- what is read at the place that stands at an index
pub place_reads : (facts found : List Fact) (places : List ℕ) → map (slice_get facts) places ≡ map Some found → (i d : ℕ) → i < length places → slice_get facts (get_or places i d) ≡ slice_get found i
place_reads facts found [] e i d l = absurd (omega (arith, l))
place_reads facts [] (k ∷ places) e i d l = cc
place_reads facts (f ∷ found) (k ∷ places) e zero d l = let h : slice_get facts k ≡ Some f = cc in h
place_reads facts (f ∷ found) (k ∷ places) e (suc i) d l = let t : map (slice_get facts) places ≡ map Some found = cc in place_reads facts found places t i d (omega (arith, l))

pub place_within : (facts found : List Fact) (places : List ℕ) → map (slice_get facts) places ≡ map Some found → (k : ℕ) → Contains places k → k < length facts
place_within facts found [] e k c = absurd (omega (arith, c.1))
place_within facts [] (p ∷ places) e k c = cc
place_within facts (f ∷ found) (p ∷ places) e k (zero, l, i) = let h : slice_get facts p ≡ Some f = cc in subst (λ z. z < length facts) i (slice_get_within facts p f h)
place_within facts (f ∷ found) (p ∷ places) e k (suc n, l, i) = let t : map (slice_get facts) places ≡ map Some found = cc in place_within facts found places t k (n, omega (arith, l), i)
