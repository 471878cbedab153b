-- The numbers of the variables that a reading reads, and when there are none.
use Rattle.std.proofs.Common.{◌≡◌, ◌≢◌, ℕ, suc, zero, ◌<◌, Some, List, [], ◌∷◌, map, length, slice_get, refl, sym, ap, subst, ◌∙◌, arith}
use Rattle.std.specs.List.{AllPairs, Contains}
use Rattle.graph_walks.proofs.Lists.{got, Origin, map_from, map_has}
use Rattle.world_rules.specs.declared.seat.OwnedSeat.{OwnedSeat}
use Rattle.world_rules.specs.declared.seat.Seat.{Seat}
use Rattle.world_rules.specs.declared.seat.Seat.TheVariants as seat
use Rattle.world_rules.specs.declared.seat.SeatOwner.{SeatOwner}
use Rattle.world_rules.specs.declared.seat.SeatOwner.TheVariants.{Own}
use Rattle.world_rules.specs.Places.{Context, main, Variable}
use Rattle.world_tables.specs.declared.spot.VariableSpot.{VariableSpot}
use Rattle.world_tables.specs.declared.spot.VariableSpot.TheVariants.{Local, Slot, Global}
use Rattle.world_tables.specs.Tables.{HaveOneNumber}
use Rattle.world_tables.specs.Rows.{the_context, variable_of, IsSpotThere}
use Rattle.world_tables.proofs.Items.{there}
use Rattle.context_code.specs.Seats.{owned_spot, owned_spots, IsOneMissing}
use Rattle.abstract_vm.proofs.Standing.{map_get}

-- ---- contexts and spots that are one

pub one_number : {X : Type 0} (xs : List X) → AllPairs (λ x y. x ≢ y) xs → HaveOneNumber xs
one_number [] once i j x h k = cc
one_number (y ∷ xs) once zero zero x h k = refl
one_number (y ∷ xs) once zero (suc j) x h k = let e : y ≡ x = cc in absurd (first_differs (got xs j x k) e)
  where
    first_differs : Contains xs x → y ≡ x → ⊥
    first_differs (m, l, i) e = once zero (suc m) x (omega arith) (omega (arith, l)) (e ∙ sym i)
one_number (y ∷ xs) once (suc i) zero x h k = let e : y ≡ x = cc in absurd (first_differs (got xs i x h) e)
  where
    first_differs : Contains xs x → y ≡ x → ⊥
    first_differs (m, l, e) f = once zero (suc m) x (omega arith) (omega (arith, l)) (f ∙ sym e)
one_number (y ∷ xs) once (suc i) (suc j) x h k = ap suc (one_number xs (λ m o d l p. once (suc m) (suc o) d (omega (arith, l)) (omega (arith, p))) i j x h k)

module _ (contexts : List Context) (once : HaveOneNumber contexts) where
  same_context : (c d : ℕ) → c < length contexts → d < length contexts → the_context contexts c ≡ the_context contexts d → c ≡ d
  same_context c d l k e = once c d (the_context contexts d) (there contexts c main l ∙ ap Some e) (there contexts d main k)

  -- spots of contexts that are there are of one variable only where they are one
  pub same_spot : (a b : VariableSpot) → IsSpotThere a (length contexts) → IsSpotThere b (length contexts) → variable_of contexts a ≡ variable_of contexts b → a ≡ b
  same_spot (Local c i) (Local d k) l m e =
      let f : the_context contexts c ≡ the_context contexts d = cc in
      let g : i ≡ k = cc in
      let h : c ≡ d = same_context c d l m f in
      cc
  same_spot (Local c i) (Slot d k) l m e = cc
  same_spot (Local c i) (Global y) l m e = cc
  same_spot (Slot c i) (Local d k) l m e = cc
  same_spot (Slot c i) (Slot d k) l m e =
      let f : the_context contexts c ≡ the_context contexts d = cc in
      let g : i ≡ k = cc in
      let h : c ≡ d = same_context c d l m f in
      cc
  same_spot (Slot c i) (Global y) l m e = cc
  same_spot (Global x) (Local d k) l m e = cc
  same_spot (Global x) (Slot d k) l m e = cc
  same_spot (Global x) (Global y) l m e = let g : x ≡ y = cc in ap Global g

owned_there : (context count : ℕ) → context < count → (o : SeatOwner) (x : Seat) → IsSpotThere (owned_spot context (record { owner = o; seat = x })) count
owned_there context count l Own (seat.Local i) = l
owned_there context count l Own (seat.Slot i) = l
owned_there context count l Own (seat.Global n) = _

-- ---- numbers

-- the numbers of spots are those of what they stand for
pub numbers_as : {X Y : Type 0} (f : X → Y) (xs : List X) (vars : List ℕ) (ys : List X) → map (slice_get xs) vars ≡ map Some ys → map (slice_get (map f xs)) vars ≡ map Some (map f ys)
numbers_as f xs [] [] e = refl
numbers_as f xs [] (y ∷ ys) e = cc
numbers_as f xs (v ∷ vs) [] e = cc
numbers_as f xs (v ∷ vs) (y ∷ ys) e =
    let first : slice_get xs v ≡ Some y = cc in
    let rest : map (slice_get xs) vs ≡ map Some ys = cc in
    let a : slice_get (map f xs) v ≡ Some (f y) = map_get f xs v y first in
    let b : map (slice_get (map f xs)) vs ≡ map Some (map f ys) = numbers_as f xs vs ys rest in
    cc

-- what a number gives is there
gives : {X Y : Type 0} (f : X → Y) (xs : List X) (k : ℕ) (y : Y) → slice_get (map f xs) k ≡ Some y → Origin f xs y
gives f xs k y e = map_from f xs y (got (map f xs) k y e)

-- where one of the spots of seats is no variable, the seats' variables have no numbers
module _ (contexts : List Context) (once : HaveOneNumber contexts) (known : List VariableSpot) (all_there : (spot : VariableSpot) → Contains known spot → IsSpotThere spot (length contexts)) where
  pub none_numbered : (context : ℕ) → context < length contexts → (seats : List OwnedSeat) → IsOneMissing known (owned_spots context seats) → (vars : List ℕ) →
      map (slice_get (map (variable_of contexts) known)) vars ≡ map Some (map (variable_of contexts) (owned_spots context seats)) → ⊥
  none_numbered context l seats missing vars e = missing.missing (subst (Contains known) (same_spot contexts once o.item missing.spot (all_there o.item o.is) its_there o.same) o.is)
    where
      x : Variable
      x = variable_of contexts missing.spot

      numbered : Origin (slice_get (map (variable_of contexts) known)) vars (Some x)
      numbered =
          map_from (slice_get (map (variable_of contexts) known)) vars (Some x)
          (subst (λ ys. Contains ys (Some x)) (sym e) (map_has Some _ x (map_has (variable_of contexts) (owned_spots context seats) missing.spot missing.asked)))

      o : Origin (variable_of contexts) known x
      o = gives (variable_of contexts) known numbered.item x numbered.same

      its_there : IsSpotThere missing.spot (length contexts)
      its_there =
          let p : Origin (owned_spot context) seats missing.spot = map_from (owned_spot context) seats missing.spot missing.asked in
          subst (λ z. IsSpotThere z (length contexts)) p.same (owned_there context (length contexts) l p.item.owner p.item.seat)
