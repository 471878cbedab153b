-- The classes of the chains are the exception classes.
use Rattle.std.proofs.Common.{◌≡◌, ℕ, ◌<◌, List, [], ◌∷◌, Some, length, get_or, slice_get, map, refl, ap, sym, ◌∙◌, arith}
use Rattle.std.proofs.lemmas.List.{length-map}
use Rattle.std.specs.Borrow.{Bor}
use Rattle.type_terms.specs.Exceptions.{exception_names, exception_chain}
use Rattle.builtin_stubs.specs.Exceptions.{class_of}
use Rattle.builtin_stubs.specs.Meanings.{Native}
use Rattle.builtin_stubs.specs.Natives.{exception_native}
use Rattle.builtin_stubs.proofs.GroupLemmas.{at_place}

module _ {X Y Z : Type 0} (f : X → Y) (g : Y → Z) where
  pub map_twice : (xs : List X) → map (λ x. g (f x)) xs ≡ map g (map f xs)
  map_twice [] = refl
  map_twice (x ∷ xs) = ap (λ zs. g (f x) ∷ zs) (map_twice xs)

names_are : map class_of (map exception_chain exception_names) ≡ exception_names
names_are = refl

module _ (chains : List (Bor (List (Bor (List ℕ))))) (are : map (λ chain. map (λ class. class.now) chain.now) chains ≡ map exception_chain exception_names) where
  pub classes_are : map (λ chain. class_of (map (λ class. class.now) chain.now)) chains ≡ exception_names
  classes_are = map_twice (λ chain. map (λ class. class.now) chain.now) class_of chains ∙ ap (map class_of) are ∙ names_are

  pub as_many : length chains ≡ length exception_names
  as_many = sym (length-map chains (λ chain. map (λ class. class.now) chain.now)) ∙ ap length are ∙ length-map exception_names exception_chain

  pub natives_are : map (λ chain. exception_native (class_of (map (λ class. class.now) chain.now))) chains ≡ map exception_native exception_names
  natives_are = map_twice (λ chain. class_of (map (λ class. class.now) chain.now)) exception_native chains ∙ ap (map exception_native) classes_are

  pub native_under : (place : ℕ) (d : Bor (List (Bor (List ℕ)))) → place < length exception_names →
      slice_get (map exception_native exception_names) place ≡ Some (exception_native (class_of (map (λ class. class.now) (get_or chains place d).now)))
  native_under place d within =
      ap (λ rows. slice_get rows place) (sym natives_are) ∙ at_place (λ chain. exception_native (class_of (map (λ class. class.now) chain.now))) chains place d (omega (arith, within, as_many))
