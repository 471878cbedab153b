-- What holds of all stubs and their texts.
use Rattle.std.specs.Prelude.{◌≡◌, ℕ, true, false, not, List, [], ◌∷◌}
use Rattle.std.specs.List.{filter, AllByRecursion}
use Rattle.std.specs.List.Sorted.{IsPermutation}
use Rattle.type_terms.specs.Stubs.{Name, Fun, Stub}
use Rattle.pyi_write.specs.Layout.{stub_text}
use Rattle.pyi_write.specs.Meanings.{Means}
use Rattle.pyi_write.specs.NormalStubs.{IsNormalStub}
use Rattle.pyi_write.specs.Orders.{is_before, has_text, in_order, is_fun, shown}

-- the text of a normal stub means that stub
abbrev pub NormalStubsAreReadBack : Type 0
NormalStubsAreReadBack = (s : Stub) → IsNormalStub s → Means (stub_text s) s

-- a text means at most one stub
abbrev pub OneMeaning : Type 0
OneMeaning = (text : List ℕ) (s t : Stub) → Means text s → Means text t → s ≡ t

-- none of the names is before this one by its bytes
abbrev pub NoneBefore : List ℕ → List Name → Type 0
NoneBefore name ns = AllByRecursion (λ (n : Name). is_before n.name name ≡ false) ns

abbrev pub StandInOrder : List Name → Type 0
StandInOrder [] = Unit {0}
StandInOrder (n ∷ ns) = NoneBefore n.name ns × StandInOrder ns

-- the names that are shown are sorted, and they are all but those that a function has
pub record NamesAreSorted (funs : List Fun) (names : List Name) : Type 0 where
  pub order : StandInOrder (shown funs names)
  pub same : IsPermutation (filter (λ (n : Name). not (is_fun funs n.name)) names) (shown funs names)

abbrev pub AllAfter : List ℕ → List (List ℕ) → Type 0
AllAfter x xs = AllByRecursion (λ y. is_before x y ≡ true) xs

abbrev pub AreRising : List (List ℕ) → Type 0
AreRising [] = Unit {0}
AreRising (x ∷ xs) = AllAfter x xs × AreRising xs

-- the texts in order rise, so each stands once, and they are the texts that were given
pub record TextsAreSorted (xs : List (List ℕ)) : Type 0 where
  pub rising : AreRising (in_order xs)
  pub all : AllByRecursion (λ x. has_text x (in_order xs) ≡ true) xs
  pub only : AllByRecursion (λ x. has_text x xs ≡ true) (in_order xs)
