-- The order in which a stub writes names: by their bytes.
use Rattle.std.specs.Prelude.{ℕ, Bool, List, [], ◌∷◌, if◌then◌else◌}
use Rattle.std.specs.Cmp.Lexicographic.{slice_cmp}
use Rattle.std.specs.List.{list_any}
use Rattle.std.specs.Ordering.{nat_cmp, is_lt}
use Rattle.std.specs.Str.{bytes_eq}
use Rattle.type_terms.specs.Stubs.{Name, Fun}

abbrev pub is_before : List ℕ → List ℕ → Bool
is_before a b = is_lt (slice_cmp nat_cmp a b)

-- an element before the first that doesn't stand before it
abbrev pub placed : {X : Type 0} → (X → Bool) → X → List X → List X
placed before x [] = x ∷ []
placed before x (y ∷ ys) = if before y then y ∷ placed before x ys else x ∷ y ∷ ys

abbrev pub has_text : List ℕ → List (List ℕ) → Bool
has_text x xs = list_any (bytes_eq x) xs

abbrev pub with_text : List ℕ → List (List ℕ) → List (List ℕ)
with_text x xs = if has_text x xs then xs else placed (λ y. is_before y x) x xs

-- texts in order, each once
abbrev pub in_order : List (List ℕ) → List (List ℕ)
in_order [] = []
in_order (x ∷ xs) = with_text x (in_order xs)

-- whether a function of these has the name
abbrev pub is_fun : List Fun → List ℕ → Bool
is_fun funs name = list_any (λ f. bytes_eq name f.name) funs

abbrev pub with_name : Name → List Name → List Name
with_name n ns = placed (λ (m : Name). is_before m.name n.name) n ns

-- the names in order, without those that one of the functions has
abbrev pub shown : List Fun → List Name → List Name
shown funs [] = []
shown funs (n ∷ ns) = if is_fun funs n.name then shown funs ns else with_name n (shown funs ns)
