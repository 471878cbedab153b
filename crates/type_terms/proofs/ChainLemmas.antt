-- The chains that are written out are those that the rows of the classes give.
use Rattle.std.proofs.Common.{◌≡◌, ℕ, ◌<◌, ◌≤◌, Bool, true, false, cond, ◌&&◌, List, [], ◌∷◌, ◌||◌, Some, None, length, map, nat_lt, if◌then◌else◌, refl, sym, ap, ◌∙◌, arith, true≢false}
use Rattle.std.proofs.lemmas.Bool.Decides.{nat_tests}
use Rattle.std.specs.List.{list_any, list_all, position, position_or_len}
use Rattle.std.specs.Str.{bytes_eq}
use Rattle.std.specs.Cmp.Lexicographic.{bytes_decides, pointwise, pointwise_decides}
use Rattle.type_terms.specs.Exceptions.{exception_names, is_exception, exception_chain, first_chain, heads}

-- the classes whose chains are given, and whether each chain is its class's
abbrev classes_of : List (List (List ℕ)) → List (List ℕ)
classes_of [] = []
classes_of ([] ∷ chains) = classes_of chains
classes_of ((first ∷ above) ∷ chains) = first ∷ classes_of chains

abbrev is_right : List (List ℕ) → Bool
is_right [] = false
is_right (first ∷ above) = pointwise bytes_eq (exception_chain first) (first ∷ above)

pub parts : (a b : Bool) → (a && b) ≡ true → (a ≡ true) × (b ≡ true)
parts true true h = (refl, refl)
parts true false h = (refl, h)
parts false b h = absurd (true≢false (sym h))

chain_among : (chains : List (List (List ℕ))) (name : List ℕ) → list_all is_right chains ≡ true
    → first_chain name chains ≡ (if list_any (bytes_eq name) (classes_of chains) then exception_chain name else [])
chain_among [] name right = refl
chain_among ([] ∷ chains) name right = absurd (true≢false (sym right))
chain_among ((first ∷ above) ∷ chains) name right =
    let both = parts (is_right (first ∷ above)) (list_all is_right chains) right in
    elim (bytes_eq name first) as (λ b. bytes_eq name first ≡ b → (if b then first ∷ above else first_chain name chains) ≡ (if b || list_any (bytes_eq name) (classes_of chains) then exception_chain name else [])) [
      | true ↦ λ same. sym ((pointwise_decides bytes_decides (exception_chain first) (first ∷ above)).0 both.0) ∙ ap exception_chain (sym ((bytes_decides name first).0 same))
      | false ↦ λ other. chain_among chains name both.1
    ] refl

abbrev pub all_chains : List (List (List ℕ))
all_chains = map exception_chain exception_names

pub chain_found : (chains : List (List (List ℕ))) (name : List ℕ) → list_all is_right chains ≡ true → classes_of chains ≡ exception_names
    → first_chain name chains ≡ exception_chain name
chain_found chains name right all =
    chain_among chains name right ∙ ap (λ names. if list_any (bytes_eq name) names then exception_chain name else []) all
    ∙ twice (is_exception name) _
  where
    twice : (b : Bool) (xs : List (List ℕ)) → (if b then (if b then xs else []) else []) ≡ (if b then xs else [])
    twice true xs = refl
    twice false xs = refl

-- each chain begins with its class
pub place_found : (name : List ℕ) → position_or_len (heads name) all_chains ≡ position_or_len (bytes_eq name) exception_names
place_found name = refl

pub placed_within : (p : List ℕ → Bool) (names : List (List ℕ)) (place : ℕ) → place ≡ position_or_len p names → place < length names → Some place ≡ position p names
placed_within p names place e within = go (nat_lt (position_or_len p names) (length names)) refl
  where
    go : (b : Bool) → nat_lt (position_or_len p names) (length names) ≡ b → Some place ≡ cond b (Some (position_or_len p names)) None
    go true t = ap Some e
    go false t = let k : nat_lt (position_or_len p names) (length names) ≡ true = grind (arith, nat_tests) in cc

pub placed_past : (p : List ℕ → Bool) (names : List (List ℕ)) (place : ℕ) → place ≡ position_or_len p names → length names ≤ place → None ≡ position p names
placed_past p names place e past = go (nat_lt (position_or_len p names) (length names)) refl
  where
    go : (b : Bool) → nat_lt (position_or_len p names) (length names) ≡ b → None ≡ cond b (Some (position_or_len p names)) None
    go true t = let k : nat_lt (position_or_len p names) (length names) ≡ false = grind (arith, nat_tests) in cc
    go false t = refl
