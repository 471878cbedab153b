-- Where a text stands in a list of texts, and what a set of strings says of the list of their bytes.
use Rattle.std.proofs.Common.{◌≡◌, ℕ, suc, Result, Ok, Err, OnOk, IfOk, ◌+◌, ◌<◌, get_or, Bool, true, false, not, cond, ◌||◌, if◌then◌else◌, List, [], ◌∷◌, ◌++◌, length, map, Option, None, Some, slice_get, position, nat_lt, refl, sym, ap, subst, ◌∙◌, true≢false, arith}
use Rattle.std.specs.List.{list_any, position_or_len, AllByRecursion, AllZip, IsDistinct}
use Rattle.std.specs.Str.{bytes_eq}
use Rattle.std.proofs.lemmas.Slice.Eq.{bytes_eq-Decides}
use Rattle.std.proofs.lemmas.List.{length-map}
use Rattle.std.proofs.lemmas.List.Folds.{list_any_at}
use Rattle.std.proofs.lemmas.List.Quantifiers.{position-Some}
use Rattle.std.proofs.lemmas.List.Sums.{position_or_len_is}
use Rattle.std.proofs.lemmas.Map.Keys.{IsDistinct-head, IsDistinct-tail, IsDistinct-cons, IsDistinct-from_apart, apart_from_distinct, any_passes_from_place}
use Rattle.std.proofs.lemmas.Option.{get_or_from_slice_get, slice_get-get_or, slice_get_within}
use Rattle.indexmap.specs.IndexSet.{insert_key}
use Rattle.place_ids.specs.Names.{has_name, with_name, number_in}

-- no texts: none stands twice
pub IsDistinct-empty : IsDistinct bytes_eq []
IsDistinct-empty = IsDistinct-from_apart bytes_eq [] (λ i j d before within. absurd (omega (arith, within)))

module _ {K : Type 0} (bytes : K → List ℕ) where
  -- a test of the bytes passes in the list of keys where it passes in the list of their bytes
  list_any-map : (test : List ℕ → Bool) (keys : List K) → list_any test (map bytes keys) ≡ list_any (λ k. test (bytes k)) keys
  list_any-map test [] = refl
  list_any-map test (k ∷ keys) = ap (λ rest. test (bytes k) || rest) (list_any-map test keys)

  -- and first at the same place
  position_or_len-map : (test : List ℕ → Bool) (keys : List K) → position_or_len test (map bytes keys) ≡ position_or_len (λ k. test (bytes k)) keys
  position_or_len-map test [] = refl
  position_or_len-map test (k ∷ keys) = ap (λ rest. cond (not (test (bytes k))) (1 + rest) 0) (position_or_len-map test keys)

  -- so a search finds the same place, or none
  position-map : (test : List ℕ → Bool) (keys : List K) → position test (map bytes keys) ≡ position (λ k. test (bytes k)) keys
  position-map test keys =
      ap (λ n. cond (nat_lt n (length (map bytes keys))) (Some n) None) (position_or_len-map test keys)
      ∙ ap (λ n. cond (nat_lt (position_or_len (λ k. test (bytes k)) keys) n) (Some (position_or_len (λ k. test (bytes k)) keys)) None) (length-map keys bytes)

  -- a text that differs from each key's differs from each text
  all_apart : (text : List ℕ) (keys : List K) → AllByRecursion (λ k. bytes_eq text (bytes k) ≡ false) keys → AllByRecursion (λ other. bytes_eq text other ≡ false) (map bytes keys)
  all_apart text [] apart = tt
  all_apart text (k ∷ keys) apart = (apart.0, all_apart text keys apart.1)

  -- keys that differ in their bytes give texts that differ
  pub IsDistinct-map : (keys : List K) → IsDistinct (λ a b. bytes_eq (bytes a) (bytes b)) keys → IsDistinct bytes_eq (map bytes keys)
  IsDistinct-map [] apart = IsDistinct-empty
  IsDistinct-map (k ∷ keys) apart =
      IsDistinct-cons bytes_eq (bytes k) (map bytes keys) (all_apart (bytes k) keys (IsDistinct-head _ k keys apart)) (IsDistinct-map keys (IsDistinct-tail _ k keys apart))

  -- a new key's text stands at the end
  map-push : (keys : List K) (k : K) → map bytes (keys ++ k ∷ []) ≡ map bytes keys ++ bytes k ∷ []
  map-push [] k = refl
  map-push (key ∷ keys) k = ap (λ rest. bytes key ∷ rest) (map-push keys k)

  -- what a set's insert of a key with a new text does to the list of the texts
  pub map-insert_key : (keys : List K) (k : K) (text : List ℕ) → bytes k ≡ text → has_name (map bytes keys) text ≡ false
      → map bytes (insert_key (λ a b. bytes_eq (bytes a) (bytes b)) keys k) ≡ map bytes keys ++ text ∷ []
  map-insert_key keys k text is absent =
      let other : list_any (λ b. bytes_eq (bytes k) (bytes b)) keys ≡ false =
      sym (list_any-map (bytes_eq (bytes k)) keys) ∙ subst (λ t. has_name (map bytes keys) t ≡ false) (sym is) absent in
      ap (λ b. map bytes (if b then keys else keys ++ k ∷ [])) other ∙ map-push keys k ∙ ap (λ t. map bytes keys ++ t ∷ []) is

  -- what a set's clone does: nothing
  pub map-IsClone : (keys copies : List K) → AllZip (λ k copy. bytes copy ≡ bytes k) keys copies → map bytes copies ≡ map bytes keys
  map-IsClone [] [] same = refl
  map-IsClone [] (copy ∷ copies) same = absurd same
  map-IsClone (k ∷ keys) [] same = absurd same
  map-IsClone (k ∷ keys) (copy ∷ copies) same = λ i. same.0 i ∷ map-IsClone keys copies same.1 i

-- the place after n, as a look-up computes it
one_more : (n : ℕ) → 1 + n ≡ suc n
one_more n = omega arith

-- a text that is among the names stands at its number
pub text-at-number_in : (names : List (List ℕ)) (text : List ℕ) → has_name names text ≡ true → slice_get names (number_in names text) ≡ Some text
text-at-number_in [] text there = absurd (true≢false (sym there))
text-at-number_in (name ∷ names) text there = by (bytes_eq text name) refl there (text-at-number_in names text)
  where
    by : (b : Bool) → bytes_eq text name ≡ b → (b || has_name names text) ≡ true → (has_name names text ≡ true → slice_get names (number_in names text) ≡ Some text)
        → slice_get (name ∷ names) (cond (not b) (1 + number_in names text) 0) ≡ Some text
    by true same there rest = ap Some (sym ((bytes_eq-Decides text name).0 same))
    by false other there rest = subst (λ n. slice_get (name ∷ names) n ≡ Some text) (sym (one_more (number_in names text))) (rest there)

-- a text that stands at a place is among the names
pub has_name-at : (names : List (List ℕ)) (text : List ℕ) (id : ℕ) → slice_get names id ≡ Some text → has_name names text ≡ true
has_name-at names text id at = any_passes_from_place (bytes_eq text) names id text at ((bytes_eq-Decides text text).1 refl)

-- a text that a search finds at no place isn't among the names
pub has_name-unfound : (names : List (List ℕ)) (text : List ℕ) → ((id : ℕ) → slice_get names id ≡ Some text → None ≡ Some id) → has_name names text ≡ false
has_name-unfound names text every = by (has_name names text) refl
  where
    by : (b : Bool) → has_name names text ≡ b → b ≡ false
    by true there = let found : None ≡ Some (number_in names text) = every (number_in names text) (text-at-number_in names text there) in cc
    by false absent = refl

-- a text that isn't among the names has the next number
pub number_in-absent : (names : List (List ℕ)) (text : List ℕ) → has_name names text ≡ false → number_in names text ≡ length names
number_in-absent names text absent =
    position_or_len_is (bytes_eq text) names (length names) text (omega arith) (λ k within. at k within (bytes_eq text (get_or names k text)) refl) (λ past. absurd (omega (arith, past)))
  where
    at : (k : ℕ) → k < length names → (b : Bool) → bytes_eq text (get_or names k text) ≡ b → b ≡ false
    at k within true same = absurd (true≢false (sym (list_any_at (bytes_eq text) names k text within same) ∙ absent))
    at k within false other = refl

-- texts that aren't equal aren't equal the other way round
bytes_eq-flip : (a b : List ℕ) → bytes_eq a b ≡ false → bytes_eq b a ≡ false
bytes_eq-flip a b other = by (bytes_eq b a) refl
  where
    by : (r : Bool) → bytes_eq b a ≡ r → r ≡ false
    by true same = absurd (true≢false (sym ((bytes_eq-Decides a b).1 (sym ((bytes_eq-Decides b a).0 same))) ∙ other))
    by false still = refl

-- the names after a text is interned that was there, or wasn't
pub with_name-there : (names : List (List ℕ)) (text : List ℕ) → has_name names text ≡ true → with_name names text ≡ names
with_name-there names text there = ap (λ b. if b then names else names ++ text ∷ []) there

pub with_name-new : (names : List (List ℕ)) (text : List ℕ) → has_name names text ≡ false → with_name names text ≡ names ++ text ∷ []
with_name-new names text absent = ap (λ b. if b then names else names ++ text ∷ []) absent

-- where no text stands twice, a text that stands at a place has that number
pub number_in-at : (names : List (List ℕ)) (text : List ℕ) (id : ℕ) → IsDistinct bytes_eq names → slice_get names id ≡ Some text → number_in names text ≡ id
number_in-at names text id apart at =
    let within : id < length names = slice_get_within names id text at in
    let is : get_or names id text ≡ text = get_or_from_slice_get names id text text at in
    position_or_len_is (bytes_eq text) names id text (omega arith)
    (λ k before. bytes_eq-flip (get_or names k text) text (subst (λ t. bytes_eq (get_or names k text) t ≡ false) is (apart_from_distinct bytes_eq names k id text apart before within)))
    (λ _. (bytes_eq-Decides text (get_or names id text)).1 (sym is))

-- and a search finds it there
pub position-at : (names : List (List ℕ)) (text : List ℕ) (id : ℕ) → IsDistinct bytes_eq names → slice_get names id ≡ Some text → position (bytes_eq text) names ≡ Some id
position-at names text id apart at =
    let within : id < length names = slice_get_within names id text at in
    let first : number_in names text ≡ id = number_in-at names text id apart at in
    let test : nat_lt (number_in names text) (length names) ≡ true = grind arith in
    ap (λ b. cond b (Some (number_in names text)) None) test ∙ ap (λ n. Some n) first

-- the text at the end
pub slice_get-end : (names : List (List ℕ)) (text : List ℕ) → slice_get (names ++ text ∷ []) (length names) ≡ Some text
slice_get-end [] text = refl
slice_get-end (name ∷ names) text = slice_get-end names text

-- What a search for a text among the keys of a set finds.
module _ {K : Type 0} (bytes : K → List ℕ) (keys : List K) (names : List (List ℕ)) (seen : map bytes keys ≡ names) (text : List ℕ) where
  -- the text that was looked for stands at the place that was found
  pub found_place : (place : ℕ) → Some place ≡ position (λ k. bytes_eq text (bytes k)) keys → slice_get names place ≡ Some text
  found_place place found =
      let first : position (bytes_eq text) names ≡ Some place = subst (λ ns. position (bytes_eq text) ns ≡ Some place) seen (position-map bytes (bytes_eq text) keys ∙ sym found) in
      let facts = position-Some (bytes_eq text) names place text first in
      slice_get-get_or names place text facts.0 ∙ ap (λ t. Some t) (sym ((bytes_eq-Decides text (get_or names place text)).0 facts.1))

  -- a text that stands at a place is found there
  pub found_at : IsDistinct bytes_eq (map bytes keys) → (r : Option ℕ) → r ≡ position (λ k. bytes_eq text (bytes k)) keys → (id : ℕ) → slice_get names id ≡ Some text → r ≡ Some id
  found_at apart r is id at =
      is ∙ sym (position-map bytes (bytes_eq text) keys) ∙ ap (position (bytes_eq text)) seen ∙ position-at names text id (subst (IsDistinct bytes_eq) seen apart) at

-- where a text was put, when it was taken
pub added_at : {E : Type 0} (old new : List (List ℕ)) (text : List ℕ) (r : Result ℕ E) → OnOk r (new ≡ old ++ text ∷ []) → IfOk r (λ id. id ≡ length old) → IfOk r (λ id. slice_get new id ≡ Some text)
added_at old new text (Ok id) added is = ap (λ n. slice_get new n) is ∙ ap (λ names. slice_get names (length old)) added ∙ slice_get-end old text
added_at old new text (Err fault) added is = tt
