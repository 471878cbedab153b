-- How the bytes that a reader loses in two reads add up.
use Rattle.std.proofs.Common.{ℕ, ◌+◌, ◌≤◌, List, ◌++◌, length, take, Option, Some, None, ap, sym, ◌∙◌, append_assoc, arith, length-append}
use Rattle.std.specs.Io.KnownBytes.{Consumes, Keeps}
use Rattle.std.proofs.lemmas.List.{length-take}
use Rattle.outside_io.specs.Reading.{ReadsUpTo}

-- to lose one list and then another is to lose both joined
Consumes-append : (old mid new : Option (List ℕ)) (xs ys : List ℕ)
    → Consumes old mid xs → Consumes mid new ys → Consumes old new (xs ++ ys)
Consumes-append None mid new xs ys first second = tt
Consumes-append (Some old) None new xs ys first second = absurd first
Consumes-append (Some old) (Some mid) None xs ys first second = absurd second
Consumes-append (Some old) (Some mid) (Some new) xs ys first second =
    first ∙ ap (λ rest. xs ++ rest) second ∙ sym (append_assoc xs ys new)

-- a read that fails after others
pub ReadsUpTo-kept : (old mid new : Option (List ℕ)) (xs : List ℕ) (most : ℕ)
    → Consumes old mid xs → Keeps mid new → length xs ≤ most → ReadsUpTo most old new
unfolding ReadsUpTo
ReadsUpTo-kept None mid new xs most first kept within = (xs, tt, within)
ReadsUpTo-kept (Some old) None new xs most first kept within = absurd first
ReadsUpTo-kept (Some old) (Some mid) None xs most first kept within = absurd kept
ReadsUpTo-kept (Some old) (Some mid) (Some new) xs most first kept within =
    (xs, first ∙ ap (λ rest. xs ++ rest) (sym kept), within)

-- one more read after others
pub ReadsUpTo-more : (old mid new : Option (List ℕ)) (xs piece : List ℕ) (count most : ℕ)
    → Consumes old mid xs → Consumes mid new (take count piece) → length xs + length piece ≤ most → ReadsUpTo most old new
unfolding ReadsUpTo
ReadsUpTo-more old mid new xs piece count most first second within = (
  xs ++ take count piece,
  Consumes-append old mid new xs (take count piece) first second,
  omega (arith, length-append xs (take count piece), length-take count piece),
)
