-- How the bytes that a sink takes in two puts add up.
use Rattle.std.proofs.Common.{ℕ, ◌+◌, List, ◌++◌, take, drop, Option, Some, None, ap, ◌∙◌, append_assoc}
use Rattle.std.proofs.Math.Seq.{take-add}
use Rattle.std.specs.Option.{option_map}
use Rattle.outside_io.specs.Outside.{Takes}

-- to take one list and then another is to take both joined
pub Takes-append : (old mid new : Option (List ℕ)) (xs ys : List ℕ)
    → Takes old mid xs → Takes mid new ys → Takes old new (xs ++ ys)
Takes-append None mid new xs ys first second = second ∙ ap (option_map (λ taken. taken ++ ys)) first
Takes-append (Some taken) mid new xs ys first second =
    second ∙ ap (option_map (λ taken. taken ++ ys)) first ∙ ap Some (append_assoc taken xs ys)

-- to take a front of a text, and then a front of the rest
pub Takes-more : (old mid new : Option (List ℕ)) (text : List ℕ) (done count : ℕ)
    → Takes old mid (take done text) → Takes mid new (take count (drop done text)) → Takes old new (take (done + count) text)
Takes-more old mid new text done count first second =
    rw take-add (Takes-append old mid new (take done text) (take count (drop done text)) first second)
