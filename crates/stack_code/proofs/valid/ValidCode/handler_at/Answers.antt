use Rattle.std.proofs.Common.{◌≡◌, ℕ, ◌<◌, ◌≤◌, ◌⊎◌, inl, inr, Option, Some, None, List, length, get_or, slice_get, sym, ap, ◌∙◌, subst, arith}
use Rattle.std.proofs.lemmas.Bool.{cases_lt}
use Rattle.std.proofs.lemmas.Option.{slice_get-get_or}
use Rattle.std.specs.Option.{option_copied}
use Rattle.stack_code.specs.declared.code.Range.{Range}
use Rattle.stack_code.specs.Handlers.{handler_at}
use Rattle.stack_code.proofs.Nearest.{handler_past}
use Rattle.stack_code.proofs.valid.ValidCode.handler_at.Goals as goal

-- where nothing stands is past the end
past_end : (xs : List (Option Range)) (i : ℕ) → slice_get xs i ≡ None → length xs ≤ i
past_end xs i e = go (cases_lt i (length xs))
  where
    go : (i < length xs) ⊎ (length xs ≤ i) → length xs ≤ i
    go (inr l) = l
    go (inl l) = let z : Some (get_or xs i None) ≡ None = sym (slice_get-get_or xs i None l) ∙ e in cc

pub returns-in-None : goal.returns-in-None
returns-in-None c =
    let none : slice_get c.self.inside.handlers c.args.place ≡ None = sym c.get.ensures.value ∙ ap option_copied c.in-None.is in
    let past : length c.self.inside.handlers ≤ c.args.place = past_end c.self.inside.handlers c.args.place none in
    let valid = c.self.invariant.0 in
    sym (subst (λ code. handler_at code.ranges c.args.place ≡ None) c.self.view_is
    (handler_past c.self.inside.code.ranges (length c.self.inside.code.ops) c.args.place (λ number range e. (valid.ranges number range e).within) (omega (arith, past, c.self.invariant.2.size))))
