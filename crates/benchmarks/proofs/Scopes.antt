-- The scopes that are answered for a module are its own.
use Rattle.std.proofs.Common.{◌≡◌, ◌⊎◌, inl, inr, Option, Some, None, Result, Ok, Err}
use Rattle.scope_rules.specs.declared.fault.Fault.{Fault}
use Rattle.scope_rules.specs.declared.scope_fault.ScopeFault.{ScopeFault}
use Rattle.scope_rules.specs.declared.scope_fault.ScopeFault.TheVariants as fault
use Rattle.scope_rules.specs.Answers.{answer_in}
use Rattle.scope_rules.specs.Scoped.{Scoped}

pub is_its_own : (first : Option Fault) (own found : Scoped) → (Ok found ≡ answer_in first own) ⊎ (Ok found ≡ Err fault.Memory) → found ≡ own
is_its_own None own found (inl same) = cc
is_its_own (Some fault) own found (inl same) = absurd (cc)
is_its_own first own found (inr same) = absurd (cc)
