-- Names that are mentioned in some roles, and the faults that are left after some mentions.
use Rattle.std.proofs.Common.{◌≡◌, ℕ, ◌+◌, ◌<◌, Bool, true, false, ◌&&◌, ◌||◌, nat_eq, List, [], ◌∷◌, ◌++◌, length, take, drop, get_or, if◌then◌else◌, refl, sym, ap, ◌∙◌, append_assoc}
use Rattle.std.proofs.Math.Bool.{or_assoc}
use Rattle.std.proofs.lemmas.Bool.{eqb-true}
use Rattle.std.proofs.lemmas.List.{take_more, drop_more}
use Rattle.std.proofs.lemmas.List.Folds.{list_any-append}
use Rattle.scope_rules.specs.declared.fault.Fault.{Fault}
use Rattle.scope_rules.specs.declared.fault.Rule.{Rule}
use Rattle.scope_rules.specs.declared.mention.Mention.{Mention}
use Rattle.scope_rules.specs.declared.mention.Role.{Role}
use Rattle.scope_rules.specs.NameLists.{has_name, with_name, with_name_if}
use Rattle.scope_rules.specs.Named.{named, mentioned}
use Rattle.scope_rules.specs.Rules.{fault_if, faults_at, faults_after}

-- one mention more
named_more : (wanted : Role → Bool) (names : List ℕ) (ms : List Mention) (m : Mention)
    → named wanted names (ms ++ m ∷ []) ≡ with_name_if (wanted m.role) (named wanted names ms) m.name
named_more wanted names [] m = refl
named_more wanted names (first ∷ ms) m = named_more wanted (with_name_if (wanted first.role) names first.name) ms m

one_more : (ms : List Mention) (i : ℕ) (m : Mention) → i < length ms → m ≡ get_or ms i m → take (i + 1) ms ≡ take i ms ++ m ∷ []
one_more ms i m within is = take_more ms i m within ∙ ap (λ x. take i ms ++ x ∷ []) (sym is)

pub named_step : (wanted : Role → Bool) (ms : List Mention) (i : ℕ) (m : Mention) (names : List ℕ) → i < length ms → m ≡ get_or ms i m
    → names ≡ named wanted [] (take i ms) → with_name_if (wanted m.role) names m.name ≡ named wanted [] (take (i + 1) ms)
named_step wanted ms i m names within is before =
    ap (λ x. with_name_if (wanted m.role) x m.name) before ∙ sym (ap (named wanted []) (one_more ms i m within is) ∙ named_more wanted [] (take i ms) m)

or_false : (b : Bool) → (b || false) ≡ b
or_false true = refl
or_false false = refl

-- whether a name is there once a name was put
has_more : (names : List ℕ) (n k : ℕ) → has_name (with_name names n) k ≡ (has_name names k || nat_eq k n)
has_more names n k =
    elim (has_name names n) as (λ b. has_name names n ≡ b → has_name (if b then names else names ++ n ∷ []) k ≡ (has_name names k || nat_eq k n)) [
      | true ↦ λ there. same (nat_eq k n) refl there
      | false ↦ λ absent. list_any-append (nat_eq k) names (n ∷ []) ∙ ap (λ b. has_name names k || b) (or_false (nat_eq k n))
    ] refl
  where
    same : (b : Bool) → nat_eq k n ≡ b → has_name names n ≡ true → has_name names k ≡ (has_name names k || b)
    same true equal there =
        let e : has_name names k ≡ true = ap (has_name names) (eqb-true k n equal) ∙ there in
        e ∙ sym (ap (λ b. b || true) e)
    same false other there = sym (or_false (has_name names k))

has_more_if : (b : Bool) (names : List ℕ) (n k : ℕ) → has_name (with_name_if b names n) k ≡ (has_name names k || (b && nat_eq k n))
has_more_if false names n k = sym (or_false (has_name names k))
has_more_if true names n k = has_more names n k

named_from : (wanted : Role → Bool) (names : List ℕ) (ms : List Mention) (n : ℕ) → has_name (named wanted names ms) n ≡ (has_name names n || mentioned wanted n ms)
named_from wanted names [] n = sym (or_false (has_name names n))
named_from wanted names (m ∷ ms) n =
    named_from wanted (with_name_if (wanted m.role) names m.name) ms n
    ∙ ap (λ b. b || mentioned wanted n ms) (has_more_if (wanted m.role) names m.name n)
    ∙ or_assoc (has_name names n) (wanted m.role && nat_eq n m.name) (mentioned wanted n ms)

-- a name is among those that are named exactly where it is mentioned
pub has_named : (wanted : Role → Bool) (ms : List Mention) (names : List ℕ) (n : ℕ) → names ≡ named wanted [] ms → has_name names n ≡ mentioned wanted n ms
has_named wanted ms names n e = ap (λ x. has_name x n) e ∙ named_from wanted [] ms n

-- one mention on, faults that are there go before those that are left
pub faults_step : (r : Rule) (breaks : List Mention → Mention → Bool) (ms : List Mention) (i : ℕ) (m : Mention) (b : Bool) (before after all : List Fault)
    → i < length ms → m ≡ get_or ms i m → b ≡ breaks (take i ms) m → after ≡ before ++ fault_if b r m.line
    → before ++ faults_after r breaks (take i ms) (drop i ms) ≡ all → after ++ faults_after r breaks (take (i + 1) ms) (drop (i + 1) ms) ≡ all
faults_step r breaks ms i m b before after all within is broken put left =
    ap (λ x. x ++ faults_after r breaks (take (i + 1) ms) (drop (i + 1) ms)) put
    ∙ append_assoc before (fault_if b r m.line) (faults_after r breaks (take (i + 1) ms) (drop (i + 1) ms))
    ∙ ap (λ x. before ++ (fault_if x r m.line ++ faults_after r breaks (take (i + 1) ms) (drop (i + 1) ms))) broken
    ∙ ap (λ x. before ++ (fault_if (breaks (take i ms) m) r m.line ++ faults_after r breaks x (drop (i + 1) ms))) (one_more ms i m within is)
    ∙ ap (λ x. before ++ faults_after r breaks (take i ms) x) (sym (drop_more ms i m within ∙ ap (λ x. x ∷ drop (i + 1) ms) (sym is)))
    ∙ left

-- the same where a mention alone breaks the rule
pub faults_at_step : (r : Rule) (breaks : Mention → Bool) (ms : List Mention) (i : ℕ) (m : Mention) (b : Bool) (before after all : List Fault)
    → i < length ms → m ≡ get_or ms i m → b ≡ breaks m → after ≡ before ++ fault_if b r m.line
    → before ++ faults_at r breaks (drop i ms) ≡ all → after ++ faults_at r breaks (drop (i + 1) ms) ≡ all
faults_at_step r breaks ms i m b before after all within is broken put left =
    ap (λ x. x ++ faults_at r breaks (drop (i + 1) ms)) put
    ∙ append_assoc before (fault_if b r m.line) (faults_at r breaks (drop (i + 1) ms))
    ∙ ap (λ x. before ++ (fault_if x r m.line ++ faults_at r breaks (drop (i + 1) ms))) broken
    ∙ ap (λ x. before ++ faults_at r breaks x) (sym (drop_more ms i m within ∙ ap (λ x. x ∷ drop (i + 1) ms) (sym is)))
    ∙ left
