-- A function's parameters are its first locals, where none stands twice.
use Rattle.std.proofs.Common.{◌≡◌, ℕ, suc, ◌+◌, Bool, true, false, not, cond, ◌&&◌, ◌||◌, if◌then◌else◌, nat_eq, nat_lt, List, [], ◌∷◌, ◌++◌, length, append_assoc, length-append, Some, None, refl, sym, ap, subst, ◌∙◌, arith}
use Rattle.std.proofs.lemmas.Bool.Decides.{nat_tests}
use Rattle.std.specs.List.{list_any, position_or_len}
use Rattle.py_tree.specs.Tree.{Param}
use Rattle.scope_rules.specs.declared.fault.Rule.TheVariants as rule
use Rattle.scope_rules.specs.declared.mention.Mention.{Mention}
use Rattle.scope_rules.specs.declared.mention.Role.TheVariants as role
use Rattle.scope_rules.specs.Mentions.{at}
use Rattle.scope_rules.specs.NameLists.{has_name, with_name, with_name_if, place_of}
use Rattle.scope_rules.specs.Named.{named, mentioned}
use Rattle.scope_rules.specs.Roles.{binds, is_parameter}
use Rattle.scope_rules.specs.Rules.{fault_if, faults_after, repeats_parameter}
use Rattle.scope_rules.specs.Uses.{parameters}
use Rattle.scope_rules.specs.WellFormed.{Surroundings, AreLocals}
use Rattle.grammar_laws.proofs.Cleans.{left_none, right_none, no_fault}
use Rattle.grammar_laws.proofs.StatementShapes.{AreParamNames}

-- ---- lists of names

append_nil : {A : Type 0} (xs : List A) → xs ≡ xs ++ []
append_nil [] = refl
append_nil (x ∷ xs) = ap (λ ys. x ∷ ys) (append_nil xs)

or_false : (b : Bool) → (b || false) ≡ b
or_false true = refl
or_false false = refl

any_last : {A : Type 0} (test : A → Bool) (xs : List A) (x : A) → list_any test (xs ++ x ∷ []) ≡ (list_any test xs || test x)
any_last test [] x = or_false (test x)
any_last test (y ∷ ys) x = ap (λ b. test y || b) (any_last test ys x) ∙ sym (or_assoc (test y) (list_any test ys) (test x))
  where
    or_assoc : (a b c : Bool) → ((a || b) || c) ≡ (a || (b || c))
    or_assoc true b c = refl
    or_assoc false b c = refl

neither : (a b : Bool) → (a || b) ≡ false → (a ≡ false) × (b ≡ false)
neither true b e = cc
neither false b e = (refl, e)

itself : (n : ℕ) → nat_eq n n ≡ true
itself n = grind (arith, nat_tests)

-- a name that isn't among others stands first right behind them
first_place : (names : List ℕ) (n : ℕ) (more : List ℕ) → has_name names n ≡ false → position_or_len (nat_eq n) (names ++ n ∷ more) ≡ length names
first_place [] n more e = ap (λ b. cond (not b) (1 + position_or_len (nat_eq n) more) 0) (itself n)
first_place (m ∷ names) n more e =
    let parts = neither (nat_eq n m) (has_name names n) e in
    ap (λ b. cond (not b) (1 + position_or_len (nat_eq n) (names ++ n ∷ more)) 0) parts.0 ∙ ap (λ k. 1 + k) (first_place names n more parts.1) ∙ (let up : 1 + length names ≡ suc (length names) = omega arith in up)

place_behind : (names : List ℕ) (n : ℕ) (more : List ℕ) → has_name names n ≡ false → place_of ((names ++ n ∷ []) ++ more) n ≡ Some (length names)
place_behind names n more e =
    let all : (names ++ n ∷ []) ++ more ≡ names ++ n ∷ more = append_assoc names (n ∷ []) more in
    let long : length (names ++ n ∷ more) ≡ length names + length (n ∷ more) = length-append names (n ∷ more) in
    let lt : nat_lt (length names) (length (names ++ n ∷ more)) ≡ true = grind (arith, nat_tests) in
    ap (λ ms. place_of ms n) all
    ∙ ap (λ k. cond (nat_lt k (length (names ++ n ∷ more))) (Some k) None) (first_place names n more e)
    ∙ ap (λ b. cond b (Some (length names)) None) lt

-- ---- the names that are bound: those of before stay first

abbrev Extends : List ℕ → List ℕ → Type 0
Extends names all = (more : List ℕ) × (all ≡ names ++ more)

extends_by : (names all : List ℕ) (n : ℕ) → Extends (names ++ n ∷ []) all → Extends names all
extends_by names all n h = (n ∷ h.0, h.1 ∙ append_assoc names (n ∷ []) h.0)

-- the names that there are with a name or without it
with_or_without : (P : List ℕ → Type 0) (b : Bool) (names : List ℕ) (n : ℕ) → P names → P (names ++ n ∷ []) → P (with_name_if b names n)
with_or_without P false names n h k = h
with_or_without P true names n h k = of_name (has_name names n)
  where
    of_name : (b : Bool) → P (if b then names else names ++ n ∷ [])
    of_name true = h
    of_name false = k

bound_behind : (names : List ℕ) (us : List Mention) → Extends names (named binds names us)
bound_behind names [] = ([], append_nil names)
bound_behind names (u ∷ us) =
    let P : List ℕ → Type 0 = λ ms. Extends names (named binds ms us) in
    with_or_without P (binds u.role) names u.name (bound_behind names us) (extends_by names (named binds (names ++ u.name ∷ []) us) u.name (bound_behind (names ++ u.name ∷ []) us))

-- ---- parameters

pub params_are_first : (w : Surroundings) (params : List Param) (line : ℕ) (rest : List Mention) (names : List ℕ) (before : List Mention) → ((n : ℕ) → mentioned is_parameter n before ≡ has_name names n) →
    faults_after rule.DuplicateParam repeats_parameter before (parameters params line ++ rest) ≡ [] → AreParamNames w.names params →
    AreLocals w (named binds names (parameters params line ++ rest)) (length names) params
params_are_first w [] line rest names before same clean h = tt
params_are_first w (p ∷ ps) line rest names before same clean h =
    let m : Mention = at role.Parameter p.name line in
    let us : List Mention = parameters ps line ++ rest in
    let new : has_name names p.name ≡ false =
    sym (same p.name) ∙ no_fault (mentioned is_parameter p.name before) rule.DuplicateParam line (left_none (fault_if (mentioned is_parameter p.name before) rule.DuplicateParam line) (faults_after rule.DuplicateParam repeats_parameter (before ++ m ∷ []) us) clean) in
    let clean_rest : faults_after rule.DuplicateParam repeats_parameter (before ++ m ∷ []) us ≡ [] =
    right_none (fault_if (mentioned is_parameter p.name before) rule.DuplicateParam line) (faults_after rule.DuplicateParam repeats_parameter (before ++ m ∷ []) us) clean in
    let names' : List ℕ = names ++ p.name ∷ [] in
    let same' : (n : ℕ) → mentioned is_parameter n (before ++ m ∷ []) ≡ has_name names' n =
    λ n. any_last (λ u. is_parameter u.role && nat_eq n u.name) before m ∙ ap (λ b. b || nat_eq n p.name) (same n) ∙ sym (any_last (nat_eq n) names p.name) in
    let grown : with_name names p.name ≡ names' = ap (λ b. if b then names else names') new in
    let all : List ℕ = named binds names' us in
    let more : Extends names' all = bound_behind names' us in
    let long : length names' ≡ suc (length names) = length-append names (p.name ∷ []) ∙ (let up : length names + 1 ≡ suc (length names) = omega arith in up) in
    let others : AreLocals w all (suc (length names)) ps = subst (λ k. AreLocals w all k ps) long (params_are_first w ps line rest names' (before ++ m ∷ []) same' clean_rest h.1) in
    let first : place_of all p.name ≡ Some (length names) = ap (λ ms. place_of ms p.name) more.1 ∙ place_behind names p.name more.0 new in
    subst (λ ms. AreLocals w (named binds ms us) (length names) (p ∷ ps)) (sym grown) (h.0, first, others)
