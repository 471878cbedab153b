-- What stands before the last dot of a name.
use Rattle.std.proofs.Common.{◌≡◌, ℕ, zero, suc, ◌-◌, ◌<◌, ◌≤◌, ◌==◌, cond, List, [], ◌∷◌, length, take, drop, get_or, Some, None, sym, ap, ◌∙◌, arith}
use Rattle.pyi_write.specs.Imports.{longer, module_of}

last_dot : (name : List ℕ) (i : ℕ) → suc i ≤ length name → get_or name i 0 ≡ 46 → module_of (drop (suc i) name) ≡ None → module_of name ≡ Some (take i name)
last_dot [] i within dot none = absurd (omega (arith, within))
last_dot (b ∷ bs) zero within dot none = ap (longer b) none ∙ ap (λ c. cond (c == 46) (Some []) None) dot
last_dot (b ∷ bs) (suc i) within dot none = ap (longer b) (last_dot bs i (omega (arith, within)) dot none)

pub front_of_dot : (name : List ℕ) (place : ℕ) → 0 < place → place ≤ length name → get_or name (place - 1) 0 ≡ 46 → module_of (drop place name) ≡ None → Some (take (place - 1) name) ≡ module_of name
front_of_dot name zero some within dot none = absurd (omega (arith, some))
front_of_dot name (suc i) some within dot none =
    let less : suc i - 1 ≡ i = omega arith in
    ap (λ k. Some (take k name)) less ∙ sym (last_dot name i within (sym (ap (λ k. get_or name k 0) less) ∙ dot) none)
