-- The first place that breaks a rule, from what a loop over the places found.
use Rattle.std.proofs.Common.{◌≡◌, ℕ, ◌<◌, ◌≤◌, Option, Some, List, length, get_or, slice_get, ◌⊎◌, inl, inr, refl, sym, ap, subst, ◌∙◌, arith}
use Rattle.std.proofs.lemmas.Bool.{cases_lt}
use Rattle.std.proofs.lemmas.Option.{slice_get_within, slice_get_read, same_Some}
use Rattle.stack_code.specs.declared.op.Op.{Op}
use Rattle.stack_code.specs.declared.code.Code.{Code}
use Rattle.stack_code.specs.Effects.{effect_of, goal_of}
use Rattle.stack_code.specs.Validity.{IsRangeOf, JumpsStay, JumpsOut, SlotsSuffice, Underflows, RangesLieIn, LiesOut}
use Rattle.stack_code.specs.Search.{AreDepths}

-- what is read at a place of the code's instructions stands there
pub op_stands : (code : Code) (ops : List Op) (place : ℕ) (op : Op) → ops ≡ code.ops → place < length code.ops → op ≡ get_or ops place op → slice_get code.ops place ≡ Some op
op_stands code ops place op e within is = subst (λ xs. slice_get xs place ≡ Some op) e (slice_get_read ops (length ops) place op refl (omega (arith, within, ap length e)) is)

pub jumps_not : (code : Code) (place : ℕ) (op : Op) → slice_get code.ops place ≡ Some op → ((goal : ℕ) → goal_of op ≡ Some goal → goal < length code.ops) → JumpsOut code place → ⊥
jumps_not code place op stands within j =
    let same : op ≡ j.op = same_Some op j.op (sym stands ∙ j.stands) in
    omega (arith, within j.goal (ap goal_of same ∙ j.jumps), j.outside)

pub jumps_stay : (code : Code) → ((other : ℕ) → other < length code.ops → JumpsOut code other → ⊥) → JumpsStay code
jumps_stay code none place goal op stands jumps = go (cases_lt goal (length code.ops))
  where
    go : (goal < length code.ops) ⊎ (length code.ops ≤ goal) → goal < length code.ops
    go (inl l) = l
    go (inr out) = absurd (none place (slice_get_within code.ops place op stands) (record { op = op; stands = stands; goal = goal; jumps = jumps; outside = out }))

pub slots_not : (code : Code) (depths : List (Option ℕ)) → AreDepths code depths → (place : ℕ) (op : Op) (depth : Option ℕ) → slice_get code.ops place ≡ Some op → slice_get depths place ≡ Some depth → ((slots : ℕ) → depth ≡ Some slots → (effect_of op).needs ≤ slots) → Underflows code place → ⊥
slots_not code depths right place op depth stands found enough u =
    let same : op ≡ u.op = same_Some op u.op (sym stands ∙ u.stands) in
    let is : depth ≡ Some u.depth = same_Some depth (Some u.depth) (sym found ∙ (right.exact place u.depth).1 u.has_depth) in
    let needs : (effect_of op).needs ≡ (effect_of u.op).needs = ap (λ o. (effect_of o).needs) same in
    omega (arith, enough u.depth is, u.few, needs)

pub underflows_at : (code : Code) (depths : List (Option ℕ)) → AreDepths code depths → (place : ℕ) (op : Op) (depth : Option ℕ) → slice_get code.ops place ≡ Some op → slice_get depths place ≡ Some depth → (slots : ℕ) → depth ≡ Some slots → slots < (effect_of op).needs → Underflows code place
underflows_at code depths right place op depth stands found slots is few =
    record { op = op; stands = stands; depth = slots; has_depth = (right.exact place slots).0 (found ∙ ap Some is); few = few }

pub slots_suffice : (code : Code) → ((other : ℕ) → other < length code.ops → Underflows code other → ⊥) → SlotsSuffice code
slots_suffice code none place depth op stands has = go (cases_lt depth (effect_of op).needs)
  where
    go : (depth < (effect_of op).needs) ⊎ ((effect_of op).needs ≤ depth) → (effect_of op).needs ≤ depth
    go (inr enough) = enough
    go (inl few) = absurd (none place (slice_get_within code.ops place op stands) (record { op = op; stands = stands; depth = depth; has_depth = has; few = few }))

pub ranges_lie_in : (code : Code) → ((other : ℕ) → other < length code.ranges → LiesOut code other → ⊥) → RangesLieIn code
ranges_lie_in code none number range stands = go (cases_lt range.past range.first) (cases_lt (length code.ops) range.past) (cases_lt range.goal (length code.ops))
  where
    not_out : (IsRangeOf (length code.ops) range → ⊥) → IsRangeOf (length code.ops) range
    not_out out = absurd (none number (slice_get_within code.ranges number range stands) (record { range = range; stands = stands; outside = out }))

    go : (range.past < range.first) ⊎ (range.first ≤ range.past) → (length code.ops < range.past) ⊎ (range.past ≤ length code.ops) → (range.goal < length code.ops) ⊎ (length code.ops ≤ range.goal) → IsRangeOf (length code.ops) range
    go (inl less) b c = not_out (λ r. omega (arith, less, r.ordered))
    go (inr a) (inl less) c = not_out (λ r. omega (arith, less, r.within))
    go (inr a) (inr b) (inr less) = not_out (λ r. omega (arith, less, r.handler))
    go (inr a) (inr b) (inl c) = record { ordered = a; within = b; handler = c }
