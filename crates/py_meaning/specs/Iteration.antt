-- What iterating a value gives (language reference, "The for statement"; library reference, "Iterator Types").
use Rattle.std.specs.Prelude.{ℕ, zero, suc, Bool, ◌||◌, List, [], ◌∷◌, ◌++◌, map, length, Option, Some, None, is_some, slice_get, unwrap_or, if◌then◌else◌}
use Rattle.builtin_stubs.specs.declared.basic.Basic.{Basic}
use Rattle.builtin_stubs.specs.declared.parts.Outcome.{Outcome}
use Rattle.builtin_stubs.specs.declared.parts.Outcome.TheVariants as outcome
use Rattle.builtin_stubs.specs.declared.parts.Part.{Part}
use Rattle.builtin_stubs.specs.declared.parts.Part.TheVariants as part
use Rattle.builtin_stubs.specs.declared.parts.Parts.TheVariants as parts
use Rattle.builtin_stubs.specs.Kinds.{items_of as items_of_kind, kind_of_term}
use Rattle.builtin_stubs.specs.Meanings.{Native, outcome_of}
use Rattle.builtin_stubs.specs.Natives.{natives}
use Rattle.type_terms.specs.Terms as term
use Rattle.type_terms.specs.Terms.{Term, Terms}
use Rattle.py_meaning.specs.Values.{Value, none, ref}
use Rattle.py_meaning.specs.Objects as object
use Rattle.py_meaning.specs.Objects.{Object, kind_of, is_unfollowed, is_unfollowed_at}
use Rattle.py_meaning.specs.Programs.{Program}
use Rattle.py_meaning.specs.Fresh.{fresh, fresh_member, of_kind, size}
use Rattle.py_meaning.specs.Actions.{Action, gives, takes, counts, looks, bind, allocate, anything, at_place, is_even, pick}

-- what one step gives: nothing, since the value can't be iterated; the end; or an element
pub data Step : Type 0 where
  no_items : Step
  ended : Step
  element : Value → Step

abbrev pub on_element : {A : Type 0} → Step → (Value → Action A) → Action A → Action A
on_element (element v) f a = f v
on_element _ f a = a

abbrev pub stepped : Option Value → Step
stepped None = ended
stepped (Some v) = element v

-- any current element, and after the last number the end
abbrev pub among : List Value → Action Step
among vs = bind (pick (suc (length vs))) (λ i. gives (stepped (slice_get vs i)))

-- a fresh element where the next choice is even, and the end where it is odd
abbrev pub by_parity : Action Value → Action Step
by_parity a = takes (λ c. if is_even c then bind a (λ v. gives (element v)) else gives ended)

-- of the places that a type declares, where it declares any
abbrev pub of_places : Program → Terms → Action Step
of_places p term.no_terms = gives ended
of_places p ts = by_parity (bind (pick (size ts)) (fresh_member p ts))

-- what a value of a declared type gives of a part of it, and a fresh value for a part that is a kind
abbrev pub declared_step : Program → Option Part → Term → Action Step
declared_step p (Some (part.Kind k)) t = by_parity (of_kind k)
declared_step p (Some part.OwnElements) (term.list t) = by_parity (fresh p t)
declared_step p (Some part.OwnElements) (term.tuple ts) = of_places p ts
declared_step p (Some part.OwnElements) (term.tuple_of t) = by_parity (fresh p t)
declared_step p (Some part.OwnKeys) (term.dict t u) = by_parity (fresh p t)
declared_step p (Some part.OwnValues) (term.dict t u) = by_parity (fresh p u)
declared_step p _ _ = gives no_items

abbrev pub step_of_term : Program → Term → Action Step
step_of_term p t = declared_step p (items_of_kind (kind_of_term t)) t

-- ---- dicts by their values and by their pairs

abbrev pub values_of : Program → Object → Action Step
values_of p (object.dict site ps) = among (map (λ q. q.1) ps)
values_of p (object.outside t) = declared_step p (Some part.OwnValues) t
values_of p _ = gives no_items

-- a pair that a view gives is a tuple of two places, made anew where the view was made
abbrev pub pair_of : (site : ℕ) → Value → Value → Action Value
pair_of site v w = allocate (object.tuple site object.places (v ∷ w ∷ []))

abbrev pub paired : (site : ℕ) → Option (Value × Value) → Action Step
paired site None = gives ended
paired site (Some q) = bind (pair_of site q.0 q.1) (λ v. gives (element v))

abbrev pub pairs_of : Program → (site : ℕ) → Object → Action Step
pairs_of p site (object.dict own ps) = bind (pick (suc (length ps))) (λ i. paired site (slice_get ps i))
pairs_of p site (object.outside (term.dict t u)) = by_parity (bind (fresh p t) (λ v. bind (fresh p u) (λ w. pair_of site v w)))
pairs_of p site _ = gives no_items

abbrev pub at_value : Value → (Object → Action Step) → Action Step
at_value (ref place) f = at_place place f
at_value _ f = gives no_items

-- ---- views, by the row of the native that gave them

-- an element, and the other part of its pair; it ends where either ends
abbrev pub paired_with : (site : ℕ) → Action Step → Action Step → Action Step
paired_with site a b =
    bind a (λ one. on_element one (λ v. bind b (λ other. on_element other (λ w. bind (pair_of site v w) (λ x. gives (element x))) (gives ended))) (gives ended))

-- an element, and a fresh value of a kind before it in the pair
abbrev pub numbered : (site : ℕ) → Basic → Action Step → Action Step
numbered site k a =
    bind a (λ one. on_element one (λ v. bind (of_kind k) (λ n. bind (pair_of site n v) (λ x. gives (element x)))) (gives ended))

abbrev pub argument_at : List Value → ℕ → Value
argument_at vs i = unwrap_or (slice_get vs i) none

-- `inner` iterates what a view goes through
abbrev pub step_of_view : Program → (Value → Action Step) → (site : ℕ) → (receiver : Value) → List Value → Outcome → Action Step
step_of_view p inner site receiver vs (outcome.View (parts.One part.OwnKeys)) = inner receiver
step_of_view p inner site receiver vs (outcome.View (parts.One part.OwnValues)) = at_value receiver (values_of p)
step_of_view p inner site receiver vs (outcome.PairView (parts.One part.OwnKeys) (parts.One part.OwnValues)) = at_value receiver (pairs_of p site)
step_of_view p inner site receiver vs (outcome.PairView (parts.One (part.Kind k)) (parts.One (part.Items i))) = numbered site k (inner (argument_at vs i))
step_of_view p inner site receiver vs (outcome.PairView (parts.One (part.Items i)) (parts.One (part.Items j))) =
    paired_with site (inner (argument_at vs i)) (inner (argument_at vs j))
step_of_view p inner site receiver vs _ = gives ended

abbrev pub step_of_native : Program → (Value → Action Step) → (site : ℕ) → (receiver : Value) → List Value → Option Native → Action Step
step_of_native p inner site receiver vs None = gives ended
step_of_native p inner site receiver vs (Some n) = step_of_view p inner site receiver vs (outcome_of n.deed)

-- ---- any value

abbrev pub step_of_object : Program → (Value → Action Step) → Object → Action Step
step_of_object p inner (object.list site vs) = among vs
step_of_object p inner (object.tuple site layout vs) = among vs
step_of_object p inner (object.dict site ps) = among (map (λ q. q.0) ps)
step_of_object p inner (object.view site native receiver vs) = step_of_native p inner site (unwrap_or receiver none) vs (slice_get natives native)
step_of_object p inner (object.outside t) = if is_unfollowed (object.outside t) then by_parity anything else step_of_term p t
step_of_object p inner _ = gives no_items

abbrev pub step_of : Program → (Value → Action Step) → Value → Action Step
step_of p inner (ref place) = at_place place (step_of_object p inner)
step_of p inner v = declared_step p (items_of_kind (kind_of [] v)) term.any

-- with so many views at most, one going through the other
abbrev pub iterate_in : Program → ℕ → Value → Action Step
iterate_in p zero v = step_of p (λ w. gives ended) v
iterate_in p (suc n) v = step_of p (λ w. iterate_in p n w) v

-- A view goes through what was there before it, so no more views than objects go one through the other.
abbrev pub iterate : Program → Value → Action Step
iterate p v = looks (λ m. iterate_in p (length m.heap) v)

-- whether a value can be iterated
abbrev pub is_iterable : List Object → Value → Bool
is_iterable heap v = is_unfollowed_at heap v || is_some (items_of_kind (kind_of heap v))

-- ---- natives that take items

-- Each element takes a choice, so there are no more than choices are left.
abbrev pub drain_in : Program → ℕ → Value → List Value → Action (List Value)
drain_in p zero v sofar = bind (iterate p v) (λ one. gives sofar)
drain_in p (suc n) v sofar = bind (iterate p v) (λ one. on_element one (λ w. drain_in p n v (sofar ++ w ∷ [])) (gives sofar))

abbrev pub drain : Program → Value → Action (List Value)
drain p v = counts (λ n. drain_in p n v [])

abbrev pub items_of_object : Program → Value → Object → Action (List Value)
items_of_object p v (object.list site vs) = gives vs
items_of_object p v (object.tuple site layout vs) = gives vs
items_of_object p v (object.dict site ps) = gives (map (λ q. q.0) ps)
items_of_object p v _ = drain p v

-- the parts of a list or a tuple and the keys of a dict, in order; from anything else what iterating it gives until it ends
abbrev pub items_of : Program → Value → Action (List Value)
items_of p (ref place) = at_place place (items_of_object p (ref place))
items_of p v = drain p v
