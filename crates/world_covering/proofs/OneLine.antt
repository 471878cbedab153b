-- The world of `x = 1` is closed, rule by rule, so the covering speaks of something.
use Rattle.std.proofs.Common.{◌≡◌, ℕ, Bool, true, false, ◌||◌, Some, List, [], ◌∷◌, ◌⊎◌, inl, inr, refl, sym, ap, subst, arith, slice_get}
use Rattle.std.specs.Prelude.{pos}
use Rattle.std.specs.List.{All, Contains}
use Rattle.stack_code.specs.declared.code.Code.{Code}
use Rattle.stack_code.specs.declared.op.Op.{Op}
use Rattle.stack_code.specs.declared.op.Op.TheVariants as op
use Rattle.stack_code.specs.declared.op.ConstKind.TheVariants as const
use Rattle.stack_code.specs.Depths.{HasDepth, begins, given, handles, Gives as LeadsOn, goes_on, jumps}
use Rattle.graph_walks.specs.Worlds.{Edge, AllGiven, FactGives}
use Rattle.graph_walks.proofs.Lists.{empty, first_or_later, only, got}
use Rattle.abstract_shapes.specs.declared.place.Place.TheVariants.{Global}
use Rattle.abstract_shapes.specs.Shapes.{Shape, int}
use Rattle.world_rules.specs.declared.row.TableEntry.{TableEntry}
use Rattle.world_rules.specs.declared.row.Yield.{Yield}
use Rattle.world_rules.specs.declared.row.Yield.TheVariants as yields
use Rattle.world_rules.specs.declared.transfer.SeatReading.{SeatReading}
use Rattle.world_rules.specs.declared.transfer.Transfer.TheVariants as transfer
use Rattle.world_rules.specs.Places.{Context, main, Variable, slot, Point, at, same_context}
use Rattle.world_rules.specs.Items.{Item, a_context, an_edge, a_fact, an_entry, world_of, map_of, Agree, variables}
use Rattle.world_rules.specs.Readings.{slot_below}
use Rattle.world_rules.specs.Rows.{row_of}
use Rattle.world_rules.specs.Rules.{Stands, readings_at, Leads, on, off, Yields, it, Fires, GivesAt, result, enter, Gives, of_module, leads, of_point, IsClosed}
use Rattle.world_rules.proofs.Given.{seen_given}
use Rattle.world_rules.proofs.Members.{item_context}
use Rattle.world_rules.proofs.Same.{context_equal}
use Rattle.py_meaning.specs.Values.{whole}
use Rattle.py_meaning.specs.Events.{held}
use Rattle.py_meaning.specs.Programs.{program}
use Rattle.py_meaning.specs.Runs.{run, answer}
use Rattle.world_covering.specs.Covering.{IsCovered}
use Rattle.world_covering.proofs.Covered.{covered}
use Rattle.world_covering.specs.OneLine.{one_line, its_settings, its_source, pushed, stored, literal_is_int, name_gets_int, its_world}
use Rattle.world_covering.proofs.Seats.{some_same}

abbrev its_code : Code
its_code = its_source.program.body

abbrev Has : Item → Type 0
Has i = Contains its_world i

-- ---- its instructions

data Depth : ℕ → ℕ → Type 0 where
  at_first : Depth 0 0
  at_second : Depth 1 1
  at_last : Depth 2 0

data Placed : ℕ → ℕ → Op → Type 0 where
  pushes : Placed 0 0 (op.Const const.Int)
  stores : Placed 1 1 (op.StoreName 0)
  ends : Placed 2 0 op.End

placed : {place depth : ℕ} {o : Op} → Depth place depth → slice_get its_code.ops place ≡ Some o → Placed place depth o
placed (at_first) e = subst (λ o. Placed 0 0 o) (some_same e) pushes
placed (at_second) e = subst (λ o. Placed 1 1 o) (some_same e) stores
placed (at_last) e = subst (λ o. Placed 2 0 o) (some_same e) ends

next : {from before : ℕ} {o : Op} {place depth : ℕ} → Placed from before o → LeadsOn o from before place depth → Depth place depth
next (pushes) (goes_on n f) = at_second
next (pushes) (jumps n e) = cc
next (stores) (goes_on n f) = at_last
next (stores) (jumps n e) = cc
next (ends) (goes_on n f) = cc
next (ends) (jumps n e) = cc

deep : {place depth : ℕ} → HasDepth its_code place depth → Depth place depth
deep (begins l) = at_first
deep (given h e g l) = next (placed (deep h) e) g
deep (handles h c v l) = empty _ c

stands_there : {place depth : ℕ} {o : Op} → Stands its_source main place depth o → Placed place depth o
stands_there {place} {depth} {o} s =
    let same : s.code ≡ its_code = some_same (sym s.of) in
    placed (deep (subst (λ z. HasDepth z place depth) same s.has_depth)) (subst (λ z. slice_get z.ops place ≡ Some o) same s.op)

edge_there : {place depth : ℕ} {o : Op} {e : Edge Point Variable Shape} → Placed place depth o → Leads main place depth o e → Has (an_edge e)
edge_there (pushes) (on f n) = got its_world 1 (an_edge pushed) refl
edge_there (pushes) (off g) = cc
edge_there (stores) (on f n) = got its_world 2 (an_edge stored) refl
edge_there (stores) (off g) = cc
edge_there (ends) (on f n) = cc
edge_there (ends) (off g) = cc

-- ---- what fires

abbrev of_literal : SeatReading
of_literal = record { seats = []; transfer = transfer.Makes yields.Int }

abbrev of_store : SeatReading
of_store = record { seats = slot_below 1 0 ∷ []; transfer = transfer.Stores 0 }

data Fired : ℕ → ℕ → SeatReading → List Shape → Type 0 where
  made : Fired 0 0 of_literal []
  copied : Fired 1 1 of_store (int ∷ [])

only_int : (x : Variable) (t : Shape) → FactGives (world_of its_source its_world) x t → t ≡ int
only_int x t g = go (first_or_later literal_is_int _ (name_gets_int ∷ []) g.fact)
  where
    go : (record { point = g.point; shape = t; source = g.source } ≡ literal_is_int) ⊎ Contains (name_gets_int ∷ []) (record { point = g.point; shape = t; source = g.source }) → t ≡ int
    go (inl e) = ap (λ f. f.shape) e
    go (inr c) = ap (λ f. f.shape) (only name_gets_int _ c)

abbrev Looked : SeatReading → List Shape → Type 0
Looked r shapes = Agree (variables main r.seats) shapes (map_of (variables main r.seats) shapes) × AllGiven (world_of its_source its_world) (map_of (variables main r.seats) shapes)

literal_fired : (shapes : List Shape) → Looked of_literal shapes → Fired 0 0 of_literal shapes
literal_fired [] h = made
literal_fired (t ∷ ts) h = absurd h.0

store_fired : (shapes : List Shape) → Looked of_store shapes → Fired 1 1 of_store shapes
store_fired [] h = absurd h.0
store_fired (t ∷ []) h = subst (λ z. Fired 1 1 of_store (z ∷ [])) (sym (only_int (slot main 0) t (h.1.at (slot main 0) t h.0.0))) copied
store_fired (t ∷ u ∷ ts) h = absurd h.0.1

fired : {place depth : ℕ} {o : Op} → Placed place depth o → (r : SeatReading) (shapes : List Shape) → Contains (readings_at its_source main depth o) r → Looked r shapes → Fired place depth r shapes
fired (pushes) r shapes c h = subst (λ z. Looked z shapes → Fired 0 0 z shapes) (sym (only of_literal r c)) (literal_fired shapes) h
fired (stores) r shapes c h = subst (λ z. Looked z shapes → Fired 1 1 z shapes) (sym (only of_store r c)) (store_fired shapes) h
fired (ends) r shapes c h = empty r c

-- ---- what the rules give is there

int_yielded : (shapes : List Shape) (t : Shape) → Yields its_source its_world shapes yields.Int t → int ≡ t
int_yielded shapes t (it e) = some_same e

read_yielded : (t : Shape) → Yields its_source its_world (int ∷ []) (yields.Read 0) t → int ≡ t
read_yielded t (it e) = some_same e

fact_there : {place depth : ℕ} {r : SeatReading} {shapes : List Shape} → Fired place depth r shapes → (y : Yield) (t : Shape) → Contains (row_of r.transfer shapes).results y → Yields its_source its_world shapes y t →
    Has (a_fact (record { point = at main place depth; shape = t; source = map_of (variables main r.seats) shapes }))
fact_there (made) y t c k =
    subst (λ z. Has (a_fact (record { point = at main 0 0; shape = z; source = map_of [] [] }))) (int_yielded [] t (subst (λ z. Yields its_source its_world [] z t) (only yields.Int y c) k)) (got its_world 3 (a_fact literal_is_int) refl)
fact_there (copied) y t c k =
    subst (λ z. Has (a_fact (record { point = at main 1 1; shape = z; source = map_of (slot main 0 ∷ []) (int ∷ []) }))) (read_yielded t (subst (λ z. Yields its_source its_world (int ∷ []) z t) (only (yields.Read 0) y c) k)) (got its_world 4 (a_fact name_gets_int) refl)

abbrev into_name : TableEntry
into_name = record { place = Global 0; given = yields.Read 0 }

entry_there : {place depth : ℕ} {r : SeatReading} {shapes : List Shape} → Fired place depth r shapes → (e : TableEntry) (t : Shape) → Contains (row_of r.transfer shapes).entries e → Yields its_source its_world shapes e.given t → Has (an_entry e.place t)
entry_there (made) e t c k = empty e c
entry_there (copied) e t c k =
    let same : e ≡ into_name = only into_name e c in
    subst (λ z. Has (an_entry z.place t)) (sym same) (subst (λ z. Has (an_entry (Global 0) z)) (read_yielded t (subst (λ z. Yields its_source its_world (int ∷ []) z.given t) same k)) (got its_world 5 (an_entry (Global 0) int) refl))

-- ---- the module's context is the only one

only_main : (c : Context) → Has (a_context c) → main ≡ c
only_main c h = go (same_context main c) refl (item_context its_world c h)
  where
    go : (b : Bool) → same_context main c ≡ b → (b || false) ≡ true → main ≡ c
    go true e k = context_equal main c e
    go false e k = cc

here_fired : {place depth : ℕ} {r : SeatReading} {shapes : List Shape} → Fires its_source its_world main place depth r shapes → Fired place depth r shapes
here_fired {place} {depth} {r} {shapes} f = fired (stands_there f.stands) r shapes f.is_reading (f.agree, seen_given its_source its_world (at main place depth) (map_of (variables main r.seats) shapes) f.seen)

given_there : {p : Point} {i : Item} → GivesAt its_source its_world p i → Has i
given_there (result {c = c} {place = place} {depth = depth} {r = r} {t = t} shapes y f k g) =
    subst (λ z. Fires its_source its_world z place depth r shapes → Has (a_fact (record { point = at z place depth; shape = t; source = map_of (variables z r.seats) shapes }))) (only_main c f.context) (λ h. fact_there (here_fired h) y t k g) f
given_there (enter {c = c} {place = place} {depth = depth} {r = r} {t = t} shapes e f k g) =
    subst (λ z. Fires its_source its_world z place depth r shapes → Has (an_entry e.place t)) (only_main c f.context) (λ h. entry_there (here_fired h) e t k g) f

each_there : (i : Item) → Gives its_source its_world i → Has i
each_there _ (of_module) = got its_world 0 (a_context main) refl
each_there _ (leads {c = c} {place = place} {depth = depth} {o = o} {e = e} h s l q) =
    subst (λ z. Stands its_source z place depth o → Leads z place depth o e → Has (an_edge e)) (only_main c h) (λ u k. edge_there (stands_there u) k) s l
each_there _ (of_point g) = given_there g

pub its_world_is_closed : IsClosed its_source its_world
its_world_is_closed = record { has = each_there }

-- the covering of its runs, with nothing left to assume
pub its_runs_are_covered : (turns : ℕ) (choices : List ℕ) → All (IsCovered its_source its_world (program one_line []) (run one_line [] turns choices []).heap) (run one_line [] turns choices []).events
its_runs_are_covered turns choices = covered one_line [] its_settings its_world its_world_is_closed ((omega arith, tt), tt) refl ((tt, tt), tt) turns choices

-- a run tells what the name holds
pub its_name_is_held : (run one_line [] 0 [] []).events ≡ held 0 (whole (pos 1)) ∷ []
unfolding run answer
its_name_is_held = refl
