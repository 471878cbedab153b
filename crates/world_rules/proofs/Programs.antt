-- What the rules give is of the program.
use Rattle.std.proofs.Common.{◌≡◌, ℕ, suc, Bool, true, false, cond, Option, Some, None, List, [], ◌∷◌, ◌⊎◌, inl, inr, refl, sym, ap, subst, ◌∙◌, slice_get, option_and_then}
use Rattle.std.specs.List.{Contains}
use Rattle.graph_walks.specs.Worlds.{Memory, Test, Edge, Fact}
use Rattle.graph_walks.proofs.Lists.{empty, first, first_as, later, only}
use Rattle.stack_code.specs.declared.code.Code.{Code}
use Rattle.stack_code.specs.declared.op.Op.{Op}
use Rattle.stack_code.specs.declared.op.Op.TheVariants as op
use Rattle.stack_code.specs.Effects.{falls}
use Rattle.tree_code.specs.Programs.{Program}
use Rattle.abstract_shapes.specs.declared.place.Place.{Place}
use Rattle.abstract_shapes.specs.Shapes.{Shape}
use Rattle.world_rules.specs.declared.row.TableEntry.{TableEntry}
use Rattle.world_rules.specs.declared.row.TransferRow.{TransferRow}
use Rattle.world_rules.specs.declared.row.Yield.{Yield}
use Rattle.world_rules.specs.declared.transfer.SeatReading.{SeatReading}
use Rattle.world_rules.specs.declared.transfer.Transfer.{Transfer}
use Rattle.world_rules.specs.declared.transfer.Transfer.TheVariants as transfer
use Rattle.world_rules.specs.Places.{Context, main, Variable, local, slot, global, Point, at, same_variable, below_top, code_of, op_at, written, target_of}
use Rattle.world_rules.specs.Sources.{Source}
use Rattle.world_rules.specs.Branches.{Branch, branch, fall_test, ask_top}
use Rattle.world_rules.specs.Items.{Item, a_context, an_edge, a_fact, an_entry, map_of, variables}
use Rattle.world_rules.specs.Readings.{readings}
use Rattle.world_rules.specs.Rows.{row_of}
use Rattle.world_rules.specs.Rules.{HasPlace, IsPoint, Stands, readings_at, Leads, on, off, Yields, Fires, GivesAt, result, enter, Gives, of_module, leads, of_point, IsDerived, derived}
use Rattle.world_rules.specs.OfProgram.{IsVariable, is_read, is_asked, IsStoredTo, stored, IsEdgeOf, IsFactOf, IsOfProgram, AsksVariable}
use Rattle.world_rules.proofs.Same.{variable_equal}

op_there : (s : Source) (c : Context) (place depth : ℕ) (o : Op) → Stands s c place depth o → op_at s.program c place ≡ Some o
op_there s c place depth o h = ap (λ code. option_and_then (λ k. slice_get k.ops place) code) h.of ∙ h.op

place_of : (s : Source) (c : Context) (place depth : ℕ) (o : Op) → Stands s c place depth o → HasPlace s c place depth
place_of s c place depth o h = record { code = h.code; of = h.of; has_depth = h.has_depth }

-- a variable that a map has a shape for is one of those that it is made of
pub among : (xs : List Variable) (ts : List Shape) (y : Variable) (u : Shape) → map_of xs ts y ≡ Some u → Contains xs y
among [] [] y u e = cc
among [] (t ∷ ts) y u e = cc
among (x ∷ xs) [] y u e = cc
among (x ∷ xs) (t ∷ ts) y u e = go (same_variable x y) refl e (among xs ts y u)
  where
    go : (b : Bool) → same_variable x y ≡ b → cond b (Some t) (map_of xs ts y) ≡ Some u → (map_of xs ts y ≡ Some u → Contains xs y) → Contains (x ∷ xs) y
    go true i e more = first_as x y xs (sym (variable_equal x y i))
    go false i e more = later x y xs (more e)

-- an instruction whose rule gives a shape has a variable that gets it
abbrev Has : Option Variable → Type 0
Has o = (x : Variable) × (o ≡ Some x)

gets : (s : Source) (c : Context) (depth : ℕ) (o : Op) (r : SeatReading) (shapes : List Shape) (y : Yield) → Contains (readings_at s c depth o) r → Contains (row_of r.transfer shapes).results y →
    Has (written s.program c depth o)
gets s c depth (op.Const k) r shapes y a b = (_, refl)
gets s c depth (op.LoadLocal i) r shapes y a b = (_, refl)
gets s c depth (op.StoreLocal i) r shapes y a b = (_, refl)
gets s c depth (op.ForgetLocal i) r shapes y a b = (_, refl)
gets s c depth (op.LoadName n) r shapes y a b = (_, refl)
gets s c depth (op.StoreName n) r shapes y a b = (_, refl)
gets s c depth (op.ForgetName n) r shapes y a b = (_, refl)
gets s c depth (op.Pick n) r shapes y a b = (_, refl)
gets s c depth (op.Unary o) r shapes y a b = (_, refl)
gets s c depth op.Not r shapes y a b = (_, refl)
gets s c depth (op.Binary o site) r shapes y a b = (_, refl)
gets s c depth (op.InPlace o site) r shapes y a b = (_, refl)
gets s c depth (op.Compare o) r shapes y a b = (_, refl)
gets s c depth _ r shapes y a b = empty r a

module _ (s : Source) (items : List Item) where
  of_fact : {c : Context} {place depth : ℕ} {r : SeatReading} {shapes : List Shape} {t : Shape} (y : Yield) → Fires s items c place depth r shapes → Contains (row_of r.transfer shapes).results y →
      IsFactOf s (record { point = at c place depth; shape = t; source = map_of (variables c r.seats) shapes })
  of_fact {c} {place} {depth} {r} {shapes} y f k =
      let x : Has (written s.program c depth f.op) = gets s c depth f.op r shapes y f.is_reading k in
      record {
        point = place_of s c place depth f.op f.stands;
        target = x.0;
        has_target = ap (λ o. option_and_then (written s.program c depth) o) (op_there s c place depth f.op f.stands) ∙ x.1;
        source = λ v u e. is_read f.stands f.is_reading (among (variables c r.seats) shapes v u e);
      }

  asks_of : (c : Context) (depth : ℕ) (test : Option (Test Shape)) → IsVariable s (slot c (below_top depth 0)) → AsksVariable s (ask_top c depth test)
  asks_of c depth None v = tt
  asks_of c depth (Some test) v = v

  fall_asks : (c : Context) (place depth : ℕ) (o : Op) → Stands s c place depth o → (b : Option Branch) → branch o ≡ b → AsksVariable s (ask_top c depth (option_and_then (λ b. b.on_fall) b))
  fall_asks c place depth o h None e = tt
  fall_asks c place depth o h (Some b) e = asks_of c depth b.on_fall (is_asked h e)

  of_edge : {c : Context} {place depth : ℕ} {o : Op} {e : Edge Point Variable Shape} → Stands s c place depth o → Leads c place depth o e → IsPoint s e.to → IsEdgeOf s e
  of_edge {c} {place} {depth} {o} h (on f n) p = record { from = place_of s c place depth o h; to = p; asks = fall_asks c place depth o h (branch o) refl }
  of_edge {c} {place} {depth} {o} h (off {b} e) p = record { from = place_of s c place depth o h; to = p; asks = asks_of c depth b.on_jump (is_asked h e) }

  given_at : {p : Point} {i : Item} → GivesAt s items p i → IsOfProgram s i
  given_at (result shapes y f k g) = of_fact y f k
  given_at (enter shapes e f k g) = stored shapes e f.stands f.is_reading k

  gives_of : {i : Item} → Gives s items i → IsOfProgram s i
  gives_of of_module = tt
  gives_of (leads k h l p) = of_edge h l p
  gives_of (of_point g) = given_at g

pub derived_of : (s : Source) (i : Item) → IsDerived s i → IsOfProgram s i
derived_of s i (derived items from g) = gives_of s items g
