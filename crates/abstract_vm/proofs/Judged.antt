-- What the rules of a point and the output tell is what is found, unchecked and heavy there.
use Rattle.std.proofs.Common.{◌≡◌, ◌↔◌, ◌⊎◌, inl, inr, ℕ, true, false, List, [], sym, ap, subst, ◌∙◌}
use Rattle.std.specs.Option.{unwrap_or}
use Rattle.std.specs.List.{Contains}
use Rattle.graph_walks.proofs.Lists.{empty}
use Rattle.stack_code.specs.declared.op.Op.{Op}
use Rattle.stack_code.specs.declared.op.Op.TheVariants as op
use Rattle.abstract_shapes.specs.Shapes.{Shape}
use Rattle.world_rules.specs.declared.finding.FaultText.{FaultText}
use Rattle.world_rules.specs.declared.transfer.SeatReading.{SeatReading}
use Rattle.world_rules.specs.Places.{Context, main, at}
use Rattle.world_rules.specs.Sources.{Source}
use Rattle.world_rules.specs.Items.{Item}
use Rattle.world_rules.specs.Rules.{Stands, Fires, readings_at}
use Rattle.world_rules.specs.Findings.{FindsAt, UnchecksAt, OutputQuery, at_end, at_return, IsHeavyAt}
use Rattle.world_tables.specs.declared.spot.PointSpot.{PointSpot}
use Rattle.world_tables.specs.Tables.{items_of, the_point}
use Rattle.world_tables.specs.Rows.{contexts_of}
use Rattle.world_queries.specs.Queries.{StandsAt, HasHeavyReading, HasHeavyShape}
use Rattle.context_code.specs.Readings.{readings_of}
use Rattle.abstract_vm.specs.declared.judging.Judging.{Judging}
use Rattle.abstract_vm.specs.declared.verdict.Verdict.{Verdict}
use Rattle.abstract_vm.specs.Marks.{Mark, a_fault, is_unchecked, is_heavy, Says, SaysToo}
use Rattle.abstract_vm.specs.Asking.{IsAsked, tables_in, context_at, PointTells}
use Rattle.abstract_vm.specs.Verdicts.{IsJudged}
use Rattle.abstract_vm.proofs.Standing.{point_is, op_is, readings_are}

-- an instruction that stands where there is a query
record HasStands (s : Source) (c : Context) (place depth : ℕ) : Type 0 where
  op : Op
  stands : Stands s c place depth op

output_stands : (s : Source) (items : List Item) (c : Context) (place depth : ℕ) (goals : _) → OutputQuery s items c place depth goals → HasStands s c place depth
output_stands s items c place depth goals (at_end n t known stands given) = record { op = op.End; stands = stands }
output_stands s items c place depth goals (at_return t known stands given) = record { op = op.Return; stands = stands }

heavy_stands : (s : Source) (items : List Item) (c : Context) (place depth : ℕ) → IsHeavyAt s items c place depth → HasStands s c place depth
heavy_stands s items c place depth h = elim h.query [ inl q ↦ record { op = q.op; stands = q.stands } | inr q ↦ output_stands s items c place depth h.goals q ]

module _ (s : Source) (j : Judging) (spot : PointSpot) (known : IsAsked s j s.budget spot)
    (heavy_by : (o : Op) → StandsAt s (tables_in j) j.point (context_at j spot) spot.place spot.depth o →
    IsHeavyAt s (items_of (tables_in j)) (context_at j spot) spot.place spot.depth ↔
    (HasHeavyReading s (tables_in j) j.point (context_at j spot) spot.depth o ⊎ HasHeavyShape s (tables_in j) j.point (context_at j spot) spot.depth o)) where
  abbrev items : List Item
  items = items_of (tables_in j)

  abbrev c : Context
  c = context_at j spot

  -- a reading that fires is one of the instruction's
  among : (reading : SeatReading) (shapes : List Shape) → Fires s items c spot.place spot.depth reading shapes → Contains (readings_of j.program.now (contexts_of j.tables.now) spot) reading
  among reading shapes f =
      subst (λ rs. Contains rs reading)
      (sym (readings_are s j s.budget spot known f.op (op_is s j s.budget spot known spot.place spot.depth f.op f.stands))) f.is_reading

  module _ (v w : Verdict) (nothing_said : (m : Mark) → Says v m → ⊥) (t : SaysToo (PointTells s j spot) v w) where
    fresh : (m : Mark) → Says w m → PointTells s j spot m
    fresh m h = elim ((t.each m).0 h) [ inl i ↦ absurd (nothing_said m i) | inr i ↦ i ]

    said : (m : Mark) → PointTells s j spot m → Says w m
    said m h = (t.each m).1 (inr h)

    finds : (f : FaultText) → PointTells s j spot (a_fault f) → FindsAt s items c spot.place spot.depth f
    finds f (inl h) = record { reading = h.item; shapes = h.says.shapes; fires = h.says.fires; fault = h.says.tells.fault; has_fault = h.says.tells.has_fault; told = h.says.tells.told }
    finds f (inr h) = absurd h

    found : (f : FaultText) → FindsAt s items c spot.place spot.depth f → PointTells s j spot (a_fault f)
    found f h =
        inl (record {
          item = h.reading;
          is = among h.reading h.shapes h.fires;
          says = record { shapes = h.shapes; fires = h.fires; tells = record { fault = h.fault; has_fault = h.has_fault; told = h.told } };
        })

    unchecks : PointTells s j spot is_unchecked → UnchecksAt s items c spot.place spot.depth
    unchecks (inl h) = record { reading = h.item; shapes = h.says.shapes; fires = h.says.fires; unchecked = h.says.tells }
    unchecks (inr h) = absurd h

    unchecked : UnchecksAt s items c spot.place spot.depth → PointTells s j spot is_unchecked
    unchecked h = inl (record { item = h.reading; is = among h.reading h.shapes h.fires; says = record { shapes = h.shapes; fires = h.fires; tells = h.unchecked } })

    weighs : PointTells s j spot is_heavy → IsHeavyAt s items c spot.place spot.depth
    weighs (inl h) = (heavy_by h.says.op h.says.stands).1 (inl (record { reading = h.item; vars = h.says.vars; is = h.says.is; choice = h.says.choice }))
    weighs (inr h) = (heavy_by h.op h.stands).1 (inr h.shape)

    weighed : IsHeavyAt s items c spot.place spot.depth → PointTells s j spot is_heavy
    weighed h = go ((heavy_by stood.op stands).0 h)
      where
        stood : HasStands s c spot.place spot.depth
        stood = heavy_stands s items c spot.place spot.depth h

        stands : StandsAt s (tables_in j) j.point c spot.place spot.depth stood.op
        stands = record { point = point_is s j s.budget spot known; stands = stood.stands }

        reading_is : (r : SeatReading) → Contains (readings_at s c spot.depth stood.op) r → Contains (readings_of j.program.now (contexts_of j.tables.now) spot) r
        reading_is r k = subst (λ rs. Contains rs r) (sym (readings_are s j s.budget spot known stood.op (op_is s j s.budget spot known spot.place spot.depth stood.op stood.stands))) k

        go : HasHeavyReading s (tables_in j) j.point c spot.depth stood.op ⊎ HasHeavyShape s (tables_in j) j.point c spot.depth stood.op → PointTells s j spot is_heavy
        go (inl r) = inl (record { item = r.reading; is = reading_is r.reading r.is.is_reading; says = record { op = stood.op; stands = stands; vars = r.vars; is = r.is; choice = r.choice } })
        go (inr o) = inr (record { op = stood.op; stands = stands; shape = o })

    judged_at : IsJudged s items (at c spot.place spot.depth) w
    judged_at =
        record {
          faults = λ f. (λ h. finds f (fresh (a_fault f) h), λ h. said (a_fault f) (found f h));
          unchecked = (λ h. unchecks (fresh is_unchecked h), λ h. said is_unchecked (unchecked h));
          heavy = (λ h. weighs (fresh is_heavy h), λ h. said is_heavy (weighed h));
        }

    pub judged : IsJudged s items (the_point (tables_in j) j.point) w
    judged = subst (λ p. IsJudged s items p w) (sym (ap (λ o. unwrap_or o (at main 0 0)) (point_is s j s.budget spot known))) judged_at

-- a verdict with nothing in it says nothing
pub says_nothing : (v : Verdict) → v.faults ≡ [] → v.unchecked ≡ false → v.heavy ≡ false → (m : Mark) → Says v m → ⊥
says_nothing v a b c (a_fault f) h = empty f (subst (λ fs. Contains fs f) a h)
says_nothing v a b c is_unchecked h = let k : false ≡ true = sym b ∙ h in cc
says_nothing v a b c is_heavy h = let k : false ≡ true = sym c ∙ h in cc
