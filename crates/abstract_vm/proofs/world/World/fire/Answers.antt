-- What was added is what the rules give, also where it is too much.
use Rattle.std.proofs.Common.{◌≡◌, ◌↔◌, ◌-◌, ◌^◌, ◌<◌, ◌≤◌, Bool, Result, Ok, Err, length, lit<, sym, refl, subst, ◌∙◌}
use Rattle.std.specs.List.{Contains}
use Rattle.std.specs.Prelude.{IsTrue, IfOk, OnOk, IsErrOf}
use Rattle.std.specs.declared.alloc.AllocError.{AllocError}
use Rattle.type_terms.specs.StubSets.{given}
use Rattle.world_rules.specs.Sources.{Source}
use Rattle.world_rules.specs.Items.{Item}
use Rattle.world_rules.specs.Rules.{GivesAt}
use Rattle.abstract_vm.specs.declared.fault.VmFault.{VmFault}
use Rattle.abstract_vm.specs.declared.fault.VmFault.TheVariants.{Full, Memory}
use Rattle.abstract_vm.specs.Worlds.{WorldState, items_in, point_in, source, most_items}
use Rattle.abstract_vm.specs.Firing.{HasNewItem}
use Rattle.abstract_vm.specs.Readings.{IsSourceIn}
use Rattle.abstract_vm.specs.Steps.{IsFlag}
use Rattle.abstract_vm.proofs.Whole.{flag_tells, more_there, no_more_there}
use Rattle.abstract_vm.proofs.world.World.fire.Goals as goal
use Rattle.abstract_vm.proofs.world.World.fire.Goals.{in-Ok, in-Err}

pub returns-then-item_count-gt-MOST_ITEMS-clause-fired : goal.returns-then-item_count-gt-MOST_ITEMS-clause-fired
returns-then-item_count-gt-MOST_ITEMS-clause-fired g c =
    let s : Source = source c.args.program.now (given c.args.stubs.now) c.args.depth c.args.self.now in
    c.fire_point-fired.ensures.fired s c.requires.world (record { program = record { program = refl; scopes = refl }; budget = refl })

pub returns-then-item_count-gt-MOST_ITEMS-clause-full : goal.returns-then-item_count-gt-MOST_ITEMS-clause-full
returns-then-item_count-gt-MOST_ITEMS-clause-full g c =
    let few : length (items_in c.fire_point-fired.new.self) < 2 ^ 32 → c.item_count.result ≡ length (items_in c.fire_point-fired.new.self) =
    subst (λ (w : WorldState). length (items_in w) < 2 ^ 32 → c.item_count.result ≡ length (items_in w)) c.self.view_is c.item_count.ensures.few in
    let many : 2 ^ 32 ≤ length (items_in c.fire_point-fired.new.self) → c.item_count.result ≡ 2 ^ 32 - 1 =
    subst (λ (w : WorldState). 2 ^ 32 ≤ length (items_in w) → c.item_count.result ≡ 2 ^ 32 - 1) c.self.view_is c.item_count.ensures.many in
    (λ e. more_there (length (items_in c.fire_point-fired.new.self)) c.item_count.result most_items (lit< tt) few many c.if-item_count-gt-MOST_ITEMS.true, λ m. refl)

pub returns-clause-fired : goal.returns-clause-fired
returns-clause-fired g c =
    let s : Source = source c.args.program.now (given c.args.stubs.now) c.args.depth c.args.self.now in
    c.fire_point-fired.ensures.fired s c.requires.world (record { program = record { program = refl; scopes = refl }; budget = refl })

pub returns-clause-complete : goal.returns-clause-complete
returns-clause-complete g c =
    let s : Source = source c.args.program.now (given c.args.stubs.now) c.args.depth c.args.self.now in
    let P : Type 0 = (i : Item) → GivesAt s (items_in c.args.self.now) (point_in c.args.self.now c.args.point) i → Contains (items_in c.fire_point-fired.new.self) i in
    let has : OnOk c.fire_point-fired.result P = c.fire_point-fired.ensures.has s c.requires.world (record { program = record { program = refl; scopes = refl }; budget = refl }) in
    elim c.match-fired.branch [
      | in-Ok w ↦ subst (λ (r : Result Bool VmFault). OnOk r P) (sym w.result-is) (subst (λ (r : Result Bool AllocError). OnOk r P) w.in-Ok.is has)
      | in-Err w ↦ subst (λ (r : Result Bool VmFault). OnOk r P) (sym w.result-is) tt
    ]

pub returns-clause-grown : goal.returns-clause-grown
returns-clause-grown g c =
    let s : Source = source c.args.program.now (given c.args.stubs.now) c.args.depth c.args.self.now in
    let told : IfOk c.fire_point-fired.result (λ grown. IsFlag grown c.args.self.now c.fire_point-fired.new.self) = c.fire_point-fired.ensures.told s c.requires.world (record { program = record { program = refl; scopes = refl }; budget = refl }) in
    elim c.match-fired.branch [
      | in-Ok w ↦ subst (λ (r : Result Bool VmFault). IfOk r (λ grown. IsTrue grown ↔ HasNewItem c.args.self.now c.fire_point-fired.new.self)) (sym w.result-is)
          (flag_tells w.in-Ok.grown c.args.self.now c.fire_point-fired.new.self (subst (λ (r : Result Bool AllocError). IfOk r (λ grown. IsFlag grown c.args.self.now c.fire_point-fired.new.self)) w.in-Ok.is told))
      | in-Err w ↦ subst (λ (r : Result Bool VmFault). IfOk r (λ grown. IsTrue grown ↔ HasNewItem c.args.self.now c.fire_point-fired.new.self)) (sym w.result-is) tt
    ]

-- a value is no fault, and a want of memory is not that there are too many items
ok_not_full : (r : Result Bool VmFault) (b : Bool) → r ≡ Ok b → r ≡ Err Full → ⊥
ok_not_full r b e f = cc

memory_not_full : (r : Result Bool VmFault) → r ≡ Err Memory → r ≡ Err Full → ⊥
memory_not_full r e f = cc

pub returns-clause-full : goal.returns-clause-full
returns-clause-full g c =
    let few : length (items_in c.fire_point-fired.new.self) < 2 ^ 32 → c.item_count.result ≡ length (items_in c.fire_point-fired.new.self) =
    subst (λ (w : WorldState). length (items_in w) < 2 ^ 32 → c.item_count.result ≡ length (items_in w)) c.self.view_is c.item_count.ensures.few in
    let many : 2 ^ 32 ≤ length (items_in c.fire_point-fired.new.self) → c.item_count.result ≡ 2 ^ 32 - 1 =
    subst (λ (w : WorldState). 2 ^ 32 ≤ length (items_in w) → c.item_count.result ≡ 2 ^ 32 - 1) c.self.view_is c.item_count.ensures.many in (
      λ e. elim c.match-fired.branch [ in-Ok w ↦ absurd (ok_not_full c.match-fired.result w.in-Ok.grown w.result-is e) | in-Err w ↦ absurd (memory_not_full c.match-fired.result w.result-is e) ],
      λ m. absurd (no_more_there (length (items_in c.fire_point-fired.new.self)) c.item_count.result most_items (lit< tt) few many c.if-item_count-gt-MOST_ITEMS.false m),
    )
