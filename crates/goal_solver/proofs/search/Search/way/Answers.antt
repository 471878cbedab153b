use Rattle.std.proofs.Common.{◌≡◌, ◌<◌, Some, length, slice_get, refl, arith}
use Rattle.std.proofs.lemmas.Option.{slice_get_read}
use Rattle.goal_solver.proofs.Meetings.{way_begins, way_goes_on, way_ends}
use Rattle.goal_solver.proofs.search.Search.way.Goals as goal

pub loop-at-init : goal.loop-at-init
loop-at-init c = way_begins _ _ _ _ _ _ _ c.new-way.ensures c.in_ok-add.ensures c.get.ensures c.in_ok-copy.ensures

pub get-requires-in-loop-at : goal.get-requires-in-loop-at
get-requires-in-loop-at c =
    let h : slice_get c.args.self.now.parents.items c.loop-at.at ≡ Some c.index-at.result.now = slice_get_read c.args.self.now.parents.items (length c.args.self.now.parents.items) c.loop-at.at c.index-at.result.now refl (omega (arith, c.loop-at.invariant.within, c.requires.even)) c.index-at.ensures in
    let l : c.index-at.result.now < c.loop-at.at = c.requires.earlier c.loop-at.at c.index-at.result.now h (omega arith) in
    omega (arith, l, c.loop-at.invariant.within)

pub loop-at-smaller : goal.loop-at-smaller
loop-at-smaller c =
    let h : slice_get c.args.self.now.parents.items c.loop-at.at ≡ Some c.index-at.result.now = slice_get_read c.args.self.now.parents.items (length c.args.self.now.parents.items) c.loop-at.at c.index-at.result.now refl (omega (arith, c.loop-at.invariant.within, c.requires.even)) c.index-at.ensures in
    c.requires.earlier c.loop-at.at c.index-at.result.now h (omega arith)

pub loop-at-preserved : goal.loop-at-preserved
loop-at-preserved c =
    let h : slice_get c.args.self.now.parents.items c.loop-at.at ≡ Some c.index-at.result.now = slice_get_read c.args.self.now.parents.items (length c.args.self.now.parents.items) c.loop-at.at c.index-at.result.now refl (omega (arith, c.loop-at.invariant.within, c.requires.even)) c.index-at.ensures in
    way_goes_on _ _ c.loop-at.at c.index-at.result.now _ _ _ _ _ c.loop-at.invariant (omega arith) h c.in_ok-add-2.ensures c.get-in-loop-at.ensures c.in_ok-copy-2.ensures

pub returns : goal.returns
returns c = way_ends _ _ _ _ c.loop-at.invariant (omega arith)
