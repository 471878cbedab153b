use Rattle.std.proofs.Common.{◌≡◌, ℕ, Bor, List, ◌||◌, map, drop}
use Rattle.std.specs.HashSet.{contains_by}
use Rattle.std.specs.Str.{bytes_eq}
use Rattle.type_terms.specs.Stubs.{fun_view}
use Rattle.pyi_write.specs.Orders.{is_fun}
use Rattle.pyi_write.proofs.orders.fun_names.Given as goal

abbrev pub invariant-loop-fun : goal.invariant-loop-fun
invariant-loop-fun l = (name : Bor (List ℕ)) → (is_fun (map fun_view (drop l.fun-index l.funs)) name.now || contains_by (λ text. bytes_eq name.now text.now) l.taken) ≡ is_fun (map fun_view l.funs) name.now
