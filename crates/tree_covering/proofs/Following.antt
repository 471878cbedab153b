-- Where a run ends, its code has come to its end, or to an instruction from which an exception leaves it.
use Rattle.std.proofs.Common.{◌≡◌, ℕ, Bool, true, false, None, List, [], arith}
use Rattle.py_tree.specs.Tree.{Module}
use Rattle.type_terms.specs.Stubs.{Stub}
use Rattle.scope_rules.specs.Faults.{faults}
use Rattle.stack_code.specs.Depths.{HasDepth, begins}
use Rattle.tree_code.specs.Programs.{no_loop, in_module, module_code}
use Rattle.tree_code.specs.Statements.{body_code}
use Rattle.tree_code.specs.Standing.{Lies}
use Rattle.tree_code.proofs.Bodies.{module_lies}
use Rattle.py_meaning.specs.Values.{Value}
use Rattle.py_meaning.specs.Programs.{Program, program}
use Rattle.py_meaning.specs.Calls.{perform}
use Rattle.py_meaning.specs.Actions.{Memory, OutsideCall}
use Rattle.py_meaning.specs.Runs.{Stop, out_of_turns, out_of_choices, Answer, gave, raised, stopped, can_be_called, call_if, ended, raised_out, ending_of, run_of, answer, run}
use Rattle.py_meaning.specs.Holds.{Lasts, Holds, HoldsAfter}
use Rattle.tree_covering.specs.Turns.{otherwise, account}
use Rattle.tree_covering.specs.Modules.{Whole, OthersGo}
use Rattle.tree_covering.specs.Reached.{RaisesTo}
use Rattle.tree_covering.proofs.Depths.{depths, whatever, depth_steps}
use Rattle.tree_covering.proofs.Faultless.{module_may}
use Rattle.tree_covering.proofs.Running.{answers_go}

module _ (error : ℕ) (m : Module) (stubs : List (List ℕ × Stub)) (faultless : faults m ≡ []) where
  abbrev p : Program
  p = program m stubs

  lies : Lies (module_code error m.body) no_loop 0 None (body_code (in_module error) m.body)
  lies = module_lies error m.body

  -- a call from outside that raises ends alone
  call_goes : (b : Bool) (c : OutsideCall) (g : Unit {0}) (s : Memory) → HasDepth (module_code error m.body) (body_code (in_module error) m.body).size 0 →
      Holds (account (depths error m.body)) (λ g' s' u. HasDepth (module_code error m.body) (body_code (in_module error) m.body).size 0) (λ g' s' v. RaisesTo (module_code error m.body) None) g s (call_if b c)
  call_goes true c g s k = (tt, (otherwise tt, tt, λ o g' s' h. k))
  call_goes false c g s k = k

  abbrev whole_module : (calls : List OutsideCall) → Whole (depths error m.body) p calls
  whole_module calls =
      record {
        top = record { context = tt; since = tt; labels = no_loop; outer = None };
        lies = lies;
        leaves = module_may m faultless;
        first = tt;
        begins = begins (omega (arith, lies.fits));
        told = λ name v g s k e. tt;
        outside = λ c g s inside k. call_goes (can_be_called p s.heap c) c g s k;
      }

  lasts : Lasts (account (depths error m.body))
  lasts = record { in_scope = λ g s c e h. tt; with_object = λ g s o later e made h. tt; with_filling = λ g s place new e h. tt }

  others : OthersGo (depths error m.body) p
  others q way g s always asked = whatever error m.body (λ g' s' flow. Unit {0}) (λ g' s' v. Unit {0}) (perform p q) g s (λ g' s' flow. tt) (λ g' s' v. tt)

  abbrev Says : Answer (Unit {0}) → Type 0
  Says r = HoldsAfter (account (depths error m.body)) (λ g s u. HasDepth (module_code error m.body) (body_code (in_module error) m.body).size 0) (λ g s v. RaisesTo (module_code error m.body) None) r

  says : (n : ℕ) (choices : List ℕ) (calls : List OutsideCall) → Says (answer m stubs n choices calls)
  says n choices calls = answers_go (depths error m.body) m stubs calls (depth_steps error m.body p) (whole_module calls) lasts others n choices

  end_of_stop : (why : Stop) → ending_of why ≡ ended → ⊥
  end_of_stop out_of_turns e = cc
  end_of_stop out_of_choices e = cc

  raise_of_stop : (why : Stop) (v : Value) → ending_of why ≡ raised_out v → ⊥
  raise_of_stop out_of_turns v e = cc
  raise_of_stop out_of_choices v e = cc

  ends : (r : Answer (Unit {0})) → Says r → (run_of r).ending ≡ ended → HasDepth (module_code error m.body) (body_code (in_module error) m.body).size 0
  ends (gave u s) h e = h.2
  ends (raised v s) h e = let z : ⊥ = cc in absurd z
  ends (stopped why s) h e = absurd (end_of_stop why e)

  leaves : (r : Answer (Unit {0})) (v : Value) → Says r → (run_of r).ending ≡ raised_out v → RaisesTo (module_code error m.body) None
  leaves (gave u s) v h e = let z : ⊥ = cc in absurd z
  leaves (raised w s) v h e = h.2
  leaves (stopped why s) v h e = absurd (raise_of_stop why v e)

  pub run_ends : (n : ℕ) (choices : List ℕ) (calls : List OutsideCall) → (run m stubs n choices calls).ending ≡ ended → HasDepth (module_code error m.body) (body_code (in_module error) m.body).size 0
  unfolding run
  run_ends n choices calls e = ends (answer m stubs n choices calls) (says n choices calls) e

  pub run_leaves : (n : ℕ) (choices : List ℕ) (calls : List OutsideCall) (v : Value) → (run m stubs n choices calls).ending ≡ raised_out v → RaisesTo (module_code error m.body) None
  unfolding run
  run_leaves n choices calls v e = leaves (answer m stubs n choices calls) v (says n choices calls) e
