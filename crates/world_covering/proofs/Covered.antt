-- The covering of runs, and what it says of a stub.
use Rattle.std.proofs.Common.{◌≡◌, ℕ, zero, suc, Some, List, [], length, slice_get, subst, Option, map, ◌⊎◌, inl, inr}
use Rattle.std.specs.List.{Contains, All}
use Rattle.py_tree.specs.Tree.{Module}
use Rattle.type_terms.specs.Stubs.{Name, Stub}
use Rattle.scope_rules.specs.Faults.{faults}
use Rattle.scope_rules.specs.WellFormed.{IsWellFormed}
use Rattle.tree_code.specs.Programs.{error_name}
use Rattle.place_ids.specs.Names.{number_in}
use Rattle.world_rules.specs.Items.{Item}
use Rattle.world_rules.specs.Rules.{IsClosed}
use Rattle.world_rules.specs.Stubs.{AreNames, no_names, a_name, IsStubOf, IsTypeOfName}
use Rattle.py_meaning.specs.Belongs.{Belongs}
use Rattle.py_meaning.specs.Values.{Value}
use Rattle.std.proofs.lemmas.List.Elements.{All-contains}
use Rattle.world_covering.proofs.Seats.{some_same}
use Rattle.graph_walks.proofs.Lists.{map_has}
use Rattle.world_rules.specs.declared.finding.Finding.{Finding}
use Rattle.world_rules.specs.Findings.{IsReported, by_finding, by_operand, AreFindings, AreUnchecked}
use Rattle.py_meaning.specs.Events.{FaultKind, Holder, Event, returned, held, fault}
use Rattle.py_meaning.specs.Objects.{Object}
use Rattle.py_meaning.specs.Programs.{Program, program}
use Rattle.py_meaning.specs.Runs.{run_of, answer, run}
use Rattle.tree_covering.proofs.Faultless.{module_may}
use Rattle.world_covering.specs.Forms.{IsPlainBody}
use Rattle.world_covering.specs.Modules.{Settings, source_of}
use Rattle.world_covering.specs.Covering.{IsCovered, IsHeld}
use Rattle.world_rules.specs.Sources.{Source}
use Rattle.world_covering.proofs.Belonging.{held_belongs}
use Rattle.world_covering.proofs.Built.{module_built}
use Rattle.world_covering.proofs.Running.{run_told}
use Rattle.world_covering.proofs.Trails.{IsTold}

covered_event : (s : Source) (items : List Item) (error : ℕ) (p : Program) (h : List Object) (e : Event) → IsTold s items error h e → IsCovered s items p h e
covered_event s items error p h (fault line kind holder attribute) w = w
covered_event s items error p h (held n v) w = held_belongs s items p h n v w
covered_event s items error p h (returned f v) w = w

pub covered : (m : Module) (stubs : List (List ℕ × Stub)) (settings : Settings) (items : List Item) → IsClosed (source_of m stubs settings) items → IsWellFormed m → faults m ≡ [] → IsPlainBody m.body → (n : ℕ) (choices : List ℕ) →
    All (IsCovered (source_of m stubs settings) items (program m stubs) (run m stubs n choices []).heap) (run m stubs n choices []).events
unfolding run
covered m stubs settings items closed formed none plain n choices =
    λ k e is. covered_event (source_of m stubs settings) items (length m.names) (program m stubs) (run_of (answer m stubs n choices [])).heap _
    (run_told m stubs settings items closed (module_built (length m.names) (number_in m.names error_name) m.body plain formed) plain (module_may m none) n choices k e is)

-- ---- the stub

-- the types of a stub are those of the names in their order
type_at : (s : Source) (items : List Item) (names : List ℕ) (rows : List Name) → AreNames s items names rows → (place n : ℕ) (row : Name) → slice_get names place ≡ Some n → slice_get rows place ≡ Some row → IsTypeOfName s items n row.term
type_at s items _ _ (no_names) place n row e f = cc
type_at s items _ _ (a_name {n = k} {row = first} text named more) zero n row e f =
    let same : k ≡ n = some_same e in
    let alike : first ≡ row = some_same f in
    subst (λ z. IsTypeOfName s items z row.term) same (subst (λ z. IsTypeOfName s items k z.term) alike named)
type_at s items _ _ (a_name {ns = ns} {rows = rows} text named more) (suc place) n row e f = type_at s items ns rows more place n row e f

pub in_stub : (s : Source) (items : List Item) (p : Program) (h : List Object) (events : List Event) → All (IsCovered s items p h) events → (stub : Stub) → IsStubOf s items stub →
    (place n : ℕ) (v : Value) (row : Name) → slice_get s.scopes.printed place ≡ Some n → slice_get stub.names place ≡ Some row → Contains events (held n v) → Belongs p h row.term v
in_stub s items p h events all stub is place n v row e f c =
    let w : IsHeld s items p h n v = All-contains (IsCovered s items p h) events (held n v) all c in
    w.belongs row.term (type_at s items s.scopes.printed stub.names is.names place n row e f)

-- ---- the report

on_line : (s : Source) (items : List Item) (findings : List Finding) (unchecked : List ℕ) → AreFindings s items findings → AreUnchecked s items unchecked → (line : ℕ) → IsReported s items line → Contains (map (λ f. f.line) findings) line ⊎ Contains unchecked line
on_line s items findings unchecked fs us line (by_finding f at is) = inl (subst (λ z. Contains (map (λ f. f.line) findings) z) at (map_has (λ f. f.line) findings f ((fs.members f).1 is)))
on_line s items findings unchecked fs us line (by_operand is) = inr ((us.members line).1 is)

pub in_report : (s : Source) (items : List Item) (p : Program) (h : List Object) (events : List Event) → All (IsCovered s items p h) events → (findings : List Finding) (unchecked : List ℕ) → AreFindings s items findings → AreUnchecked s items unchecked →
    (line : ℕ) (kind : FaultKind) (holder : Holder) (attribute : Option ℕ) → Contains events (fault line kind holder attribute) → Contains (map (λ f. f.line) findings) line ⊎ Contains unchecked line
in_report s items p h events all findings unchecked fs us line kind holder attribute c =
    on_line s items findings unchecked fs us line (All-contains (IsCovered s items p h) events (fault line kind holder attribute) all c)
