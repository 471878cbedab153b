-- What the least world of a module tells of the module's runs.
use Rattle.std.proofs.Common.{◌≡◌, ◌⊎◌, ℕ, List, [], map, Option, Some, slice_get, subst}
use Rattle.std.specs.List.{Contains}
use Rattle.py_tokens.specs.TokenList.{TokenList}
use Rattle.py_tree.specs.Tree.{Module}
use Rattle.type_terms.specs.Stubs.{Name, Stub, stub_view}
use Rattle.scope_rules.specs.Scoped.{scoped}
use Rattle.program_tables.specs.Programs.{Compiled}
use Rattle.world_rules.specs.declared.finding.Finding.{Finding}
use Rattle.world_rules.specs.Items.{Item}
use Rattle.world_rules.specs.Rules.{IsClosed}
use Rattle.world_rules.specs.Findings.{AreFindings, AreUnchecked}
use Rattle.world_rules.specs.Stubs.{IsStubOf}
use Rattle.py_meaning.specs.Belongs.{Belongs}
use Rattle.py_meaning.specs.Events.{FaultKind, Holder, held, fault}
use Rattle.py_meaning.specs.Programs.{program}
use Rattle.py_meaning.specs.Runs.{run}
use Rattle.py_meaning.specs.Values.{Value}
use Rattle.world_covering.specs.Modules.{IsPlainModule, Settings, source_of}
use Rattle.abstract_vm.specs.Worlds.{items_in}
use Rattle.infer_driver.specs.declared.settings.Settings.{Settings as Asked}
use Rattle.infer_driver.specs.declared.driver.Inferred.{Inferred}
use Rattle.infer_driver.specs.Inferred.{IsInferred}
use Rattle.infer_driver.specs.Runs.{IsProgramOf, TellsRuns}
use Rattle.infer_driver.specs.Sources.{source_by}
use Rattle.infer_driver.specs.Telling.{Tells}

-- what the law of the covering says of stubs and of reports
abbrev pub StubsCover : Type 0
StubsCover = (text : List ℕ) (t : TokenList) (m : Module) (stubs : List (List ℕ × Stub)) (settings : Settings) (items : List Item) (turns : ℕ) (choices : List ℕ) →
    IsPlainModule text t m → IsClosed (source_of m stubs settings) items →
    (stub : Stub) → IsStubOf (source_of m stubs settings) items stub → (place name : ℕ) (v : Value) (row : Name) → slice_get (scoped m).printed place ≡ Some name → slice_get stub.names place ≡ Some row →
    Contains (run m stubs turns choices []).events (held name v) → Belongs (program m stubs) (run m stubs turns choices []).heap row.term v

abbrev pub ReportsCover : Type 0
ReportsCover = (text : List ℕ) (t : TokenList) (m : Module) (stubs : List (List ℕ × Stub)) (settings : Settings) (items : List Item) (turns : ℕ) (choices : List ℕ) →
    IsPlainModule text t m → IsClosed (source_of m stubs settings) items →
    (findings : List Finding) (unchecked : List ℕ) → AreFindings (source_of m stubs settings) items findings → AreUnchecked (source_of m stubs settings) items unchecked →
    (line : ℕ) (kind : FaultKind) (holder : Holder) (attribute : Option ℕ) → Contains (run m stubs turns choices []).events (fault line kind holder attribute) →
    Contains (map (λ f. f.line) findings) line ⊎ Contains unchecked line

module _ (stubs_cover : StubsCover) (reports_cover : ReportsCover) (text : List ℕ) (t : TokenList) (m : Module) (stubs : List (List ℕ × Stub)) (settings : Settings) where
  pub runs_are_told : (items : List Item) (stub : Stub) (findings : List Finding) (unchecked heavy : List ℕ) → IsPlainModule text t m → Tells (source_of m stubs settings) items stub findings unchecked heavy → TellsRuns m stubs stub findings unchecked
  runs_are_told items stub findings unchecked heavy plain tells =
      record {
        values = λ turns choices place name v row printed there held.
            stubs_cover text t m stubs settings items turns choices plain tells.least.closed stub tells.stub_is place name v row printed there held;
        faults = λ turns choices line kind holder attribute told.
            reports_cover text t m stubs settings items turns choices plain tells.least.closed findings unchecked tells.findings_are tells.unchecked_are line kind holder attribute told;
      }

-- the program is the module's, so the sources are one
module _ (m : Module) (c : Compiled) (is : IsProgramOf m c) (stubs : List (List ℕ × Stub)) (asked : Asked) where
  abbrev of_asked : Settings
  of_asked = record { depth = asked.depth; budget = asked.budget; library = asked.library }

  one_source : source_by c stubs asked ≡ source_of m stubs of_asked
  one_source = λ i. record { program = is.program_is i; scopes = is.scopes_are i; stubs = stubs; depth = asked.depth; budget = asked.budget; library = asked.library }

  pub inferred_is_told : StubsCover → ReportsCover → (text : List ℕ) (t : TokenList) (r : Inferred) → IsPlainModule text t m → IsInferred (source_by c stubs asked) asked r →
      TellsRuns m stubs (stub_view r.stub) r.findings r.unchecked
  inferred_is_told stubs_cover reports_cover text t r plain inferred =
      runs_are_told stubs_cover reports_cover text t m stubs of_asked (items_in r.world) (stub_view r.stub) r.findings r.unchecked r.heavy plain
      (subst (λ s. Tells s (items_in r.world) (stub_view r.stub) r.findings r.unchecked r.heavy) one_source inferred.tells)
