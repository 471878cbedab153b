-- What is inferred stays so, since nothing is another but what is remembered.
use Rattle.std.proofs.Common.{◌≡◌, ◌↔◌, ℕ, List, length, ◌≤◌, refl, sym, ap, subst, ◌∙◌}
use Rattle.std.specs.List.{Contains}
use Rattle.std.specs.List.Sorted.{IsStrictlySortedBy}
use Rattle.std.specs.Ordering.{nat_cmp}
use Rattle.type_terms.specs.Stubs.{Stub, stub_view}
use Rattle.program_tables.specs.Programs.{Compiled}
use Rattle.world_rules.specs.declared.finding.Finding.{Finding}
use Rattle.world_rules.specs.Sources.{Source}
use Rattle.world_rules.specs.Items.{Item}
use Rattle.world_rules.specs.Rules.{IsLeast, IsLarger}
use Rattle.world_rules.specs.Stubs.{IsStubOf}
use Rattle.world_rules.specs.Findings.{finding_order, IsFinding, IsUnchecked, IsHeavyLine}
use Rattle.world_tables.specs.Tables.{items_of, AreTables, AreFinished}
use Rattle.world_tables.specs.Rows.{WorldRows, tables_of}
use Rattle.context_code.specs.Sources.{IsSourceOf}
use Rattle.abstract_vm.specs.Worlds.{WorldState, items_in, source, most_items, IsWorldOf}
use Rattle.abstract_vm.specs.Beginning.{IsNewWorld, AreTooMany}
use Rattle.world_stub.specs.Solved.{OnlySolved}
use Rattle.infer_driver.specs.declared.settings.Settings.{Settings}
use Rattle.infer_driver.specs.declared.driver.Inferred.{Inferred}
use Rattle.infer_driver.specs.declared.tell.Told.{Told}
use Rattle.infer_driver.specs.Inferred.{IsInferred, IsLeastWorld}
use Rattle.infer_driver.specs.Rounds.{IsGrown}
use Rattle.infer_driver.specs.Sources.{source_by, HasSettings}
use Rattle.infer_driver.specs.Told.{AreTold}
use Rattle.infer_driver.proofs.Beginning.{too_many_are_larger}
use Rattle.infer_driver.proofs.Telling.{findings_all, unchecked_all, heavy_all}

pub source_is : (c : Compiled) (stubs : List (List ℕ × Stub)) (settings : Settings) (w : WorldState) → HasSettings settings w → source c stubs settings.depth w ≡ source_by c stubs settings
source_is c stubs settings w h = λ i. record { program = c.program; scopes = c.scopes; stubs = stubs; depth = settings.depth; budget = h.budget i; library = h.library i }

pub settings_stay : (settings : Settings) (w v : WorldState) → v.solver.budget ≡ w.solver.budget → v.library ≡ w.library → HasSettings settings w → HasSettings settings v
settings_stay settings w v b l h = record { budget = b ∙ h.budget; library = l ∙ h.library }

-- the first world of a program
module _ (c : Compiled) (stubs : List (List ℕ × Stub)) (settings : Settings) where
  pub begun : (w : WorldState) → ((s : Source) → IsSourceOf s c → IsNewWorld s w) → IsNewWorld (source c stubs settings.depth w) w
  begun w new = new (source c stubs settings.depth w) (record { program = refl; scopes = refl })

  pub begun_too_large : ((s : Source) → IsSourceOf s c → AreTooMany s) → IsLarger (source_by c stubs settings) most_items
  begun_too_large many = too_many_are_larger (source_by c stubs settings) (many (source_by c stubs settings) (record { program = refl; scopes = refl }))

pub settings_of : (settings : Settings) (w : WorldState) → (w.solver.budget ≡ settings.budget) × (w.library ≡ settings.library) → HasSettings settings w
settings_of settings w set = record { budget = set.0; library = set.1 }

-- grown until nothing new comes
module _ (c : Compiled) (stubs : List (List ℕ × Stub)) (settings : Settings) (w v : WorldState) (h : HasSettings settings w) (g : IsGrown (source c stubs settings.depth w) w v) where
  pub as_settings : source c stubs settings.depth w ≡ source_by c stubs settings
  as_settings = source_is c stubs settings w h

  pub least_of : IsLeast (source c stubs settings.depth w) (items_in v) → length (items_in v) ≤ most_items → IsLeastWorld (source_by c stubs settings) settings v
  least_of least few =
      record {
        least = subst (λ s. IsLeast s (items_in v)) as_settings least;
        world = subst (λ s. IsWorldOf s v) as_settings g.world;
        few = few;
        settings_are = settings_stay settings w v g.budget g.library h;
      }

  -- the fault of the rounds says that there were too many
  pub larger_of : (AreTables (source c stubs settings.depth w) (tables_of v.rows) → IsLarger (source c stubs settings.depth w) most_items) → IsLarger (source_by c stubs settings) most_items
  larger_of law = subst (λ s. IsLarger s most_items) as_settings (law g.world.tables)

-- what is told of a least world
module _ (c : Compiled) (stubs : List (List ℕ × Stub)) (settings : Settings) (w u v : WorldState) (is : IsLeastWorld (source_by c stubs settings) settings w) (o : OnlySolved w u) (p : OnlySolved u v) where
  s : Source
  s = source_by c stubs settings

  still_settings : HasSettings settings u
  still_settings = settings_stay settings w u o.budget o.library is.settings_are

  same_rows : v.rows ≡ w.rows
  same_rows = p.rows ∙ o.rows

  pub world_first : IsWorldOf (source c stubs settings.depth w) w
  world_first = subst (λ t. IsWorldOf t w) (sym (source_is c stubs settings w is.settings_are)) is.world

  world_second : IsWorldOf (source_by c stubs settings) u
  world_second =
      record { tables = subst (λ (r : WorldRows). AreTables (source_by c stubs settings) (tables_of r)) (sym o.rows) is.world.tables; finished = subst (λ (r : WorldRows). AreFinished (tables_of r)) (sym o.rows) is.world.finished }

  pub world_then : IsWorldOf (source c stubs settings.depth u) u
  world_then = subst (λ t. IsWorldOf t u) (sym (source_is c stubs settings u still_settings)) world_second

  least_last : IsLeastWorld (source_by c stubs settings) settings v
  least_last =
      record {
        least = subst (λ (r : WorldRows). IsLeast (source_by c stubs settings) (items_of (tables_of r))) (sym same_rows) is.least;
        world = record { tables = subst (λ (r : WorldRows). AreTables (source_by c stubs settings) (tables_of r)) (sym same_rows) is.world.tables; finished = subst (λ (r : WorldRows). AreFinished (tables_of r)) (sym same_rows) is.world.finished };
        few = subst (λ (r : WorldRows). length (items_of (tables_of r)) ≤ most_items) (sym same_rows) is.few;
        settings_are = settings_stay settings u v p.budget p.library still_settings;
      }

  both : {A B C : Type 0} → A ↔ B → B ↔ C → A ↔ C
  both f g = (λ a. g.0 (f.0 a), λ c. f.1 (g.1 c))

  pub all_inferred : (told : Told) (r : Inferred) → r.world ≡ v → IsStubOf (source c stubs settings.depth w) (items_in w) (stub_view r.stub) → AreTold (source c stubs settings.depth u) u (length u.rows.points) told →
      ((f : Finding) → Contains r.findings f ↔ Contains told.findings.items f) → IsStrictlySortedBy finding_order r.findings →
      ((l : ℕ) → Contains r.unchecked l ↔ Contains told.unchecked.items l) → IsStrictlySortedBy nat_cmp r.unchecked →
      ((l : ℕ) → Contains r.heavy l ↔ Contains told.heavy.items l) → IsStrictlySortedBy nat_cmp r.heavy → IsInferred (source_by c stubs settings) settings r
  all_inferred told r world stub t fs fs_rise us us_rise hs hs_rise =
      let a : AreTold (source_by c stubs settings) u (length u.rows.points) told = subst (λ q. AreTold q u (length u.rows.points) told) (source_is c stubs settings u still_settings) t in
      let last : items_in u ≡ items_in r.world = ap (λ (q : WorldRows). items_of (tables_of q)) (sym p.rows) ∙ ap items_in (sym world) in
      let whole : items_in w ≡ items_in r.world = ap (λ (q : WorldRows). items_of (tables_of q)) (sym same_rows) ∙ ap items_in (sym world) in
      record {
        tells = record {
          least = subst (λ q. IsLeast (source_by c stubs settings) (items_in q)) (sym world) least_last.least;
          few = subst (λ q. length (items_in q) ≤ most_items) (sym world) least_last.few;
          stub_is = subst (λ items. IsStubOf (source_by c stubs settings) items (stub_view r.stub)) whole (subst (λ q. IsStubOf q (items_in w) (stub_view r.stub)) (source_is c stubs settings w is.settings_are) stub);
          findings_are = record { members = λ f. subst (λ items. Contains r.findings f ↔ IsFinding (source_by c stubs settings) items f) last (both (fs f) (findings_all (source_by c stubs settings) u world_second told a f)); rise = fs_rise };
          unchecked_are = record { members = λ l. subst (λ items. Contains r.unchecked l ↔ IsUnchecked (source_by c stubs settings) items l) last (both (us l) (unchecked_all (source_by c stubs settings) u world_second told a l)); rise = us_rise };
          heavy_are = record { members = λ l. subst (λ items. Contains r.heavy l ↔ IsHeavyLine (source_by c stubs settings) items l) last (both (hs l) (heavy_all (source_by c stubs settings) u world_second told a l)); rise = hs_rise };
        };
        world = subst (λ q. IsWorldOf (source_by c stubs settings) q) (sym world) least_last.world;
        settings_are = subst (λ q. HasSettings settings q) (sym world) least_last.settings_are;
      }
