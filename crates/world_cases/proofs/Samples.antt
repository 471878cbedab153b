-- What walks may have in some modules.
use Rattle.std.proofs.Common.{◌≡◌, ℕ, true, false, List, [], ◌∷◌, ◌++◌, refl, arith}
use Rattle.abstract_shapes.specs.Shapes.{Shape, none, true_value, false_value, int, str, ext}
use Rattle.world_rules.specs.Places.{main, slot, global}
use Rattle.world_rules.specs.Samples.{loop_module, branch_module, one_line, unknown_name, text_and_int, outside_negated}
use Rattle.world_cases.specs.Worlds.{loop_world, branch_world, line_world}
use Rattle.world_cases.proofs.Pairs.{Pair}
use Rattle.world_cases.proofs.Tables.{Spot, nowhere}
use Rattle.world_cases.proofs.Tables as tables
use Rattle.world_cases.proofs.Traces.{goes, jumps}
use Rattle.world_cases.proofs.Telling.{Sampled}

abbrev pub reached : ℕ → List Pair → Spot
reached depth may = record { depth = depth; reached = true; may = may }

-- a place that no walk comes to
abbrev pub dead : ℕ → Spot
dead depth = record { depth = depth; reached = false; may = [] }

abbrev low : List Shape → List Pair
low [] = []
low (t ∷ ts) = (slot main 0, t) ∷ low ts

abbrev name : ℕ → List Shape → List Pair
name n [] = []
name n (t ∷ ts) = (global n, t) ∷ name n ts

abbrev int_above : List Pair
int_above = (slot main 1, int) ∷ []

abbrev pub loop_table : List Spot
loop_table =
    reached 0 [] ∷ reached 1 (low (int ∷ []))
    ∷ reached 0 (low (int ∷ str ∷ []) ++ int_above ++ name 0 (int ∷ str ∷ []))
    ∷ reached 1 (low (int ∷ str ∷ []) ++ int_above ++ name 0 (int ∷ str ∷ []))
    ∷ reached 2 (low (int ∷ str ∷ []) ++ int_above ++ name 0 (int ∷ str ∷ []))
    ∷ reached 1 (low (true_value ∷ false_value ∷ []) ++ int_above ++ name 0 (int ∷ str ∷ []))
    ∷ reached 0 (low (true_value ∷ false_value ∷ []) ++ int_above ++ name 0 (int ∷ str ∷ []))
    ∷ reached 1 (low (str ∷ []) ++ int_above ++ name 0 (int ∷ str ∷ []))
    ∷ reached 0 (low (str ∷ []) ++ int_above ++ name 0 (str ∷ []))
    ∷ reached 0 (low (true_value ∷ false_value ∷ []) ++ int_above ++ name 0 (int ∷ str ∷ []))
    ∷ reached 1 (low (int ∷ str ∷ []) ++ int_above ++ name 0 (int ∷ str ∷ []))
    ∷ reached 0 (low (int ∷ str ∷ []) ++ int_above ++ name 0 (int ∷ str ∷ []) ++ name 1 (int ∷ str ∷ []))
    ∷ reached 1 (low (int ∷ str ∷ []) ++ int_above ++ name 0 (int ∷ str ∷ []) ++ name 1 (int ∷ str ∷ []))
    ∷ reached 1 (low (int ∷ []) ++ int_above ++ name 0 (int ∷ str ∷ []) ++ name 1 (int ∷ str ∷ []))
    ∷ reached 0 (low (int ∷ []) ++ int_above ++ name 0 (int ∷ str ∷ []) ++ name 1 (int ∷ str ∷ []) ++ name 2 (int ∷ []))
    ∷ []

pub loop_is : tables.world loop_module loop_table ≡ loop_world
loop_is = refl

pub loop_sampled : Sampled loop_module loop_table
loop_sampled =
    record {
      no_ranges = refl;
      ok = refl;
      vars = slot main 0 ∷ slot main 1 ∷ global 0 ∷ global 1 ∷ global 2 ∷ [];
      shapes = int ∷ str ∷ true_value ∷ false_value ∷ [];
      fits = refl;
      few = omega arith;
      some = omega arith;
      begins = refl;
      -- out at once, and out after a turn of the loop
      turns =
          (goes 0 ∷ goes 0 ∷ goes 0 ∷ goes 0 ∷ goes 1 ∷ jumps ∷ goes 0 ∷ goes 0 ∷ goes 0 ∷ goes 0 ∷ goes 0 ∷ [])
          ∷ (goes 0 ∷ goes 0 ∷ goes 0 ∷ goes 0 ∷ goes 0 ∷ goes 0 ∷ goes 0 ∷ goes 0 ∷ jumps ∷ goes 0 ∷ goes 0 ∷ goes 1 ∷ jumps ∷ goes 0 ∷ goes 0 ∷ goes 0 ∷ [])
          ∷ [];
      traced = refl;
    }

-- ---- `x = None`, `if x is None:`

abbrev none_above : List Pair
none_above = (slot main 1, none) ∷ []

abbrev pub branch_table : List Spot
branch_table =
    reached 0 [] ∷ reached 1 (low (none ∷ []))
    ∷ reached 0 (low (none ∷ []) ++ name 0 (none ∷ []))
    ∷ reached 1 (low (none ∷ []) ++ name 0 (none ∷ []))
    ∷ reached 2 (low (none ∷ []) ++ none_above ++ name 0 (none ∷ []))
    ∷ reached 1 (low (true_value ∷ []) ++ none_above ++ name 0 (none ∷ []))
    ∷ reached 0 (low (true_value ∷ []) ++ none_above ++ name 0 (none ∷ []))
    ∷ reached 1 (low (int ∷ []) ++ none_above ++ name 0 (none ∷ []))
    ∷ reached 0 (low (int ∷ []) ++ none_above ++ name 0 (none ∷ []) ++ name 1 (int ∷ []))
    ∷ dead 0 ∷ dead 1
    ∷ reached 0 (low (int ∷ []) ++ none_above ++ name 0 (none ∷ []) ++ name 1 (int ∷ []))
    ∷ []

pub branch_is : tables.world branch_module branch_table ≡ branch_world
branch_is = refl

pub branch_sampled : Sampled branch_module branch_table
branch_sampled =
    record {
      no_ranges = refl;
      ok = refl;
      vars = slot main 0 ∷ slot main 1 ∷ global 0 ∷ global 1 ∷ [];
      shapes = none ∷ true_value ∷ int ∷ [];
      fits = refl;
      few = omega arith;
      some = omega arith;
      begins = refl;
      turns = (goes 0 ∷ goes 0 ∷ goes 0 ∷ goes 0 ∷ goes 0 ∷ goes 0 ∷ goes 0 ∷ goes 0 ∷ jumps ∷ []) ∷ [];
      traced = refl;
    }

-- ---- modules of one line

abbrev pub line_table : List Spot
line_table = reached 0 [] ∷ reached 1 (low (int ∷ [])) ∷ reached 0 (low (int ∷ []) ++ name 0 (int ∷ [])) ∷ []

pub line_sampled : Sampled one_line line_table
line_sampled =
    record {
      no_ranges = refl;
      ok = refl;
      vars = slot main 0 ∷ global 0 ∷ [];
      shapes = int ∷ [];
      fits = refl;
      few = omega arith;
      some = omega arith;
      begins = refl;
      turns = (goes 0 ∷ goes 0 ∷ []) ∷ [];
      traced = refl;
    }

pub line_is : tables.world one_line line_table ≡ line_world
line_is = refl

-- `nope`
abbrev pub unknown_table : List Spot
unknown_table = reached 0 [] ∷ reached 1 (low (ext ∷ [])) ∷ reached 0 (low (ext ∷ [])) ∷ []

pub unknown_sampled : Sampled unknown_name unknown_table
unknown_sampled =
    record {
      no_ranges = refl;
      ok = refl;
      vars = slot main 0 ∷ [];
      shapes = ext ∷ [];
      fits = refl;
      few = omega arith;
      some = omega arith;
      begins = refl;
      turns = (goes 0 ∷ goes 0 ∷ []) ∷ [];
      traced = refl;
    }

-- `"a" + 1`
abbrev pub sum_table : List Spot
sum_table = reached 0 [] ∷ reached 1 (low (str ∷ [])) ∷ reached 2 (low (str ∷ []) ++ int_above) ∷ reached 1 int_above ∷ reached 0 int_above ∷ []

pub sum_sampled : Sampled text_and_int sum_table
sum_sampled =
    record {
      no_ranges = refl;
      ok = refl;
      vars = slot main 0 ∷ slot main 1 ∷ [];
      shapes = str ∷ int ∷ [];
      fits = refl;
      few = omega arith;
      some = omega arith;
      begins = refl;
      turns = (goes 0 ∷ goes 0 ∷ []) ∷ [];
      traced = refl;
    }

-- `-abs`
abbrev pub outside_table : List Spot
outside_table = reached 0 [] ∷ reached 1 (low (ext ∷ [])) ∷ reached 1 (low (ext ∷ [])) ∷ reached 0 (low (ext ∷ [])) ∷ []

pub outside_sampled : Sampled outside_negated outside_table
outside_sampled =
    record {
      no_ranges = refl;
      ok = refl;
      vars = slot main 0 ∷ [];
      shapes = ext ∷ [];
      fits = refl;
      few = omega arith;
      some = omega arith;
      begins = refl;
      turns = (goes 0 ∷ goes 0 ∷ goes 0 ∷ []) ∷ [];
      traced = refl;
    }
