use Rattle.std.proofs.Common.{◌≡◌, drop, None}
use Rattle.pyi_write.specs.Imports.{module_of}
use Rattle.pyi_write.proofs.imports.module_of.Given as goal

abbrev pub invariant-loop-place : goal.invariant-loop-place
invariant-loop-place l = module_of (drop l.place l.name) ≡ None
