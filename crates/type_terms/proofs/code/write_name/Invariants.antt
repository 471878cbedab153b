use Rattle.std.proofs.Common.{◌≡◌, ◌++◌, drop}
use Rattle.type_terms.specs.Codes.{name_code}
use Rattle.type_terms.proofs.code.write_name.Given as goal

abbrev pub invariant-loop-byte : goal.invariant-loop-byte
invariant-loop-byte l = l.out ++ name_code (drop l.byte-index l.name) ≡ l.initial.out ++ name_code l.name
