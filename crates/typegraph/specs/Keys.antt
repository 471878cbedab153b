-- Bindings as keys: when two are equal, and what is fed to a hash.
use Rattle.std.specs.Prelude.{Bool, nat_eq, ◌&&◌, ◌++◌}
use Rattle.std.specs.Cmp.{IsEquivalence, unsigned_Decides, nat_eq_equiv, on_equiv, and_equiv}
use Rattle.std.specs.Hash as fed
use Rattle.typegraph.specs.declared.goals.Binding.{Binding}

-- the same variable with the same shape
abbrev pub binding_eq : Binding → Binding → Bool
binding_eq a b = nat_eq a.var b.var && nat_eq a.shape b.shape

pub binding_equiv : IsEquivalence binding_eq
binding_equiv = and_equiv (on_equiv (λ b. b.var) nat_eq_equiv) (on_equiv (λ b. b.shape) nat_eq_equiv)

pub binding_alike : fed.Alike binding_eq (λ b. fed.u32 b.var ++ fed.u32 b.shape)
binding_alike = fed.and-Alike (fed.on_Alike (λ b. b.var) (fed.same_Alike fed.u32 unsigned_Decides)) (fed.on_Alike (λ b. b.shape) (fed.same_Alike fed.u32 unsigned_Decides))
