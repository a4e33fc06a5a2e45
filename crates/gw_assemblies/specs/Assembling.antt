-- Assemblies: who waits for the rest of an assembly set, and at which block.
use Rattle.std.specs.Prelude.{ℕ, ◌-◌, List, Bool, ◌==◌, ◌&&◌}
use Rattle.gw_members.specs.Firsts.{with_first_changed}
use Rattle.gw_assemblies.specs.declared.assemblies.Assembly.{Assembly}

-- what a contract sees of the assemblies: they in the order in which they were begun, and how many more fit with no allocation
pub record Assembling : Type 0 where
  pub items : List Assembly
  pub room : ℕ

-- whether an assembly is the one of a set at a block
abbrev pub is_of : ℕ → ℕ → Assembly → Bool
is_of block set a = (a.block == block) && (a.set == set)

-- assemblies, where one more has come to the one of a set at a block, if it has begun
abbrev pub with_one_come : ℕ → ℕ → List Assembly → List Assembly
with_one_come block set items = with_first_changed (is_of block set) (λ (a : Assembly). record a { missing = a.missing - 1 }) items
