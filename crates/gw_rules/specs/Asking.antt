-- Parameters that have to be set, as code keeps them.
use Rattle.std.specs.Prelude.{ℕ, List, [], ◌∷◌}
use Rattle.gw_rules.specs.declared.asking.Parameters.{Parameters}
use Rattle.gw_rules.specs.declared.asking.Parameters.TheVariants.{One, These}

-- their numbers
abbrev pub numbers_of : Parameters → List ℕ
numbers_of (One number) = number ∷ []
numbers_of (These numbers) = numbers.now
