-- The ends of a chain.
use Rattle.std.specs.Prelude.{List, [], ◌∷◌, ◌++◌}
use Rattle.gw_user_chains.specs.declared.user_chains.End.{End}
use Rattle.gw_user_chains.specs.declared.user_chains.End.TheVariants.{Front, Back}

-- a list with one more at an end
abbrev pub with_one_at : {T : Type 0} → End → T → List T → List T
with_one_at Front x xs = x ∷ xs
with_one_at Back x xs = xs ++ x ∷ []
