-- Which figures change.
use Rattle.std.proofs.Common.{◌+◌, ℕ, List, [], ◌∷◌, cond, ap}
use Rattle.std.specs.Prelude.{None, Option, ℤ}
use Rattle.std.specs.List.{AllZip}
use Rattle.gw_figures.specs.Labels.{Label}
use Rattle.gw_figures.specs.Trends.{changes_from, difference, value_at}
use Rattle.gw_rows.specs.Laws.{ChangesAreTold}
use Rattle.gw_rows.specs.Reading.{MayChange}

told_from : (before after : List (Option ℤ)) (place : ℕ) (labels : List Label) → AllZip MayChange labels (changes_from before after place labels)
unfolding changes_from
told_from before after place [] = tt
told_from before after place (label ∷ labels) = (
  λ none. ap (λ b. cond b (difference (value_at place before) (value_at place after)) None) none,
  told_from before after (place + 1) labels,
)

pub changes_are_told : ChangesAreTold
changes_are_told labels before after = told_from before after 0 labels
