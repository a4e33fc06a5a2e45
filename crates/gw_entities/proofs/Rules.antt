-- What tactics need of tables that are kept as lists.
use Rattle.std.proofs.Common.{◌≡◌, ℕ, ◌<◌, List, length, set, ap, ◌∙◌}
use Rattle.gw_num.specs.Table.{at, put}
use Rattle.gw_num.proofs.Tables.{at-put, put-at, at-get_or_any, set-put}

module _ {T : Type 0} where
  pub at-set : (d : T) (xs : List T) (k : ℕ) (v : T) → k < length xs → at d (set xs k v) k ≡ v
  at-set d xs k v within = ap (λ ys. at d ys k) (set-put d xs k v within) ∙ at-put d xs k v

  pub set-at : (d : T) (xs : List T) (k : ℕ) (v : T) → k < length xs → v ≡ at d xs k → set xs k v ≡ xs
  set-at d xs k v within same = set-put d xs k v within ∙ ap (put d xs k) same ∙ put-at d xs k within

pub ruleset tables = (at-put, put-at, at-get_or_any, set-put, at-set, set-at)
