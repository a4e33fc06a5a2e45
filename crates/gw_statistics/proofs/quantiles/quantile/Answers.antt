use Rattle.std.proofs.Common.{rules, tests, ◌≡◌, ◌<◌, ◌-◌, ℕ, Bool, true, false, nat_le, arith, refl}
use Rattle.std.proofs.Math.ListN.{get_or}
use Rattle.std.proofs.lemmas.List.Folds.{list_all_at}
use Rattle.gw_statistics.specs.declared.quantiles.TheConstants.{QUANTILES}
use Rattle.gw_statistics.proofs.quantiles.quantile.Goals as goal

-- none of the table is greater
within : (i : ℕ) → i < 30 → (b : Bool) → nat_le (get_or QUANTILES i 0) 12707 ≡ b → nat_le (get_or QUANTILES i 0) 12707 ≡ true
within i below true is = is
within i below false is = absurd (cc (list_all_at (λ q. nat_le q 12707) QUANTILES i 0 below is))

pub returns-in-0-to-30-clause-range : goal.returns-in-0-to-30-clause-range
returns-in-0-to-30-clause-range c = search (tests, rules, within (c.args.degrees - 1) (omega arith) _ refl)
