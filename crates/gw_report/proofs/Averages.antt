-- Averages by quotient and remainder.
use Rattle.std.proofs.Common.{◌≡◌, ◌≢◌, ℕ, ◌*◌, ◌/◌, ◌%◌}
use Rattle.gw_entities.specs.Average.{average}
use Rattle.gw_entities.proofs.Averages as averages

-- the whole part divided off first
pub divided : (sum clock : ℕ) → clock ≢ 0 → record { whole = sum / clock; thousandths = sum % clock * 1000 / clock } ≡ average sum clock
divided sum clock later = averages.divided sum clock later
