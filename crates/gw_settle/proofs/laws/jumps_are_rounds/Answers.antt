use Rattle.std.proofs.Common.{suc, refl}
use Rattle.gw_settle.specs.Rounds.{rounds, round}
use Rattle.gw_settle.specs.Jumps.{rows_after}
use Rattle.gw_settle.proofs.Jumping.{jumped}
use Rattle.gw_settle.proofs.laws.jumps_are_rounds.Goals as goal

pub returns : goal.returns
returns c = λ p k n well some may. jumped p n (rounds p k) (rounds p (suc k)) (rounds p (suc (suc k)))
    (round p (rows_after n (rounds p k) (rounds p (suc k)))) well (k, refl) some refl refl refl may
