use Rattle.std.proofs.Common.{ℕ, ◌<◌, refl, sym, subst}
use Rattle.std.specs.Prelude.{AllPairs}
use Rattle.gw_settle.proofs.Keeping.{amounts_ascend}
use Rattle.gw_settle.proofs.known.state_units_near.Goals as goal

pub units_near-requires : goal.units_near-requires
units_near-requires c =
    amounts_ascend c.units.result.now c.units.result.now refl (subst (AllPairs (λ (a b : ℕ × ℕ). a.0 < b.0)) (sym c.units.ensures) c.requires.units)
