use Rattle.std.proofs.Common.{arith}
use Rattle.gw_entities.proofs.facilities.Numbered+Facility.average.Goals as goal

-- it was busy for no longer than time passed
pub returns-clause-most : goal.returns-clause-most
returns-clause-most c = c.average_of.ensures.most 1 (omega (arith, c.get.ensures.fits.busy, c.passed.ensures))
